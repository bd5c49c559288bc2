-- Lists that are read one behind the other.
use Rattle.std.proofs.Common.{◌≡◌, inl, inr, ℕ, ◌+◌, ◌-◌, ◌^◌, ◌<◌, ◌≤◌, List, [], ◌∷◌, ◌++◌, length, take, drop, get_or, refl, sym, subst, ap, ◌∙◌, arith, add-one, drop-cons, length-drop, append_assoc, append-nil}
use Rattle.std.specs.Prelude.{Some, slice_get}
use Rattle.std.proofs.Math.ListN.{get_or-map}
use Rattle.std.proofs.lemmas.List.{drop-drop}
use Rattle.std.proofs.lemmas.List.Sums.{sum_by-cons}
use Rattle.std.proofs.lemmas.Option.{get_or_from_slice_get}
use Rattle.alta_content.specs.declared.document.DocRow.{DocRow}
use Rattle.alta_table.specs.declared.term.TermRow.{TermRow}
use Rattle.alta_table.specs.Places.{TermAt}
use Rattle.alta_table.specs.Tables.{Tables}
use Rattle.alta_table.specs.Terms.{counts_of, data_of, data_bytes, streams_of, summaries_of, terms_of}
use Rattle.alta_content.specs.TermList.{TermList}
use Rattle.alta_level.specs.Stored.{IsListOf, IsListFault, Stored}
use Rattle.alta_level.specs.Damage.{no_row, row_at, stored_at, AreListsOf, IsFaultInLists}

-- the lists were read, and those of the rows that are left stand in the bytes that are left
pub record Progress (documents : List DocRow) (rows : List TermRow) (streams : List ℕ) (start : ℕ) (read : List TermList) (left : List TermRow) (rest : List ℕ) (at : ℕ) : Type 0 where
  pub found : (more : List TermList) → AreListsOf documents left rest at more → AreListsOf documents rows streams start (read ++ more)
  pub first : (p : ℕ) → IsFaultInLists documents left rest at p → IsFaultInLists documents rows streams start p
  pub enough : data_bytes left ≤ length rest
  pub below : at + length rest < 2 ^ 64

pub begins : (documents : List DocRow) (rows : List TermRow) (streams : List ℕ) (start : ℕ) → data_bytes rows ≤ length streams → start + length streams < 2 ^ 64
    → Progress documents rows streams start [] rows streams start
begins documents rows streams start e b = record { found = λ more h. h; first = λ p h. h; enough = e; below = b }

module _ (documents : List DocRow) (rows : List TermRow) (streams : List ℕ) (start : ℕ) (read : List TermList) (row : TermRow) (left : List TermRow) (rest : List ℕ) (at : ℕ)
    (h : Progress documents rows streams start read (row ∷ left) rest at) where
  pub fits : row.stream + row.summary ≤ length rest
  fits = omega (arith, sum_by-cons data_of row left, h.enough)

  pub listed : (l : TermList) (more : List TermList) → l.term ≡ row.term → IsListOf documents (stored_at row rest at) l.locations → AreListsOf documents left (drop (data_of row) rest) (at + data_of row) more
      → AreListsOf documents (row ∷ left) rest at (l ∷ more)
  unfolding AreListsOf
  listed l more t is others = (t, is, others)

  pub later : (list : List ℕ) (p : ℕ) → IsListOf documents (stored_at row rest at) list → IsFaultInLists documents left (drop (data_of row) rest) (at + data_of row) p
      → IsFaultInLists documents (row ∷ left) rest at p
  unfolding IsFaultInLists
  later list p is fault = inr ((list, is), fault)

  pub goes_on : (l : TermList) (new : List TermList) (behind : List ℕ) (next : ℕ) → l.term ≡ row.term → IsListOf documents (stored_at row rest at) l.locations → new ≡ read ++ (l ∷ [])
      → behind ≡ drop (data_of row) rest → next ≡ at + data_of row → Progress documents rows streams start new left behind next
  goes_on l new behind next t is n b e =
      let f = fits in
      let size : length behind ≡ length rest - data_of row = ap length b ∙ length-drop (data_of row) rest in
      record {
        found = λ more others.
            let here = subst (λ (x : List ℕ). AreListsOf documents left x (at + data_of row) more) b (subst (λ (x : ℕ). AreListsOf documents left behind x more) e others) in
            let whole = h.found (l ∷ more) (listed l more t is here) in
            subst (λ (x : List TermList). AreListsOf documents rows streams start x) (sym (ap (λ x. x ++ more) n ∙ append_assoc read (l ∷ []) more)) whole;
        first = λ p fault.
            h.first p (later l.locations p is (subst (λ (x : List ℕ). IsFaultInLists documents left x (at + data_of row) p) b (subst (λ (x : ℕ). IsFaultInLists documents left behind x p) e fault)));
        enough = omega (arith, sum_by-cons data_of row left, h.enough, size);
        below = omega (arith, h.below, size, e);
      }

  pub faulty : (p : ℕ) → IsListFault documents (stored_at row rest at) p → IsFaultInLists documents rows streams start p
  unfolding IsFaultInLists
  faulty p fault = h.first p (inl fault)

pub ends_read : (documents : List DocRow) (rows : List TermRow) (streams : List ℕ) (start : ℕ) (read : List TermList) (rest : List ℕ) (at : ℕ)
    → Progress documents rows streams start read [] rest at → AreListsOf documents rows streams start read
unfolding AreListsOf
ends_read documents rows streams start read rest at h = subst (λ (x : List TermList). AreListsOf documents rows streams start x) (append-nil read) (h.found [] refl)

-- ---- the rows, one behind the other

pub next_row : (rows : List TermRow) (i : ℕ) → i < length rows → drop i rows ≡ row_at rows i ∷ drop (i + 1) rows
next_row rows i h = rw (add-one, drop-cons rows i no_row)

-- ---- the list of a row

abbrev pub put : List ℕ → List ℕ → ℕ → ℕ → List ℕ → ℕ → Stored
put stream summary place behind term count = record { stream = stream; stream_place = place; summary = summary; summary_place = behind; term = term; count = count }

pub list_of_row : (rows : List TermRow) (i : ℕ) (bytes : List ℕ) (place : ℕ) (stream summary term : List ℕ) (at above count : ℕ)
    → at ≡ get_or (streams_of rows) i 0 → above ≡ get_or (summaries_of rows) i 0 → slice_get (terms_of rows) i ≡ Some term → count ≡ get_or (counts_of rows) i 0
    → stream ≡ take at bytes → summary ≡ take above (drop at bytes)
    → put stream summary place (place + at) term count ≡ stored_at (row_at rows i) bytes place
list_of_row rows i bytes place stream summary term at above count a b t n s m =
    let row = row_at rows i in
    let here : at ≡ row.stream = a ∙ get_or-map (λ r. r.stream) rows i no_row in
    let over : above ≡ row.summary = b ∙ get_or-map (λ r. r.summary) rows i no_row in
    let named : term ≡ row.term = sym (get_or_from_slice_get (terms_of rows) i term [] t) ∙ get_or-map (λ r. r.term) rows i no_row in
    let counted : count ≡ row.count = n ∙ get_or-map (λ r. r.count) rows i no_row in
    let first : stream ≡ take row.stream bytes = s ∙ ap (λ (k : ℕ). take k bytes) here in
    let second : summary ≡ take row.summary (drop row.stream bytes) = m ∙ ap (λ (k : ℕ). take k (drop at bytes)) over ∙ ap (λ (k : ℕ). take row.summary (drop k bytes)) here in
    ap (λ (x : List ℕ). put x summary place (place + at) term count) first
    ∙ ap (λ (x : List ℕ). put (take row.stream bytes) x place (place + at) term count) second
    ∙ ap (λ (x : ℕ). put (take row.stream bytes) (take row.summary (drop row.stream bytes)) place (place + x) term count) here
    ∙ ap (λ (x : List ℕ). put (take row.stream bytes) (take row.summary (drop row.stream bytes)) place (place + row.stream) x count) named
    ∙ ap (λ (x : ℕ). put (take row.stream bytes) (take row.summary (drop row.stream bytes)) place (place + row.stream) row.term x) counted

-- how long stream and summary are
pub stream_of_row : (rows : List TermRow) (i at : ℕ) → at ≡ get_or (streams_of rows) i 0 → at ≡ (row_at rows i).stream
stream_of_row rows i at a = a ∙ get_or-map (λ r. r.stream) rows i no_row

pub summary_of_row : (rows : List TermRow) (i above : ℕ) → above ≡ get_or (summaries_of rows) i 0 → above ≡ (row_at rows i).summary
summary_of_row rows i above b = b ∙ get_or-map (λ r. r.summary) rows i no_row

-- what stands behind both
pub behind_row : (rows : List TermRow) (i : ℕ) (bytes rest behind : List ℕ) (at above : ℕ) → at ≡ get_or (streams_of rows) i 0 → above ≡ get_or (summaries_of rows) i 0
    → rest ≡ drop at bytes → behind ≡ drop above rest → behind ≡ drop (data_of (row_at rows i)) bytes
behind_row rows i bytes rest behind at above a b r e =
    let row = row_at rows i in
    e ∙ ap (λ (x : List ℕ). drop above x) r ∙ drop-drop above at bytes
    ∙ ap (λ (x : ℕ). drop (x + above) bytes) (stream_of_row rows i at a) ∙ ap (λ (x : ℕ). drop (row.stream + x) bytes) (summary_of_row rows i above b)

-- the row at which a cursor stands
pub cursor_row : (at : TermAt) (level : Tables) (i : ℕ) → at.tables ≡ level → at.row ≡ i → row_at at.tables.terms at.row ≡ row_at level.terms i
cursor_row at level i tables here = ap (λ (t : Tables). row_at t.terms at.row) tables ∙ ap (λ (k : ℕ). row_at level.terms k) here
