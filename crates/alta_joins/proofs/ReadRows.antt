-- Lists of a level that are read a part at a time.
use Rattle.std.proofs.Common.{◌≡◌, inl, inr, ℕ, ◌+◌, ◌≤◌, List, [], ◌∷◌, ◌++◌, length, take, drop, refl, sym, subst, ap, ap₂, ◌∙◌, arith, length-append, length-drop, take-append-drop}
use Rattle.std.proofs.Math.Seq.{take-append_seam, take-length}
use Rattle.std.proofs.lemmas.List.{drop-append-le, length-take, take-take}
use Rattle.std.proofs.lemmas.List.Sums.{sum_by-append, sum_by-cons}
use Rattle.std.specs.List.{sum_by}
use Rattle.alta_content.specs.TermList.{TermList}
use Rattle.alta_content.specs.declared.document.DocRow.{DocRow}
use Rattle.alta_disk.specs.Parts.{part}
use Rattle.alta_joins.proofs.DataLaws.{part_behind, same_stored}
use Rattle.alta_joins.specs.Reading.{AreRead, IsFaultFrom, rest_of, rows_between}
use Rattle.alta_level.specs.Damage.{AreListsOf, IsFaultInLists, data_place, stored_at}
use Rattle.alta_level.specs.Stored.{IsListFault, IsListOf, Stored}
use Rattle.alta_table.specs.Places.{stream_place}
use Rattle.alta_table.specs.Tables.{Tables}
use Rattle.alta_table.specs.Terms.{data_bytes, data_of}
use Rattle.alta_table.specs.declared.term.TermRow.{TermRow}

-- ---- lists of bytes behind which others stand

stored_front : (row : TermRow) (bytes others : List ℕ) (at : ℕ) → data_of row ≤ length bytes → stored_at row (bytes ++ others) at ≡ stored_at row bytes at
stored_front row bytes others at le =
    sym (ap (λ (b : List ℕ). stored_at row b at) (sym (take-append_seam bytes others)) ∙ same_stored row (bytes ++ others) (length bytes) at le)

none : {X : Type 0} (xs : List X) → length xs ≡ 0 → xs ≡ []
none [] e = refl
none (x ∷ xs) e = absurd (omega (arith, e))

pub lists_then : (documents : List DocRow) (rows more : List TermRow) (bytes others : List ℕ) (place : ℕ) (ls ms : List TermList) → length bytes ≡ data_bytes rows
    → AreListsOf documents rows bytes place ls → AreListsOf documents more others (place + data_bytes rows) ms → AreListsOf documents (rows ++ more) (bytes ++ others) place (ls ++ ms)
unfolding AreListsOf
lists_then documents [] more bytes others place ls ms long are behind =
    let same : place + 0 ≡ place = omega arith in
    subst (λ (l : List TermList). AreListsOf documents more (bytes ++ others) place (l ++ ms)) (sym are)
    (subst (λ (b : List ℕ). AreListsOf documents more (b ++ others) place ms) (sym (none bytes long)) (subst (λ (p : ℕ). AreListsOf documents more others p ms) same behind))
lists_then documents (row ∷ rows) more bytes others place [] ms long are behind = absurd are
lists_then documents (row ∷ rows) more bytes others place (l ∷ ls) ms long (t, is, are) behind =
    let size = sum_by-cons data_of row rows in
    let few : data_of row ≤ length bytes = omega (arith, long, size) in
    let next : place + data_bytes (row ∷ rows) ≡ place + data_of row + data_bytes rows = omega (arith, size) in (
      t,
      subst (λ (s : Stored). IsListOf documents s l.locations) (sym (stored_front row bytes others place few)) is,
      subst (λ (b : List ℕ). AreListsOf documents (rows ++ more) b (place + data_of row) (ls ++ ms)) (sym (drop-append-le (data_of row) bytes others few))
          (lists_then documents rows more (drop (data_of row) bytes) others (place + data_of row) ls ms (omega (arith, length-drop (data_of row) bytes, long, size)) are
          (subst (λ (p : ℕ). AreListsOf documents more others p ms) next behind)),
    )

-- a fault behind lists that are whole
pub fault_then : (documents : List DocRow) (rows more : List TermRow) (bytes others : List ℕ) (place p : ℕ) (ls : List TermList) → length bytes ≡ data_bytes rows
    → AreListsOf documents rows bytes place ls → IsFaultInLists documents more others (place + data_bytes rows) p → IsFaultInLists documents (rows ++ more) (bytes ++ others) place p
unfolding AreListsOf IsFaultInLists
fault_then documents [] more bytes others place p ls long are behind =
    let same : place + 0 ≡ place = omega arith in
    subst (λ (b : List ℕ). IsFaultInLists documents more (b ++ others) place p) (sym (none bytes long)) (subst (λ (q : ℕ). IsFaultInLists documents more others q p) same behind)
fault_then documents (row ∷ rows) more bytes others place p [] long are behind = absurd are
fault_then documents (row ∷ rows) more bytes others place p (l ∷ ls) long (t, is, are) behind =
    let size = sum_by-cons data_of row rows in
    let few : data_of row ≤ length bytes = omega (arith, long, size) in
    let next : place + data_bytes (row ∷ rows) ≡ place + data_of row + data_bytes rows = omega (arith, size) in
    inr (
      (l.locations, subst (λ (s : Stored). IsListOf documents s l.locations) (sym (stored_front row bytes others place few)) is),
      subst (λ (b : List ℕ). IsFaultInLists documents (rows ++ more) b (place + data_of row) p) (sym (drop-append-le (data_of row) bytes others few))
          (fault_then documents rows more (drop (data_of row) bytes) others (place + data_of row) p ls (omega (arith, length-drop (data_of row) bytes, long, size)) are
          (subst (λ (q : ℕ). IsFaultInLists documents more others q p) next behind)),
    )

-- a fault before others
pub fault_front : (documents : List DocRow) (rows more : List TermRow) (bytes others : List ℕ) (place p : ℕ) → data_bytes rows ≤ length bytes
    → IsFaultInLists documents rows bytes place p → IsFaultInLists documents (rows ++ more) (bytes ++ others) place p
unfolding IsFaultInLists
fault_front documents [] more bytes others place p le fault = absurd fault
fault_front documents (row ∷ rows) more bytes others place p le (inl fault) =
    let size = sum_by-cons data_of row rows in
    inl (subst (λ (s : Stored). IsListFault documents s p) (sym (stored_front row bytes others place (omega (arith, le, size)))) fault)
fault_front documents (row ∷ rows) more bytes others place p le (inr ((list, is), fault)) =
    let size = sum_by-cons data_of row rows in
    let few : data_of row ≤ length bytes = omega (arith, le, size) in
    inr (
      (list, subst (λ (s : Stored). IsListOf documents s list) (sym (stored_front row bytes others place few)) is),
      subst (λ (b : List ℕ). IsFaultInLists documents (rows ++ more) b (place + data_of row) p) (sym (drop-append-le (data_of row) bytes others few))
          (fault_front documents rows more (drop (data_of row) bytes) others (place + data_of row) p (omega (arith, length-drop (data_of row) bytes, le, size)) fault),
    )

-- there is a list for each row
pub lists_many : (documents : List DocRow) (rows : List TermRow) (bytes : List ℕ) (place : ℕ) (ls : List TermList) → AreListsOf documents rows bytes place ls → length ls ≡ length rows
unfolding AreListsOf
lists_many documents [] bytes place ls are = ap length are
lists_many documents (row ∷ rows) bytes place [] are = absurd are
lists_many documents (row ∷ rows) bytes place (l ∷ ls) (t, is, are) = omega (arith, lists_many documents rows (drop (data_of row) bytes) (place + data_of row) ls are)

-- ---- parts of an image

-- a part, cut in two
pub part_split : (at m n : ℕ) (image : List ℕ) → part at (m + n) image ≡ part at m image ++ part (at + m) n image
part_split at m n image =
    sym (take-append-drop m (part at (m + n) image))
    ∙ ap₂ (λ (a b : List ℕ). a ++ b) (take-take m (m + n) (drop at image) (omega arith)) (part_behind m n at image)

-- ---- rows of a level

module _ (level : Tables) where
  -- what stands behind the rows up to one
  pub rows_behind : (from mid : ℕ) → from ≤ mid → mid ≤ length level.terms → drop from level.terms ≡ rows_between level from mid ++ drop mid level.terms
  rows_behind from mid le within =
      ap (drop from) (sym (take-append-drop mid level.terms)) ∙ drop-append-le from (take mid level.terms) (drop mid level.terms) (omega (arith, le, within, length-take mid level.terms))

  pub rows_split : (from mid to : ℕ) → from ≤ mid → mid ≤ to → to ≤ length level.terms → rows_between level from to ≡ rows_between level from mid ++ rows_between level mid to
  rows_split from mid to le more within =
      let terms = take to level.terms in
      ap (drop from) (sym (take-append-drop mid terms))
      ∙ ap (λ (front : List TermRow). drop from (front ++ drop mid terms)) (take-take mid to level.terms more)
      ∙ drop-append-le from (take mid level.terms) (drop mid terms) (omega (arith, le, more, within, length-take mid level.terms))

  pub place_behind : (from mid : ℕ) → from ≤ mid → stream_place level mid ≡ stream_place level from + data_bytes (rows_between level from mid)
  place_behind from mid le =
      let terms = take mid level.terms in
      let sum : sum_by data_of terms ≡ sum_by data_of (take from level.terms) + sum_by data_of (drop from terms) =
      ap (sum_by data_of) (sym (take-append-drop from terms) ∙ ap (λ (front : List TermRow). front ++ drop from terms) (take-take from mid level.terms le))
      ∙ sum_by-append data_of (take from level.terms) (drop from terms) in
      omega (arith, sum)

  pub place_first : stream_place level 0 ≡ data_place level
  place_first = omega arith

  pub all_rows : rows_between level 0 (length level.terms) ≡ level.terms
  all_rows = take-length level.terms

-- ---- what was read

-- where the disk tells, two images are the same
pub read_on : (tells : Type 0) (old new : List ℕ) (level : Tables) (from to : ℕ) (lists : List TermList) → (tells → old ≡ new) → AreRead tells old level from to lists → AreRead tells new level from to lists
read_on tells old new level from to lists same h = record {
  bytes = h.bytes;
  long = h.long;
  are = h.are;
  told = λ told. h.told told ∙ ap (λ (image : List ℕ). part (stream_place level from) (length h.bytes) image) (same told);
}

module _ (tells : Type 0) (image : List ℕ) (level : Tables) where
  pub read_none : (from : ℕ) → from ≤ length level.terms → AreRead tells image level from from []
  unfolding AreListsOf
  read_none from within =
      let rows : rows_between level from from ≡ [] = none (rows_between level from from) (omega (arith, length-drop from (take from level.terms), length-take from level.terms)) in
      record {
        bytes = [];
        long = sym (ap data_bytes rows);
        are = subst (λ (r : List TermRow). AreListsOf level.documents r [] (stream_place level from) []) (sym rows) refl;
        told = λ told. refl;
      }

  pub read_then : (from mid to : ℕ) (ls ms : List TermList) → from ≤ mid → mid ≤ to → to ≤ length level.terms → AreRead tells image level from mid ls → AreRead tells image level mid to ms
      → AreRead tells image level from to (ls ++ ms)
  read_then from mid to ls ms le more within h k =
      let rows = rows_split level from mid to le more within in
      let place : stream_place level mid ≡ stream_place level from + data_bytes (rows_between level from mid) = place_behind level from mid le in
      let at : stream_place level mid ≡ stream_place level from + length h.bytes = omega (arith, place, h.long) in
      let size = length-append h.bytes k.bytes in
      record {
        bytes = h.bytes ++ k.bytes;
        long = size ∙ ap₂ (λ (a b : ℕ). a + b) h.long k.long ∙ sym (ap data_bytes rows ∙ sum_by-append data_of (rows_between level from mid) (rows_between level mid to));
        are = subst (λ (r : List TermRow). AreListsOf level.documents r (h.bytes ++ k.bytes) (stream_place level from) (ls ++ ms)) (sym rows)
            (lists_then level.documents (rows_between level from mid) (rows_between level mid to) h.bytes k.bytes (stream_place level from) ls ms h.long h.are
            (subst (λ (p : ℕ). AreListsOf level.documents (rows_between level mid to) k.bytes p ms) place k.are));
        told = λ told.
            ap₂ (λ (a b : List ℕ). a ++ b) (h.told told) (k.told told ∙ ap (λ (p : ℕ). part p (length k.bytes) image) at)
            ∙ sym (part_split (stream_place level from) (length h.bytes) (length k.bytes) image) ∙ ap (λ (n : ℕ). part (stream_place level from) n image) (sym size);
      }

  -- the bytes from a row on begin with those that were read
  rest_split : (from mid : ℕ) (bytes : List ℕ) → from ≤ mid → mid ≤ length level.terms → length bytes ≡ data_bytes (rows_between level from mid) → bytes ≡ part (stream_place level from) (length bytes) image
      → rest_of image level from ≡ bytes ++ rest_of image level mid
  rest_split from mid bytes le within long is =
      let rest = data_bytes (drop mid level.terms) in
      let at : stream_place level from + length bytes ≡ stream_place level mid = omega (arith, place_behind level from mid le, long) in
      let size : data_bytes (drop from level.terms) ≡ length bytes + rest =
      ap data_bytes (rows_behind level from mid le within) ∙ sum_by-append data_of (rows_between level from mid) (drop mid level.terms) ∙ ap (λ (n : ℕ). n + rest) (sym long) in
      ap (λ (n : ℕ). part (stream_place level from) n image) size
      ∙ part_split (stream_place level from) (length bytes) rest image
      ∙ ap₂ (λ (a b : List ℕ). a ++ b) (sym is) (ap (λ (p : ℕ). part p rest image) at)

  -- a fault behind what was read
  pub fault_behind : (from mid p : ℕ) (ls : List TermList) → from ≤ mid → mid ≤ length level.terms → AreRead tells image level from mid ls → tells → IsFaultFrom image level mid p
      → IsFaultFrom image level from p
  fault_behind from mid p ls le within h told fault =
      subst (λ (r : List TermRow). IsFaultInLists level.documents r (rest_of image level from) (stream_place level from) p) (sym (rows_behind level from mid le within))
      (subst (λ (b : List ℕ). IsFaultInLists level.documents (rows_between level from mid ++ drop mid level.terms) b (stream_place level from) p) (sym (rest_split from mid h.bytes le within h.long (h.told told)))
      (fault_then level.documents (rows_between level from mid) (drop mid level.terms) h.bytes (rest_of image level mid) (stream_place level from) p ls h.long h.are
      (subst (λ (q : ℕ). IsFaultInLists level.documents (drop mid level.terms) (rest_of image level mid) q p) (place_behind level from mid le) fault)))

  -- a fault of what is read
  pub fault_within : (from to p : ℕ) (bytes : List ℕ) → from ≤ to → to ≤ length level.terms → length bytes ≡ data_bytes (rows_between level from to) → bytes ≡ part (stream_place level from) (length bytes) image
      → IsFaultInLists level.documents (rows_between level from to) bytes (stream_place level from) p → IsFaultFrom image level from p
  fault_within from to p bytes le within long is fault =
      subst (λ (r : List TermRow). IsFaultInLists level.documents r (rest_of image level from) (stream_place level from) p) (sym (rows_behind level from to le within))
      (subst (λ (b : List ℕ). IsFaultInLists level.documents (rows_between level from to ++ drop to level.terms) b (stream_place level from) p) (sym (rest_split from to bytes le within long is))
      (fault_front level.documents (rows_between level from to) (drop to level.terms) bytes (rest_of image level to) (stream_place level from) p (omega (arith, long)) fault))

  -- how many bytes are read from a row on
  pub rest_size : (from mid : ℕ) → from ≤ mid → mid ≤ length level.terms → data_bytes (drop from level.terms) ≡ data_bytes (rows_between level from mid) + data_bytes (drop mid level.terms)
  rest_size from mid le within = ap data_bytes (rows_behind level from mid le within) ∙ sum_by-append data_of (rows_between level from mid) (drop mid level.terms)
