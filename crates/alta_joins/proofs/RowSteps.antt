-- The rows of a term table, one after the other, and the bytes of their lists.
use Rattle.std.proofs.Common.{◌≡◌, ℕ, zero, suc, ◌+◌, ◌<◌, ◌≤◌, List, [], ◌∷◌, length, take, drop, get_or, refl, sym, subst, ap, ◌∙◌, arith, length-drop}
use Rattle.std.specs.List.{sum_by}
use Rattle.std.proofs.lemmas.Bool.{true≢false}
use Rattle.std.proofs.lemmas.List.Sums.{sum_by-cons}
use Rattle.alta_content.specs.TermList.{TermList}
use Rattle.alta_content.specs.declared.document.DocRow.{DocRow}
use Rattle.alta_level.proofs.Progress.{Progress}
use Rattle.alta_table.specs.Places.{TermAt}
use Rattle.alta_table.specs.Tables.{Tables}
use Rattle.alta_table.specs.Terms.{HasEnd, counts_of, data_of, streams_of, summaries_of, terms_of}
use Rattle.alta_table.specs.declared.term.TermRow.{TermRow}

-- row i of these
abbrev pub row_of : List TermRow → ℕ → TermRow
row_of rows i = record {
  term = get_or (terms_of rows) i [];
  count = get_or (counts_of rows) i 0;
  stream = get_or (streams_of rows) i 0;
  summary = get_or (summaries_of rows) i 0;
}

-- the rows from one on, up to another
pub rows_until : (rows : List TermRow) (i end : ℕ) → i < end → end ≤ length rows → drop i (take end rows) ≡ row_of rows i ∷ drop (i + 1) (take end rows)
rows_until [] i end l le = absurd (omega (arith, l, le))
rows_until (row ∷ rows) zero zero l le = absurd (omega (arith, l))
rows_until (row ∷ rows) zero (suc end) l le = refl
rows_until (row ∷ rows) (suc i) zero l le = absurd (omega (arith, l))
rows_until (row ∷ rows) (suc i) (suc end) l le =
    let next : suc (i + 1) ≡ suc i + 1 = omega arith in
    rows_until rows i end (omega (arith, l)) (omega (arith, le)) ∙ ap (λ (k : ℕ). row_of rows i ∷ drop k (take (suc end) (row ∷ rows))) next

-- the bytes of the lists up to a row, and those of its own
pub data_next : (rows : List TermRow) (i : ℕ) → i < length rows → sum_by data_of (take (suc i) rows) ≡ sum_by data_of (take i rows) + (get_or (streams_of rows) i 0 + get_or (summaries_of rows) i 0)
data_next [] i l = absurd (omega (arith, l))
data_next (row ∷ rows) zero l = omega (arith, sum_by-cons data_of row [])
data_next (row ∷ rows) (suc i) l = omega (arith, data_next rows i (omega (arith, l)), sum_by-cons data_of row (take (suc i) rows), sum_by-cons data_of row (take i rows))

none : {X : Type 0} (xs : List X) → length xs ≡ 0 → xs ≡ []
none [] e = refl
none (x ∷ xs) e = absurd (omega (arith, e))

-- nothing is left behind all
pub drop-all : {X : Type 0} (k : ℕ) (xs : List X) → length xs ≤ k → drop k xs ≡ []
drop-all k xs le = none (drop k xs) (omega (arith, length-drop k xs, le))

-- there is a row, since one is that of the ends
pub some_row : (rows : List TermRow) → HasEnd rows → 0 < length rows
some_row [] has = absurd (true≢false (sym has))
some_row (row ∷ rows) has = omega arith

module _ (documents : List DocRow) (rows streamed : List TermRow) (end : ℕ) (within : end ≤ length rows) (streams : List ℕ) (start : ℕ) (read : List TermList) (i : ℕ) (rest : List ℕ) (at : ℕ) (h : Progress documents streamed streams start read (drop i (take end rows)) rest at) where
  -- the next row is row i
  pub next_row : i < end → Progress documents streamed streams start read (row_of rows i ∷ drop (i + 1) (take end rows)) rest at
  next_row l = subst (λ (left : List TermRow). Progress documents streamed streams start read left rest at) (rows_until rows i end l within) h

-- the row at which a cursor stands
pub cursor_row : (at : TermAt) (level : Tables) (i : ℕ) → at.tables ≡ level → at.row ≡ i → row_of at.tables.terms at.row ≡ row_of level.terms i
cursor_row at level i tables here = ap (λ (t : Tables). row_of t.terms at.row) tables ∙ ap (λ (k : ℕ). row_of level.terms k) here
