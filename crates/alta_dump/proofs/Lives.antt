-- The live rows that a walk over ends takes, one after the other.
use Rattle.std.proofs.Common.{◌≡◌, ℕ, ◌+◌, ◌<◌, ◌≤◌, List, [], ◌∷◌, ◌++◌, length, map, get_or, refl, sym, ap, ◌∙◌, arith, append-nil, append_assoc}
use Rattle.std.specs.Prelude.{Contains, Some, slice_get}
use Rattle.std.proofs.lemmas.List.{get_or-map}
use Rattle.std.proofs.lemmas.Option.{get_or_from_slice_get, slice_get_within}
use Rattle.alta_codec.specs.declared.location.TheConstants.{TOP}
use Rattle.alta_codec.specs.Rising.{IsRising, first_from}
use Rattle.alta_codec.proofs.Places.{first_from-least}
use Rattle.alta_compound.specs.Unions.{above_from_rising}
use Rattle.alta_content.specs.Rows.{end_of}
use Rattle.alta_content.specs.declared.document.DocRow.{DocRow}
use Rattle.alta_search.specs.Answers.{answers_in}
use Rattle.alta_search.specs.Told.{no_row, rows_at}
use Rattle.alta_search.proofs.Rows.{answers_dead, answers_from, answers_live, answers_past, read_at}
use Rattle.alta_search.proofs.Walking.{next_answers, rows_push}

module _ (list gone : List ℕ) (rows : List DocRow) where
  -- the row that ends here is live
  pub taken_live : (live more : List ℕ) (i end : ℕ) → IsRising (map end_of rows) → Contains list end → i < length rows → end_of (get_or rows i no_row) ≡ end
      → (Contains gone end → ⊥) → more ≡ live ++ i ∷ [] → rows_at rows more ++ answers_in list gone (end + 1) rows ≡ rows_at rows live ++ answers_in list gone end rows
  taken_live live more i end rising held inside at free pushed =
      let behind = answers_in list gone (end + 1) rows in
      ap (λ (rs : List DocRow). rs ++ behind) (rows_push rows live more i pushed)
      ∙ append_assoc (rows_at rows live) (get_or rows i no_row ∷ []) behind
      ∙ ap (λ (rs : List DocRow). rows_at rows live ++ rs) (sym (answers_live list gone end 0 rows i no_row (above_from_rising (map end_of rows) rising) inside at held free))

  -- none is
  pub taken_dead : (live : List ℕ) (end : ℕ) → ((Contains gone end → ⊥) → Contains (map end_of rows) end → ⊥)
      → rows_at rows live ++ answers_in list gone (end + 1) rows ≡ rows_at rows live ++ answers_in list gone end rows
  taken_dead live end none = ap (λ (rs : List DocRow). rows_at rows live ++ rs) (answers_dead list gone end rows none)

  pub taken_none : (live : List ℕ) (place : ℕ) → live ≡ [] → place ≡ first_from list 0 → rows_at rows live ++ answers_in list gone place rows ≡ answers_in list gone 0 rows
  taken_none live place none is =
      ap (λ (l : List ℕ). rows_at rows l ++ answers_in list gone place rows) none
      ∙ answers_from list gone 0 place rows (omega arith) (λ z m h. omega (arith, is, first_from-least list 0 z m h))

  -- the reader has gone on from one end to the next
  pub taken_next : (live more : List ℕ) (end next : ℕ) → end < TOP → next ≡ first_from list (end + 1)
      → rows_at rows more ++ answers_in list gone (end + 1) rows ≡ rows_at rows live ++ answers_in list gone end rows
      → rows_at rows live ++ answers_in list gone end rows ≡ answers_in list gone 0 rows → rows_at rows more ++ answers_in list gone next rows ≡ answers_in list gone 0 rows
  taken_next live more end next below is step so_far = ap (λ (rs : List DocRow). rows_at rows more ++ rs) (next_answers list gone end next rows below is) ∙ step ∙ so_far

  pub taken_all : (live : List ℕ) (place : ℕ) → IsRising list → TOP ≤ place → rows_at rows live ++ answers_in list gone place rows ≡ answers_in list gone 0 rows
      → rows_at rows live ≡ answers_in list gone 0 rows
  taken_all live place rising past so_far =
      sym (append-nil (rows_at rows live)) ∙ ap (λ (rs : List DocRow). rows_at rows live ++ rs) (sym (answers_past list gone place rows rising past)) ∙ so_far

-- the row of a live document by its index
module _ (rows : List DocRow) (live : List ℕ) (i j : ℕ) (r : DocRow) (within : i < length live) (is : j ≡ get_or live i 0) (got : slice_get rows j ≡ Some r) where
  pub row_is : r ≡ get_or (rows_at rows live) i no_row
  row_is =
      sym (get_or_from_slice_get rows j r no_row got) ∙ ap (λ (n : ℕ). get_or rows n no_row) is
      ∙ sym (get_or-map (λ (n : ℕ). get_or rows n no_row) live i 0 no_row within)

  pub row_below : IsRising (map end_of rows) → end_of r < TOP
  row_below rising =
      let inside : j < length rows = slice_get_within rows j r got in
      let here : get_or (map end_of rows) j 0 ≡ end_of r = read_at end_of rows j no_row inside ∙ ap end_of (get_or_from_slice_get rows j r no_row got) in
      omega (arith, here, rising.below j (omega (arith, inside, long rows)))
    where
      long : (rs : List DocRow) → length (map end_of rs) ≡ length rs
      long [] = refl
      long (x ∷ xs) = omega (arith, long xs)
