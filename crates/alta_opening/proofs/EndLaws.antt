-- Deleted ends beside rows, both of which rise.
use Rattle.std.proofs.Common.{◌≡◌, ⊎_elim, ℕ, suc, ◌+◌, ◌-◌, ◌<◌, ◌≤◌, Bool, true, false, List, [], ◌∷◌, ◌++◌, length, take, drop, get_or, drop-cons, length-append, length-drop, refl, sym, ap, subst, ◌∙◌, arith}
use Rattle.std.specs.Prelude.{◌&&◌, ◌||◌, nat_eq}
use Rattle.std.specs.List.{All, list_any}
use Rattle.std.proofs.lemmas.Bool.{eq-eqb, ne_eqb, cases_lt}
use Rattle.std.proofs.lemmas.List.{drop_all, get_or-drop, get_or_append_left, get_or_default, take-append-drop}
use Rattle.std.proofs.lemmas.Grind.{flat_map-append}
use Rattle.std.proofs.lemmas.List.Elements.{All-head, All-tail}
use Rattle.alta_codec.specs.Rising.{IsRising}
use Rattle.alta_content.specs.Rows.{AreDocuments, AreDocumentsBehind, Before, behind_row, end_of, ends_among, start}
use Rattle.alta_content.specs.declared.document.DocRow.{DocRow}
use Rattle.alta_meaning.specs.Opened.{table_rows}
use Rattle.alta_table.specs.Tables.{Tables}
use Rattle.alta_opening.specs.Rows.{are_ends, behind_rows}
use Rattle.alta_opening.proofs.RowLaws.{rows_split}

-- ---- the first row and the first end

-- whether the end is the row's
abbrev is_its : ℕ → DocRow → Bool
is_its end row = ends_among (end ∷ []) row

or_false : (b : Bool) → (b || false) ≡ b
or_false true = refl
or_false false = refl

not_its : (end : ℕ) (row : DocRow) → (end ≡ end_of row → ⊥) → is_its end row ≡ false
not_its end row differs = or_false (nat_eq end (end_of row)) ∙ ne_eqb end (end_of row) differs

its : (end : ℕ) (row : DocRow) → end ≡ end_of row → is_its end row ≡ true
its end row is = or_false (nat_eq end (end_of row)) ∙ eq-eqb end (end_of row) is

-- a row that ends before all these is none of theirs
row_passed : (row : DocRow) (rows : List DocRow) (ends : List ℕ) → All (λ (end : ℕ). end_of row < end) ends → are_ends (row ∷ rows) ends ≡ are_ends rows ends
row_passed row rows [] above = refl
row_passed row rows (end ∷ ends) above =
    let here : end_of row < end = All-head (λ (e : ℕ). end_of row < e) end ends above in
    ap (λ (b : Bool). (b || list_any (is_its end) rows) && are_ends (row ∷ rows) ends) (not_its end row (λ is. absurd (omega (arith, here, is))))
    ∙ ap (λ (b : Bool). list_any (is_its end) rows && b) (row_passed row rows ends (All-tail (λ (e : ℕ). end_of row < e) end ends above))

-- an end before all rows is no row's
none_has : (before : Before) (rows : List DocRow) (end : ℕ) → AreDocumentsBehind before rows → end ≤ before.end → list_any (is_its end) rows ≡ false
unfolding AreDocumentsBehind
none_has before [] end are low = refl
none_has before (row ∷ rows) end are low =
    ap (λ (b : Bool). b || list_any (is_its end) rows) (not_its end row (λ is. absurd (omega (arith, is, low, are.0.starts_behind, are.0.some_cells))))
    ∙ none_has (behind_row before row) rows end are.1 (omega (arith, low, are.0.starts_behind, are.0.some_cells))

first_has : (end : ℕ) (row : DocRow) (rows : List DocRow) → end ≡ end_of row → list_any (is_its end) (row ∷ rows) ≡ true
first_has end row rows is = ap (λ (b : Bool). b || list_any (is_its end) rows) (its end row is)

first_missing : (before : Before) (row : DocRow) (rows : List DocRow) (end : ℕ) (ends : List ℕ) → AreDocumentsBehind before (row ∷ rows) → end < end_of row → are_ends (row ∷ rows) (end ∷ ends) ≡ false
unfolding AreDocumentsBehind
first_missing before row rows end ends are low =
    ap (λ (b : Bool). b && are_ends (row ∷ rows) ends)
    (ap (λ (b : Bool). b || list_any (is_its end) rows) (not_its end row (λ is. absurd (omega (arith, is, low)))) ∙ none_has (behind_row before row) rows end are.1 (omega (arith, low)))

first_passed : (row : DocRow) (rows : List DocRow) (end : ℕ) (ends : List ℕ) → end ≡ end_of row → All (λ (e : ℕ). end_of row < e) ends → are_ends (row ∷ rows) (end ∷ ends) ≡ are_ends rows ends
first_passed row rows end ends is above = ap (λ (b : Bool). b && are_ends (row ∷ rows) ends) (first_has end row rows is) ∙ row_passed row rows ends above

no_rows : (ends : List ℕ) → 0 < length ends → are_ends [] ends ≡ false
no_rows [] some = absurd (omega (arith, some))
no_rows (end ∷ ends) some = refl

-- ---- rows and ends from places on

ends_from : (ends : List ℕ) (at : ℕ) → at < length ends → drop at ends ≡ get_or ends at 0 ∷ drop (at + 1) ends
ends_from ends at inside =
    let next : suc at ≡ at + 1 = omega arith in
    drop-cons ends at 0 inside ∙ ap (λ (k : ℕ). get_or ends at 0 ∷ drop k ends) next

rows_from : (rows : List DocRow) (i : ℕ) (row : DocRow) → i < length rows → row ≡ get_or rows i row → drop i rows ≡ row ∷ drop (i + 1) rows
rows_from rows i row inside is =
    let next : suc i ≡ i + 1 = omega arith in
    drop-cons rows i row inside ∙ ap (λ (r : DocRow). r ∷ drop (suc i) rows) (sym is) ∙ ap (λ (k : ℕ). row ∷ drop k rows) next

no_lower : (ends : List ℕ) (i j : ℕ) → IsRising ends → i ≤ j → j < length ends → get_or ends i 0 ≤ get_or ends j 0
no_lower ends i j rising le inside =
    ⊎_elim (λ lt. let up = rising.rising i j lt inside in omega arith) (λ ge. let same : i ≡ j = omega (arith, le, ge) in subst (λ m. get_or ends i 0 ≤ get_or ends m 0) same (omega arith)) (cases_lt i j)

-- the ends from a place on lie above what lies below the first of them
above_from : (ends : List ℕ) (at low : ℕ) → IsRising ends → (at < length ends → low < get_or ends at 0) → All (λ (e : ℕ). low < e) (drop at ends)
above_from ends at low rising below = λ k d inside.
    let long : length (drop at ends) ≡ length ends - at = length-drop at ends in
    let there : at + k < length ends = omega (arith, inside, long) in
    let first : low < get_or ends at 0 = below (omega (arith, there)) in
    let up : get_or ends at 0 ≤ get_or ends (at + k) 0 = no_lower ends at (at + k) rising (omega arith) there in
    let is : get_or (drop at ends) k d ≡ get_or ends (at + k) 0 = get_or-drop at ends k d ∙ get_or_default ends (at + k) d 0 there in
    omega (arith, first, up, is)

-- ends behind one
above_next : (ends : List ℕ) (at low : ℕ) → IsRising ends → at < length ends → low ≡ get_or ends at 0 → All (λ (e : ℕ). low < e) (drop (at + 1) ends)
above_next ends at low rising inside is =
    above_from ends (at + 1) low rising (λ more. let up = rising.rising at (at + 1) (omega arith) more in omega (arith, up, is))

module _ (before : Before) (rows : List DocRow) (are : AreDocumentsBehind before rows) (ends : List ℕ) (rising : IsRising ends) (i : ℕ) (row : DocRow) (inside : i < length rows) (is : row ≡ get_or rows i row)
    (at : ℕ) (more : at < length ends) where
  stands : AreDocumentsBehind (behind_rows before (take i rows)) (row ∷ drop (i + 1) rows)
  stands = subst (AreDocumentsBehind (behind_rows before (take i rows))) (rows_from rows i row inside is)
      (rows_split before (take i rows) (drop i rows) (subst (AreDocumentsBehind before) (sym (take-append-drop i rows)) are))

  abbrev both : are_ends (drop i rows) (drop at ends) ≡ are_ends (row ∷ drop (i + 1) rows) (drop at ends)
  both = ap (λ (rs : List DocRow). are_ends rs (drop at ends)) (rows_from rows i row inside is)

  -- a row that ends before the next end
  pub lower_row : end_of row < get_or ends at 0 → are_ends (drop i rows) (drop at ends) ≡ are_ends (drop (i + 1) rows) (drop at ends)
  lower_row low = both ∙ row_passed row (drop (i + 1) rows) (drop at ends) (above_from ends at (end_of row) rising (λ inside. low))

  -- a row with the next end
  pub its_row : get_or ends at 0 ≡ end_of row → are_ends (drop i rows) (drop at ends) ≡ are_ends (drop (i + 1) rows) (drop (at + 1) ends)
  its_row same =
      both ∙ ap (are_ends (row ∷ drop (i + 1) rows)) (ends_from ends at more)
      ∙ first_passed row (drop (i + 1) rows) (get_or ends at 0) (drop (at + 1) ends) same (above_next ends at (end_of row) rising more (sym same))

  -- a row behind an end that is no row's
  pub later_row : get_or ends at 0 < end_of row → are_ends (drop i rows) (drop at ends) ≡ false
  later_row low =
      both ∙ ap (are_ends (row ∷ drop (i + 1) rows)) (ends_from ends at more)
      ∙ first_missing (behind_rows before (take i rows)) row (drop (i + 1) rows) (get_or ends at 0) (drop (at + 1) ends) stands low

-- a row of the first of two lists
pub record IsRowOf (rows : List DocRow) (i : ℕ) (row : DocRow) : Type 0 where
  pub inside : i < length rows
  pub is : row ≡ get_or rows i row

pub in_front : (rows later : List DocRow) (i : ℕ) (row : DocRow) → i < length rows → row ≡ get_or rows i row → IsRowOf (rows ++ later) i row
in_front rows later i row inside is = record {
  inside = omega (arith, inside, length-append rows later);
  is = is ∙ sym (get_or_append_left rows later row i inside);
}

-- ---- levels

pub rows_next : (levels : List Tables) (i : ℕ) (level : Tables) → i < length levels → level ≡ get_or levels i level → table_rows (drop i levels) ≡ level.documents ++ table_rows (drop (i + 1) levels)
rows_next levels i level inside is =
    let next : suc i ≡ i + 1 = omega arith in
    ap table_rows (drop-cons levels i level inside ∙ ap (λ (t : Tables). t ∷ drop (suc i) levels) (sym is) ∙ ap (λ (k : ℕ). level ∷ drop k levels) next)

pub rows_stand : (levels : List Tables) (i : ℕ) → AreDocuments (table_rows levels) → AreDocumentsBehind (behind_rows start (table_rows (take i levels))) (table_rows (drop i levels))
rows_stand levels i are =
    rows_split start (table_rows (take i levels)) (table_rows (drop i levels))
    (subst AreDocuments (sym (ap table_rows (take-append-drop i levels)) ∙ flat_map-append (λ (t : Tables). t.documents) (take i levels) (drop i levels)) are)

pub all_passed : (levels : List Tables) (ends : List ℕ) (i at : ℕ) → length levels ≤ i → at ≤ length ends → nat_eq at (length ends) ≡ are_ends (table_rows (drop i levels)) (drop at ends)
all_passed levels ends i at past within =
    let none : drop i levels ≡ [] = drop_all i levels past in
    ⊎_elim
    (λ less. ne_eqb at (length ends) (λ is. absurd (omega (arith, is, less)))
    ∙ sym (ap (λ (ls : List Tables). are_ends (table_rows ls) (drop at ends)) none ∙ no_rows (drop at ends) (omega (arith, length-drop at ends, less))))
    (λ all. eq-eqb at (length ends) (omega (arith, all, within)) ∙ sym (ap (are_ends (table_rows (drop i levels))) (drop_all at ends all)))
    (cases_lt at (length ends))
