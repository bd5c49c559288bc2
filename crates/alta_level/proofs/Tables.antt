-- The fields of the summary of a list, and the blocks that they are.
use Rattle.std.proofs.Common.{◌≡◌, ⊎_elim, ℕ, zero, suc, ◌+◌, ◌-◌, ◌*◌, ◌/◌, ◌%◌, ◌<◌, List, [], ◌∷◌, ◌++◌, length, get_or, refl, sym, subst, ap, ◌∙◌, arith, length-append}
use Rattle.std.specs.Prelude.{flat_map}
use Rattle.std.proofs.lemmas.Bool.{cases_lt}
use Rattle.std.proofs.lemmas.List.{get_or-append-add}
use Rattle.std.proofs.lemmas.List.FromFn.{length-map-range_with_len, get_or-map-range_with_len}
use Rattle.alta_postings.specs.declared.summary.Row.{Row}
use Rattle.alta_postings.specs.Table.{groups_of, fields_of, last_row, firsts_of, lasts_of, places_of}
use Rattle.alta_level.specs.Coded.{row_fields, group_fields, table_fields}

-- ---- the fields of rows, by their number

rows_long : (rows : List Row) → length (flat_map row_fields rows) ≡ 3 * length rows
rows_long [] = refl
rows_long (r ∷ rs) = omega (arith, rows_long rs)

pub first_field : (rows : List Row) (rest : List ℕ) (i : ℕ) → i < length rows → get_or (flat_map row_fields rows ++ rest) (3 * i) 0 ≡ get_or (firsts_of rows) i 0
first_field [] rest i l = absurd (omega arith)
first_field (r ∷ rs) rest zero l = refl
first_field (r ∷ rs) rest (suc i) l =
    let e : 3 * suc i ≡ suc (suc (suc (3 * i))) = omega arith in
    ap (λ k. get_or (flat_map row_fields (r ∷ rs) ++ rest) k 0) e ∙ first_field rs rest i (omega arith)

pub last_field : (rows : List Row) (rest : List ℕ) (i : ℕ) → i < length rows → get_or (flat_map row_fields rows ++ rest) (3 * i + 1) 0 ≡ get_or (lasts_of rows) i 0
last_field [] rest i l = absurd (omega arith)
last_field (r ∷ rs) rest zero l = refl
last_field (r ∷ rs) rest (suc i) l =
    let e : 3 * suc i + 1 ≡ suc (suc (suc (3 * i + 1))) = omega arith in
    ap (λ k. get_or (flat_map row_fields (r ∷ rs) ++ rest) k 0) e ∙ last_field rs rest i (omega arith)

pub place_field : (rows : List Row) (rest : List ℕ) (i : ℕ) → i < length rows → get_or (flat_map row_fields rows ++ rest) (3 * i + 2) 0 ≡ get_or (places_of rows) i 0
place_field [] rest i l = absurd (omega arith)
place_field (r ∷ rs) rest zero l = refl
place_field (r ∷ rs) rest (suc i) l =
    let e : 3 * suc i + 2 ≡ suc (suc (suc (3 * i + 2))) = omega arith in
    ap (λ k. get_or (flat_map row_fields (r ∷ rs) ++ rest) k 0) e ∙ place_field rs rest i (omega arith)

pub group_field : (rows : List Row) (g : ℕ) → g < groups_of (length rows)
    → get_or (flat_map row_fields rows ++ group_fields rows) (3 * length rows + g) 0 ≡ get_or (lasts_of rows) (last_row (length rows) g) 0
group_field rows g l =
    let e : 3 * length rows + g ≡ length (flat_map row_fields rows) + g = omega (arith, rows_long rows) in
    ap (λ k. get_or (flat_map row_fields rows ++ group_fields rows) k 0) e
    ∙ get_or-append-add (flat_map row_fields rows) (group_fields rows) g 0
    ∙ get_or-map-range_with_len (λ h. get_or (lasts_of rows) (last_row (length rows) h) 0) 0 (groups_of (length rows)) g g 0 l (omega arith)

pub fields_many : (rows : List Row) → length (table_fields rows) ≡ fields_of (length rows)
unfolding table_fields
fields_many rows =
    omega (
      arith,
      length-append (flat_map row_fields rows) (group_fields rows),
      rows_long rows,
      length-map-range_with_len (λ h. get_or (lasts_of rows) (last_row (length rows) h) 0) 0 (groups_of (length rows)),
    )

-- what is so of the fields of rows and of groups is so of each field
pub each_field : (P : ℕ → ℕ → Type 0) (rows : List Row)
    → ((i : ℕ) → i < length rows → P (3 * i) (get_or (firsts_of rows) i 0))
    → ((i : ℕ) → i < length rows → P (3 * i + 1) (get_or (lasts_of rows) i 0))
    → ((i : ℕ) → i < length rows → P (3 * i + 2) (get_or (places_of rows) i 0))
    → ((g : ℕ) → g < groups_of (length rows) → P (3 * length rows + g) (get_or (lasts_of rows) (last_row (length rows) g) 0))
    → (k : ℕ) → k < length (table_fields rows) → P k (get_or (table_fields rows) k 0)
unfolding table_fields
each_field P rows first last place group k l =
    let n = length rows in
    let m = fields_many rows in
    let G = group_fields rows in
    let at : (j : ℕ) (x : ℕ) → j ≡ k → get_or (flat_map row_fields rows ++ G) j 0 ≡ x → P j x → P k (get_or (flat_map row_fields rows ++ G) k 0) =
    λ j x e same p.
    let Q : ℕ → Type 0 = λ i. P i (get_or (flat_map row_fields rows ++ G) i 0) in
    subst Q e (subst (P j) (sym same) p) in
    ⊎_elim
    (λ w.
    let i = k / 3 in
    ⊎_elim (λ a. at (3 * i) _ (omega arith) (first_field rows G i (omega arith)) (first i (omega arith)))
    (λ b. ⊎_elim (λ a. at (3 * i + 1) _ (omega arith) (last_field rows G i (omega arith)) (last i (omega arith)))
    (λ c. at (3 * i + 2) _ (omega arith) (place_field rows G i (omega arith)) (place i (omega arith)))
    (cases_lt (k % 3) 2))
    (cases_lt (k % 3) 1))
    (λ g. let h = k - 3 * n in at (3 * n + h) _ (omega arith) (group_field rows h (omega (arith, m))) (group h (omega (arith, m))))
    (cases_lt k (3 * n))
