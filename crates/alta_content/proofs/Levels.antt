-- The rows of several levels, one behind the other.
use Rattle.std.proofs.Common.{◌≡◌, ℕ, zero, suc, ◌+◌, ◌-◌, ◌<◌, ◌≤◌, ⊎_elim, List, [], ◌∷◌, ◌++◌, map, take, drop, take-append-drop, length, get_or, sym, subst, ap, ◌∙◌, lit<, take_all, arith}
use Rattle.std.specs.Prelude.{Contains}
use Rattle.std.proofs.lemmas.Bool.{cases_lt}
use Rattle.std.proofs.lemmas.List.{take_more, append-nil, get_or-map, length-append, length-map, get_or_default}
use Rattle.std.proofs.lemmas.List.Concat.{flat_map-append, get_or-flat_map}
use Rattle.alta_codec.specs.Rising.{IsRising}
use Rattle.alta_codec.specs.declared.location.TheConstants.{TOP}
use Rattle.alta_content.specs.Rows.{end_of, ends_of}
use Rattle.alta_content.specs.declared.document.DocRow.{DocRow}
use Rattle.alta_content.specs.All.{rows_of_levels, IsPlace}

none : DocRow
none = record { number = 0; first = 0; cells = 0; name = [] }

-- ---- how many there are

above_index : (xs : List ℕ) → IsRising xs → (i : ℕ) → i < length xs → i < get_or xs i 0
above_index xs r zero l = r.positive zero l
above_index xs r (suc i) l = omega (arith, above_index xs r i (omega arith), r.rising i (suc i) (omega arith) l)

-- a rising list has fewer elements than there are locations
pub rising_fits : (xs : List ℕ) → IsRising xs → length xs < TOP
rising_fits [] r = lit< tt
rising_fits (x ∷ xs) r = omega (arith, above_index (x ∷ xs) r (length xs) (omega arith), r.below (length xs) (omega arith))

pub rows_of_levels-take : (levels : List (List DocRow)) (n : ℕ) → n < length levels → length (rows_of_levels (take (n + 1) levels)) ≡ length (rows_of_levels (take n levels)) + length (get_or levels n [])
rows_of_levels-take levels n l =
    ap (λ ls. length (rows_of_levels ls)) (take_more levels n [] l)
    ∙ ap length (flat_map-append (λ rows. rows) (take n levels) (get_or levels n [] ∷ []))
    ∙ length-append (rows_of_levels (take n levels)) (get_or levels n [] ++ [])
    ∙ ap (λ k. length (rows_of_levels (take n levels)) + k) (ap length (append-nil (get_or levels n [])))

pub joined_fits : (levels : List (List DocRow)) (n : ℕ) → length (rows_of_levels (take n levels)) ≤ length (rows_of_levels levels)
joined_fits levels n =
    omega (
      arith,
      ap (λ ls. length (rows_of_levels ls)) (take-append-drop n levels),
      ap length (flat_map-append (λ rows. rows) (take n levels) (drop n levels)),
      length-append (rows_of_levels (take n levels)) (rows_of_levels (drop n levels)),
    )

module _ (levels : List (List DocRow)) (n b i : ℕ) (p : IsPlace levels n b i) (l : n < length levels) where
  -- the rows of the level and of those before it
  pub level_fits : b + length (get_or levels n []) ≤ length (rows_of_levels levels)
  level_fits = omega (arith, p.passed, rows_of_levels-take levels n l, joined_fits levels (n + 1))

  -- the end of a row of the level
  pub end_in : (k : ℕ) → k < length (get_or levels n []) → get_or (ends_of (rows_of_levels levels)) (b + k) 0 ≡ get_or (ends_of (get_or levels n [])) k 0
  end_in k h =
      get_or-map end_of (rows_of_levels levels) (b + k) none 0 (omega (arith, level_fits))
      ∙ ap end_of (ap (λ x. get_or (rows_of_levels levels) (x + k) none) p.passed ∙ get_or-flat_map (λ rows. rows) levels n k [] none l h)
      ∙ sym (get_or-map end_of (get_or levels n []) k none 0 h)

  -- another place in the level
  pub place_in : (j : ℕ) → j ≤ length (get_or levels n []) → IsPlace levels n b j
  place_in j h = record { level = p.level; passed = p.passed; inside = h }

  -- the first place of the next level
  pub place_next : IsPlace levels (n + 1) (b + length (get_or levels n [])) 0
  place_next = record { level = omega arith; passed = omega (arith, p.passed, rows_of_levels-take levels n l); inside = omega arith }

  -- rows of the level that were passed too
  pub passed_in : (end j : ℕ) → ((k : ℕ) → k < b + i → get_or (ends_of (rows_of_levels levels)) k 0 < end)
      → j ≤ length (get_or levels n []) → ((k : ℕ) → k < j → get_or (ends_of (get_or levels n [])) k 0 < end)
      → (k : ℕ) → k < b + j → get_or (ends_of (rows_of_levels levels)) k 0 < end
  passed_in end j before fits here k h =
      ⊎_elim (λ lt. before k (omega arith))
      (λ ge. let m = k - b in let at : b + m ≡ k = omega arith in
      omega (arith, ap (λ x. get_or (ends_of (rows_of_levels levels)) x 0) at, end_in m (omega arith), here m (omega arith)))
      (cases_lt k b)

-- what is read of the element at an index
pub map_at : {X Y : Type 0} (f : X → Y) (xs : List X) (i : ℕ) (x : X) (d : Y) → i < length xs → x ≡ get_or xs i x → get_or (map f xs) i d ≡ f x
map_at f [] i x d l e = absurd (omega arith)
map_at f (y ∷ xs) zero x d l e = ap f (sym e)
map_at f (y ∷ xs) (suc i) x d l e = map_at f xs i x d (omega arith) e

-- ---- one level of those that are walked along

module _ (levels : List (List DocRow)) (n b i : ℕ) (p : IsPlace levels n b i) (l : n < length levels) (ends : List ℕ) (are : ends ≡ ends_of (get_or levels n [])) where
  sized : length ends ≡ length (get_or levels n [])
  sized = ap length are ∙ length-map (get_or levels n []) end_of

  pub end_is : (k : ℕ) → k < length ends → get_or (ends_of (rows_of_levels levels)) (b + k) 0 ≡ get_or ends k 0
  end_is k h = end_in levels n b i p l k (omega (arith, h, sized)) ∙ ap (λ xs. get_or xs k 0) (sym are)

  pub index_fits : i ≤ length ends
  index_fits = omega (arith, p.inside, sized)

  pub rows_fit : IsRising (ends_of (rows_of_levels levels)) → b + length ends < TOP
  rows_fit r = omega (arith, rising_fits (ends_of (rows_of_levels levels)) r, length-map (rows_of_levels levels) end_of, level_fits levels n b i p l, sized)

  -- of the level those at the front were passed
  pub front_passed : (end : ℕ) → ((k : ℕ) → k < b + i → get_or (ends_of (rows_of_levels levels)) k 0 < end) → (k : ℕ) → k < i → get_or ends k 0 < end
  front_passed end before k h = omega (arith, before (b + k) (omega (arith, h)), end_is k (omega (arith, h, index_fits)))

  -- more were passed
  pub more_passed : (end j : ℕ) → ((k : ℕ) → k < b + i → get_or (ends_of (rows_of_levels levels)) k 0 < end) → j ≤ length ends
      → ((k : ℕ) → k < j → get_or ends k 0 < end) → (k : ℕ) → k < b + j → get_or (ends_of (rows_of_levels levels)) k 0 < end
  more_passed end j before fits here =
      passed_in levels n b i p l end j before (omega (arith, fits, sized)) (λ k h. omega (arith, here k h, ap (λ xs. get_or xs k 0) are))

  pub next_place : IsPlace levels (n + 1) (b + length ends) 0
  next_place = subst (λ m. IsPlace levels (n + 1) (b + m) 0) (sym sized) (place_next levels n b i p l)

-- no end is this one
pub none_here : (ends : List ℕ) (n end : ℕ) → IsRising ends → ((k : ℕ) → k < n → get_or ends k 0 < end) → (n < length ends → end < get_or ends n 0) → Contains ends end → ⊥
none_here ends n end r before behind (k, l, e) =
    let at : get_or ends k 0 ≡ end = sym (get_or_default ends k end 0 l) ∙ e in
    ⊎_elim (λ lt. omega (arith, before k lt, at))
    (λ ge. ⊎_elim (λ lt. omega (arith, r.rising n k lt l, behind (omega arith), at))
    (λ le. let same : k ≡ n = omega arith in omega (arith, behind (omega arith), at, ap (λ m. get_or ends m 0) same))
    (cases_lt n k))
    (cases_lt k n)

-- behind all levels everything was passed
pub all_passed : (levels : List (List DocRow)) (n b i : ℕ) → IsPlace levels n b i → length levels ≤ n → length (ends_of (rows_of_levels levels)) ≤ b + i
all_passed levels n b i p l =
    omega (arith, length-map (rows_of_levels levels) end_of, p.passed, ap (λ ls. length (rows_of_levels ls)) (take_all n levels l))
