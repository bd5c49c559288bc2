-- Sums over the elements of a rising list that lie in a range.
use Rattle.std.proofs.Common.{◌≡◌, ⊎_elim, ℕ, ◌+◌, ◌-◌, ◌*◌, ◌<◌, ◌≤◌, leb, Bool, true, false, cond, List, [], ◌∷◌, refl, sym, ap, ◌∙◌, arith}
use Rattle.std.proofs.Math.Nat.{mul-le-mul_right}
use Rattle.std.specs.Prelude.{Contains, ◌&&◌, filter, sum_by}
use Rattle.std.proofs.lemmas.Bool.{cases_lt}
use Rattle.std.proofs.lemmas.List.Sums.{sum_by-cons}
use Rattle.alta_codec.specs.declared.location.TheConstants.{TOP}
use Rattle.alta_codec.specs.Rising.{first_from}
use Rattle.alta_codec.proofs.Places.{Contains-head, Contains-tail, Contains-cases, not-Contains-nil, first_from-least, first_from-above}
use Rattle.alta_compound.specs.Unions.{RisesAbove}

abbrev pub is_within : ℕ → ℕ → ℕ → Bool
is_within end first at = leb first at && leb at end

-- the sum over the elements from `first` to `end`
unfoldable pub within : (ℕ → ℕ) → ℕ → List ℕ → ℕ → ℕ
within f end xs first = sum_by f (filter (is_within end first) xs)

-- one more of n, each at most so much
room : (v w n k most s : ℕ) → v ≤ most → w ≤ n * most → n + 1 ≤ k → s ≡ v + w → s ≤ k * most
room v w n k most s a b c d = omega (arith, mul-le-mul_right most c)

module _ (f : ℕ → ℕ) (end : ℕ) where
  step : (b : Bool) (x : ℕ) (xs : List ℕ) (first : ℕ) → is_within end first x ≡ b
      → within f end (x ∷ xs) first ≡ sum_by f (cond b (x ∷ filter (is_within end first) xs) (filter (is_within end first) xs))
  unfolding within
  step b x xs first e = ap (λ v. sum_by f (cond v (x ∷ filter (is_within end first) xs) (filter (is_within end first) xs))) e

  is-yes : (x first : ℕ) → first ≤ x → x ≤ end → is_within end first x ≡ true
  is-yes x first a b = grind (arith, a, b)

  is-low : (x first : ℕ) → x < first → is_within end first x ≡ false
  is-low x first a = grind (arith, a)

  is-high : (x first : ℕ) → end < x → is_within end first x ≡ false
  is-high x first a = grind (arith, a)

  within-yes : (x : ℕ) (xs : List ℕ) (first : ℕ) → first ≤ x → x ≤ end → within f end (x ∷ xs) first ≡ f x + within f end xs first
  unfolding within
  within-yes x xs first a b = step true x xs first (is-yes x first a b) ∙ sum_by-cons f x (filter (is_within end first) xs)

  within-low : (x : ℕ) (xs : List ℕ) (first : ℕ) → x < first → within f end (x ∷ xs) first ≡ within f end xs first
  unfolding within
  within-low x xs first a = step false x xs first (is-low x first a)

  within-high : (x : ℕ) (xs : List ℕ) (first : ℕ) → end < x → within f end (x ∷ xs) first ≡ within f end xs first
  unfolding within
  within-high x xs first a = step false x xs first (is-high x first a)

  within-nil : (first : ℕ) → within f end [] first ≡ 0
  unfolding within
  within-nil first = refl

  -- past the end
  pub within-past : (xs : List ℕ) (first : ℕ) → end < first → within f end xs first ≡ 0
  within-past [] first h = within-nil first
  within-past (x ∷ xs) first h =
      ⊎_elim (λ low. within-low x xs first low ∙ within-past xs first h) (λ ge. within-high x xs first (omega arith) ∙ within-past xs first h) (cases_lt x first)

  -- from a higher place, where no element lies between
  pub within-skip : (xs : List ℕ) (a b : ℕ) → ((z : ℕ) → Contains xs z → a ≤ z → b ≤ z) → a ≤ b → within f end xs a ≡ within f end xs b
  within-skip [] a b gap le = within-nil a ∙ sym (within-nil b)
  within-skip (x ∷ xs) a b gap le =
      let rest = within-skip xs a b (λ z m h. gap z (Contains-tail x xs z m) h) le in
      ⊎_elim (λ low. within-low x xs a low ∙ rest ∙ sym (within-low x xs b (omega arith)))
      (λ ge. let reached : b ≤ x = gap x (Contains-head x xs) ge in
      ⊎_elim (λ past. within-high x xs a past ∙ rest ∙ sym (within-high x xs b past))
      (λ le_end. within-yes x xs a ge le_end ∙ ap (λ n. f x + n) rest ∙ sym (within-yes x xs b reached le_end)) (cases_lt end x))
      (cases_lt x a)

  pub within-first : (xs : List ℕ) (a : ℕ) → a ≤ TOP → within f end xs a ≡ within f end xs (first_from xs a)
  within-first xs a top = within-skip xs a (first_from xs a) (λ z m h. first_from-least xs a z m h) (first_from-above xs a top)

  pub above_each : (low : ℕ) (ys : List ℕ) (z : ℕ) → RisesAbove low ys → Contains ys z → low < z
  above_each low [] z r m = absurd (not-Contains-nil z m)
  above_each low (y ∷ ys) z (a, b, r) m = ⊎_elim (λ e. omega (arith, e)) (λ n. omega (arith, above_each y ys z r n)) (Contains-cases y ys z m)

  -- the first element of the range, and the rest
  pub within-step : (low : ℕ) (xs : List ℕ) (x : ℕ) → RisesAbove low xs → Contains xs x → x ≤ end
      → within f end xs x ≡ f x + within f end xs (x + 1)
  within-step low [] x r m le = absurd (not-Contains-nil x m)
  within-step low (y ∷ ys) x (a, b, r) m le =
      ⊎_elim
      (λ e. let tail = within-skip ys x (x + 1) (λ z n h. omega (arith, above_each y ys z r n, e)) (omega arith) in
      within-yes y ys x (omega (arith, e)) (omega (arith, e)) ∙ ap (λ v. f v + within f end ys x) e ∙ ap (λ n. f x + n) tail
      ∙ ap (λ n. f x + n) (sym (within-low y ys (x + 1) (omega (arith, e)))))
      (λ n. let less : y < x = above_each y ys x r n in
      within-low y ys x less ∙ within-step y ys x r n le ∙ ap (λ v. f x + v) (sym (within-low y ys (x + 1) (omega arith))))
      (Contains-cases y ys x m)

  -- each element counts so much at most, and there are no more than places
  pub within-bound : (most low : ℕ) (xs : List ℕ) (first : ℕ) → ((x : ℕ) → f x ≤ most) → RisesAbove low xs
      → within f end xs first ≤ (end + 1 - first) * most
  within-bound most low [] first h r = omega (arith, within-nil first)
  within-bound most low (x ∷ xs) first h (a, b, r) =
      ⊎_elim (λ below. omega (arith, within-low x xs first below, within-bound most x xs first h r))
      (λ ge. ⊎_elim (λ past. omega (arith, within-high x xs first past, within-bound most x xs first h r))
      (λ le.
      let rest : within f end xs first ≤ (end + 1 - (x + 1)) * most =
      omega (arith, within-skip xs first (x + 1) (λ z m w. omega (arith, above_each x xs z r m)) (omega arith), within-bound most x xs (x + 1) h r) in
      room (f x) (within f end xs first) (end + 1 - (x + 1)) (end + 1 - first) most (within f end (x ∷ xs) first) (h x) rest (omega arith) (within-yes x xs first ge le))
      (cases_lt end x)) (cases_lt x first)
