-- A search of a rising list by quarters.
use Rattle.std.proofs.Common.{◌≡◌, ⊎_elim, ℕ, ◌+◌, ◌-◌, ◌*◌, ◌<◌, ◌≤◌, Bool, true, false, List, length, get_or, refl, ap, arith}
use Rattle.std.specs.Int.{from_bool}
use Rattle.std.specs.Prelude.{nat_lt}
use Rattle.std.proofs.lemmas.Bool.{cases_lt}
use Rattle.std.proofs.lemmas.Bool.Decides.{nat_tests}
use Rattle.alta_codec.specs.Rising.{IsRising}

-- what stands in front of an element below a number is below it too
pub up_to : (list : List ℕ) (to k j : ℕ) → IsRising list → k ≤ j → j < length list → get_or list j 0 < to → get_or list k 0 < to
up_to list to k j h a l b =
    ⊎_elim (λ w. omega (arith, h.rising k j w l, b)) (λ g. let e : k ≡ j = omega arith in omega (arith, ap (λ i. get_or list i 0) e, b)) (cases_lt k j)

-- of three parts those were passed that end below a number
pub record PassesParts (list : List ℕ) (low part to r : ℕ) : Type 0 where
  pub after : low ≤ r
  pub near : r ≤ low + 3 * part
  pub before : (k : ℕ) → low ≤ k → k < r → get_or list k 0 < to
  pub found : r < low + 3 * part → to ≤ get_or list (r + part - 1) 0

module _ (list : List ℕ) (low part to : ℕ) (h : IsRising list) (some : 0 < part) (within : low + 3 * part ≤ length list) where
  passes : (r : ℕ) → low ≤ r → r ≤ low + 3 * part → (low < r → get_or list (r - 1) 0 < to) → (r < low + 3 * part → to ≤ get_or list (r + part - 1) 0) → PassesParts list low part to r
  passes r a n last next = record {
    after = a;
    near = n;
    before = λ k from below. up_to list to k (r - 1) h (omega arith) (omega arith) (last (omega arith));
    found = next;
  }

  pub three_parts : (a b c : Bool) (r : ℕ)
      → (a ≡ true → get_or list (low + part - 1) 0 < to) → (a ≡ false → to ≤ get_or list (low + part - 1) 0)
      → (b ≡ true → get_or list (low + 2 * part - 1) 0 < to) → (b ≡ false → to ≤ get_or list (low + 2 * part - 1) 0)
      → (c ≡ true → get_or list (low + 3 * part - 1) 0 < to) → (c ≡ false → to ≤ get_or list (low + 3 * part - 1) 0)
      → r ≡ low + part * (from_bool a + from_bool b + from_bool c) → PassesParts list low part to r
  three_parts false true c r a₁ a₀ b₁ b₀ c₁ c₀ e = absurd (omega (arith, up_to list to (low + part - 1) (low + 2 * part - 1) h (omega arith) (omega arith) (b₁ refl), a₀ refl))
  three_parts false false true r a₁ a₀ b₁ b₀ c₁ c₀ e = absurd (omega (arith, up_to list to (low + part - 1) (low + 3 * part - 1) h (omega arith) (omega arith) (c₁ refl), a₀ refl))
  three_parts true false true r a₁ a₀ b₁ b₀ c₁ c₀ e = absurd (omega (arith, up_to list to (low + 2 * part - 1) (low + 3 * part - 1) h (omega arith) (omega arith) (c₁ refl), b₀ refl))
  three_parts false false false r a₁ a₀ b₁ b₀ c₁ c₀ e =
      let at : r + part - 1 ≡ low + part - 1 = omega arith in
      passes r (omega arith) (omega arith) (λ w. absurd (omega arith)) (λ w. omega (arith, ap (λ i. get_or list i 0) at, a₀ refl))
  three_parts true false false r a₁ a₀ b₁ b₀ c₁ c₀ e =
      let behind : r - 1 ≡ low + part - 1 = omega arith in
      let at : r + part - 1 ≡ low + 2 * part - 1 = omega arith in
      passes r (omega arith) (omega arith) (λ w. omega (arith, ap (λ i. get_or list i 0) behind, a₁ refl)) (λ w. omega (arith, ap (λ i. get_or list i 0) at, b₀ refl))
  three_parts true true false r a₁ a₀ b₁ b₀ c₁ c₀ e =
      let behind : r - 1 ≡ low + 2 * part - 1 = omega arith in
      let at : r + part - 1 ≡ low + 3 * part - 1 = omega arith in
      passes r (omega arith) (omega arith) (λ w. omega (arith, ap (λ i. get_or list i 0) behind, b₁ refl)) (λ w. omega (arith, ap (λ i. get_or list i 0) at, c₀ refl))
  three_parts true true true r a₁ a₀ b₁ b₀ c₁ c₀ e =
      let behind : r - 1 ≡ low + 3 * part - 1 = omega arith in
      passes r (omega arith) (omega arith) (λ w. omega (arith, ap (λ i. get_or list i 0) behind, c₁ refl)) (λ w. absurd (omega arith))

  -- the same of the numbers that the three tests give
  pub three_tests : (x y z : ℕ) → x ≡ from_bool (nat_lt (get_or list (low + part - 1) 0) to) → y ≡ from_bool (nat_lt (get_or list (low + 2 * part - 1) 0) to) → z ≡ from_bool (nat_lt (get_or list (low + 3 * part - 1) 0) to)
      → PassesParts list low part to (low + part * (x + y + z))
  three_tests x y z p q s =
      let a = nat_lt (get_or list (low + part - 1) 0) to in
      let b = nat_lt (get_or list (low + 2 * part - 1) 0) to in
      let c = nat_lt (get_or list (low + 3 * part - 1) 0) to in
      three_parts a b c (low + part * (x + y + z)) (λ e. grind (arith, nat_tests)) (λ e. grind (arith, nat_tests)) (λ e. grind (arith, nat_tests)) (λ e. grind (arith, nat_tests))
      (λ e. grind (arith, nat_tests)) (λ e. grind (arith, nat_tests)) cc

-- what is behind the parts stays at or above a number
pub ahead_of : (list : List ℕ) (low part left to r : ℕ) → IsRising list → 0 < part → 4 * part ≤ left → low + left ≤ length list → (low + left < length list → to ≤ get_or list (low + left) 0)
    → r ≤ low + 3 * part → (r < low + 3 * part → to ≤ get_or list (r + part - 1) 0) → r + (left - 3 * part) < length list → to ≤ get_or list (r + (left - 3 * part)) 0
ahead_of list low part left to r h some four within ahead near found here =
    ⊎_elim (λ w. omega (arith, found w, h.rising (r + part - 1) (r + (left - 3 * part)) (omega arith) here))
    (λ g. let e : r + (left - 3 * part) ≡ low + left = omega arith in omega (arith, ap (λ i. get_or list i 0) e, ahead (omega arith))) (cases_lt r (low + 3 * part))
