-- Ranges that begin at the same number.
use Rattle.std.proofs.Common.{◌≡◌, ⊎_elim, ℕ, ◌+◌, ◌-◌, ◌*◌, ◌/◌, ◌%◌, ◌^◌, ◌≤◌, ◌<◌, arith, sym, ap, ◌∙◌, subst}
use Rattle.std.proofs.lemmas.Bool.{cases_lt}
use Rattle.std.proofs.lemmas.Grind.{pow_more}
use Rattle.std.proofs.lemmas.Nat.{pow_pos, pow-add}
use Rattle.std.proofs.Math.Nat.{eq_of_mul-eq-mul_right, mul-mod_left}
use Rattle.std.proofs.Math.Pow.{pow_mono}
use Rattle.alta_machine.specs.Covers.{Fits, IsGreatest}
use Rattle.alta_machine.specs.declared.range.Range.{Range}

-- a greater power is a smaller one, times two, and a third
pub powers : (k j : ℕ) → k < j → 2 ^ j ≡ 2 ^ (j - k - 1) * 2 * 2 ^ k
powers k j h =
    let e : (j - k - 1) + 1 + k ≡ j = omega arith in
    subst (λ (n : ℕ). 2 ^ n ≡ 2 ^ (j - k - 1) * 2 * 2 ^ k) e (pow-add 2 ((j - k - 1) + 1) k ∙ ap (λ (x : ℕ). x * 2 ^ k) (pow_more 2 (j - k - 1)))

-- a multiple of a greater power is one of twice a smaller
pub half_of : (first k j prefix : ℕ) → k < j → first ≡ prefix * 2 ^ j → first ≡ (prefix * 2 ^ (j - k - 1)) * 2 ^ (k + 1)
half_of first k j prefix h e =
    let p : 2 ^ j ≡ 2 ^ (j - k - 1) * 2 * 2 ^ k = powers k j h in
    let q : 2 ^ (k + 1) ≡ 2 ^ k * 2 = pow_more 2 k in
    (e ∙ ap (λ (x : ℕ). prefix * x) p) ∙ (let r : prefix * (2 ^ (j - k - 1) * 2 * 2 ^ k) ≡ (prefix * 2 ^ (j - k - 1)) * (2 ^ k * 2) = omega arith in r ∙ ap (λ (x : ℕ). (prefix * 2 ^ (j - k - 1)) * x) (sym q))

-- an even multiple of a power is one of twice the power
pub even_half : (first level prefix : ℕ) → first ≡ prefix * 2 ^ level → prefix % 2 ≡ 0 → first ≡ prefix / 2 * 2 ^ (level + 1)
even_half first level prefix e even =
    let q : 2 ^ (level + 1) ≡ 2 ^ level * 2 = pow_more 2 level in
    let half : prefix ≡ prefix / 2 * 2 = omega arith in
    let g : (prefix / 2 * 2) * 2 ^ level ≡ prefix / 2 * (2 ^ level * 2) = omega arith in
    e ∙ (ap (λ (x : ℕ). x * 2 ^ level) half ∙ (g ∙ ap (λ (x : ℕ). prefix / 2 * x) (sym q)))

-- where a longer range begins at the same number, the quotient is even and twice as many numbers fit
pub higher : (first last level prefix up above : ℕ) → first ≡ prefix * 2 ^ level → Fits first last up above → level < up
    → (prefix % 2 ≡ 0) × (first + 2 ^ level * 2 ≤ last + 1)
higher first last level prefix up above begins fits lt =
    let q : 2 ^ (level + 1) ≡ 2 ^ level * 2 = pow_more 2 level in
    let half : first ≡ (above * 2 ^ (up - level - 1)) * 2 ^ (level + 1) = half_of first level up above lt fits.begins in
    let twice : (above * 2 ^ (up - level - 1)) * (2 ^ level * 2) ≡ (above * 2 ^ (up - level - 1) * 2) * 2 ^ level = omega arith in
    let same : prefix * 2 ^ level ≡ (above * 2 ^ (up - level - 1) * 2) * 2 ^ level = (sym begins ∙ half) ∙ (ap (λ (x : ℕ). (above * 2 ^ (up - level - 1)) * x) q ∙ twice) in
    let e : prefix ≡ above * 2 ^ (up - level - 1) * 2 = eq_of_mul-eq-mul_right (2 ^ level) (pow_pos level) prefix (above * 2 ^ (up - level - 1) * 2) same in
    let even : prefix % 2 ≡ 0 = ap (λ (x : ℕ). x % 2) e ∙ mul-mod_left (above * 2 ^ (up - level - 1)) 2 in
    let wide : 2 ^ (level + 1) ≤ 2 ^ up = pow_mono (omega arith) in
    let ends : first + 2 ^ up ≤ last + 1 = fits.ends in
    (even, omega arith)

-- a range is the greatest that begins there if its quotient is odd or a range twice as long does not fit
pub greatest_here : (first last level prefix : ℕ) → level ≤ 32 → Fits first last level prefix → (prefix % 2 ≡ 0 → first + 2 ^ level * 2 ≤ last + 1 → ⊥)
    → IsGreatest first last (record { level = level; prefix = prefix })
greatest_here first last level prefix low fits none = record {
  level = low;
  fits = fits;
  most = λ up above high other. ⊎_elim
      (λ less. let found : (prefix % 2 ≡ 0) × (first + 2 ^ level * 2 ≤ last + 1) = higher first last level prefix up above fits.begins other less in absurd (none found.0 found.1))
      (λ more. more)
      (cases_lt level up);
}

-- behind the greatest range there is less room than it has numbers, if a multiple of twice its size begins there
pub narrow : (first last half : ℕ) (range : Range) → last < 2 ^ 32 → IsGreatest first last range → first ≡ half * 2 ^ (range.level + 1)
    → last + 1 < (first + 2 ^ range.level) + 2 ^ range.level
narrow first last half range small great e =
    let q : 2 ^ (range.level + 1) ≡ 2 ^ range.level * 2 = pow_more 2 range.level in
    let level : range.level ≤ 32 = great.level in
    let positive : 0 < 2 ^ range.level = pow_pos range.level in
    ⊎_elim
    (λ lower. ⊎_elim
    (λ less. less)
    (λ more. absurd (let most : range.level + 1 ≤ range.level = great.most (range.level + 1) half (omega arith) (record { begins = e; ends = omega arith }) in omega arith))
    (cases_lt (last + 1) ((first + 2 ^ range.level) + 2 ^ range.level)))
    (λ top. let is : range.level ≡ 32 = omega arith in let whole : 2 ^ range.level ≡ 2 ^ 32 = ap (λ (k : ℕ). 2 ^ k) is in omega arith)
    (cases_lt range.level 32)
