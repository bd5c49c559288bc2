-- The cover as a list covers.
use Rattle.std.proofs.Common.{◌≡◌, ⊎_elim, ℕ, zero, suc, ◌+◌, ◌-◌, ◌*◌, ◌/◌, ◌%◌, ◌^◌, ◌≤◌, ◌<◌, ◌==◌, Bool, true, false, ◌&&◌, if◌then◌else◌, List, [], ◌∷◌, arith, refl, sym, ap, ◌∙◌, subst}
use Rattle.std.specs.Prelude.{nat_lt, nat_le}
use Rattle.std.proofs.lemmas.Bool.{cases_lt, false≢true}
use Rattle.std.proofs.lemmas.Bool.Decides.{nat_tests}
use Rattle.std.specs.List.{All}
use Rattle.std.proofs.lemmas.List.Elements.{All-nil, All-cons}
use Rattle.std.proofs.lemmas.Nat.{pow_pos, pow-add}
use Rattle.std.proofs.Math.Nat.{mul-mod_left}
use Rattle.alta_machine.specs.Covers.{Covers, Fits, IsGreatest, IsRange, is_fit, top_level, range_from, cover_steps, cover_of}
use Rattle.alta_machine.specs.declared.range.Range.{Range}
use Rattle.alta_machine.proofs.Few.{IsFew, few_at_start, behind}

both : (a b : Bool) → (a && b) ≡ true → (a ≡ true) × (b ≡ true)
both true b h = (refl, h)
both false b h = absurd (false≢true h)

and_true : (a b : Bool) → a ≡ true → b ≡ true → (a && b) ≡ true
and_true true b h k = k
and_true false b h k = absurd (false≢true h)

eq_is : (m n : ℕ) → (m == n) ≡ true → m ≡ n
eq_is m n h = grind (arith, nat_tests)

is_eq : (m n : ℕ) → m ≡ n → (m == n) ≡ true
is_eq m n h = grind (arith, nat_tests)

le_is : (m n : ℕ) → nat_le m n ≡ true → m ≤ n
le_is m n h = grind (arith, nat_tests)

is_le : (m n : ℕ) → m ≤ n → nat_le m n ≡ true
is_le m n h = grind (arith, nat_tests)

lt_is : (m n : ℕ) → nat_lt m n ≡ true → m < n
lt_is m n h = grind (arith, nat_tests)

lt_not : (m n : ℕ) → nat_lt m n ≡ false → n ≤ m
lt_not m n h = grind (arith, nat_tests)

exact : (n size : ℕ) → 0 < size → n % size ≡ 0 → n ≡ n / size * size
exact n size positive e = omega arith

fit_fits : (first last level : ℕ) → is_fit first last level ≡ true → Fits first last level (first / 2 ^ level)
fit_fits first last level h =
    let two = both (first % 2 ^ level == 0) (nat_le (first + 2 ^ level) (last + 1)) h in record {
      begins = exact first (2 ^ level) (pow_pos level) (eq_is (first % 2 ^ level) 0 two.0);
      ends = le_is (first + 2 ^ level) (last + 1) two.1;
    }

fits_fit : (first last level prefix : ℕ) → Fits first last level prefix → is_fit first last level ≡ true
fits_fit first last level prefix fits =
    let even : first % 2 ^ level ≡ 0 = ap (λ (n : ℕ). n % 2 ^ level) fits.begins ∙ mul-mod_left prefix (2 ^ level) in
    and_true (first % 2 ^ level == 0) (nat_le (first + 2 ^ level) (last + 1)) (is_eq (first % 2 ^ level) 0 even) (is_le (first + 2 ^ level) (last + 1) fits.ends)

record IsTop (first last high level : ℕ) : Type 0 where
  low : level ≤ high
  fits : Fits first last level (first / 2 ^ level)
  most : (up above : ℕ) → up ≤ high → Fits first last up above → up ≤ level

zero_fits : (first last : ℕ) → first ≤ last → Fits first last 0 (first / 2 ^ 0)
zero_fits first last h = record { begins = omega arith; ends = omega arith }

top_step : (first last high : ℕ) (b : Bool) → is_fit first last (suc high) ≡ b → IsTop first last high (top_level first last high)
    → IsTop first last (suc high) (if b then suc high else top_level first last high)
top_step first last high true e top = record { low = omega arith; fits = fit_fits first last (suc high) e; most = λ up above le fits. le }
top_step first last high false e top =
    let least : top_level first last high ≤ high = top.low in record {
      low = omega arith;
      fits = top.fits;
      most = λ up above le fits. ⊎_elim
          (λ less. top.most up above (omega arith) fits)
          (λ more. let is : up ≡ suc high = omega arith in
          absurd (false≢true (sym e ∙ ap (λ k. is_fit first last k) (sym is) ∙ fits_fit first last up above fits)))
          (cases_lt up (suc high));
    }

is_top : (first last high : ℕ) → first ≤ last → IsTop first last high (top_level first last high)
unfolding top_level
is_top first last zero h = record { low = omega arith; fits = zero_fits first last h; most = λ up above le fits. le }
is_top first last (suc high) h = top_step first last high (is_fit first last (suc high)) refl (is_top first last high h)

pub from_is_greatest : (first last : ℕ) → first ≤ last → IsGreatest first last (range_from first last)
unfolding range_from
from_is_greatest first last h = let top = is_top first last 32 h in record { level = top.low; fits = top.fits; most = top.most }

steps_case : (b : Bool) (first last : ℕ) (range : Range) (more : List Range) → nat_lt last first ≡ b
    → (first ≤ last → IsGreatest first last range × Covers (first + 2 ^ range.level) last more) → Covers first last (if b then [] else range ∷ more)
steps_case true first last range more e on = lt_is last first e
steps_case false first last range more e on = let in_it : first ≤ last = lt_not last first e in (in_it, (on in_it).0, (on in_it).1)

steps_cover : (n count first last : ℕ) → last < 2 ^ 32 → IsFew first last count → 63 ≤ n + count → Covers first last (cover_steps n first last)
unfolding cover_steps
steps_cover zero count first last small few enough = ⊎_elim (λ up. absurd (omega (arith, up.few, up.high))) (λ down. absurd (omega (arith, down.few))) few
steps_cover (suc n) count first last small few enough =
    let range = range_from first last in
    steps_case (nat_lt last first) first last range (cover_steps n (first + 2 ^ range.level) last) refl
    (λ in_it.
    let great : IsGreatest first last range = from_is_greatest first last in_it in
    (great, steps_cover n (count + 1) (first + 2 ^ range.level) last small (behind first last count range small in_it great few).1 (omega arith)))

pub cover_covers : (first last : ℕ) → last < 2 ^ 32 → Covers first last (cover_of first last)
unfolding cover_of
cover_covers first last small = steps_cover 63 0 first last small (few_at_start first last small) (omega arith)

-- ---- each member is a range

wide : (level : ℕ) → level ≤ 32 → 2 ^ 32 ≡ 2 ^ (32 - level) * 2 ^ level
wide level low = let e : 32 - level + level ≡ 32 = omega arith in subst (λ (n : ℕ). 2 ^ n ≡ 2 ^ (32 - level) * 2 ^ level) e (pow-add 2 (32 - level) level)

smaller : (a b size : ℕ) → 0 < size → a * size < b * size → a < b
smaller a b size positive h = ⊎_elim (λ less. less) (λ more. absurd (grind arith)) (cases_lt a b)

is_range : (first last : ℕ) (range : Range) → last < 2 ^ 32 → first ≤ last → IsGreatest first last range → IsRange range
is_range first last range small in_it great = record {
  low = great.level;
  small = let w : 2 ^ 32 ≡ 2 ^ (32 - range.level) * 2 ^ range.level = wide range.level great.level in
      let begins : first ≡ range.prefix * 2 ^ range.level = great.fits.begins in
      smaller range.prefix (2 ^ (32 - range.level)) (2 ^ range.level) (pow_pos range.level) (omega arith);
}

pub all_ranges : (ranges : List Range) (first last : ℕ) → last < 2 ^ 32 → Covers first last ranges → All IsRange ranges
all_ranges [] first last small covers = All-nil IsRange
all_ranges (range ∷ ranges) first last small covers =
    All-cons IsRange range ranges (is_range first last range small covers.0 covers.1) (all_ranges ranges (first + 2 ^ range.level) last small covers.2)

pub cover_made : (first last : ℕ) → last < 2 ^ 32 → Covers first last (cover_of first last) × All IsRange (cover_of first last)
cover_made first last small = (cover_covers first last small, all_ranges (cover_of first last) first last small (cover_covers first last small))
