-- A cover has at most 62 ranges: their levels rise, and then they fall.
use Rattle.std.proofs.Common.{◌≡◌, ◌⊎◌, ⊎_elim, inl, inr, ℕ, zero, suc, ◌+◌, ◌-◌, ◌*◌, ◌/◌, ◌%◌, ◌^◌, ◌≤◌, ◌<◌, List, [], ◌∷◌, length, arith, refl, sym, ap, ◌∙◌}
use Rattle.std.proofs.lemmas.Bool.{cases_lt}
use Rattle.std.proofs.lemmas.Grind.{pow_more}
use Rattle.std.proofs.lemmas.Nat.{pow_pos}
use Rattle.std.proofs.Math.Pow.{pow_mono}
use Rattle.alta_machine.specs.Covers.{Covers, IsGreatest}
use Rattle.alta_machine.specs.declared.range.Range.{Range}
use Rattle.alta_machine.proofs.Levels.{half_of, even_half, narrow}

-- Levels rise: so many ranges stand before a number that is a multiple of 2 to this level.
pub record IsUp (next count : ℕ) : Type 0 where
  pub level : ℕ
  pub half : ℕ
  pub high : level ≤ 32
  pub positive : 0 < next
  pub aligned : next ≡ half * 2 ^ level
  pub few : count ≤ level

-- Levels fall: fewer numbers are left than a range of this level has, which could begin at the next one.
pub record IsDown (next last count : ℕ) : Type 0 where
  pub level : ℕ
  pub half : ℕ
  pub aligned : next ≡ half * 2 ^ level
  pub room : last + 1 < next + 2 ^ level
  pub few : count + level ≤ 62

abbrev pub IsFew : ℕ → ℕ → ℕ → Type 0
IsFew next last count = IsUp next count ⊎ IsDown next last count

pub few_at_start : (first last : ℕ) → last < 2 ^ 32 → IsFew first last 0
few_at_start zero last small = inr (record { level = 33; half = 0; aligned = refl; room = omega arith; few = omega arith })
few_at_start (suc n) last small = inl (record { level = 0; half = suc n; high = omega arith; positive = omega arith; aligned = omega arith; few = omega arith })

-- a positive multiple of a power is at least the power
at_least : (n half level : ℕ) → 0 < n → n ≡ half * 2 ^ level → 2 ^ level ≤ n
at_least n zero level positive e = absurd (omega arith)
at_least n (suc half) level positive e = omega arith

-- of a power below another the exponent is below
pub lower : (a b : ℕ) → 2 ^ a < 2 ^ b → a < b
lower a b h = ⊎_elim (λ l. l) (λ ge. absurd (let m : 2 ^ b ≤ 2 ^ a = pow_mono ge in omega arith)) (cases_lt a b)

below_32 : (n half level : ℕ) → 0 < n → n < 2 ^ 32 → n ≡ half * 2 ^ level → level < 32
below_32 n half level positive small e = lower level 32 (let l : 2 ^ level ≤ n = at_least n half level positive e in omega arith)

one_more : (next : ℕ) (range : Range) → next ≡ range.prefix * 2 ^ range.level → next + 2 ^ range.level ≡ (range.prefix + 1) * 2 ^ range.level
one_more next range e = omega arith

-- behind the greatest range, once no longer one could begin where it begins
falls : (next last half count : ℕ) (range : Range) → last < 2 ^ 32 → IsGreatest next last range → next ≡ half * 2 ^ (range.level + 1) → count + 1 + range.level ≤ 62
    → IsDown (next + 2 ^ range.level) last (count + 1)
falls next last half count range small great e few = record {
  level = range.level;
  half = range.prefix + 1;
  aligned = one_more next range great.fits.begins;
  room = narrow next last half range small great e;
  few = few;
}

-- behind the greatest range, as long as its quotient is odd
rises : (next last count : ℕ) (range : Range) → IsGreatest next last range → range.level < 32 → range.prefix % 2 ≡ 1 → count ≤ range.level
    → IsUp (next + 2 ^ range.level) (count + 1)
rises next last count range great level odd few =
    let q : 2 ^ (range.level + 1) ≡ 2 ^ range.level * 2 = pow_more 2 range.level in
    let half : range.prefix + 1 ≡ (range.prefix + 1) / 2 * 2 = omega arith in
    let e : next + 2 ^ range.level ≡ (range.prefix + 1) * 2 ^ range.level = one_more next range great.fits.begins in
    let f : (range.prefix + 1) * 2 ^ range.level ≡ ((range.prefix + 1) / 2 * 2) * 2 ^ range.level = ap (λ (x : ℕ). x * 2 ^ range.level) half in
    let g : ((range.prefix + 1) / 2 * 2) * 2 ^ range.level ≡ (range.prefix + 1) / 2 * (2 ^ range.level * 2) = omega arith in
    let positive : 0 < 2 ^ range.level = pow_pos range.level in
    record {
      level = range.level + 1;
      half = (range.prefix + 1) / 2;
      high = omega arith;
      positive = omega arith;
      aligned = e ∙ (f ∙ (g ∙ ap (λ (x : ℕ). (range.prefix + 1) / 2 * x) (sym q)));
      few = omega arith;
    }

behind_up : (next last count : ℕ) (range : Range) → last < 2 ^ 32 → next ≤ last → IsGreatest next last range → IsUp next count
    → (count < 62) × IsFew (next + 2 ^ range.level) last (count + 1)
behind_up next last count range small in_it great up =
    let level : up.level < 32 = below_32 next up.half up.level up.positive (omega arith) up.aligned in
    let own : range.level < 32 = below_32 next range.prefix range.level up.positive (omega arith) great.fits.begins in
    let few : count ≤ up.level = up.few in (
      omega arith,
      ⊎_elim
          (λ below. inr (falls next last (up.half * 2 ^ (up.level - range.level - 1)) count range small great (half_of next range.level up.level up.half below up.aligned) (omega arith)))
          (λ above. ⊎_elim
          (λ even.
          let half : next ≡ range.prefix / 2 * 2 ^ (range.level + 1) = even_half next range.level range.prefix great.fits.begins (omega arith) in
          let longer : range.level + 1 < 32 = below_32 next (range.prefix / 2) (range.level + 1) up.positive (omega arith) half in
          inr (falls next last (range.prefix / 2) count range small great half (omega arith)))
          (λ odd. inl (rises next last count range great own (omega arith) (omega arith)))
          (cases_lt (range.prefix % 2) 1))
          (cases_lt range.level up.level),
    )

behind_down : (next last count : ℕ) (range : Range) → last < 2 ^ 32 → IsGreatest next last range → IsDown next last count
    → (count < 62) × IsFew (next + 2 ^ range.level) last (count + 1)
behind_down next last count range small great down =
    let ends : next + 2 ^ range.level ≤ last + 1 = great.fits.ends in
    let room : last + 1 < next + 2 ^ down.level = down.room in
    let below : range.level < down.level = lower range.level down.level (omega arith) in
    let few : count + down.level ≤ 62 = down.few in
    (omega arith, inr (falls next last (down.half * 2 ^ (down.level - range.level - 1)) count range small great (half_of next range.level down.level down.half below down.aligned) (omega arith)))

-- one range more
pub behind : (next last count : ℕ) (range : Range) → last < 2 ^ 32 → next ≤ last → IsGreatest next last range → IsFew next last count
    → (count < 62) × IsFew (next + 2 ^ range.level) last (count + 1)
behind next last count range small in_it great few =
    ⊎_elim (λ up. behind_up next last count range small in_it great up) (λ down. behind_down next last count range small great down) few

at_most : (next last count : ℕ) → IsFew next last count → count ≤ 62
at_most next last count few = ⊎_elim (λ up. omega (arith, up.few, up.high)) (λ down. omega (arith, down.few)) few

-- with those that follow there are at most 62
pub all_few : (ranges : List Range) (next last count : ℕ) → last < 2 ^ 32 → Covers next last ranges → IsFew next last count → count + length ranges ≤ 62
all_few [] next last count small covers few = omega (arith, at_most next last count few)
all_few (range ∷ ranges) next last count small covers few =
    let step : (count < 62) × IsFew (next + 2 ^ range.level) last (count + 1) = behind next last count range small covers.0 covers.1 few in
    let rest : count + 1 + length ranges ≤ 62 = all_few ranges (next + 2 ^ range.level) last (count + 1) small covers.2 step.1 in
    omega arith
