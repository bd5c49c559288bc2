-- A cover is one list, and each number from the first to the last stands in one of its ranges.
use Rattle.std.proofs.Common.{◌≡◌, ⊎_elim, inl, inr, ℕ, ◌+◌, ◌*◌, ◌/◌, ◌^◌, ◌≤◌, ◌<◌, List, [], ◌∷◌, get_or, arith, refl, sym, ap, ◌∙◌, subst}
use Rattle.std.specs.Int.{w32, to_be_bytes, from_be_bytes}
use Rattle.std.specs.List.{All}
use Rattle.std.proofs.lemmas.Bool.{cases_lt}
use Rattle.std.proofs.lemmas.List.Elements.{All-nil, All-cons}
use Rattle.std.proofs.lemmas.Nat.{pow_pos, from_be_bytes-to_be_bytes_4}
use Rattle.std.proofs.Math.Nat.{eq_of_mul-eq-mul_right, div-mul-le_self, lt-div-mul-add}
use Rattle.alta_machine.specs.Covers.{Covers, Has, IsGreatest}
use Rattle.alta_machine.specs.RangeLaws.{IsOnce, IsCoverOf}
use Rattle.alta_machine.specs.Terms.{term_bytes, Shares}
use Rattle.alta_machine.specs.declared.range.Range.{Range}

-- ---- one list

same_level : (first last : ℕ) (a b : Range) → IsGreatest first last a → IsGreatest first last b → a.level ≡ b.level
same_level first last a b x y =
    let p : a.level ≤ b.level = y.most a.level a.prefix x.level x.fits in
    let q : b.level ≤ a.level = x.most b.level b.prefix y.level y.fits in
    omega arith

same_fields : (a b : Range) → b.level ≡ a.level → b.prefix ≡ a.prefix → b ≡ a
same_fields a b level prefix =
    ap (λ (n : ℕ). let range : Range = record { level = n; prefix = b.prefix } in range) level
    ∙ ap (λ (n : ℕ). let range : Range = record { level = a.level; prefix = n } in range) prefix

same_range : (first last : ℕ) (a b : Range) → IsGreatest first last a → IsGreatest first last b → b ≡ a
same_range first last a b x y =
    let level : a.level ≡ b.level = same_level first last a b x y in
    let begins : a.prefix * 2 ^ b.level ≡ b.prefix * 2 ^ b.level = (sym (ap (λ (k : ℕ). a.prefix * 2 ^ k) level) ∙ sym x.fits.begins) ∙ y.fits.begins in
    let prefix : a.prefix ≡ b.prefix = eq_of_mul-eq-mul_right (2 ^ b.level) (pow_pos b.level) a.prefix b.prefix begins in
    same_fields a b (sym level) (sym prefix)

pub same_cover : (ranges others : List Range) (first last : ℕ) → Covers first last ranges → Covers first last others → others ≡ ranges
same_cover [] [] first last x y = refl
same_cover [] (b ∷ others) first last x y = absurd (omega (arith, x, y.0))
same_cover (a ∷ ranges) [] first last x y = absurd (omega (arith, y, x.0))
same_cover (a ∷ ranges) (b ∷ others) first last x y =
    let range : b ≡ a = same_range first last a b x.1 y.1 in
    let rest : others ≡ ranges = same_cover ranges others (first + 2 ^ a.level) last x.2 (subst (λ (r : Range). Covers (first + 2 ^ r.level) last others) range y.2) in
    cc

-- ---- a range and its numbers

-- the numbers of a range lie from where it begins
pub has_between : (first last value : ℕ) (range : Range) → IsGreatest first last range → Has range value → (first ≤ value) × (value < first + 2 ^ range.level)
has_between first last value range great has =
    let low : value / 2 ^ range.level * 2 ^ range.level ≤ value = div-mul-le_self value (2 ^ range.level) in
    let high : value < value / 2 ^ range.level * 2 ^ range.level + 2 ^ range.level = lt-div-mul-add (pow_pos range.level) in
    let is : value / 2 ^ range.level * 2 ^ range.level ≡ range.prefix * 2 ^ range.level = ap (λ (x : ℕ). x * 2 ^ range.level) has in
    let begins : first ≡ range.prefix * 2 ^ range.level = great.fits.begins in
    (omega arith, omega arith)

between_has : (first last value : ℕ) (range : Range) → IsGreatest first last range → first ≤ value → value < first + 2 ^ range.level → Has range value
between_has first last value range great low high =
    let p : value / 2 ^ range.level * 2 ^ range.level ≤ value = div-mul-le_self value (2 ^ range.level) in
    let q : value < value / 2 ^ range.level * 2 ^ range.level + 2 ^ range.level = lt-div-mul-add (pow_pos range.level) in
    let begins : first ≡ range.prefix * 2 ^ range.level = great.fits.begins in
    close (value / 2 ^ range.level) range.prefix (2 ^ range.level) value (omega arith) (omega arith) p q
  where
    -- two multiples of a size that both reach less than the size below a number are one
    close : (a b size value : ℕ) → b * size ≤ value → value < b * size + size → a * size ≤ value → value < a * size + size → a ≡ b
    close a b size value x y p q =
        ⊎_elim (λ less. absurd (grind arith)) (λ ge. ⊎_elim (λ less. absurd (grind arith)) (λ le. omega arith) (cases_lt b a)) (cases_lt a b)

small_prefix : (first last : ℕ) (range : Range) → last < 2 ^ 32 → first ≤ last → IsGreatest first last range → range.prefix < 2 ^ 32
small_prefix first last range small in_it great =
    let begins : first ≡ range.prefix * 2 ^ range.level = great.fits.begins in
    let positive : 0 < 2 ^ range.level = pow_pos range.level in
    grind arith

-- ---- terms

has_shares : (first last value : ℕ) (range : Range) → IsGreatest first last range → Has range value → Shares range value
has_shares first last value range great has = record { level = range.level; low = great.level; same = ap (λ (p : ℕ). term_bytes range.level p) has }

third : List ℕ → ℕ
third bytes = get_or bytes 2 0

pub same_prefix : (a b : ℕ) → a < 2 ^ 32 → b < 2 ^ 32 → to_be_bytes w32 a ≡ to_be_bytes w32 b → a ≡ b
same_prefix a b x y e = sym (from_be_bytes-to_be_bytes_4 a x) ∙ (ap (λ (bs : List ℕ). from_be_bytes w32 bs) e ∙ from_be_bytes-to_be_bytes_4 b y)

pub of_terms : (k j a b : ℕ) → term_bytes k a ≡ term_bytes j b → (k ≡ j) × (to_be_bytes w32 a ≡ to_be_bytes w32 b)
unfolding term_bytes
of_terms k j a b e = (cc, cc)

quotient_small : (value level : ℕ) → value < 2 ^ 32 → value / 2 ^ level < 2 ^ 32
quotient_small value level h = let p : value / 2 ^ level * 2 ^ level ≤ value = div-mul-le_self value (2 ^ level) in let q : 0 < 2 ^ level = pow_pos level in grind arith

pub shares_has : (first last value : ℕ) (range : Range) → last < 2 ^ 32 → first ≤ last → IsGreatest first last range → value < 2 ^ 32 → Shares range value → Has range value
shares_has first last value range small in_it great fits shares =
    let both : (shares.level ≡ range.level) × (to_be_bytes w32 (value / 2 ^ shares.level) ≡ to_be_bytes w32 range.prefix) = of_terms shares.level range.level (value / 2 ^ shares.level) range.prefix shares.same in
    let quotient : value / 2 ^ shares.level ≡ range.prefix = same_prefix (value / 2 ^ shares.level) range.prefix (quotient_small value shares.level fits) (small_prefix first last range small in_it great) both.1 in
    subst (λ (k : ℕ). value / 2 ^ k ≡ range.prefix) both.0 quotient

-- ---- the law

pub all_has : (ranges : List Range) (first last value : ℕ) → last < 2 ^ 32 → Covers first last ranges → value < 2 ^ 32 → All (λ range. Shares range value → Has range value) ranges
all_has [] first last value small covers fits = All-nil _
all_has (range ∷ ranges) first last value small covers fits =
    All-cons (λ (r : Range). Shares r value → Has r value) range ranges (λ shares. shares_has first last value range small covers.0 covers.1 fits shares) (all_has ranges (first + 2 ^ range.level) last value small covers.2 fits)

-- what shares a term with a range of a cover lies from the first number to the last, or to any number before
all_within : (ranges : List Range) (low first last value : ℕ) → low ≤ first → last < 2 ^ 32 → Covers first last ranges → value < 2 ^ 32
    → All (λ range. Shares range value → (low ≤ value) × (value ≤ last)) ranges
all_within [] low first last value less small covers fits = All-nil _
all_within (range ∷ ranges) low first last value less small covers fits =
    All-cons (λ (r : Range). Shares r value → (low ≤ value) × (value ≤ last)) range ranges
    (λ shares.
    let at : (first ≤ value) × (value < first + 2 ^ range.level) = has_between first last value range covers.1 (shares_has first last value range small covers.0 covers.1 fits shares) in
    let ends : first + 2 ^ range.level ≤ last + 1 = covers.1.fits.ends in
    let from : first ≤ value = at.0 in
    let to : value < first + 2 ^ range.level = at.1 in
    (omega arith, omega arith))
    (all_within ranges low (first + 2 ^ range.level) last value (omega arith) small covers.2 fits)

-- no range of a cover shares a term with a number before it
none_before : (ranges : List Range) (first last value : ℕ) → last < 2 ^ 32 → Covers first last ranges → value < first → value < 2 ^ 32 → All (λ range. Shares range value → ⊥) ranges
none_before [] first last value small covers before fits = All-nil _
none_before (range ∷ ranges) first last value small covers before fits =
    All-cons (λ (r : Range). Shares r value → ⊥) range ranges
    (λ shares. let at : (first ≤ value) × (value < first + 2 ^ range.level) = has_between first last value range covers.1 (shares_has first last value range small covers.0 covers.1 fits shares) in omega (arith, at.0))
    (none_before ranges (first + 2 ^ range.level) last value small covers.2 (omega arith) fits)

once : (ranges : List Range) (first last value : ℕ) → last < 2 ^ 32 → Covers first last ranges → first ≤ value → value ≤ last → IsOnce value ranges
once [] first last value small covers low high = omega (arith, covers)
once (range ∷ ranges) first last value small covers low high =
    ⊎_elim
    (λ inside. inl (has_shares first last value range covers.1 (between_has first last value range covers.1 low inside), none_before ranges (first + 2 ^ range.level) last value small covers.2 inside (omega arith)))
    (λ behind. inr (
      (λ shares. let at : (first ≤ value) × (value < first + 2 ^ range.level) = has_between first last value range covers.1 (shares_has first last value range small covers.0 covers.1 (omega arith) shares) in omega (arith, at.1)),
      once ranges (first + 2 ^ range.level) last value small covers.2 behind high,
    ))
    (cases_lt value (first + 2 ^ range.level))

pub is_cover : (first last : ℕ) (ranges : List Range) → last < 2 ^ 32 → Covers first last ranges → IsCoverOf first last ranges
is_cover first last ranges small covers = record {
  once = λ value low high. once ranges first last value small covers low high;
  has = λ value fits. all_has ranges first last value small covers fits;
  within = λ value fits. all_within ranges first first last value (omega arith) small covers fits;
}
