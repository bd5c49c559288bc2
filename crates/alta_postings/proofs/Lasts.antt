-- The last locations of rows and groups rise.
use Rattle.std.proofs.Common.{◌≡◌, ⊎_elim, ℕ, zero, suc, ◌+◌, ◌-◌, ◌*◌, ◌<◌, ◌≤◌, List, subst, ap, ◌∙◌, arith}
use Rattle.std.proofs.lemmas.Bool.{cases_lt}
use Rattle.alta_postings.specs.Table.{field_at, groups_of, last_row, IsSummary}

last_step : (bs : List ℕ) (b j : ℕ) → IsSummary bs b → j + 1 < b → field_at bs (3 * j + 1) < field_at bs (3 * (j + 1) + 1)
last_step bs b j s l =
    let k = 3 * (j + 1) in
    let f = (s.keeps k (omega arith)).first (omega arith) (omega arith) (omega arith) in
    let g = (s.keeps (k + 1) (omega arith)).last (omega arith) (omega arith) in
    let e : k - 2 ≡ 3 * j + 1 = omega arith in
    let d : k + 1 - 1 ≡ k = omega arith in
    omega (arith, f, g, ap (field_at bs) e, ap (field_at bs) d)

pub lasts_rise : (bs : List ℕ) (b i j : ℕ) → IsSummary bs b → i < j → j < b → field_at bs (3 * i + 1) < field_at bs (3 * j + 1)
lasts_rise bs b i zero s h l = absurd (omega arith)
lasts_rise bs b i (suc j) s h l =
    let e : j + 1 ≡ suc j = omega arith in
    let step : field_at bs (3 * j + 1) < field_at bs (3 * suc j + 1) = subst (λ n. field_at bs (3 * j + 1) < field_at bs (3 * n + 1)) e (last_step bs b j s (omega arith)) in
    ⊎_elim (λ lt. omega (arith, step, lasts_rise bs b i j s lt (omega arith)))
    (λ ge. let same : i ≡ j = omega arith in omega (arith, step, ap (λ n. field_at bs (3 * n + 1)) same)) (cases_lt i j)

pub lasts_le : (bs : List ℕ) (b i j : ℕ) → IsSummary bs b → i ≤ j → j < b → field_at bs (3 * i + 1) ≤ field_at bs (3 * j + 1)
lasts_le bs b i j s h l =
    ⊎_elim (λ lt. omega (arith, lasts_rise bs b i j s lt l)) (λ ge. let same : i ≡ j = omega arith in omega (arith, ap (λ n. field_at bs (3 * n + 1)) same)) (cases_lt i j)

-- a group's field is the last of its last row
pub group_is : (bs : List ℕ) (b g : ℕ) → IsSummary bs b → g < groups_of b → field_at bs (3 * b + g) ≡ field_at bs (3 * last_row b g + 1)
group_is bs b g s l =
    let e : 3 * b + g - 3 * b ≡ g = omega arith in
    (s.keeps (3 * b + g) (omega arith)).group (omega arith) ∙ ap (λ n. field_at bs (3 * last_row b n + 1)) e

pub groups_le : (bs : List ℕ) (b g h : ℕ) → IsSummary bs b → g ≤ h → h < groups_of b → field_at bs (3 * b + g) ≤ field_at bs (3 * b + h)
groups_le bs b g h s le l =
    omega (arith, group_is bs b g s (omega arith), group_is bs b h s l, lasts_le bs b (last_row b g) (last_row b h) s (omega arith) (omega arith))

-- rows of the groups before one that reaches a place are below it
pub passed_rows : (bs : List ℕ) (b n to i : ℕ) → IsSummary bs b → n < groups_of b → ((g : ℕ) → g < n → field_at bs (3 * b + g) < to) → i < 64 * n → field_at bs (3 * i + 1) < to
passed_rows bs b n to i s l before h =
    let g = n - 1 in
    omega (arith, before g (omega arith), group_is bs b g s (omega arith), lasts_le bs b i (last_row b g) s (omega arith) (omega arith))
