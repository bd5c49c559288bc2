-- Numbers of one or of two bytes.
use Rattle.std.proofs.Common.{◌≡◌, ⊎_elim, inr, ℕ, ◌+◌, ◌-◌, ◌*◌, ◌<◌, ◌≤◌, List, length, drop, get_or, refl, sym, subst, ap, ◌∙◌, arith}
use Rattle.std.specs.Prelude.{Err, Some, None}
use Rattle.std.proofs.lemmas.Bool.{cases_lt}
use Rattle.alta_codec.specs.declared.location.TheConstants.{TOP}
use Rattle.alta_codec.specs.declared.number.CodeFault.{CodeFault}
use Rattle.alta_codec.specs.declared.number.CodeFault.TheVariants as code
use Rattle.alta_codec.specs.Numbers.{with_low, number_from}
use Rattle.alta_codec.proofs.Numerals.{read_ok, AreBytes, number_last, number_long, number_more}
use Rattle.alta_postings.specs.Deltas.{cause_of, fault_at, fault_from, IsStep}
use Rattle.alta_postings.specs.Short.{IsShort}
use Rattle.alta_postings.proofs.Reading.{number_two, shows_code, sound_at, step_at}

pub short_number : (s : List ℕ) (at n e : ℕ) → at + 1 < length s → IsShort s at n e → (128 ≤ get_or s at 0 → 0 < get_or s (at + 1) 0) → number_from 9 at (drop at s) ≡ read_ok n e
short_number s at n e l h some =
    ⊎_elim
    (λ low.
    let (x, y) = h.one low in
    sym (number_last s at 9 (omega arith) (omega arith) low (inr (omega arith))) ∙ ap (λ i. read_ok i (at + 1)) (sym x) ∙ ap (λ i. read_ok n i) (sym y))
    (λ high.
    let (last, x, y) = h.two high in
    sym (number_two s at (get_or s at 0 - 128) (get_or s (at + 1) 0) l refl refl high (some high) last) ∙ ap (λ i. read_ok i (at + 2)) (sym x) ∙ ap (λ i. read_ok n i) (sym y))
    (cases_lt (get_or s at 0) 128)

-- a number of two bytes that is above all of one byte is not spelled too long
pub long_enough : (s : List ℕ) (at n e : ℕ) → get_or s at 0 < 256 → IsShort s at n e → 127 * (e - at - 1) < n → 128 ≤ get_or s at 0 → 0 < get_or s (at + 1) 0
long_enough s at n e byte h more high = let (last, x, y) = h.two high in omega arith

pub short_step : (s : List ℕ) (at before n e : ℕ) → AreBytes s → at + 1 < length s → IsShort s at n e → 127 * (e - at - 1) < n → before + n < TOP → IsStep s at before (before + n) e
short_step s at before n e bytes l h more low =
    step_at s at before n e bytes (omega arith) (short_number s at n e l h (long_enough s at n e (bytes at (omega arith)) h more)) (omega arith) low

too_long : (s : List ℕ) (at : ℕ) → at + 1 < length s → 128 ≤ get_or s at 0 → get_or s (at + 1) 0 ≡ 0 → number_from 9 at (drop at s) ≡ Err (code.Long (at + 1))
too_long s at l high zero =
    number_more s at 9 (omega arith) (omega arith) high ∙ ap (with_low (get_or s at 0 - 128)) (sym (number_long s (at + 1) 8 l zero (omega arith)))

no_code : (s : List ℕ) (at before : ℕ) (f : CodeFault) → at < length s → number_from 9 at (drop at s) ≡ Err f → fault_from at 0 before (drop at s) ≡ None → 1 ≤ 0
no_code s at before f l h none = let w : Some (fault_at at (cause_of f)) ≡ None = sym (shows_code s at before f l h) ∙ none in absurd cc

-- where there is no fault, the number is in its shortest spelling
pub short_sound : (s : List ℕ) (at before n e : ℕ) → at + 1 < length s → IsShort s at n e → fault_from at 0 before (drop at s) ≡ None → number_from 9 at (drop at s) ≡ read_ok n e
short_sound s at before n e l h none = short_number s at n e l h
    (λ high. ⊎_elim
    (λ low. absurd (omega (arith, no_code s at before (code.Long (at + 1)) (omega arith) (too_long s at l high (omega arith)) none)))
    (λ some. some)
    (cases_lt (get_or s (at + 1) 0) 1))

-- a number of one byte
one_number : (s : List ℕ) (at : ℕ) → at < length s → get_or s at 0 < 128 → number_from 9 at (drop at s) ≡ read_ok (get_or s at 0) (at + 1)
one_number s at l low = sym (number_last s at 9 l (omega arith) low (inr (omega arith)))

pub one_step : (s : List ℕ) (at before : ℕ) → AreBytes s → at < length s → 0 < get_or s at 0 → get_or s at 0 < 128 → before + get_or s at 0 < TOP → IsStep s at before (before + get_or s at 0) (at + 1)
one_step s at before bytes l some low top = step_at s at before (get_or s at 0) (at + 1) bytes l (one_number s at l low) some top

pub one_sound : (s : List ℕ) (at before n : ℕ) → AreBytes s → at < length s → n ≡ get_or s at 0 → n < 128 → fault_from at 0 before (drop at s) ≡ None → IsStep s at before (before + n) (at + 1)
one_sound s at before n bytes l e low none =
    let h = one_number s at l (omega arith) ∙ ap (λ i. read_ok i (at + 1)) (sym e) in
    let g = sound_at s at before n (at + 1) bytes l h none in
    step_at s at before n (at + 1) bytes l h g.positive g.low

-- the next number of a run of numbers of one byte each
pub next_of_run : (s : List ℕ) (at i last y : ℕ) → AreBytes s → at + i < length s → 0 < get_or s (at + i) 0 → get_or s (at + i) 0 < 128 → y ≡ last + get_or s (at + i) 0 → y < TOP → IsStep s (at + i) last y (at + (i + 1))
next_of_run s at i last y bytes l some low e top =
    let k : at + i + 1 ≡ at + (i + 1) = omega arith in
    let here = one_step s (at + i) last bytes l some low (omega arith) in
    subst (λ (n : ℕ). IsStep s (at + i) last y n) k (subst (λ (n : ℕ). IsStep s (at + i) last n (at + i + 1)) (sym e) here)

-- a number of two bytes
pub two_step : (s : List ℕ) (at before y : ℕ) → AreBytes s → at + 1 < length s → 128 ≤ get_or s at 0 → 0 < get_or s (at + 1) 0 → get_or s (at + 1) 0 < 128
    → y + 128 ≡ before + get_or s at 0 + 128 * get_or s (at + 1) 0 → y < TOP → IsStep s at before y (at + 1 + 1)
two_step s at before y bytes l more some last is top =
    let n = get_or s at 0 - 128 + 128 * get_or s (at + 1) 0 in
    let e : before + n ≡ y = omega arith in
    let k : at + 2 ≡ at + 1 + 1 = omega arith in
    let here = step_at s at before n (at + 2) bytes (omega arith) (sym (number_two s at (get_or s at 0 - 128) (get_or s (at + 1) 0) l refl refl more some last)) (omega arith) (omega arith) in
    subst (λ (i : ℕ). IsStep s at before y i) k (subst (λ (i : ℕ). IsStep s at before i (at + 2)) e here)
