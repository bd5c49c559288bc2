-- Which of several lists have a location, as a number below 2^32.
use Rattle.std.proofs.Common.{◌≡◌, ℕ, ◌+◌, ◌-◌, false, eqb, cond, sym, ap, ◌∙◌, ⊎_elim, arith}
use Rattle.std.specs.Prelude.{nat_eq}
use Rattle.std.proofs.lemmas.Bool.{cases_Bool, cond-true, cond-false, eqb-true, eqb-false}
use Rattle.alta_gather.specs.declared.held.Held.{Held}
use Rattle.alta_gather.specs.declared.held.Held.TheVariants.{Never, Once, Often}

-- the code of two lists at least
abbrev pub often : ℕ
often = 4294967295

-- what a code above 0 tells
abbrev some : ℕ → Held
some code = cond (nat_eq code often) Often (Once (code - 1))

-- what a code tells
abbrev pub held_of : ℕ → Held
held_of code = cond (nat_eq code 0) Never (some code)

abbrev pub code_of : Held → ℕ
code_of Never = 0
code_of (Once index) = index + 1
code_of Often = often

pub code_again : (code : ℕ) → code_of (held_of code) ≡ code
code_again code = ⊎_elim
    (λ zero_is. ap code_of (cond-true (eqb code 0) Never (some code) zero_is) ∙ sym (eqb-true code 0 zero_is))
    (λ above. ap code_of (cond-false (eqb code 0) Never (some code) above) ∙ some_again above)
    (cases_Bool (eqb code 0))
  where
    some_again : eqb code 0 ≡ false → code_of (some code) ≡ code
    some_again above = ⊎_elim
        (λ is. ap code_of (cond-true (eqb code often) Often (Once (code - 1)) is) ∙ sym (eqb-true code often is))
        (λ no. ap code_of (cond-false (eqb code often) Often (Once (code - 1)) no)
        ∙ omega (arith, eqb-false code 0 above))
        (cases_Bool (eqb code often))
