-- What stays as the place of a list goes on.
use Rattle.std.proofs.Common.{◌≡◌, ⊎_elim, ℕ, ◌<◌, ◌≤◌, List, sym, subst, arith}
use Rattle.std.proofs.lemmas.Bool.{cases_lt}
use Rattle.alta_codec.specs.declared.location.TheConstants.{TOP}
use Rattle.alta_codec.specs.Rising.{IsPlace, first_from, pred_of}
use Rattle.alta_codec.proofs.Places.{first_from-le_top, first_from-above, first_from-is, first_from-least, first_from-place, pred_of-is, pred_of-place, pred_of-below, pred_of-greatest}

-- one place, and the first from it in one list
pub first_stays : (xs : List ℕ) (m t y : ℕ) → y ≡ first_from xs m → m ≤ t → t ≤ y → y ≡ first_from xs t
first_stays xs m t y e low high =
    first_from-is xs t y (subst (λ v. IsPlace xs v) (sym e) (first_from-place xs m)) (omega (arith, e, first_from-le_top xs m)) high
    (λ z n h. omega (arith, e, first_from-least xs m z n (omega arith)))

pub pred_same : (xs : List ℕ) (m y : ℕ) → y ≡ first_from xs m → 0 < m → m ≤ TOP → pred_of xs y ≡ pred_of xs m
pred_same xs m y e positive top =
    pred_of-is xs m (pred_of xs y) (pred_of-place xs y) positive
    (⊎_elim (λ n. ⊎_elim (λ l. l) (λ ge. absurd (omega (arith, e, first_from-least xs m (pred_of xs y) n ge, first_from-above xs m top, pred_of-below xs y (omega (arith, e, first_from-above xs m top))))) (cases_lt (pred_of xs y) m))
    (λ z. omega (arith, z)) (pred_of-place xs y))
    (λ z n h. pred_of-greatest xs y z n (omega (arith, e, first_from-above xs m top)))
