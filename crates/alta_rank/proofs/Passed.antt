-- Readers that have passed no location of a range.
use Rattle.std.proofs.Common.{◌≡◌, ⊎_elim, ℕ, ◌+◌, ◌<◌, ◌≤◌, List, drop, set, sym, subst, arith}
use Rattle.std.specs.Prelude.{All, Contains}
use Rattle.std.proofs.lemmas.List.{drop-drop, drop-set-lt}
use Rattle.std.proofs.lemmas.List.Elements.{All-drop, All-set}
use Rattle.std.proofs.lemmas.Bool.{cases_lt}
use Rattle.alta_codec.specs.declared.location.TheConstants.{TOP}
use Rattle.alta_codec.specs.Rising.{IsRising, IsPlace, first_from, pred_of}
use Rattle.alta_codec.proofs.Places.{first_from-above, first_from-least, first_from-place, pred_of-place, pred_of-below, pred_of-greatest, pred_of-is}
use Rattle.alta_compound.proofs.InStep.{place-positive}
use Rattle.alta_rank.specs.Counted.{AreBehind}

-- the last below a place is the last below a lower one, where no element lies between
pub pred_of-gap : (xs : List ℕ) (a b : ℕ) → 0 < a → ((z : ℕ) → Contains xs z → z < b → z < a) → a ≤ b → pred_of xs b ≡ pred_of xs a
pred_of-gap xs a b positive gap le =
    let below : pred_of xs b < a = ⊎_elim (λ m. gap (pred_of xs b) m (pred_of-below xs b (omega arith))) (λ z. omega (arith, z)) (pred_of-place xs b) in
    pred_of-is xs a (pred_of xs b) (pred_of-place xs b) positive below (λ z m l. pred_of-greatest xs b z m (omega arith))

-- a reader that stands past the end, and has passed nothing above it
pub pred_of-past : (xs : List ℕ) (at end : ℕ) → pred_of xs at ≤ end → end < at → pred_of xs at ≡ pred_of xs (end + 1)
pred_of-past xs at end short above =
    pred_of-gap xs (end + 1) at (omega arith) (λ z m l. omega (arith, pred_of-greatest xs at z m l)) (omega arith)

-- the last below the first from a place
pub pred_of-first : (xs : List ℕ) (to : ℕ) → 0 < to → to ≤ TOP → pred_of xs (first_from xs to) ≡ pred_of xs to
pred_of-first xs to positive top =
    pred_of-gap xs to (first_from xs to) positive
    (λ z m l. ⊎_elim (λ lt. lt) (λ ge. absurd (omega (arith, l, first_from-least xs to z m ge))) (cases_lt z to))
    (first_from-above xs to top)

-- one reader more has gone past the range
pub behind_more : {R : Type 0} (list : R → List ℕ) (location : R → ℕ) (rs : List R) (i first end : ℕ) (r : R) → AreBehind list location rs i first end
    → pred_of (list r) (location r) ≤ end → AreBehind list location (set rs i r) (i + 1) first end
behind_more list location rs i first end r b le =
    record {
      all = All-set (λ x. pred_of (list x) (location x) ≤ end) rs i r le b.all;
      rest = subst (All (λ x. pred_of (list x) (location x) < first)) (sym (drop-set-lt (i + 1) rs i r (omega arith)))
          (subst (All (λ x. pred_of (list x) (location x) < first)) (drop-drop 1 i rs) (All-drop (λ x. pred_of (list x) (location x) < first) 1 (drop i rs) b.rest));
    }

-- a reader that was not moved has passed nothing
pub pred_of-unmoved : (xs : List ℕ) (at : ℕ) → IsRising xs → at ≡ first_from xs 0 → pred_of xs at ≤ 0
pred_of-unmoved xs at r e =
    let positive : 0 < at = place-positive xs at r (subst (λ x. IsPlace xs x) (sym e) (first_from-place xs 0)) in
    ⊎_elim (λ m. absurd (omega (arith, first_from-least xs 0 (pred_of xs at) m (omega arith), pred_of-below xs at positive, e))) (λ z. omega (arith, z)) (pred_of-place xs at)
