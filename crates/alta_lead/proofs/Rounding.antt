-- What a round tells of the documents.
use Rattle.std.proofs.Common.{◌≡◌, ⊎_elim, ℕ, ◌+◌, ◌<◌, ◌≤◌, Bool, true, false, List, [], length, get_or, refl, sym, subst, arith}
use Rattle.std.specs.Prelude.{Contains}
use Rattle.std.specs.Bool.{OnTrue, OnFalse}
use Rattle.std.proofs.lemmas.Bool.{cases_lt}
use Rattle.std.proofs.lemmas.List.{get_or_default}
use Rattle.alta_codec.specs.declared.location.TheConstants.{TOP}
use Rattle.alta_codec.specs.Rising.{IsRising, IsPlace, first_from, pred_of, count_from}
use Rattle.alta_codec.proofs.Places.{first_from-above, first_from-least, first_from-le_top, first_from-place, pred_of-below, pred_of-greatest, pred_of-mono, count_from-mono, count_from-falls}
use Rattle.alta_docread.specs.Tree.{IsAhead}
use Rattle.alta_lead.specs.Having.{HasWithin, IsAnswer}
use Rattle.alta_lead.specs.HavingLaws.{element_within, first_within, within_first}
use Rattle.alta_lead.specs.Moves.{AreAhead}
use Rattle.alta_lead.specs.Rounds.{IsTold}

pub on_true : (b : Bool) (P : Type 0) → (b ≡ true → P) → OnTrue b P
on_true true P h = h refl
on_true false P h = tt

pub on_false : (b : Bool) (P : Type 0) → (b ≡ false → P) → OnFalse b P
on_false true P h = tt
on_false false P h = h refl

-- an element above the last below a place lies at or above the place
pub behind_pred : (xs : List ℕ) (to z : ℕ) → Contains xs z → pred_of xs to < z → to ≤ z
behind_pred xs to z m h = ⊎_elim (λ lt. absurd (omega (arith, pred_of-greatest xs to z m lt))) (λ ge. ge) (cases_lt z to)

pub ahead_later : (xs : List ℕ) (from later place : ℕ) → from ≤ later → IsAhead from xs place → IsAhead later xs place
ahead_later xs from later place l a = λ z m h. a z m (omega arith)

pub all_ahead_later : (ls : List (List ℕ)) (ps : List ℕ) (from later : ℕ) → from ≤ later → AreAhead from ls ps → AreAhead later ls ps
all_ahead_later ls ps from later l a = λ k w z m h. a k w z m (omega arith)

module _ (ends : List ℕ) (words negated : List (List ℕ)) where
  -- no document from a place on that has the leading word ends before the first that is led to
  pub led_least : (lead to at end z : ℕ) → lead < length words → at ≡ first_from (get_or words lead []) (pred_of ends to + 1)
      → end ≡ first_from ends at → IsAnswer ends words negated z → to ≤ z → end ≤ z
  led_least lead to at end z l e f a h =
      let (x, m, low, high) = a.each lead [] l in
      let near : at ≤ x = omega (arith, e, first_from-least (get_or words lead []) (pred_of ends to + 1) x m (omega (arith, low, pred_of-mono ends to z h))) in
      omega (arith, f, first_from-least ends at z a.is_end (omega (arith, near, high)))

  module _ (end next : ℕ) (rising : IsRising ends) (is_end : Contains ends end) (t : IsTold words negated (pred_of ends end + 1) end next) where
    -- no document from an end on that has the words ends before the next place
    pub told_least : (z : ℕ) → IsAnswer ends words negated z → end ≤ z → next ≤ z
    told_least z a h =
        let b = element_within ends end rising is_end in
        ⊎_elim
        (λ lt. ⊎_elim
        (λ (k, l, e). let (x, m, low, high) = a.each k [] l in
        omega (arith, e, high, first_from-least (get_or words k []) (pred_of ends end + 1) x m (omega (arith, low, pred_of-mono ends end z h))))
        (λ (e, (k, l, f)). ⊎_elim (λ more. omega (arith, e))
        (λ ge. let same : end ≡ z = omega arith in
        absurd (subst (λ y. HasWithin (pred_of ends y) y (get_or negated k []) → ⊥) (sym same) (a.none k [] l)
        (first_within (pred_of ends end) end (get_or negated k []) (pred_of-below ends end b.0) b.1 f)))
        (cases_lt end z))
        (t.other lt))
        (λ ge. omega arith) (cases_lt end next)

    -- where nothing speaks against the document, it is one of the list
    pub told_answer : next ≡ end → IsAnswer ends words negated end
    told_answer same =
        let b = element_within ends end rising is_end in let low : pred_of ends end < end = pred_of-below ends end b.0 in
        record {
          is_end = is_end;
          each = λ k d l. subst (λ w. HasWithin (pred_of ends end) end w) (get_or_default words k [] d l)
              (first_within (pred_of ends end) end (get_or words k []) low b.1 (t.each same k l));
          none = λ k d l h. let w = subst (λ w. HasWithin (pred_of ends end) end w) (sym (get_or_default negated k [] d l)) h in
              omega (arith, t.none same k l, within_first (pred_of ends end) end (get_or negated k []) w);
        }

    pub told_top : next ≤ TOP
    told_top =
        let b = element_within ends end rising is_end in
        ⊎_elim
        (λ lt. ⊎_elim (λ (k, l, e). omega (arith, e, first_from-le_top (get_or words k []) (pred_of ends end + 1))) (λ (e, (k, l, f)). omega (arith, e, b.1)) (t.other lt))
        (λ ge. omega (arith, b.1)) (cases_lt end next)

  -- a later place has no more of the leading word behind it
  pub rest_later : (lead p q : ℕ) → p ≤ q → count_from (get_or words lead []) (pred_of ends q + 1) ≤ count_from (get_or words lead []) (pred_of ends p + 1)
  rest_later lead p q h = count_from-mono (get_or words lead []) (pred_of ends p + 1) (pred_of ends q + 1) (omega (arith, pred_of-mono ends p q h))

  -- a place behind a document that the leading word has, has fewer of it
  pub rest_further : (lead to at end next : ℕ) → at ≡ first_from (get_or words lead []) (pred_of ends to + 1) → end ≡ first_from ends at
      → 0 < to → to ≤ TOP → end < TOP → end < next
      → count_from (get_or words lead []) (pred_of ends next + 1) < count_from (get_or words lead []) (pred_of ends to + 1)
  rest_further lead to at end next e f some top below behind =
      let xs = get_or words lead [] in let start = pred_of ends to + 1 in
      let start_top : start ≤ TOP = omega (arith, pred_of-below ends to some) in
      let low : start ≤ at = omega (arith, e, first_from-above xs start start_top) in
      let at_top : at ≤ TOP = omega (arith, e, first_from-le_top xs start) in
      let high : at ≤ end = omega (arith, f, first_from-above ends at at_top) in
      let m : Contains xs at = subst (λ v. Contains xs v) (sym e) (⊎_elim (λ n. n) (λ t. absurd (omega (arith, t, e))) (first_from-place xs start)) in
      let is_end : Contains ends end = subst (λ v. Contains ends v) (sym f) (⊎_elim (λ n. n) (λ t. absurd (omega (arith, t, f))) (first_from-place ends at)) in
      let passed : end ≤ pred_of ends next = pred_of-greatest ends next end is_end behind in
      omega (arith, count_from-falls xs at (pred_of ends next + 1) m (omega arith), count_from-mono xs start at low)

-- the end behind a location of a document from a place on lies there too
pub later_end : (xs : List ℕ) (to end at : ℕ) → end ≡ first_from xs at → at ≤ TOP → pred_of xs to < at → 0 < to → to ≤ TOP → to ≤ end
later_end xs to end at e top low some to_top =
    ⊎_elim (λ m. behind_pred xs to end m (omega (arith, e, first_from-above xs at top, low)))
    (λ t. omega (arith, t, to_top))
    (subst (λ v. IsPlace xs v) (sym e) (first_from-place xs at))
