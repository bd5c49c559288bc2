-- Documents that one of several words leads to.
use Rattle.std.proofs.Common.{◌≡◌, ⊎_elim, ℕ, ◌+◌, ◌-◌, ◌<◌, ◌≤◌, min, true, List, [], ◌∷◌, map, drop, length, get_or, sym, subst, ap, ◌∙◌, arith}
use Rattle.std.specs.Prelude.{Contains}
use Rattle.std.proofs.lemmas.List.{drop_all, drop_more}
use Rattle.std.proofs.lemmas.List.Elements.{All-nil, All-cons}
use Rattle.alta_codec.specs.declared.location.TheConstants.{TOP}
use Rattle.alta_codec.specs.Rising.{IsRising, IsPlace, first_from, pred_of, count_from}
use Rattle.alta_codec.proofs.Places.{first_from-nil, first_from-le_top, first_from-above, first_from-place, pred_of-below}
use Rattle.alta_compound.specs.Union.{union_of}
use Rattle.alta_compound.specs.Unions.{union-first}
use Rattle.alta_compound.proofs.Staying.{pred_same}
use Rattle.alta_docread.specs.Kept.{less}
use Rattle.alta_lead.specs.Having.{HasWithin, ends_with_any}
use Rattle.alta_lead.specs.HavingLaws.{element_within, having-answers}
use Rattle.alta_lead.specs.Moves.{AreAhead, IsMoved, AreMoved}
use Rattle.alta_lead.specs.Tallying.{IsLedTo}
use Rattle.alta_lead.proofs.Counting.{live_same}
use Rattle.alta_lead.proofs.Moving.{all_still, all_moved_more}
use Rattle.alta_lead.proofs.Rounding.{all_ahead_later, led_least}
use Rattle.alta_lead.proofs.Tallying.{led_bounds, led_rest}

-- ---- the least of their places

-- no list was asked yet
pub least_start : (lists : List (List ℕ)) (from : ℕ) → min TOP (first_from (union_of (drop 0 lists)) from) ≡ first_from (union_of lists) from
least_start lists from =
    let none : min TOP (first_from (union_of lists) from) ≡ first_from (union_of lists) from = omega (arith, first_from-le_top (union_of lists) from) in none

-- one list more was asked
pub least_on : (lists : List (List ℕ)) (least place next from i : ℕ) → i < length lists → place ≡ first_from (get_or lists i []) from → next ≡ min least place
    → min least (first_from (union_of (drop i lists)) from) ≡ first_from (union_of lists) from
    → min next (first_from (union_of (drop (i + 1) lists)) from) ≡ first_from (union_of lists) from
unfolding union_of
least_on lists least place next from i within p n h =
    let rest = union_of (drop (i + 1) lists) in
    let here : first_from (union_of (drop i lists)) from ≡ min place (first_from rest from) =
    ap (λ ls. first_from (union_of ls) from) (drop_more lists i [] within) ∙ union-first (get_or lists i []) rest from
    ∙ ap (λ v. min v (first_from rest from)) (sym p) in
    omega (arith, n, here, h)

-- all lists were asked
pub least_end : (lists : List (List ℕ)) (least from i : ℕ) → length lists ≤ i → least ≤ TOP
    → min least (first_from (union_of (drop i lists)) from) ≡ first_from (union_of lists) from → least ≡ first_from (union_of lists) from
unfolding union_of
least_end lists least from i past top h =
    let none : first_from (union_of (drop i lists)) from ≡ TOP = ap (λ ls. first_from (union_of ls) from) (drop_all i lists past) ∙ first_from-nil from in
    omega (arith, none, top, h)

-- ---- one document

module _ (ends : List ℕ) (words : List (List ℕ)) (from at end : ℕ) (rising : IsRising ends) (top : from ≤ TOP) (begins : pred_of ends from + 1 ≡ from)
    (is : at ≡ first_from (union_of words) from) (here : end ≡ first_from ends at) where
  abbrev Together : List ℕ
  Together = union_of words

  bounds : (from ≤ at) × (at ≤ TOP) × (from ≤ end) × (end ≤ TOP) × (from ≤ pred_of ends end + 1) × (pred_of ends end < end)
  bounds = led_bounds ends Together from at end top begins is here

  pub any_standing : IsPlace ends end
  any_standing = subst (λ v. IsPlace ends v) (sym here) (first_from-place ends at)

  pub any_least : (z : ℕ) → Contains (ends_with_any ends words) z → from ≤ z → end ≤ z
  any_least z m h =
      led_least ends (Together ∷ []) [] 0 from at end z (omega arith) (is ∙ ap (first_from Together) (sym begins)) here
      ((having-answers ends (Together ∷ []) [] z rising).0 m) h

  -- a document that is led to has one of the words
  pub any_found : end < TOP → Contains (ends_with_any ends words) end
  any_found below =
      let P : List ℕ → Type 0 = HasWithin (pred_of ends end) end in
      let is_end : Contains ends end = ⊎_elim (λ m. m) (λ t. absurd (omega (arith, t, below))) any_standing in
      let high : at ≤ end = omega (arith, here, first_from-above ends at bounds.1) in
      let there : Contains Together at =
      subst (λ v. Contains Together v) (sym is) (⊎_elim (λ m. m) (λ t. absurd (omega (arith, t, is, high, below))) (first_from-place Together from)) in
      let some : 0 < at = omega (arith, begins, bounds.0) in
      let low : pred_of ends end < at = omega (arith, pred_same ends at end here some bounds.1, pred_of-below ends at some) in
      (having-answers ends (Together ∷ []) [] end rising).1 (record {
        is_end = is_end;
        each = All-cons P Together [] (at, there, low, high) (All-nil P);
        none = All-nil (λ w. P w → ⊥);
      })

module _ {E R : Type 0} (EndSound : E → Type 0) (end_list end_all : E → List ℕ) (end_location end_left end_cost : E → ℕ)
    (Sound : R → Type 0) (list all : R → List ℕ) (location left cost : R → ℕ) where
  pub led_any : (e f : E) (ws vs : List R) (from at end before mid after : ℕ) → IsRising (end_list e) → from ≤ TOP → pred_of (end_list e) from + 1 ≡ from
      → at ≡ first_from (union_of (map list ws)) from → AreAhead from (map list ws) (map location vs) → AreMoved Sound list all left cost 1 ws vs (mid - before)
      → end ≡ first_from (end_list e) at → end_location f ≡ end → IsMoved EndSound end_list end_all end_left end_cost 1 e f (after - mid)
      → IsLedTo EndSound end_list end_all end_location end_left end_cost Sound list all location left cost (union_of (map list ws)) (ends_with_any (end_list e) (map list ws))
      (end_list e) (map list ws) [] e f ws vs [] [] from end true before after
  led_any e f ws vs from at end before mid after rising top begins is ahead moved here stands went =
      let E = end_list e in let W = map list ws in
      let b = led_bounds E (union_of W) from at end top begins is here in
      record {
        by_ends = after - mid;
        by_words = mid - before;
        by_negated = 0;
        ends_moved = went;
        words_moved = all_moved_more Sound list all left cost ws vs 1 2 (mid - before) (omega arith) moved;
        negated_moved = all_still Sound list all left cost [] 1 (All-nil Sound);
        steps = omega arith;
        later = b.2;
        standing = any_standing E W from at end rising top begins is here;
        top = b.3;
        least = any_least E W from at end rising top begins is here;
        some = any_found E W from at end rising top begins is here;
        none = tt;
        rest = λ below. led_rest E (union_of W) from at end top is here below;
        ends_ahead = λ below z m l. omega (arith, stands, l);
        words_ahead = λ below. all_ahead_later W (map location vs) from (end + 1) (omega (arith, b.2)) ahead;
        negated_ahead = λ below k l z m h. absurd (omega (arith, l));
      }

-- ---- all of them

-- no element lies below the first location
pub from_first : (xs gone : List ℕ) → IsRising xs → count_from (less xs gone) 1 ≡ count_from (less xs gone) 0
from_first xs gone rising = live_same xs gone 0 1 (omega arith) (λ z m h. omega (arith, (element_within xs z rising m).0))

-- a document begins at the first location
pub begins_first : (ends : List ℕ) → pred_of ends 1 + 1 ≡ 1
begins_first ends = omega (arith, pred_of-below ends 1 (omega arith))
