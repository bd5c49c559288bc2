-- Documents to which a word leads, in which another may stand behind it.
use Rattle.std.proofs.Common.{◌≡◌, ⊎_elim, inr, ℕ, ◌+◌, ◌-◌, ◌<◌, ◌≤◌, Bool, false, List, [], map, get_or, refl, sym, subst, arith}
use Rattle.std.specs.Prelude.{Contains, nat_le}
use Rattle.std.proofs.lemmas.Bool.{leb-true, leb-false}
use Rattle.std.proofs.lemmas.List.Elements.{All-nil}
use Rattle.alta_codec.specs.declared.location.TheConstants.{TOP}
use Rattle.alta_codec.specs.Rising.{IsRising, IsPlace, first_from, pred_of}
use Rattle.alta_codec.proofs.Places.{first_from-above, first_from-least, first_from-place, pred_of-below, pred_of-mono}
use Rattle.alta_compound.proofs.Staying.{pred_same}
use Rattle.alta_lead.specs.Followed.{ends_followed}
use Rattle.alta_lead.proofs.FollowedLaws.{followed-answers}
use Rattle.alta_lead.specs.Moves.{AreAhead, IsMoved, AreMoved}
use Rattle.alta_lead.specs.Tallying.{IsLedTo}
use Rattle.alta_lead.proofs.Moving.{all_still, all_moved_then, all_moved_more}
use Rattle.alta_lead.proofs.Rounding.{on_true, on_false, all_ahead_later}
use Rattle.alta_lead.proofs.Tallying.{led_bounds, led_rest}

-- ---- one document

module _ (ends first second : List ℕ) (from at end : ℕ) (rising : IsRising ends) (top : from ≤ TOP) (begins : pred_of ends from + 1 ≡ from)
    (is : at ≡ first_from first from) (here : end ≡ first_from ends at) where
  bounds : (from ≤ at) × (at ≤ TOP) × (from ≤ end) × (end ≤ TOP) × (from ≤ pred_of ends end + 1) × (pred_of ends end < end)
  bounds = led_bounds ends first from at end top begins is here

  standing : IsPlace ends end
  standing = subst (λ v. IsPlace ends v) (sym here) (first_from-place ends at)

  pub followed_least : (z : ℕ) → Contains (ends_followed ends first second) z → from ≤ z → end ≤ z
  followed_least z m h =
      let a = (followed-answers ends first second z rising).0 m in
      let low : from ≤ a.place = omega (arith, begins, pred_of-mono ends from z h, a.inside) in
      let near : at ≤ a.place = omega (arith, is, first_from-least first from a.place a.there low) in
      omega (arith, here, first_from-least ends at z a.is_end (omega (arith, near, a.later, a.within)))

  module _ (next : ℕ) (asked : next ≡ first_from second (at + 1)) where
    -- the second word stands in the document behind the first place of the first
    pub followed_some : next ≤ end → end < TOP → Contains (ends_followed ends first second) end
    followed_some le below =
        let high : at ≤ end = omega (arith, here, first_from-above ends at bounds.1) in
        let some : 0 < at = omega (arith, begins, bounds.0) in
        (followed-answers ends first second end rising).1 (record {
          is_end = ⊎_elim (λ m. m) (λ t. absurd (omega (arith, t, below))) standing;
          place = at;
          there = subst (λ v. Contains first v) (sym is) (⊎_elim (λ m. m) (λ t. absurd (omega (arith, t, is, high, below))) (first_from-place first from));
          inside = omega (arith, pred_same ends at end here some bounds.1, pred_of-below ends at some);
          next = next;
          behind = subst (λ v. Contains second v) (sym asked) (⊎_elim (λ m. m) (λ t. absurd (omega (arith, t, asked, le, below))) (first_from-place second (at + 1)));
          later = omega (arith, asked, first_from-above second (at + 1) (omega (arith, high, below)));
          within = le;
        })

    -- where it does not, no place of the first has it behind
    pub followed_none : end < next → Contains (ends_followed ends first second) end → ⊥
    followed_none lt m =
        let a = (followed-answers ends first second end rising).0 m in
        let near : at ≤ a.place = omega (arith, is, first_from-least first from a.place a.there (omega (arith, bounds.4, a.inside))) in
        omega (arith, lt, asked, first_from-least second (at + 1) a.next a.behind (omega (arith, near, a.later)), a.within)

module _ {E R : Type 0} (EndSound : E → Type 0) (end_list end_all : E → List ℕ) (end_location end_left end_cost : E → ℕ)
    (Sound : R → Type 0) (list all : R → List ℕ) (location left cost : R → ℕ) (e f : E) (ws vs : List R) (from at end before mid past : ℕ)
    (rising : IsRising (end_list e)) (top : from ≤ TOP) (begins : pred_of (end_list e) from + 1 ≡ from) (is : at ≡ first_from (get_or (map list ws) 0 []) from)
    (moved : AreMoved Sound list all left cost 1 ws vs (mid - before)) (here : end ≡ first_from (end_list e) at) (stands : end_location f ≡ end)
    (went : IsMoved EndSound end_list end_all end_left end_cost 1 e f (past - mid)) where
  abbrev Ends : List ℕ
  Ends = end_list e

  abbrev Words : List (List ℕ)
  Words = map list ws

  abbrev First : List ℕ
  First = get_or Words 0 []

  abbrev Second : List ℕ
  Second = get_or Words 1 []

  abbrev LedTo : List R → ℕ → Bool → ℕ → Type 0
  LedTo us to found after =
      IsLedTo EndSound end_list end_all end_location end_left end_cost Sound list all location left cost First (ends_followed Ends First Second) Ends Words []
      e f ws us [] [] from to found before after

  b : (from ≤ at) × (at ≤ TOP) × (from ≤ end) × (end ≤ TOP) × (from ≤ pred_of Ends end + 1) × (pred_of Ends end < end)
  b = led_bounds Ends First from at end top begins is here

  -- there is no document left
  pub followed_ended : end ≡ TOP → LedTo vs TOP false past
  followed_ended ended = record {
    by_ends = past - mid;
    by_words = mid - before;
    by_negated = 0;
    ends_moved = went;
    words_moved = all_moved_more Sound list all left cost ws vs 1 2 (mid - before) (omega arith) moved;
    negated_moved = all_still Sound list all left cost [] 1 (All-nil Sound);
    steps = omega arith;
    later = top;
    standing = inr refl;
    top = omega arith;
    least = λ z m h. omega (arith, ended, followed_least Ends First Second from at end rising top begins is here z m h);
    some = tt;
    none = λ below. absurd (omega (arith, below));
    rest = λ below. absurd (omega (arith, below));
    ends_ahead = λ below. absurd (omega (arith, below));
    words_ahead = λ below. absurd (omega (arith, below));
    negated_ahead = λ below. absurd (omega (arith, below));
  }

  -- the second word was asked behind the first
  pub followed_asked : (us : List R) (next after : ℕ) → next ≡ first_from Second (at + 1) → AreMoved Sound list all left cost 1 vs us (after - past)
      → AreAhead (at + 1) (map list vs) (map location us) → LedTo us end (nat_le next end) after
  followed_asked us next after asked more ahead =
      let high : at ≤ end = omega (arith, here, first_from-above Ends at b.1) in
      record {
        by_ends = past - mid;
        by_words = (mid - before) + (after - past);
        by_negated = 0;
        ends_moved = went;
        words_moved = all_moved_then Sound list all left cost ws vs us 1 1 (mid - before) (after - past) moved more;
        negated_moved = all_still Sound list all left cost [] 1 (All-nil Sound);
        steps = omega arith;
        later = b.2;
        standing = subst (λ v. IsPlace Ends v) (sym here) (first_from-place Ends at);
        top = b.3;
        least = followed_least Ends First Second from at end rising top begins is here;
        some = on_true (nat_le next end) (end < TOP → Contains (ends_followed Ends First Second) end)
            (λ yes below. followed_some Ends First Second from at end rising top begins is here next asked (leb-true next end yes) below);
        none = on_false (nat_le next end) (end < TOP → Contains (ends_followed Ends First Second) end → ⊥)
            (λ no below m. followed_none Ends First Second from at end rising top begins is here next asked (leb-false next end no) m);
        rest = λ below. led_rest Ends First from at end top is here below;
        ends_ahead = λ below z m l. omega (arith, stands, l);
        words_ahead = λ below.
            all_ahead_later Words (map location us) (at + 1) (end + 1) (omega (arith, high)) (subst (λ ls. AreAhead (at + 1) ls (map location us)) moved.lists ahead);
        negated_ahead = λ below k l z m h. absurd (omega (arith, l));
      }
