-- Rounds one after another.
use Rattle.std.proofs.Common.{◌≡◌, ◌⊎◌, ⊎_elim, inl, inr, ℕ, ◌+◌, ◌*◌, ◌<◌, ◌≤◌, Bool, true, false, List, map, length, refl, sym, subst, ap, ◌∙◌, arith, nat_eq}
use Rattle.std.specs.Prelude.{All, Contains, sum_by}
use Rattle.std.proofs.lemmas.Bool.{eqb-true, eqb-false}
use Rattle.std.proofs.lemmas.List.{length-map}
use Rattle.alta_codec.specs.declared.location.TheConstants.{TOP}
use Rattle.alta_codec.specs.Rising.{IsRising, IsPlace, pred_of}
use Rattle.alta_codec.proofs.Places.{first_from-is, pred_of-below, pred_of-greatest}
use Rattle.alta_lead.specs.HavingLaws.{having-answers}
use Rattle.alta_lead.specs.Moves.{AreAhead, Chains, left_of, list_of, rest_of, IsUnpassed, IsMoved, AreMoved, AllMoved}
use Rattle.alta_lead.specs.Rounds.{IsTold, IsLed, IsRound, IsGone}
use Rattle.alta_lead.proofs.Moving.{still, all_still, all_moved_then, all_moved_more, both_moved, same_list_of, same_rest_of, moved_falls}
use Rattle.alta_lead.proofs.Rounding.{on_true, on_false, all_ahead_later, led_least, told_least, told_answer, told_top, rest_later, rest_further}

-- TOP is a place of the list
pub top_place : (xs : List ℕ) → IsPlace xs TOP
top_place xs = inr refl

module _ {R : Type 0} (Sound : R → Type 0) (list all : R → List ℕ) (location left cost : R → ℕ) where
  -- the round that no document was led to
  pub round_ended : (lead : ℕ) (c d : Chains R) (to end before after : ℕ) → IsRising (list c.ends) → lead < length c.words → All Sound c.negated
      → d.negated ≡ c.negated → end ≡ TOP
      → IsLed Sound list all location left cost lead c.ends d.ends c.words d.words to end before after
      → IsRound Sound list all location left cost lead c d to TOP true before after
  round_ended lead c d to end before after rising within sound same top l =
      let E = list c.ends in let W = map list c.words in let N = map list c.negated in
      record {
        moved = record {
          of_ends = l.of_ends;
          of_words = l.of_words;
          of_negated = 0;
          ends = l.ends_moved;
          words = all_moved_more Sound list all left cost c.words d.words 1 2 l.of_words (omega arith) l.words_moved;
          negated = subst (λ ns. AreMoved Sound list all left cost 2 c.negated ns 0) (sym same) (all_still Sound list all left cost c.negated 2 sound);
          steps = omega (arith, l.steps);
        };
        falls = λ h. omega (arith, l.falls h, l.words_moved.steps, ap (sum_by left) same);
        later = omega (arith, l.later, l.top);
        top = omega arith;
        least = λ z m h. omega (
          arith,
          top,
          led_least E W N lead to l.at end z (omega (arith, within, length-map c.words list)) l.first l.here ((having-answers E W N z rising).0 m) h,
        );
        rest = rest_later E W N lead to TOP (omega (arith, l.later, l.top));
        standing = top_place (list_of list c);
        unpassed = λ h. absurd (omega arith);
        further = tt;
        ready = tt;
      }

  -- the round that asked about a document
  pub round_asked : (lead : ℕ) (c m d : Chains R) (to start end next before mid after p q : ℕ) → IsRising (list c.ends) → lead < length c.words → 0 < to → to ≤ TOP
      → m.negated ≡ c.negated → d.ends ≡ m.ends → (end ≡ TOP → ⊥)
      → IsLed Sound list all location left cost lead c.ends m.ends c.words m.words to end before mid
      → start ≡ pred_of (list c.ends) end + 1
      → IsTold (map list m.words) (map list m.negated) start end next
      → AreMoved Sound list all left cost 1 m.words d.words p → AreMoved Sound list all left cost 1 m.negated d.negated q → after ≤ mid + p + q
      → AreAhead start (map list m.words) (map location d.words) → AreAhead start (map list m.negated) (map location d.negated)
      → IsRound Sound list all location left cost lead c d to next (nat_eq next end) before after
  round_asked lead c m d to start end next before mid after p q rising within some top same_n same_e below l st told ws ns steps wa na =
      let E = list c.ends in let W = map list c.words in let N = map list c.negated in
      let under : end < TOP = omega (arith, l.top, below) in
      let is_end : Contains E end = ⊎_elim (λ n. n) (λ t. absurd (below t)) l.standing in
      let low : pred_of E end < end = pred_of-below E end (omega (arith, some, l.later)) in
      let words_are : map list m.words ≡ W = l.words_moved.lists in
      let negated_are : map list m.negated ≡ N = ap (λ rs. map list rs) same_n in
      let t : IsTold W N (pred_of E end + 1) end next =
      subst (λ s. IsTold W N s end next) st (subst (λ n. IsTold W n start end next) negated_are (subst (λ w. IsTold w (map list m.negated) start end next) words_are told)) in
      let words_list : map list d.words ≡ W = ws.lists ∙ words_are in
      let negated_list : map list d.negated ≡ N = ns.lists ∙ negated_are in
      let ends_list : list d.ends ≡ E = ap list same_e ∙ l.ends_moved.same_list in
      let place : location d.ends ≡ end = ap location same_e ∙ l.place in
      let words_ahead : (from : ℕ) → pred_of E end + 1 ≤ from → AreAhead from (map list d.words) (map location d.words) =
      λ from h. all_ahead_later (map list d.words) (map location d.words) start from (omega (arith, st, h)) (subst (λ ls. AreAhead start ls (map location d.words)) (sym ws.lists) wa) in
      let negated_ahead : (from : ℕ) → pred_of E end + 1 ≤ from → AreAhead from (map list d.negated) (map location d.negated) =
      λ from h. all_ahead_later (map list d.negated) (map location d.negated) start from (omega (arith, st, h)) (subst (λ ls. AreAhead start ls (map location d.negated)) (sym ns.lists) na) in
      let unpassed : (from : ℕ) → pred_of E end + 1 ≤ from → end ≤ from → IsUnpassed list location d from =
      λ from h k. record { ends = λ z n g. omega (arith, place, g, k); words = words_ahead from h; negated = negated_ahead from h } in
      record {
        moved = record {
          of_ends = l.of_ends;
          of_words = l.of_words + p;
          of_negated = q;
          ends = subst (λ e. IsMoved Sound list all left cost 2 c.ends e l.of_ends) (sym same_e) l.ends_moved;
          words = all_moved_then Sound list all left cost c.words m.words d.words 1 1 l.of_words p l.words_moved ws;
          negated = subst (λ rs. AreMoved Sound list all left cost 2 rs d.negated q) same_n (all_moved_more Sound list all left cost m.negated d.negated 1 2 q (omega arith) ns);
          steps = omega (arith, l.steps, steps);
        };
        falls = λ h. omega (arith, l.falls h, l.words_moved.steps, ws.steps, ns.steps, ap (sum_by left) same_n, ap left same_e);
        later = omega (arith, l.later, t.later);
        top = told_top E W N end next rising is_end t;
        least = λ z n h. let a = (having-answers E W N z rising).0 n in
            told_least E W N end next rising is_end t z a (led_least E W N lead to l.at end z (omega (arith, within, length-map c.words list)) l.first l.here a h);
        rest = rest_later E W N lead to next (omega (arith, l.later, t.later));
        standing = on_true (nat_eq next end) (IsPlace (list_of list c) next)
            (λ e. let same : next ≡ end = eqb-true next end e in
            inl (subst (λ v. Contains (list_of list c) v) (sym same) ((having-answers E W N end rising).1 (told_answer E W N end next rising is_end t same))));
        unpassed = on_true (nat_eq next end) (next < TOP → IsUnpassed list location d next)
            (λ e h. unpassed next (omega (arith, low, t.later)) t.later);
        further = on_false (nat_eq next end) (rest_of list c lead next < rest_of list c lead to)
            (λ e. rest_further E W N lead to l.at end next l.first l.here some top under (omega (arith, t.later, eqb-false next end e)));
        ready = on_false (nat_eq next end) (IsUnpassed list location d (pred_of E next + 1))
            (λ e. let behind : end < next = omega (arith, t.later, eqb-false next end e) in
            let passed : end ≤ pred_of E next = pred_of-greatest E next end is_end behind in
            unpassed (pred_of E next + 1) (omega (arith, low, passed)) (omega (arith, passed)));
      }

  -- The readers after some rounds: no place of the list from `to` on is below the goal.
  pub record IsGoing (lead : ℕ) (old new : Chains R) (to goal before after : ℕ) : Type 0 where
    pub rounds : ℕ
    pub moved : AllMoved Sound list all left cost (2 * rounds) old new before after
    pub bounded : rounds + rest_of list old lead goal ≤ rest_of list old lead to
    pub falls : ((new ≡ old) × (goal ≡ to)) ⊎ (location old.ends < to → left_of left new < left_of left old)
    pub later : to ≤ goal
    pub top : goal ≤ TOP
    pub least : (z : ℕ) → Contains (list_of list old) z → to ≤ z → goal ≤ z
    pub ready : IsUnpassed list location new (pred_of (list new.ends) goal + 1)

  pub going_starts : (lead : ℕ) (c : Chains R) (to before : ℕ) → Sound c.ends → All Sound c.words → All Sound c.negated → to ≤ TOP
      → IsUnpassed list location c (pred_of (list c.ends) to + 1) → IsGoing lead c c to to before before
  going_starts lead c to before e w n top u = record {
    rounds = 0;
    moved = record {
      of_ends = 0;
      of_words = 0;
      of_negated = 0;
      ends = still Sound list all left cost c.ends 0 e;
      words = all_still Sound list all left cost c.words 0 w;
      negated = all_still Sound list all left cost c.negated 0 n;
      steps = omega arith;
    };
    bounded = omega arith;
    falls = inl (refl, refl);
    later = omega arith;
    top = top;
    least = λ z m h. h;
    ready = u;
  }

  -- one round more
  module _ (lead : ℕ) (c m d : Chains R) (to goal next before mid after : ℕ) (going : IsGoing lead c m to goal before mid) where
    fallen : (found : Bool) → IsRound Sound list all location left cost lead m d goal next found mid after → location c.ends < to → left_of left d < left_of left c
    fallen found r h =
        ⊎_elim
        (λ (e, f). let falls : location c.ends < to → left_of left d < left_of left c =
        subst (λ k. location k.ends < to → left_of left d < left_of left k) e (λ g. r.falls (omega (arith, f, g))) in falls h)
        (λ falls. omega (arith, falls h, moved_falls Sound list all left cost m d 2 mid after r.moved)) going.falls

    all_rounds : (found : Bool) → IsRound Sound list all location left cost lead m d goal next found mid after
        → AllMoved Sound list all left cost (2 * (going.rounds + 1)) c d before after
    all_rounds found r = both_moved Sound list all left cost c m d (2 * going.rounds) 2 (2 * (going.rounds + 1)) before mid after (omega arith) going.moved r.moved

    lists_stay : list_of list m ≡ list_of list c
    lists_stay = same_list_of Sound list all left cost c m (2 * going.rounds) before mid going.moved

    rest_stays : (place : ℕ) → rest_of list m lead place ≡ rest_of list c lead place
    rest_stays place = same_rest_of Sound list all left cost c m (2 * going.rounds) before mid lead place going.moved

    pub going_on : IsRound Sound list all location left cost lead m d goal next false mid after → IsGoing lead c d to next before after
    going_on r = record {
      rounds = going.rounds + 1;
      moved = all_rounds false r;
      bounded = omega (arith, going.bounded, r.further, rest_stays next, rest_stays goal);
      falls = inr (fallen false r);
      later = omega (arith, going.later, r.later);
      top = r.top;
      least = λ z n h. r.least z (subst (λ l. Contains l z) (sym lists_stay) n) (going.least z n h);
      ready = subst (λ e. IsUnpassed list location d (pred_of e next + 1)) (sym r.moved.ends.same_list) r.ready;
    }

    pub gone : IsRising (list c.ends) → IsRound Sound list all location left cost lead m d goal next true mid after → IsGone Sound list all location left cost lead c d to next before after
    gone rising r = record {
      rounds = going.rounds + 1;
      moved = all_rounds true r;
      bounded = omega (arith, going.bounded, r.rest, rest_stays next, rest_stays goal);
      falls = fallen true r;
      place = first_from-is (list_of list c) to next (subst (λ l. IsPlace l next) lists_stay r.standing) r.top (omega (arith, going.later, r.later))
          (λ z n h. r.least z (subst (λ l. Contains l z) (sym lists_stay) n) (going.least z n h));
      unpassed = r.unpassed;
    }
