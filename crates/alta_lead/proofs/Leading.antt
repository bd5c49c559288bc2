-- The reader of a conjunction as a whole.
use Rattle.std.proofs.Common.{◌≡◌, ⊎_elim, ℕ, zero, suc, ◌+◌, ◌*◌, ◌<◌, ◌≤◌, List, [], ◌∷◌, ◌++◌, map, length, get_or, sym, subst, ap, ◌∙◌, arith}
use Rattle.std.specs.Prelude.{All, Contains, sum_by, ◌↔◌}
use Rattle.std.specs.List.{concat}
use Rattle.std.proofs.Math.Nat.{add-mul, mul-le-mul_right}
use Rattle.std.proofs.lemmas.List.{get_or-map, length-map}
use Rattle.std.proofs.lemmas.List.Elements.{All-head, All-tail}
use Rattle.std.proofs.lemmas.List.Sums.{sum_by-cons}
use Rattle.alta_codec.specs.declared.location.TheConstants.{TOP}
use Rattle.alta_codec.specs.Rising.{IsRising, IsPlace, first_from, pred_of, count_from}
use Rattle.alta_codec.proofs.Places.{Contains-head, Contains-tail, first_from-least, first_from-place, pred_of-greatest, count_from-mono, count_from-falls}
use Rattle.alta_compound.specs.Same.{count_from-append, count_from-nil}
use Rattle.alta_docread.specs.Tree.{IsAhead}
use Rattle.alta_lead.specs.Having.{IsAnswer}
use Rattle.alta_lead.specs.HavingLaws.{having-answers}
use Rattle.alta_lead.specs.Moves.{AreAhead, Chains, left_of, list_of, rest_of, cost_of, IsUnpassed, MovesEach}
use Rattle.alta_lead.specs.Rounds.{IsGone}
use Rattle.alta_lead.specs.View.{chains_of, all_of, IsSoundLead, IsOn}
use Rattle.alta_lead.specs.declared.reader.LeadReader.{LeadReader}
use Rattle.alta_lead.proofs.Moving.{same_list_of, same_rest_of, moved_left, moved_falls, moved_each}

-- ---- counts

-- what no element from a place on was passed of, has as many from there on at most
pub count_ahead : (xs : List ℕ) (at place : ℕ) → IsAhead at xs place → count_from xs at ≤ count_from xs place
unfolding count_from
count_ahead [] at place a = omega arith
count_ahead (x ∷ xs) at place a =
    let rest = count_ahead xs at place (λ z m. a z (Contains-tail x xs z m)) in let here : at ≤ x → place ≤ x = a x (Contains-head x xs) in
    grind (arith, rest, here)

pub count_from-le_length : (xs : List ℕ) (at : ℕ) → count_from xs at ≤ length xs
unfolding count_from
count_from-le_length [] at = omega arith
count_from-le_length (x ∷ xs) at = grind (arith, count_from-le_length xs at)

concat_counts : {R : Type 0} (all : R → List ℕ) (rs : List R) (at : ℕ) → count_from (concat (map all rs)) at ≡ sum_by (λ r. count_from (all r) at) rs
concat_counts all [] at = count_from-nil at
concat_counts all (r ∷ rs) at =
    omega (arith, count_from-append (all r) (concat (map all rs)) at, concat_counts all rs at, sum_by-cons (λ r. count_from (all r) at) r rs)

sum_mono : {R : Type 0} (f h : R → ℕ) (rs : List R) → All (λ r. f r ≤ h r) rs → sum_by f rs ≤ sum_by h rs
sum_mono f h [] a = omega arith
sum_mono f h (r ∷ rs) a =
    omega (arith, All-head (λ r. f r ≤ h r) r rs a, sum_mono f h rs (All-tail (λ r. f r ≤ h r) r rs a), sum_by-cons f r rs, sum_by-cons h r rs)

module _ {R : Type 0} (Sound : R → Type 0) (list all : R → List ℕ) (location left : R → ℕ)
    (members : (s : R) → Sound s → (x : ℕ) → Contains (all s) x ↔ Contains (list s) x)
    (left_is : (s : R) → Sound s → left s ≡ count_from (all s) (location s)) where
  counts_one : (r : R) (at : ℕ) → Sound r → IsAhead at (list r) (location r) → count_from (all r) at ≤ left r
  counts_one r at s a = omega (arith, left_is r s, count_ahead (all r) at (location r) (λ z m. a z ((members r s z).0 m)))

  counts_all : (rs : List R) (at : ℕ) → All Sound rs → AreAhead at (map list rs) (map location rs) → count_from (concat (map all rs)) at ≤ sum_by left rs
  counts_all rs at s a =
      omega (
        arith,
        concat_counts all rs at,
        sum_mono (λ r. count_from (all r) at) left rs
            (λ k d l. counts_one (get_or rs k d) at (s k d l)
            (λ z m h. omega (arith, get_or-map location rs k d 0 l, a k (omega (arith, length-map rs list)) z (subst (λ xs. Contains xs z) (sym (get_or-map list rs k d [] l)) m) h))),
      )

  -- what is left of all readers counts all elements from a place on that no reader has passed
  pub counts : (c : Chains R) (at : ℕ) → Sound c.ends → All Sound c.words → All Sound c.negated → IsUnpassed list location c at
      → count_from (all_of all c) at ≤ left_of left c
  counts c at e w n u =
      omega (
        arith,
        count_from-append (all c.ends ++ concat (map all c.words)) (concat (map all c.negated)) at,
        count_from-append (all c.ends) (concat (map all c.words)) at,
        counts_one c.ends at e u.ends,
        counts_all c.words at w u.words,
        counts_all c.negated at n u.negated,
      )

-- ---- before the first move

pub unmoved_ahead : (xs : List ℕ) (place from : ℕ) → place ≡ first_from xs 0 → IsAhead from xs place
unmoved_ahead xs place from e = λ z m h. omega (arith, e, first_from-least xs 0 z m (omega arith))

ahead_each : {R : Type 0} (list : R → List ℕ) (location : R → ℕ) (r : R) (rs : List R) (from : ℕ) → location r ≡ first_from (list r) 0
    → AreAhead from (map list rs) (map location rs) → AreAhead from (map list (r ∷ rs)) (map location (r ∷ rs))
ahead_each list location r rs from e a zero l = unmoved_ahead (list r) (location r) from e
ahead_each list location r rs from e a (suc k) l = a k (omega arith)

pub all_unmoved_ahead : {R : Type 0} (list : R → List ℕ) (location : R → ℕ) (rs : List R) (from : ℕ) → All (λ r. location r ≡ first_from (list r) 0) rs
    → AreAhead from (map list rs) (map location rs)
all_unmoved_ahead list location [] from a = λ k l. absurd (omega arith)
all_unmoved_ahead list location (r ∷ rs) from a =
    ahead_each list location r rs from (All-head (λ r. location r ≡ first_from (list r) 0) r rs a)
    (all_unmoved_ahead list location rs from (All-tail (λ r. location r ≡ first_from (list r) 0) r rs a))

-- ---- moves

-- a place behind an answer has fewer of the leading word behind it
rest_behind : (ends : List ℕ) (words negated : List (List ℕ)) (lead at to : ℕ) → lead < length words → IsAnswer ends words negated at → at < to
    → count_from (get_or words lead []) (pred_of ends to + 1) < count_from (get_or words lead []) (pred_of ends at + 1)
rest_behind ends words negated lead at to l a h =
    let xs = get_or words lead [] in let (x, m, low, high) = a.each lead [] l in
    let passed : at ≤ pred_of ends to = pred_of-greatest ends to at a.is_end h in
    omega (arith, count_from-falls xs x (pred_of ends to + 1) m (omega arith), count_from-mono xs (pred_of ends at + 1) x (omega arith))

-- so many moves of each reader, and those that are left, are at most those that there were
moves_left : (most rounds more cost before after : ℕ) → after ≤ before + (2 * rounds) * cost → 2 * rounds + more ≤ most → after + more * cost ≤ before + most * cost
moves_left most rounds more cost before after h l =
    omega (arith, h, add-mul (2 * rounds) more cost, mul-le-mul_right cost l)

module _ {R : Type 0} (Sound : R → Type 0) (list all : R → List ℕ) (location left cost : R → ℕ) (lead : ℕ) (c d : Chains R) (to next before after : ℕ)
    (g : IsGone Sound list all location left cost lead c d to next before after) where
  same_cost : (of : List ℕ → ℕ) → cost_of list of d ≡ cost_of list of c
  same_cost of =
      ap (λ e. of e + sum_by of (map list d.words) + sum_by of (map list d.negated)) g.moved.ends.same_list
      ∙ ap (λ w. of (list c.ends) + sum_by of w + sum_by of (map list d.negated)) g.moved.words.lists
      ∙ ap (λ n. of (list c.ends) + sum_by of (map list c.words) + sum_by of n) g.moved.negated.lists

  pub gone_list : list_of list d ≡ list_of list c
  gone_list = same_list_of Sound list all left cost c d (2 * g.rounds) before after g.moved

  pub gone_rest : rest_of list d lead next ≡ rest_of list c lead next
  gone_rest = same_rest_of Sound list all left cost c d (2 * g.rounds) before after lead next g.moved

  pub gone_all : all_of all d ≡ all_of all c
  gone_all =
      ap (λ e. e ++ concat (map all d.words) ++ concat (map all d.negated)) g.moved.ends.same_all
      ∙ ap (λ w. all c.ends ++ concat w ++ concat (map all d.negated)) g.moved.words.alls
      ∙ ap (λ n. all c.ends ++ concat (map all c.words) ++ concat n) g.moved.negated.alls

  pub gone_left : left_of left d ≤ left_of left c
  gone_left = moved_falls Sound list all left cost c d (2 * g.rounds) before after g.moved

  pub gone_steps : after + left_of left d ≤ before + left_of left c
  gone_steps = moved_left Sound list all left cost c d (2 * g.rounds) before after g.moved

  pub gone_place : IsPlace (list_of list d) next
  gone_place = subst (λ l. IsPlace l next) (sym gone_list) (subst (λ v. IsPlace (list_of list c) v) (sym g.place) (first_from-place (list_of list c) to))

  -- from an answer on
  pub gone_moves : (at : ℕ) → rest_of list c lead to < rest_of list c lead at
      → MovesEach list cost c (2 * rest_of list c lead at) (2 * rest_of list c lead next) before after
  gone_moves at h of k =
      moves_left (2 * rest_of list c lead at) g.rounds (2 * rest_of list c lead next) (cost_of list of c) before after
      (moved_each Sound list all left cost c d (2 * g.rounds) before after g.moved of k) (omega (arith, g.bounded, h))

  -- from the making on
  pub made_moves : MovesEach list cost d (2 * length (get_or (map list c.words) lead []) + 2) (2 * rest_of list d lead next) before after
  made_moves of k =
      let most = 2 * length (get_or (map list c.words) lead []) + 2 in
      subst (λ n. after + (2 * rest_of list d lead next) * n ≤ before + most * n) (sym (same_cost of))
      (moves_left most g.rounds (2 * rest_of list d lead next) (cost_of list of c) before after
      (moved_each Sound list all left cost c d (2 * g.rounds) before after g.moved of k)
      (omega (arith, gone_rest, g.bounded, count_from-le_length (get_or (map list c.words) lead []) (pred_of (list c.ends) to + 1))))

-- a reader went on
pub went_on : {R : Type 0} (Sound : R → Type 0) (list all : R → List ℕ) (location left cost : R → ℕ) (old new : LeadReader R) (to before after : ℕ)
    → IsSoundLead Sound list location old → old.at < to → to ≤ TOP → new.lead ≡ old.lead
    → IsGone Sound list all location left cost old.lead (chains_of old) (chains_of new) to new.at before after
    → IsOn Sound list all location left cost old new to before after
went_on Sound list all location left cost old new to before after s above top lead g =
    let c = chains_of old in let d = chains_of new in let E = list c.ends in let W = map list c.words in let N = map list c.negated in
    let m : Contains (list_of list c) old.at = ⊎_elim (λ m. m) (λ t. absurd (omega (arith, t))) s.stands in
    let a : IsAnswer E W N old.at = (having-answers E W N old.at s.rising).0 m in
    let u = s.unpassed (omega arith) in
    let here : location c.ends ≤ old.at = u.ends old.at a.is_end (omega arith) in
    record {
      sound = record {
        ends = g.moved.ends.sound;
        words = g.moved.words.sound;
        negated = g.moved.negated.sound;
        lead = omega (arith, s.lead, lead, ap length g.moved.words.lists, length-map c.words list, length-map d.words list);
        rising = subst (λ e. IsRising e) (sym g.moved.ends.same_list) s.rising;
        stands = gone_place Sound list all location left cost old.lead c d to new.at before after g;
        unpassed = g.unpassed;
      };
      same = record { lead = lead; ends = g.moved.ends.same_list; words = g.moved.words.lists; negated = g.moved.negated.lists };
      same_list = gone_list Sound list all location left cost old.lead c d to new.at before after g;
      same_all = gone_all Sound list all location left cost old.lead c d to new.at before after g;
      place = g.place;
      falls = g.falls (omega arith);
      steps = gone_steps Sound list all location left cost old.lead c d to new.at before after g;
      moves = gone_moves Sound list all location left cost old.lead c d to new.at before after g old.at
          (rest_behind E W N old.lead old.at to (omega (arith, s.lead, length-map c.words list)) a above);
    }

-- the readers of an answer are ahead of what is behind it
pub on_ahead : {R : Type 0} (Sound : R → Type 0) (list : R → List ℕ) (location : R → ℕ) (s : LeadReader R) (to : ℕ) → IsSoundLead Sound list location s
    → s.at < to → to ≤ TOP → IsUnpassed list location (chains_of s) (pred_of (list s.ends.inner) to + 1)
on_ahead Sound list location s to h above top =
    let c = chains_of s in let E = list c.ends in let W = map list c.words in let N = map list c.negated in
    let m : Contains (list_of list c) s.at = ⊎_elim (λ m. m) (λ t. absurd (omega (arith, t))) h.stands in
    let a : IsAnswer E W N s.at = (having-answers E W N s.at h.rising).0 m in
    let low : s.at ≤ pred_of E to = pred_of-greatest E to s.at a.is_end above in
    let u = h.unpassed (omega arith) in
    record {
      ends = λ z n k. u.ends z n (omega arith);
      words = λ i l z n k. u.words i l z n (omega arith);
      negated = λ i l z n k. u.negated i l z n (omega arith);
    }

-- what holds of readers holds of equal ones
pub of_equal : {R : Type 0} (P : Chains R → Type 0) (e : R) (ws vs ns ms : List R) → ws ≡ vs → ns ≡ ms
    → P (record { ends = e; words = vs; negated = ms }) → P (record { ends = e; words = ws; negated = ns })
of_equal P e ws vs ns ms f h p =
    subst (λ xs. P (record { ends = e; words = xs; negated = ns })) (sym f) (subst (λ xs. P (record { ends = e; words = vs; negated = xs })) (sym h) p)

-- the reader that was made
module _ {R : Type 0} (Sound : R → Type 0) (list all : R → List ℕ) (location left cost : R → ℕ) (lead : ℕ) (c : Chains R) (r : LeadReader R) (before after : ℕ)
    (g : IsGone Sound list all location left cost lead c (chains_of r) 1 r.at before after) where
  pub made_sound : IsRising (list c.ends) → lead < length c.words → r.lead ≡ lead → IsSoundLead Sound list location r
  made_sound rising within same = record {
    ends = g.moved.ends.sound;
    words = g.moved.words.sound;
    negated = g.moved.negated.sound;
    lead = omega (arith, within, same, ap length g.moved.words.lists, length-map c.words list, length-map r.words.items list);
    rising = subst (λ e. IsRising e) (sym g.moved.ends.same_list) rising;
    stands = gone_place Sound list all location left cost lead c (chains_of r) 1 r.at before after g;
    unpassed = g.unpassed;
  }

  pub made_answers : IsRising (list c.ends) → (e : ℕ) → Contains (list_of list (chains_of r)) e ↔ IsAnswer (list c.ends) (map list c.words) (map list c.negated) e
  made_answers rising e =
      subst (λ l. Contains l e ↔ IsAnswer (list c.ends) (map list c.words) (map list c.negated) e)
      (sym (gone_list Sound list all location left cost lead c (chains_of r) 1 r.at before after g))
      (having-answers (list c.ends) (map list c.words) (map list c.negated) e rising)

-- no reader was moved
pub unmoved : {R : Type 0} (list : R → List ℕ) (location : R → ℕ) (c : Chains R) (from : ℕ) → location c.ends ≡ first_from (list c.ends) 0
    → All (λ r. location r ≡ first_from (list r) 0) c.words → All (λ r. location r ≡ first_from (list r) 0) c.negated → IsUnpassed list location c from
unmoved list location c from e w n = record {
  ends = unmoved_ahead (list c.ends) (location c.ends) from e;
  words = all_unmoved_ahead list location c.words from w;
  negated = all_unmoved_ahead list location c.negated from n;
}
