-- Documents counted one behind the other.
use Rattle.std.proofs.Common.{◌≡◌, ⊎_elim, inl, ℕ, ◌+◌, ◌*◌, ◌<◌, ◌≤◌, Bool, true, false, List, [], map, length, get_or, sym, subst, ap, arith, nat_eq}
use Rattle.std.specs.Prelude.{All, Contains, sum_by}
use Rattle.std.specs.Bool.{OnTrue, OnFalse}
use Rattle.std.proofs.Math.Nat.{mul-add}
use Rattle.std.proofs.lemmas.Bool.{eqb-true, eqb-false}
use Rattle.alta_codec.specs.declared.location.TheConstants.{TOP}
use Rattle.alta_codec.specs.Rising.{IsRising, first_from, pred_of, count_from}
use Rattle.alta_codec.proofs.Places.{first_from-above, first_from-le_top, first_from-place, pred_of-below, pred_of-is, pred_of-mono, count_from-mono, count_from-falls}
use Rattle.alta_docread.specs.Kept.{less}
use Rattle.alta_docread.specs.Tree.{IsAhead}
use Rattle.alta_lead.specs.Having.{IsAnswer, ends_having}
use Rattle.alta_lead.specs.HavingLaws.{having-answers}
use Rattle.alta_lead.specs.Moves.{AreAhead, IsMoved, AreMoved}
use Rattle.alta_lead.specs.Rounds.{IsTold}
use Rattle.alta_lead.specs.Tallying.{IsLedTo}
use Rattle.alta_lead.proofs.Counting.{live_same, live_past, live_over}
use Rattle.alta_lead.proofs.Moving.{still, all_still, moved_then, all_moved_then, moved_more, all_moved_more}
use Rattle.alta_lead.proofs.Rounding.{on_true, on_false, told_least, told_answer}

-- ---- one document

-- behind a document that the leading word has, fewer of its locations are left
pub led_rest : (ends lead : List ℕ) (from at end : ℕ) → from ≤ TOP → at ≡ first_from lead from → end ≡ first_from ends at → end < TOP
    → count_from lead (end + 1) < count_from lead from
led_rest ends lead from at end top e f below =
    let low : from ≤ at = omega (arith, e, first_from-above lead from top) in
    let at_top : at ≤ TOP = omega (arith, e, first_from-le_top lead from) in
    let high : at ≤ end = omega (arith, f, first_from-above ends at at_top) in
    let m : Contains lead at = subst (λ v. Contains lead v) (sym e) (⊎_elim (λ n. n) (λ t. absurd (omega (arith, t, e, high, below))) (first_from-place lead from)) in
    omega (arith, count_from-falls lead at (end + 1) m (omega (arith, high)), count_from-mono lead from at low)

-- where a document begins, its leading word stands, and it ends
pub led_bounds : (ends lead : List ℕ) (from at end : ℕ) → from ≤ TOP → pred_of ends from + 1 ≡ from → at ≡ first_from lead from → end ≡ first_from ends at
    → (from ≤ at) × (at ≤ TOP) × (from ≤ end) × (end ≤ TOP) × (from ≤ pred_of ends end + 1) × (pred_of ends end < end)
led_bounds ends lead from at end top begins e f =
    let low : from ≤ at = omega (arith, e, first_from-above lead from top) in
    let at_top : at ≤ TOP = omega (arith, e, first_from-le_top lead from) in
    let later : from ≤ end = omega (arith, low, f, first_from-above ends at at_top) in
    (low, at_top, later, omega (arith, f, first_from-le_top ends at), omega (arith, begins, pred_of-mono ends from end later), pred_of-below ends end (omega (arith, begins, later)))

-- an end is the last one before what stands behind it
pub behind_end : (ends : List ℕ) (end : ℕ) → IsRising ends → Contains ends end → pred_of ends (end + 1) + 1 ≡ end + 1
behind_end ends end rising m =
    ap (λ v. v + 1) (sym (pred_of-is ends (end + 1) end (inl m) (omega arith) (omega arith) (λ z n h. omega (arith, h))))

-- behind an answer fewer locations of its leading word are left than from its document on
pub answer_rest : (ends : List ℕ) (words negated : List (List ℕ)) (lead at : ℕ) → lead < length words → IsAnswer ends words negated at
    → count_from (get_or words lead []) (at + 1) < count_from (get_or words lead []) (pred_of ends at + 1)
answer_rest ends words negated lead at l a =
    let xs = get_or words lead [] in let (x, m, low, high) = a.each lead [] l in
    omega (arith, count_from-falls xs x (at + 1) m (omega (arith, high)), count_from-mono xs (pred_of ends at + 1) x (omega (arith, low)))

-- what is asked about a document decides whether it is an answer
pub told_some : (ends : List ℕ) (words negated : List (List ℕ)) (end next : ℕ) → IsRising ends → Contains ends end → IsTold words negated (pred_of ends end + 1) end next
    → OnTrue (nat_eq next end) (end < TOP → Contains (ends_having ends words negated) end)
told_some ends words negated end next rising m t =
    on_true (nat_eq next end) (end < TOP → Contains (ends_having ends words negated) end)
    (λ e below. (having-answers ends words negated end rising).1 (told_answer ends words negated end next rising m t (eqb-true next end e)))

pub told_none : (ends : List ℕ) (words negated : List (List ℕ)) (end next : ℕ) → IsRising ends → Contains ends end → IsTold words negated (pred_of ends end + 1) end next
    → OnFalse (nat_eq next end) (end < TOP → Contains (ends_having ends words negated) end → ⊥)
told_none ends words negated end next rising m t =
    on_false (nat_eq next end) (end < TOP → Contains (ends_having ends words negated) end → ⊥)
    (λ e below n.
    omega (
      arith,
      t.later,
      eqb-false next end e,
      told_least ends words negated end next rising m t end ((having-answers ends words negated end rising).0 n) (omega arith),
    ))

-- ---- all of them

module _ {E R : Type 0} (EndSound : E → Type 0) (end_list end_all : E → List ℕ) (end_location end_left end_cost : E → ℕ)
    (Sound : R → Type 0) (list all : R → List ℕ) (location left cost : R → ℕ) where
  -- So many documents up to `from` were counted, and so many deleted ends passed.
  pub record IsTallying (lead having : List ℕ) (ends ends' : E) (words words' negated negated' : List R) (gone : List ℕ) (start from live passed before after : ℕ) : Type 0 where
    pub rounds : ℕ
    pub by_ends : ℕ
    pub by_words : ℕ
    pub by_negated : ℕ
    pub ends_moved : IsMoved EndSound end_list end_all end_left end_cost rounds ends ends' by_ends
    pub words_moved : AreMoved Sound list all left cost (2 * rounds) words words' by_words
    pub negated_moved : AreMoved Sound list all left cost rounds negated negated' by_negated
    pub steps : after ≤ before + by_ends + by_words + by_negated
    pub bounded : rounds + count_from lead from ≤ count_from lead start
    pub top : from ≤ TOP
    pub begins : pred_of (end_list ends) from + 1 ≡ from
    pub ends_ahead : IsAhead from (end_list ends) (end_location ends')
    pub words_ahead : AreAhead from (map list words) (map location words')
    pub negated_ahead : AreAhead from (map list negated) (map location negated')
    pub count : live + count_from (less having gone) from ≡ count_from (less having gone) start
    pub within : passed ≤ length gone
    pub gone_before : (k : ℕ) → k < passed → get_or gone k 0 < from

  pub tallying_starts : (lead having : List ℕ) (e : E) (ws ns : List R) (gone : List ℕ) (start before : ℕ) → EndSound e → All Sound ws → All Sound ns → start ≤ TOP
      → pred_of (end_list e) start + 1 ≡ start → IsAhead start (end_list e) (end_location e) → AreAhead start (map list ws) (map location ws)
      → AreAhead start (map list ns) (map location ns) → IsTallying lead having e e ws ws ns ns gone start start 0 0 before before
  tallying_starts lead having e ws ns gone start before se sw sn top begins ae aw an = record {
    rounds = 0;
    by_ends = 0;
    by_words = 0;
    by_negated = 0;
    ends_moved = still EndSound end_list end_all end_left end_cost e 0 se;
    words_moved = all_still Sound list all left cost ws 0 sw;
    negated_moved = all_still Sound list all left cost ns 0 sn;
    steps = omega arith;
    bounded = omega arith;
    top = top;
    begins = begins;
    ends_ahead = ae;
    words_ahead = aw;
    negated_ahead = an;
    count = omega arith;
    within = omega arith;
    gone_before = λ k l. absurd (omega (arith, l));
  }

  -- One document more: the leading list and the list whose ends are counted are made of the lists that are read.
  module _ (lead_of : List (List ℕ) → List ℕ) (having_of : List ℕ → List (List ℕ) → List (List ℕ) → List ℕ)
      (e f h : E) (ws vs us ns ms ls : List R) (gone : List ℕ) (start from live passed before mid after : ℕ) (found : Bool) (end : ℕ)
      (rising : IsRising (end_list e)) (rises : IsRising (having_of (end_list e) (map list ws) (map list ns)))
      (so_far : IsTallying (lead_of (map list ws)) (having_of (end_list e) (map list ws) (map list ns)) e f ws vs ns ms gone start from live passed before mid)
      (to : IsLedTo EndSound end_list end_all end_location end_left end_cost Sound list all location left cost (lead_of (map list vs))
      (having_of (end_list f) (map list vs) (map list ms)) (end_list f) (map list vs) (map list ms) f h vs us ms ls from end found mid after) where
    abbrev Ends : List ℕ
    Ends = end_list e

    abbrev Words : List (List ℕ)
    Words = map list ws

    abbrev Negated : List (List ℕ)
    Negated = map list ns

    abbrev Leading : List ℕ
    Leading = lead_of Words

    abbrev Having : List ℕ
    Having = having_of Ends Words Negated

    led : IsLedTo EndSound end_list end_all end_location end_left end_cost Sound list all location left cost Leading Having Ends Words Negated
        f h vs us ms ls from end found mid after
    led =
        let P : List ℕ → List (List ℕ) → List (List ℕ) → Type 0 =
        λ es xs ys. IsLedTo EndSound end_list end_all end_location end_left end_cost Sound list all location left cost (lead_of xs) (having_of es xs ys) es xs ys
        f h vs us ms ls from end found mid after in
        subst (λ es. P es Words Negated) so_far.ends_moved.same_list
        (subst (λ xs. P (end_list f) xs Negated) so_far.words_moved.lists
        (subst (λ ys. P (end_list f) (map list vs) ys) so_far.negated_moved.lists to))

    ends_more : IsMoved EndSound end_list end_all end_left end_cost (so_far.rounds + 1) e h (so_far.by_ends + led.by_ends)
    ends_more = moved_then EndSound end_list end_all end_left end_cost e f h so_far.rounds 1 so_far.by_ends led.by_ends so_far.ends_moved led.ends_moved

    words_more : AreMoved Sound list all left cost (2 * (so_far.rounds + 1)) ws us (so_far.by_words + led.by_words)
    words_more =
        all_moved_more Sound list all left cost ws us (2 * so_far.rounds + 2) (2 * (so_far.rounds + 1)) (so_far.by_words + led.by_words) (omega arith)
        (all_moved_then Sound list all left cost ws vs us (2 * so_far.rounds) 2 so_far.by_words led.by_words so_far.words_moved led.words_moved)

    negated_more : AreMoved Sound list all left cost (so_far.rounds + 1) ns ls (so_far.by_negated + led.by_negated)
    negated_more = all_moved_then Sound list all left cost ns ms ls so_far.rounds 1 so_far.by_negated led.by_negated so_far.negated_moved led.negated_moved

    spent : after ≤ before + (so_far.by_ends + led.by_ends) + (so_far.by_words + led.by_words) + (so_far.by_negated + led.by_negated)
    spent = omega (arith, so_far.steps, led.steps)

    pub tallying_on : (more at : ℕ) → end < TOP
        → OnTrue found ((Contains gone end → ⊥) → more ≡ 1) → OnFalse found (more ≡ 0) → (Contains gone end → more ≡ 0)
        → at ≤ length gone → ((k : ℕ) → k < at → get_or gone k 0 < end)
        → IsTallying Leading Having e h ws us ns ls gone start (end + 1) (live + more) at before after
    tallying_on more at below one none dead within passed =
        let is_end : Contains Ends end = ⊎_elim (λ m. m) (λ t. absurd (omega (arith, t, below))) led.standing in
        let over = live_over Having gone from end more rises led.later led.least (is_one found one led.none) (is_none found none led.some) dead in
        record {
          rounds = so_far.rounds + 1;
          by_ends = so_far.by_ends + led.by_ends;
          by_words = so_far.by_words + led.by_words;
          by_negated = so_far.by_negated + led.by_negated;
          ends_moved = ends_more;
          words_moved = words_more;
          negated_moved = negated_more;
          steps = spent;
          bounded = omega (arith, so_far.bounded, led.rest below);
          top = omega (arith, below);
          begins = behind_end Ends end rising is_end;
          ends_ahead = led.ends_ahead below;
          words_ahead = led.words_ahead below;
          negated_ahead = led.negated_ahead below;
          count = omega (arith, so_far.count, over);
          within = within;
          gone_before = λ k l. omega (arith, passed k l);
        }
      where
        is_one : (b : Bool) → OnTrue b ((Contains gone end → ⊥) → more ≡ 1) → OnFalse b (end < TOP → Contains Having end → ⊥)
            → Contains Having end → (Contains gone end → ⊥) → more ≡ 1
        is_one true h n m live = h live
        is_one false h n m live = absurd (n below m)

        is_none : (b : Bool) → OnFalse b (more ≡ 0) → OnTrue b (end < TOP → Contains Having end) → (Contains Having end → ⊥) → more ≡ 0
        is_none true h s out = absurd (out (s below))
        is_none false h s out = h

    -- no document is left
    pub tallied : end ≡ TOP → live ≡ count_from (less Having gone) start
    tallied past =
        omega (
          arith,
          so_far.count,
          live_same Having gone from TOP so_far.top (λ z m l. omega (arith, past, led.least z m l)),
          live_past Having gone TOP rises (omega arith),
        )

    pub tallied_steps : after ≤ before + (end_left e + sum_by left ws + sum_by left ns)
    tallied_steps = omega (arith, spent, ends_more.steps, words_more.steps, negated_more.steps)

    pub tallied_moves : (of : List ℕ → ℕ) → ((x : E) → end_cost x ≤ of (end_list x)) → ((r : R) → cost r ≤ of (list r))
        → after ≤ before + (2 * count_from Leading start + 2) * (of Ends + sum_by of Words + sum_by of Negated)
    tallied_moves of p q =
        let n = 2 * count_from Leading start + 2 in let a = of Ends in let b = sum_by of Words in let c = sum_by of Negated in
        let few : 2 * (so_far.rounds + 1) ≤ n = omega (arith, so_far.bounded) in
        omega (
          arith,
          spent,
          (moved_more EndSound end_list end_all end_left end_cost e h (so_far.rounds + 1) n (so_far.by_ends + led.by_ends) (omega (arith, few)) ends_more).each of p,
          (all_moved_more Sound list all left cost ws us (2 * (so_far.rounds + 1)) n (so_far.by_words + led.by_words) few words_more).each of q,
          (all_moved_more Sound list all left cost ns ls (so_far.rounds + 1) n (so_far.by_negated + led.by_negated) (omega (arith, few)) negated_more).each of q,
          mul-add n (a + b) c,
          mul-add n a b,
        )

    -- no more were counted than fit
    pub tally_fits : live ≤ count_from (less Having gone) start
    tally_fits = omega (arith, so_far.count)
