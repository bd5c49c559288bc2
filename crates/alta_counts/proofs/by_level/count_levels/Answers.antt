use Rattle.std.proofs.Common.{◌≡◌, ◌≤◌, ℕ, List, [], ◌∷◌, ◌++◌, map, length, get_or, sym, subst, ap, ◌∙◌, arith}
use Rattle.std.specs.List.{concat}
use Rattle.std.proofs.lemmas.List.{length-map}
use Rattle.std.proofs.lemmas.List.Elements.{All-head, All-tail}
use Rattle.alta_codec.specs.declared.location.TheConstants.{TOP}
use Rattle.alta_codec.specs.Rising.{IsRising, pred_of}
use Rattle.alta_codec.proofs.Places.{pred_of-below}
use Rattle.alta_counts.specs.ByLevel.{levels_of, whole_at, ends_at, leading_size}
use Rattle.alta_search.specs.Lists.{level_list}
use Rattle.alta_counts.proofs.Asking.{found_rises}
use Rattle.alta_counts.proofs.LevelWalks.{each_ends, counting_start, counting_more, counting_end, counting_fits, counting_steps}
use Rattle.alta_search.proofs.Parts.{all_front}
use Rattle.alta_counts.proofs.by_level.count_levels.Goals as goal
use Rattle.alta_counts.proofs.by_level.count_levels.Goals.{then-ends_there+in_ok-live, else-ends_there}

-- the level's end is that of its list
level_end : (ls ks : List (List ℕ)) (at high : ℕ) → ls ≡ ks → high ≡ pred_of (get_or ls at []) TOP → high ≡ pred_of (get_or ks at []) TOP
level_end ls ks at high same is = is ∙ ap (λ xs. pred_of (get_or xs at []) TOP) same

below : (ks : List (List ℕ)) (at high : ℕ) → high ≡ pred_of (get_or ks at []) TOP → high ≤ TOP
below ks at high is = omega (arith, is, pred_of-below (get_or ks at []) TOP (omega arith))

pub walked_len-len-requires : goal.walked_len-len-requires
walked_len-len-requires g c =
    all_front (λ u. IsRising (whole_at c.args.tests.now u)) c.args.words.now c.args.negated.now
    (All-tail (λ u. IsRising (whole_at c.args.tests.now u)) c.args.ends (c.args.words.now ++ c.args.negated.now) c.requires.rising)

pub loop-at-init : goal.loop-at-init
loop-at-init g c = counting_start (levels_of c.args.tests.now) c.args.ends c.args.words.now c.args.negated.now (leading_size c.args.tests.now c.args.asking c.args.words.now) (ends_at c.args.tests.now c.args.asking c.args.ends c.args.words.now c.args.negated.now) c.args.gone.now c.requires.rising (found_rises c.args.asking (whole_at c.args.tests.now c.args.ends) (map (whole_at c.args.tests.now) c.args.words.now) (map (whole_at c.args.tests.now) c.args.negated.now) (All-head (λ u. IsRising (whole_at c.args.tests.now u)) c.args.ends (c.args.words.now ++ c.args.negated.now) c.requires.rising)) c.args.steps.now

pub last_at-high-requires-clause-rising : goal.last_at-high-requires-clause-rising
last_at-high-requires-clause-rising g c =
    subst (λ ls. IsRising (concat ls)) (sym c.levels_at-levels.ensures)
    (All-head (λ u. IsRising (whole_at c.args.tests.now u)) c.args.ends (c.args.words.now ++ c.args.negated.now) c.requires.rising)

pub count_between-requires-clause-until : goal.count_between-requires-clause-until
count_between-requires-clause-until g c = c.ends_there.ensures.cleft c.if-ends_there.true

pub returns-in_err-live-clause-steps : goal.returns-in_err-live-clause-steps
returns-in_err-live-clause-steps g c =
    counting_steps (levels_of c.args.tests.now) c.args.ends c.args.words.now c.args.negated.now (leading_size c.args.tests.now c.args.asking c.args.words.now) (ends_at c.args.tests.now c.args.asking c.args.ends c.args.words.now c.args.negated.now) c.args.gone.now c.requires.rising (found_rises c.args.asking (whole_at c.args.tests.now c.args.ends) (map (whole_at c.args.tests.now) c.args.words.now) (map (whole_at c.args.tests.now) c.args.negated.now) (All-head (λ u. IsRising (whole_at c.args.tests.now u)) c.args.ends (c.args.words.now ++ c.args.negated.now) c.requires.rising)) c.args.steps.now c.loop-at.live c.loop-at.low c.loop-at.steps c.loop-at.invariant c.last_at-high.result c.count_between.new.steps
    (below (levels_of c.args.tests.now c.args.ends) c.loop-at.at c.last_at-high.result
    (level_end (map level_list c.levels_at-levels.result.now) (levels_of c.args.tests.now c.args.ends) c.loop-at.at c.last_at-high.result c.levels_at-levels.ensures c.last_at-high.ensures))
    c.count_between.ensures.steps

pub overflow_add-live : goal.overflow_add-live
overflow_add-live g c = omega (arith, counting_fits (levels_of c.args.tests.now) c.args.ends c.args.words.now c.args.negated.now (leading_size c.args.tests.now c.args.asking c.args.words.now) (ends_at c.args.tests.now c.args.asking c.args.ends c.args.words.now c.args.negated.now) c.args.gone.now c.requires.rising (found_rises c.args.asking (whole_at c.args.tests.now c.args.ends) (map (whole_at c.args.tests.now) c.args.words.now) (map (whole_at c.args.tests.now) c.args.negated.now) (All-head (λ u. IsRising (whole_at c.args.tests.now u)) c.args.ends (c.args.words.now ++ c.args.negated.now) c.requires.rising)) c.args.steps.now c.loop-at.live c.loop-at.low c.loop-at.steps c.loop-at.invariant c.last_at-high.result c.in_ok-live.field-0 c.in_ok-live.ensures.count)

pub loop-at-preserved : goal.loop-at-preserved
loop-at-preserved g c =
    elim c.if-ends_there.branch [
      | then-ends_there+in_ok-live w ↦ rw (w.live-is, w.low-is, w.steps-is)
          (counting_more (levels_of c.args.tests.now) c.args.ends c.args.words.now c.args.negated.now (leading_size c.args.tests.now c.args.asking c.args.words.now) (ends_at c.args.tests.now c.args.asking c.args.ends c.args.words.now c.args.negated.now) c.args.gone.now c.requires.rising (found_rises c.args.asking (whole_at c.args.tests.now c.args.ends) (map (whole_at c.args.tests.now) c.args.words.now) (map (whole_at c.args.tests.now) c.args.negated.now) (All-head (λ u. IsRising (whole_at c.args.tests.now u)) c.args.ends (c.args.words.now ++ c.args.negated.now) c.requires.rising)) c.args.steps.now c.loop-at.live c.loop-at.low c.loop-at.steps c.loop-at.invariant c.loop-at.at c.last_at-high.result w.in_ok-live.field-0 w.count_between.new.steps
          (omega (arith, c.loop-at-test.true, c.cuts-at-end.ensures, ap length c.levels_at-levels.ensures, length-map c.levels_at-levels.result.now level_list))
          (level_end (map level_list c.levels_at-levels.result.now) (levels_of c.args.tests.now c.args.ends) c.loop-at.at c.last_at-high.result c.levels_at-levels.ensures c.last_at-high.ensures)
          (c.ends_there.ensures.above w.if-ends_there.true) (c.ends_there.ensures.cleft w.if-ends_there.true) w.in_ok-live.ensures.count w.count_between.ensures.steps)
      | else-ends_there w ↦ rw (w.live-is, w.low-is, w.steps-is) c.loop-at.invariant
    ]

pub count_between-requires-2-clause-until : goal.count_between-requires-2-clause-until
count_between-requires-2-clause-until g c = each_ends (levels_of c.args.tests.now) c.args.ends c.args.words.now c.args.negated.now (leading_size c.args.tests.now c.args.asking c.args.words.now) (ends_at c.args.tests.now c.args.asking c.args.ends c.args.words.now c.args.negated.now) c.args.gone.now (c.args.ends ∷ c.args.words.now ++ c.args.negated.now) c.requires.rising

pub overflow_add-result : goal.overflow_add-result
overflow_add-result g c = omega (arith, counting_fits (levels_of c.args.tests.now) c.args.ends c.args.words.now c.args.negated.now (leading_size c.args.tests.now c.args.asking c.args.words.now) (ends_at c.args.tests.now c.args.asking c.args.ends c.args.words.now c.args.negated.now) c.args.gone.now c.requires.rising (found_rises c.args.asking (whole_at c.args.tests.now c.args.ends) (map (whole_at c.args.tests.now) c.args.words.now) (map (whole_at c.args.tests.now) c.args.negated.now) (All-head (λ u. IsRising (whole_at c.args.tests.now u)) c.args.ends (c.args.words.now ++ c.args.negated.now) c.requires.rising)) c.args.steps.now c.loop-at.live c.loop-at.low c.loop-at.steps c.loop-at.invariant TOP c.in_ok-rest.rest c.in_ok-rest.ensures.count)

pub returns-clause-count : goal.returns-clause-count
returns-clause-count g c = counting_end (levels_of c.args.tests.now) c.args.ends c.args.words.now c.args.negated.now (leading_size c.args.tests.now c.args.asking c.args.words.now) (ends_at c.args.tests.now c.args.asking c.args.ends c.args.words.now c.args.negated.now) c.args.gone.now c.requires.rising (found_rises c.args.asking (whole_at c.args.tests.now c.args.ends) (map (whole_at c.args.tests.now) c.args.words.now) (map (whole_at c.args.tests.now) c.args.negated.now) (All-head (λ u. IsRising (whole_at c.args.tests.now u)) c.args.ends (c.args.words.now ++ c.args.negated.now) c.requires.rising)) c.args.steps.now c.loop-at.live c.loop-at.low c.loop-at.steps c.loop-at.invariant c.in_ok-rest.rest c.count_between-2.new.steps c.in_ok-rest.ensures.count

pub returns-clause-steps : goal.returns-clause-steps
returns-clause-steps g c = counting_steps (levels_of c.args.tests.now) c.args.ends c.args.words.now c.args.negated.now (leading_size c.args.tests.now c.args.asking c.args.words.now) (ends_at c.args.tests.now c.args.asking c.args.ends c.args.words.now c.args.negated.now) c.args.gone.now c.requires.rising (found_rises c.args.asking (whole_at c.args.tests.now c.args.ends) (map (whole_at c.args.tests.now) c.args.words.now) (map (whole_at c.args.tests.now) c.args.negated.now) (All-head (λ u. IsRising (whole_at c.args.tests.now u)) c.args.ends (c.args.words.now ++ c.args.negated.now) c.requires.rising)) c.args.steps.now c.loop-at.live c.loop-at.low c.loop-at.steps c.loop-at.invariant TOP c.count_between-2.new.steps (omega arith) c.count_between-2.ensures.steps

pub returns-in_err-rest-clause-steps : goal.returns-in_err-rest-clause-steps
returns-in_err-rest-clause-steps g c = counting_steps (levels_of c.args.tests.now) c.args.ends c.args.words.now c.args.negated.now (leading_size c.args.tests.now c.args.asking c.args.words.now) (ends_at c.args.tests.now c.args.asking c.args.ends c.args.words.now c.args.negated.now) c.args.gone.now c.requires.rising (found_rises c.args.asking (whole_at c.args.tests.now c.args.ends) (map (whole_at c.args.tests.now) c.args.words.now) (map (whole_at c.args.tests.now) c.args.negated.now) (All-head (λ u. IsRising (whole_at c.args.tests.now u)) c.args.ends (c.args.words.now ++ c.args.negated.now) c.requires.rising)) c.args.steps.now c.loop-at.live c.loop-at.low c.loop-at.steps c.loop-at.invariant TOP c.count_between-2.new.steps (omega arith) c.count_between-2.ensures.steps
