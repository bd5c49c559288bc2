use Rattle.std.proofs.Common.{◌≡◌, ◌≤◌, ℕ, List, map, take, length, sym, subst, ap, ◌∙◌, arith}
use Rattle.alta_compile.specs.View.{tree}
use Rattle.alta_content.specs.declared.document.DocRow.{DocRow}
use Rattle.alta_query.specs.View.{shape}
use Rattle.alta_rank.specs.Kept.{IsBest}
use Rattle.alta_machine.specs.Ranked.{ranked}
use Rattle.alta_machine.specs.Uses.{uses_of}
use Rattle.alta_machine.specs.declared.usage.Use.{Use}
use Rattle.alta_search.specs.Answers.{coming}
use Rattle.alta_search.specs.Lists.{count_lists}
use Rattle.alta_search.specs.Plans.{lists}
use Rattle.alta_top.specs.Scoring.{AreScorable, IsScorerOf, last_lists, scored_by}
use Rattle.alta_search.specs.Told.{rows_at}
use Rattle.alta_top.specs.Best.{AreTopSteps, scoring_lists}
use Rattle.alta_machine.specs.Scores.{scored}
use Rattle.alta_search.specs.View.{View}
use Rattle.alta_top.proofs.Ranks.{rows_size}
use Rattle.alta_top.proofs.RowScores.{numbers_stay}
use Rattle.alta_top.proofs.Tops.{as_many, best_documents}
use Rattle.alta_top.proofs.ranking.top_by_plan.Goals as goal

pub returns-in_err-picks-clause-most : goal.returns-in_err-picks-clause-most
returns-in_err-picks-clause-most g c = omega (arith, c.all_answered.ensures.most)

pub returns-in_err-scorer-clause-most : goal.returns-in_err-scorer-clause-most
returns-in_err-scorer-clause-most g c =
    let us = c.args.uses in
    subst (λ (xs : List Use). AreTopSteps xs c.args.snapshot.now c.args.steps.now c.scorer.new.steps) c.requires.uses
    (omega (
      arith,
      c.all_answered.ensures.most,
      c.scorer.ensures.most,
      ap (λ (x : View). lists (scoring_lists us x)) c.whole.ensures,
      ap (λ (x : View). count_lists (last_lists x)) c.whole.ensures,
    ))

pub returns-in_err-best-clause-most : goal.returns-in_err-best-clause-most
returns-in_err-best-clause-most g c =
    let v = c.args.snapshot.now in let us = c.args.uses in
    let is = subst (λ (x : View). IsScorerOf us x c.in_ok-scorer.scorer c.all_answered.new.steps c.scorer.new.steps) c.whole.ensures c.in_ok-scorer.ensures.scorer in
    subst (λ (xs : List Use). AreTopSteps xs v c.args.steps.now c.best_of.new.steps) c.requires.uses
    (omega (arith, c.all_answered.ensures.most, is.steps, c.best_of.ensures.scored.steps))

pub returns-clause-most : goal.returns-clause-most
returns-clause-most g c =
    let v = c.args.snapshot.now in let us = c.args.uses in
    let is = subst (λ (x : View). IsScorerOf us x c.in_ok-scorer.scorer c.all_answered.new.steps c.scorer.new.steps) c.whole.ensures c.in_ok-scorer.ensures.scorer in
    subst (λ (xs : List Use). AreTopSteps xs v c.args.steps.now c.best_of.new.steps) c.requires.uses
    (omega (arith, c.all_answered.ensures.most, is.steps, c.best_of.ensures.scored.steps))

pub returns-clause-total : goal.returns-clause-total
returns-clause-total g c = λ space shows.
    let picks = c.in_ok-picks.picks.items in
    omega (arith, c.len.ensures, c.in_ok-picks.picks.ok.0, rows_size c.args.snapshot.now.rows picks, ap length (c.in_ok-picks.ensures.answers space shows))

pub returns-clause-best : goal.returns-clause-best
returns-clause-best g c = λ formed documents to_rank.
    let v = c.args.snapshot.now in let q = shape c.args.query.now in let p = tree c.args.plan.now in let s = c.in_ok-scorer.scorer in
    let picks = c.in_ok-picks.picks.items in let kept = c.in_ok-best.best.kept in let every = map (scored (uses_of q)) documents in
    let few : length (uses_of q) ≤ 64 = c.a_query_has_few_uses.ensures q formed in
    let first = subst (λ (x : View). IsScorerOf c.args.uses x s c.all_answered.new.steps c.scorer.new.steps) c.whole.ensures c.in_ok-scorer.ensures.scorer in
    let is = subst (λ (us : List Use). IsScorerOf us v s c.all_answered.new.steps c.scorer.new.steps) c.requires.uses first in
    let all : rows_at v.rows picks ≡ coming to_rank.space p v 0 = c.in_ok-picks.ensures.answers to_rank.space to_rank.shows in
    let best : length s.uses ≤ 64 → AreScorable s.asked (rows_at v.rows picks) → IsBest c.args.count (map (scored_by s) (rows_at v.rows picks)) kept =
    subst (λ (rows : List DocRow). length s.uses ≤ 64 → AreScorable s.asked (rows_at rows picks) → IsBest c.args.count (map (scored_by s) (rows_at rows picks)) kept) c.rows.ensures.value
    (subst (λ (ps : List ℕ). length s.uses ≤ 64 → AreScorable s.asked (rows_at c.rows.result.now ps) → IsBest c.args.count (map (scored_by s) (rows_at c.rows.result.now ps)) kept) c.deref.ensures.value
    c.in_ok-best.ensures.best) in
    let is_best : IsBest c.args.count every kept =
    best_documents c.a_score_is_of_the_cells.ensures q p v documents to_rank c.requires.query c.requires.tests few s c.all_answered.new.steps c.scorer.new.steps is picks all c.args.count kept best in
    record {
      answers = c.from_vec.ensures
          ∙ c.into_sorted.ensures every (numbers_stay (uses_of q) documents to_rank.numbered) (subst (λ (m : ℕ). IsBest m every kept) (sym c.in_ok-best.ensures.count) is_best)
          ∙ ap (λ (m : ℕ). take m (ranked every)) c.in_ok-best.ensures.count;
      total = omega (
        arith,
        c.len.ensures,
        c.in_ok-picks.picks.ok.0,
        as_many c.a_score_is_of_the_cells.ensures q p v documents to_rank c.requires.query c.requires.tests few s c.all_answered.new.steps c.scorer.new.steps is picks all c.args.count kept best,
      );
    }
