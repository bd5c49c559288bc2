use Rattle.std.proofs.Common.{◌≤◌, ℕ, List, map, take, length, sym, subst, ap, ◌∙◌, arith}
use Rattle.std.proofs.lemmas.List.{length-map}
use Rattle.alta_compile.specs.View.{tree}
use Rattle.alta_content.specs.declared.document.DocRow.{DocRow}
use Rattle.alta_machine.specs.Ranked.{ranked}
use Rattle.alta_machine.specs.Scores.{scored}
use Rattle.alta_machine.specs.Uses.{uses_of}
use Rattle.alta_machine.specs.declared.usage.Use.{Use}
use Rattle.alta_query.specs.View.{shape}
use Rattle.alta_rank.specs.Kept.{IsBest}
use Rattle.alta_search.specs.Answers.{coming}
use Rattle.alta_search.specs.Lists.{count_lists}
use Rattle.alta_search.specs.Plans.{lists}
use Rattle.alta_top.specs.Ranking.{AreRanked}
use Rattle.alta_top.specs.Scoring.{AreScorable, IsScorerOf, last_lists}
use Rattle.alta_search.specs.Tops.{document_of}
use Rattle.alta_top.specs.Best.{AreTopSteps, scoring_lists}
use Rattle.alta_search.specs.View.{View}
use Rattle.alta_top.proofs.ByUses.{coming_ranked}
use Rattle.alta_top.proofs.RowScores.{numbers_stay}
use Rattle.alta_top.proofs.Tops.{documents_scored, last_most}
use Rattle.alta_top.proofs.ranking.top_by_uses.Goals as goal

pub returns-in_err-scorer-clause-most : goal.returns-in_err-scorer-clause-most
returns-in_err-scorer-clause-most g c =
    let v = c.args.snapshot.now in let us = c.args.uses in
    subst (λ (xs : List Use). AreTopSteps xs v c.args.steps.now c.scorer.new.steps) c.requires.uses
    (omega (
      arith,
      c.scorer.ensures.most,
      last_most v,
      ap (λ (x : View). lists (scoring_lists us x)) c.whole.ensures,
      ap (λ (x : View). count_lists (last_lists x)) c.whole.ensures,
    ))

pub returns-in_err-found-clause-most : goal.returns-in_err-found-clause-most
returns-in_err-found-clause-most g c =
    let v = c.args.snapshot.now in let us = c.args.uses in
    let is = subst (λ (x : View). IsScorerOf us x c.in_ok-scorer.scorer c.args.steps.now c.scorer.new.steps) c.whole.ensures c.in_ok-scorer.ensures.scorer in
    subst (λ (xs : List Use). AreTopSteps xs v c.args.steps.now c.best_scored.new.steps) c.requires.uses
    (omega (arith, is.steps, c.best_scored.ensures.scored.steps, last_most v))

pub returns-clause-most : goal.returns-clause-most
returns-clause-most g c =
    let v = c.args.snapshot.now in let us = c.args.uses in
    let is = subst (λ (x : View). IsScorerOf us x c.in_ok-scorer.scorer c.args.steps.now c.scorer.new.steps) c.whole.ensures c.in_ok-scorer.ensures.scorer in
    subst (λ (xs : List Use). AreTopSteps xs v c.args.steps.now c.best_scored.new.steps) c.requires.uses
    (omega (arith, is.steps, c.best_scored.ensures.scored.steps, last_most v))

pub returns-clause-total : goal.returns-clause-total
returns-clause-total g c = λ space shows.
    let v = c.args.snapshot.now in let q = shape c.args.query.now in let p = tree c.args.plan.now in let s = c.in_ok-scorer.scorer in
    let kept = c.in_ok-found.found.best.kept in let total = c.in_ok-found.found.total in
    let first = subst (λ (x : View). IsScorerOf c.args.uses x s c.args.steps.now c.scorer.new.steps) c.whole.ensures c.in_ok-scorer.ensures.scorer in
    let is = subst (λ (us : List Use). IsScorerOf us v s c.args.steps.now c.scorer.new.steps) c.requires.uses first in
    let walked : length s.uses ≤ 64 → AreScorable s.asked v.rows → AreRanked s v.gone v.rows c.args.count kept total =
    subst (λ (ends : List ℕ). length s.uses ≤ 64 → AreScorable s.asked v.rows → AreRanked s ends v.rows c.args.count kept total) c.gone.ensures.value
    (subst (λ (rows : List DocRow). length s.uses ≤ 64 → AreScorable s.asked rows → AreRanked s c.gone.result.now rows c.args.count kept total) c.rows.ensures.value c.in_ok-found.ensures.ranked) in
    (coming_ranked c.a_score_is_of_the_cells.ensures c.a_score_is_of_an_answer.ensures q p v space shows c.requires.query c.requires.tests s c.args.steps.now c.scorer.new.steps is
    c.requires.any c.args.count kept total (omega (arith, c.requires.few, ap length c.requires.uses)) c.requires.low walked).1

pub returns-clause-best : goal.returns-clause-best
returns-clause-best g c = λ formed documents to_rank.
    let v = c.args.snapshot.now in let q = shape c.args.query.now in let p = tree c.args.plan.now in let s = c.in_ok-scorer.scorer in
    let kept = c.in_ok-found.found.best.kept in let total = c.in_ok-found.found.total in let every = map (scored (uses_of q)) documents in
    let few : length (uses_of q) ≤ 64 = omega (arith, c.requires.few, ap length c.requires.uses) in
    let first = subst (λ (x : View). IsScorerOf c.args.uses x s c.args.steps.now c.scorer.new.steps) c.whole.ensures c.in_ok-scorer.ensures.scorer in
    let is = subst (λ (us : List Use). IsScorerOf us v s c.args.steps.now c.scorer.new.steps) c.requires.uses first in
    let walked : length s.uses ≤ 64 → AreScorable s.asked v.rows → AreRanked s v.gone v.rows c.args.count kept total =
    subst (λ (ends : List ℕ). length s.uses ≤ 64 → AreScorable s.asked v.rows → AreRanked s ends v.rows c.args.count kept total) c.gone.ensures.value
    (subst (λ (rows : List DocRow). length s.uses ≤ 64 → AreScorable s.asked rows → AreRanked s c.gone.result.now rows c.args.count kept total) c.rows.ensures.value c.in_ok-found.ensures.ranked) in
    let (best, size) = coming_ranked c.a_score_is_of_the_cells.ensures c.a_score_is_of_an_answer.ensures q p v to_rank.space to_rank.shows c.requires.query c.requires.tests s
    c.args.steps.now c.scorer.new.steps is c.requires.any c.args.count kept total few c.requires.low walked in
    let is_best : IsBest c.args.count every kept =
    subst (λ l. IsBest c.args.count l kept)
    (documents_scored c.a_score_is_of_the_cells.ensures q p v documents to_rank c.requires.query c.requires.tests few s c.args.steps.now c.scorer.new.steps is) best in
    record {
      answers = c.from_vec.ensures
          ∙ c.into_sorted.ensures every (numbers_stay (uses_of q) documents to_rank.numbered) (subst (λ (m : ℕ). IsBest m every kept) (sym c.in_ok-found.ensures.count) is_best)
          ∙ ap (λ (m : ℕ). take m (ranked every)) c.in_ok-found.ensures.count;
      total = omega (arith, size, ap length to_rank.answers, length-map (coming to_rank.space p v 0) (document_of to_rank.space));
    }
