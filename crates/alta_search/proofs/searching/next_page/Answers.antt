use Rattle.std.proofs.Common.{◌+◌, ◌<◌, ◌≤◌, Bool, List, length, subst, sym}
use Rattle.std.specs.Prelude.{IsTrue}
use Rattle.alta_codec.specs.declared.location.TheConstants.{TOP}
use Rattle.alta_compile.specs.Space.{Placed}
use Rattle.alta_compile.specs.View.{tree}
use Rattle.alta_search.specs.Answers.{coming}
use Rattle.alta_search.specs.Plans.{IsOneFound, lists, locations_below}
use Rattle.alta_search.specs.Told.{rows_at}
use Rattle.alta_search.specs.View.{View, Shows}
use Rattle.alta_search.specs.Walks.{IsPart}
use Rattle.alta_search.specs.Walked.{AreSearchSteps}
use Rattle.alta_search.proofs.Paging.{page_is}
use Rattle.alta_search.proofs.searching.next_page.Goals as goal

pub returns-clause-page : goal.returns-clause-page
returns-clause-page g c = λ space shows.
    let s = c.args.snapshot.now in let p = tree c.args.plan.now in let picks = c.in_ok-picks.picks in let place = c.in_ok-picks.place in let e = c.in_ok-picks.ensures in
    let from = c.args.from in let count = c.args.count in let rows = rows_at s.rows picks.picks.items in let same = c.in_ok-page.ensures.more in
    let part : IsPart (coming space p s from) (coming space p s place) count rows picks.more place =
    subst (λ (x : View). (space : List Placed) → Shows space x → IsPart (coming space p x from) (coming space p x place) count (rows_at x.rows picks.picks.items) picks.more place) c.whole.ensures e.part space shows in
    let lazy : IsOneFound p → IsTrue picks.more → c.picked.new.steps ≤ c.args.steps.now + lists s.cuts + locations_below place s.cuts =
    subst (λ (x : View). IsOneFound p → IsTrue picks.more → c.picked.new.steps ≤ c.args.steps.now + lists x.cuts + locations_below place x.cuts) c.whole.ensures e.lazy in
    page_is space p s from place count rows c.in_ok-page.page.answers c.in_ok-page.page.more c.args.steps.now c.picked.new.steps c.in_ok-page.ensures.answers
    (subst (λ (m : Bool). IsPart (coming space p s from) (coming space p s place) count rows m place) (sym same) part)
    (λ found some. lazy found (subst IsTrue same some))

pub returns-clause-few : goal.returns-clause-few
returns-clause-few g c = subst (λ (x : View). length x.rows < TOP) c.whole.ensures c.in_ok-picks.ensures.few

pub returns-clause-steps : goal.returns-clause-steps
returns-clause-steps g c = subst (λ (x : View). AreSearchSteps c.args.found.now x c.args.steps.now c.picked.new.steps) c.whole.ensures c.picked.ensures.steps

pub returns-in_err-picks-clause-steps : goal.returns-in_err-picks-clause-steps
returns-in_err-picks-clause-steps g c = subst (λ (x : View). AreSearchSteps c.args.found.now x c.args.steps.now c.picked.new.steps) c.whole.ensures c.picked.ensures.steps

pub returns-in_err-page-clause-steps : goal.returns-in_err-page-clause-steps
returns-in_err-page-clause-steps g c = subst (λ (x : View). AreSearchSteps c.args.found.now x c.args.steps.now c.picked.new.steps) c.whole.ensures c.picked.ensures.steps
