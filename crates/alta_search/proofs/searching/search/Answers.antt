use Rattle.std.proofs.Common.{subst, arith}
use Rattle.alta_compile.specs.Conjoined.{conjunction_of}
use Rattle.alta_compile.specs.View.{tree}
use Rattle.alta_query.specs.View.{shape}
use Rattle.alta_search.proofs.Paging.{all_answers, none_more, no_steps}
use Rattle.alta_search.proofs.searching.search.Goals as goal
use Rattle.alta_search.specs.Walked.{AreSearchSteps}

pub returns-clause-answers : goal.returns-clause-answers
returns-clause-answers g c = λ space shows.
    all_answers space (tree c.args.plan.now) c.args.snapshot.now c.in_ok-page._next _ c.in_ok-page.page c.args.steps.now c.next_page.new.steps (omega (arith, c.in_ok-page.ensures.few)) (c.in_ok-page.ensures.page space shows)

pub returns-clause-more : goal.returns-clause-more
returns-clause-more g c = λ space shows.
    none_more space (tree c.args.plan.now) c.args.snapshot.now c.in_ok-page._next _ c.in_ok-page.page c.args.steps.now c.next_page.new.steps (omega (arith, c.in_ok-page.ensures.few)) (c.in_ok-page.ensures.page space shows)

pub returns-clause-steps : goal.returns-clause-steps
returns-clause-steps g c = subst (λ o. AreSearchSteps o c.args.snapshot.now c.args.steps.now c.next_page.new.steps) c.in_ok-found.ensures.found c.next_page.ensures.steps

pub returns-in_err-page-clause-steps : goal.returns-in_err-page-clause-steps
returns-in_err-page-clause-steps g c = subst (λ o. AreSearchSteps o c.args.snapshot.now c.args.steps.now c.next_page.new.steps) c.in_ok-found.ensures.found c.next_page.ensures.steps

pub returns-in_err-found-clause-steps : goal.returns-in_err-found-clause-steps
returns-in_err-found-clause-steps g c = no_steps (conjunction_of (shape c.args.query.now)) c.args.snapshot.now c.args.steps.now
