use Rattle.std.specs.Prelude.{List}
use Rattle.std.proofs.lemmas.Result.{IfOk-weaker}
use Rattle.alta_search.specs.Answers.{IsPage}
use Rattle.alta_cursors.specs.Open.{AreLazySteps}
use Rattle.alta_search.specs.declared.page.Page.{Page}
use Rattle.alta_compile.specs.Space.{Placed}
use Rattle.alta_compile.specs.View.{tree}
use Rattle.alta_search.specs.View.{Shows}
use Rattle.alta_cursors.proofs.CursorAnswers.{IsTold, page_documents, page_lazy}
use Rattle.alta_cursors.proofs.cursors.page_of.Goals as goal

pub returns-clause-page : goal.returns-clause-page
returns-clause-page g c =
    let old = c.args.cursor.now in let new = c.fetch.new.self in
    IfOk-weaker c.fetch.result
    (λ (page : Page). (space : List Placed) → Shows space old.snapshot → IsPage space (tree old.plan) old.snapshot old.from new.from c.args.count page c.args.steps.now c.fetch.new.steps)
    (λ page. IsTold c.args.count page old new)
    (λ page h left are. page_documents old new c.args.count page c.args.steps.now c.fetch.new.steps left c.fetch.ensures.plan c.fetch.ensures.snapshot h are)
    c.fetch.ensures.page

pub returns-clause-lazy : goal.returns-clause-lazy
returns-clause-lazy g c =
    let old = c.args.cursor.now in let new = c.fetch.new.self in
    IfOk-weaker c.fetch.result
    (λ (page : Page). (space : List Placed) → Shows space old.snapshot → IsPage space (tree old.plan) old.snapshot old.from new.from c.args.count page c.args.steps.now c.fetch.new.steps)
    (λ page. AreLazySteps c.args.count old page c.args.steps.now c.fetch.new.steps)
    (λ page h. page_lazy old new c.args.count page c.args.steps.now c.fetch.new.steps h)
    c.fetch.ensures.page
