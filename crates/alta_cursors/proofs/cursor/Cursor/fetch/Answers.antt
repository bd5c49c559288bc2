use Rattle.std.proofs.Common.{subst, arith}
use Rattle.alta_compile.specs.View.{tree}
use Rattle.alta_search.specs.Answers.{IsPage}
use Rattle.alta_cursors.specs.View.{CursorView}
use Rattle.alta_cursors.proofs.cursor.Cursor.fetch.Goals as goal

pub returns-then-self-eq-TOP-clause-page : goal.returns-then-self-eq-TOP-clause-page
returns-then-self-eq-TOP-clause-page g c = λ space _.
    let inside = c.self.inside in
    let steps = c.args.steps.now in
    subst (λ (v : CursorView). IsPage space (tree v.plan) v.snapshot v.from v.from c.args.count c.in_ok-page.page steps steps) c.self.view_is
    (c.in_ok-page.ensures space (tree inside.plan) inside.from c.args.count steps (omega (arith, c.if-self-eq-TOP.true)))
