use Rattle.std.proofs.Common.{sym, ◌∙◌}
use Rattle.alta_top.proofs.SameTests.{among_here, among_behind}
use Rattle.alta_top.proofs.scoring.index_for.Goals as goal

pub returns-then-is_at : goal.returns-then-is_at
returns-then-is_at c =
    among_here c.args.tests.now c.args.test.now c.args.used.now c.loop-index.index-index c.loop-index-test.true (sym c.is_at.ensures ∙ c.if-is_at.true) c.loop-index.invariant

pub loop-index-preserved : goal.loop-index-preserved
loop-index-preserved c =
    among_behind c.args.tests.now c.args.test.now c.args.used.now c.loop-index.index-index c.loop-index-test.true (sym c.is_at.ensures ∙ c.if-is_at.false) c.loop-index.invariant
