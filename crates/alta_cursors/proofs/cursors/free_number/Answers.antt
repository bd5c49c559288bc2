use Rattle.std.proofs.Common.{length, sym, ◌∙◌}
use Rattle.alta_cursors.proofs.CursorAnswers.{free_in, free_here, free_step}
use Rattle.alta_cursors.proofs.cursors.free_number.Goals as goal

pub loop-tried-preserved : goal.loop-tried-preserved
loop-tried-preserved c =
    let held = c.args.cursors.now in
    free_step (length held) c.loop-tried.tried (free_in held) held c.loop-tried-test.true (sym c.has.ensures ∙ c.if-not-has.false) c.loop-tried.invariant

pub returns-then-not-has : goal.returns-then-not-has
returns-then-not-has c =
    let held = c.args.cursors.now in
    free_here (length held) c.loop-tried.tried (free_in held) held c.loop-tried-test.true (sym c.has.ensures ∙ c.if-not-has.true) c.loop-tried.invariant
