use Rattle.std.proofs.Common.{sym, ◌∙◌}
use Rattle.alta_model.proofs.Phrases.{fits_ended}
use Rattle.alta_model.proofs.phrase.fits.Goals as goal

pub returns-then-i-cells : goal.returns-then-i-cells
returns-then-i-cells c = sym (fits_ended c.args.tests.now c.args.cells.now c.loop-i.i c.loop-i-test.true c.if-i-cells.true) ∙ c.loop-i.invariant.same
