use Rattle.std.proofs.Common.{sym, ◌∙◌, arith}
use Rattle.alta_model.proofs.Phrases.{has_next, has_at_end, has_here}
use Rattle.alta_model.proofs.phrase.has_phrase.Goals as goal

pub returns-then-fits : goal.returns-then-fits
returns-then-fits c = sym (has_here c.args.tests.now c.args.cells.now c.loop-start.start (rw c.behind.ensures at (sym c.fits.ensures ∙ c.if-fits.true)))

pub loop-start-preserved : goal.loop-start-preserved
loop-start-preserved c = record {
  within = omega (arith, c.loop-start-test.true);
  same = sym (has_next c.args.tests.now c.args.cells.now c.loop-start.start c.loop-start-test.true (rw c.behind.ensures at (sym c.fits.ensures ∙ c.if-fits.false))) ∙ c.loop-start.invariant.same;
}

pub returns : goal.returns
returns c = c.is_empty.ensures ∙ sym (has_at_end c.args.tests.now c.args.cells.now c.loop-start.start c.loop-start-test.false) ∙ c.loop-start.invariant.same
