use Rattle.std.proofs.Common.{◌<◌, get_or, arith}
use Rattle.alta_content.specs.Spans.{lasts_of}
use Rattle.alta_content.proofs.Walks.{ends_before}
use Rattle.alta_content.proofs.spans.first_from.Goals as goal

pub gallop-preserved-then-spans-low : goal.gallop-preserved-then-spans-low
gallop-preserved-then-spans-low c =
    let lt : get_or (lasts_of c.args.spans.now) c.gallop.high 0 < c.args.location = omega (arith, c.last_at.ensures, c.if-last_at-location.true) in record {
      ordered = omega arith;
      started = omega arith;
      within = omega arith;
      before = ends_before c.args.spans.now c.gallop.high c.args.location c.requires.rising c.gallop-test.true lt;
    }

pub gallop-preserved : goal.gallop-preserved
gallop-preserved c =
    let lt : get_or (lasts_of c.args.spans.now) c.gallop.high 0 < c.args.location = omega (arith, c.last_at.ensures, c.if-last_at-location.true) in record {
      ordered = omega arith;
      started = omega arith;
      within = omega arith;
      before = ends_before c.args.spans.now c.gallop.high c.args.location c.requires.rising c.gallop-test.true lt;
    }

pub halve-preserved-then-last_at-location-2 : goal.halve-preserved-then-last_at-location-2
halve-preserved-then-last_at-location-2 c = record {
  ordered = omega arith;
  within = c.halve.invariant.within;
  before = ends_before c.args.spans.now _ c.args.location c.requires.rising (omega arith) (omega (arith, c.last_at-in-halve.ensures, c.if-last_at-location-2.true));
  found = c.halve.invariant.found;
}
