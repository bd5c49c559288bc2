use Rattle.std.proofs.Common.{◌+◌, ◌-◌, ◌/◌, arith}
use Rattle.alta_postings.proofs.Lasts.{groups_le}
use Rattle.alta_postings.proofs.search.group_from.Goals as goal

pub halve-preserved-then-field-to : goal.halve-preserved-then-field-to
halve-preserved-then-field-to c =
    let middle = c.halve.low + (c.halve.high - c.halve.low) / 2 in
    record {
      order = omega arith;
      within = c.halve.invariant.within;
      found = c.halve.invariant.found;
      before = λ g h. omega (arith, c.field.ensures, groups_le c.args.bytes.now c.args.count g middle c.requires.kept (omega arith) (omega (arith, c.halve.invariant.within)));
    }
