use Rattle.std.proofs.Common.{subst}
use Rattle.alta_format.specs.Format.{AreBytes}
use Rattle.alta_table.proofs.PlaceLaws.{parts_are}
use Rattle.alta_table.proofs.table.table_of.Goals as goal

pub invariant_of-result : goal.invariant_of-result
invariant_of-result c =
    parts_are c.in_ok-parts.parts c.args.bytes.items c.args.place c.args.total (subst AreBytes c.deref.ensures.value c.are_bytes.ensures) c.requires.below c.requires.whole c.in_ok-parts.ensures.exact c.in_ok-parts.ensures.held c.in_ok-parts.ensures.end
