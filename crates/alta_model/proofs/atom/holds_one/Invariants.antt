use Rattle.std.proofs.Common.{drop, map}
use Rattle.std.specs.Prelude.{◌↔◌}
use Rattle.alta_machine.specs.Patterns.{SatisfiesOne, range_pattern}
use Rattle.alta_model.proofs.atom.holds_one.Given as goal

abbrev pub invariant-loop-range : goal.invariant-loop-range
invariant-loop-range l = SatisfiesOne l.cells (map range_pattern (drop l.range-index l.ranges)) ↔ SatisfiesOne l.cells (map range_pattern l.ranges)
