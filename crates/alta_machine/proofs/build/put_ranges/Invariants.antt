use Rattle.std.proofs.Common.{◌≡◌, ◌-◌, ◌++◌}
use Rattle.alta_machine.specs.Terms.{terms_from, range_terms}
use Rattle.alta_machine.proofs.build.put_ranges.Given as goal

abbrev pub invariant-loop-level : goal.invariant-loop-level
invariant-loop-level l = l.ranges.items ++ terms_from l.value l.level (33 - l.level) ≡ l.initial.ranges.items ++ range_terms l.value
