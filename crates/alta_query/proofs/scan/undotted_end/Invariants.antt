use Rattle.std.proofs.Common.{◌≡◌, ◌+◌, ◌-◌, ◌≤◌, length, drop}
use Rattle.std.specs.List.{prefix_len}
use Rattle.alta_machine.specs.Spots.{is_undotted}
use Rattle.alta_query.proofs.scan.undotted_end.Given as goal

abbrev pub invariant-loop-n : goal.invariant-loop-n
invariant-loop-n l = record { within : l.n ≤ length l.rest; same : l.n + prefix_len is_undotted (drop l.n l.rest) ≡ prefix_len is_undotted l.rest }

abbrev pub decreases-loop-n : goal.decreases-loop-n
decreases-loop-n l = length l.rest - l.n
