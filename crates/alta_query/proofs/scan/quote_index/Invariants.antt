use Rattle.std.proofs.Common.{◌≡◌, ◌+◌, ◌-◌, ◌≤◌, length, drop}
use Rattle.std.specs.List.{position_or_len}
use Rattle.alta_machine.specs.Spots.{is_quote}
use Rattle.alta_query.proofs.scan.quote_index.Given as goal

abbrev pub invariant-loop-n : goal.invariant-loop-n
invariant-loop-n l = record { within : l.n ≤ length l.rest; same : l.n + position_or_len is_quote (drop l.n l.rest) ≡ position_or_len is_quote l.rest }

abbrev pub decreases-loop-n : goal.decreases-loop-n
decreases-loop-n l = length l.rest - l.n
