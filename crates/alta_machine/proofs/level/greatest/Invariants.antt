use Rattle.std.proofs.Common.{◌≡◌, ◌+◌, ◌-◌, ◌*◌, ◌^◌, ◌≤◌}
use Rattle.alta_machine.proofs.level.greatest.Given as goal

abbrev pub invariant-levels : goal.invariant-levels
invariant-levels l = record {
  level : l.level ≤ 32;
  begins : l.first ≡ l.prefix * 2 ^ l.level;
  ends : l.first + 2 ^ l.level ≤ l.last + 1;
  size : l.size ≡ 2 ^ l.level;
}

abbrev pub decreases-levels : goal.decreases-levels
decreases-levels l = 32 - l.level
