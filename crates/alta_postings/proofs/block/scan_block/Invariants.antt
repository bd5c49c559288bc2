use Rattle.std.proofs.Common.{◌-◌, ◌≤◌, length}
use Rattle.alta_postings.specs.Short.{IsReadTo}
use Rattle.alta_postings.proofs.block.scan_block.Given as goal

abbrev pub invariant-numbers : goal.invariant-numbers
invariant-numbers l =
    record {
      read : IsReadTo l.bytes l.at l.before l.last l.count l.next;
      few : l.count ≤ 64;
    }

abbrev pub decreases-numbers : goal.decreases-numbers
decreases-numbers l = length l.bytes - l.next
