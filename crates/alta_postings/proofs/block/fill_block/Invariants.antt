use Rattle.std.proofs.Common.{◌-◌, ◌≤◌, length}
use Rattle.alta_postings.specs.Short.{IsFilled}
use Rattle.alta_postings.proofs.block.fill_block.Given as goal

abbrev pub invariant-numbers : goal.invariant-numbers
invariant-numbers l =
    record {
      filled : IsFilled l.bytes l.at l.before l.first l.last l.next l.out.items;
      few : length l.out.items ≤ 64;
    }

abbrev pub decreases-numbers : goal.decreases-numbers
decreases-numbers l = length l.bytes - l.next
