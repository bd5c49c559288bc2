use Rattle.std.proofs.Common.{◌≡◌, ◌⊎◌, ◌-◌, ◌≤◌, true, length, get_or}
use Rattle.alta_table.specs.declared.marks.Mark.{Mark}
use Rattle.alta_table.specs.Marks.{head_of}
use Rattle.alta_table.specs.Search.{stands_by}
use Rattle.alta_table.proofs.search.last_mark.Given as goal

abbrev pub invariant-halve : goal.invariant-halve
invariant-halve l = record {
  ordered : l.low ≤ l.high;
  within : l.high ≤ length l.marks.marks.items;
  found : (l.low ≡ 0) ⊎ ((d : Mark) → stands_by l.prefix l.begun (head_of l.marks.heads.items (get_or l.marks.marks.items (l.low - 1) d)) ≡ true);
}

abbrev pub decreases-halve : goal.decreases-halve
decreases-halve l = l.high - l.low
