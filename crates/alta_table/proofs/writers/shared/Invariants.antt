use Rattle.std.proofs.Common.{length, ◌-◌, ◌≡◌, ◌≤◌, ◌+◌, drop}
use Rattle.alta_table.specs.Terms.{shared_len}
use Rattle.alta_table.proofs.writers.shared.Given as goal

abbrev pub invariant-shared : goal.invariant-shared
invariant-shared l = record {
  so_far : l.len + shared_len (drop l.len l.before) (drop l.len l.term) ≡ shared_len l.before l.term;
  first : l.len ≤ length l.before;
  second : l.len ≤ length l.term;
}

abbrev pub decreases-shared : goal.decreases-shared
decreases-shared l = length l.before - l.len
