use Rattle.std.proofs.Common.{◌≡◌, ℕ, ◌+◌, ◌*◌, ◌≤◌, length}
use Rattle.alta_postings.specs.Short.{IsFilled}
use Rattle.alta_postings.proofs.runs.fill_run.Given as goal

abbrev pub invariant-loop-i : goal.invariant-loop-i
invariant-loop-i l =
    record {
      filled : (s y f : ℕ) → IsFilled l.bytes s y f l.before l.at l.initial.out.items → IsFilled l.bytes s y f l.last (l.at + l.i) l.out.items;
      small : l.last ≤ l.before + 127 * l.i;
      fits : length l.out.items ≡ length l.initial.out.items + l.i;
    }
