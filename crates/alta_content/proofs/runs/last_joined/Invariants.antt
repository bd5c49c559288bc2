use Rattle.std.proofs.Common.{◌≡◌, ℕ, ◌+◌, ◌-◌, ◌<◌, ◌≤◌, length, get_or}
use Rattle.alta_content.specs.Rows.{ends_of, firsts_of}
use Rattle.alta_content.proofs.runs.last_joined.Given as goal

abbrev pub invariant-joined : goal.invariant-joined
invariant-joined l =
    record {
      after : l.start ≤ l.last;
      within : l.last < length l.rows;
      joined : (k : ℕ) → l.start ≤ k → k < l.last → get_or (firsts_of l.rows) (k + 1) 0 ≡ get_or (ends_of l.rows) k 0 + 1;
    }

abbrev pub decreases-joined : goal.decreases-joined
decreases-joined l = length l.rows - l.last
