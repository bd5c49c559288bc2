use Rattle.std.proofs.Common.{ℕ, ◌-◌, ◌<◌, ◌≤◌, length, get_or}
use Rattle.std.specs.Prelude.{IfSome}
use Rattle.alta_codec.specs.Rising.{IsRising}
use Rattle.alta_postings.specs.Deltas.{decoded_list}
use Rattle.alta_words.specs.Compared.{IsComparedTo}
use Rattle.alta_level.proofs.Walks.{MeetsRuns}
use Rattle.alta_level.proofs.walking.walk_runs.Given as goal

-- whether the stream spells a list is open until it is read, and so is whether what was read rises
abbrev pub invariant-whole : goal.invariant-whole
invariant-whole l =
    record {
      read : IsComparedTo l.stream l.table.bytes l.table.count l.read;
      within : IfSome l.run (λ run. run ≤ length l.runs.ends.items);
      passed : IfSome l.run (λ run. (i : ℕ) → i < run → get_or l.runs.ends.items i 0 < l.read.last);
      held : IsRising (decoded_list l.stream) → MeetsRuns l.runs.firsts.items l.runs.ends.items (decoded_list l.stream) l.read.count l.run;
    }

abbrev pub decreases-whole : goal.decreases-whole
decreases-whole l = length l.stream - l.read.at
