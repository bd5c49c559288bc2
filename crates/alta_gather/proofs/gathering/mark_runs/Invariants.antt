use Rattle.std.proofs.Common.{◌≡◌, ℕ, ◌+◌, ◌<◌, ◌≤◌, length, get_or}
use Rattle.alta_gather.proofs.Marking.{IsMarkedTo}
use Rattle.alta_gather.specs.Runs.{places_in}
use Rattle.alta_gather.proofs.gathering.mark_runs.Given as goal

abbrev pub invariant-locations : goal.invariant-locations
invariant-locations g l =
    record {
      sound : g.R.Reader.sound l.reader;
      list : g.R.Reader.list l.reader ≡ g.R.Reader.list l.fn.reader;
      within : l.from ≤ length l.lasts;
      passed : (k : ℕ) → k < l.from → get_or l.lasts k 0 < g.R.Reader.location l.reader;
      marked : IsMarkedTo (places_in l.lasts l.runs) (g.R.Reader.list l.fn.reader) (g.R.Reader.location l.reader) l.list l.fn.held l.held;
      steps : l.steps + g.R.Reader.left l.reader ≤ l.fn.steps + g.R.Reader.left l.fn.reader;
    }

abbrev pub decreases-locations : goal.decreases-locations
decreases-locations g l = g.R.Reader.left l.reader
