use Rattle.std.proofs.Common.{◌≡◌, ℕ, ◌+◌, ◌<◌, ◌≤◌, [], map, get_or}
use Rattle.std.specs.Prelude.{All, sum_by}
use Rattle.alta_codec.specs.Rising.{first_from, pred_of}
use Rattle.alta_rank.proofs.scoring.least_from.Given as goal

abbrev pub invariant-readers : goal.invariant-readers
invariant-readers g l =
    record {
      sound : All g.R.Reader.sound l.readers;
      lists : map g.R.Reader.list l.readers ≡ map g.R.Reader.list l.fn.readers;
      behind : All (λ r. pred_of (g.R.Reader.list r) (g.R.Reader.location r) < l.first) l.readers;
      above : l.first ≤ l.least;
      least : (k : ℕ) → k < l.i → l.least ≤ first_from (get_or (map g.R.Reader.list l.fn.readers) k []) l.first;
      steps : l.steps + sum_by g.R.Reader.left l.readers ≤ l.fn.steps + sum_by g.R.Reader.left l.fn.readers;
    }
