use Rattle.std.proofs.Common.{◌≡◌, ◌+◌, ◌≤◌}
use Rattle.alta_codec.specs.Rising.{pred_of}
use Rattle.alta_rank.specs.Counted.{counted}
use Rattle.alta_rank.proofs.scoring.score_list.Given as goal

abbrev pub invariant-locations : goal.invariant-locations
invariant-locations g l =
    record {
      sound : g.R.Reader.sound l.reader;
      list : g.R.Reader.list l.reader ≡ g.R.Reader.list l.fn.reader;
      total : l.score + counted l.title l.last l.end (g.R.Reader.list l.fn.reader) (g.R.Reader.location l.reader) ≡ counted l.title l.last l.end (g.R.Reader.list l.fn.reader) l.first;
      behind : pred_of (g.R.Reader.list l.fn.reader) (g.R.Reader.location l.reader) ≤ l.end;
      steps : l.steps + g.R.Reader.left l.reader ≤ l.fn.steps + g.R.Reader.left l.fn.reader;
    }

abbrev pub decreases-locations : goal.decreases-locations
decreases-locations g l = g.R.Reader.left l.reader
