use Rattle.std.proofs.Common.{◌≡◌, ◌+◌, ◌≤◌, map, drop}
use Rattle.std.specs.Prelude.{All, sum_by}
use Rattle.alta_rank.specs.Counted.{AreBehind, counted_each}
use Rattle.alta_rank.proofs.scoring.score_each.Given as goal

abbrev pub invariant-uses : goal.invariant-uses
invariant-uses g l =
    record {
      sound : All g.R.Reader.sound l.readers;
      lists : map g.R.Reader.list l.readers ≡ map g.R.Reader.list l.fn.readers;
      behind : AreBehind g.R.Reader.list g.R.Reader.location l.readers l.i l.first l.end;
      total : l.score + counted_each (drop l.i l.uses) (drop l.i (map g.R.Reader.list l.fn.readers)) l.last l.end l.first ≡ counted_each l.uses (map g.R.Reader.list l.fn.readers) l.last l.end l.first;
      steps : l.steps + sum_by g.R.Reader.left l.readers ≤ l.fn.steps + sum_by g.R.Reader.left l.fn.readers;
    }
