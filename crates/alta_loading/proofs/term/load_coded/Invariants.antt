use Rattle.std.proofs.Common.{◌≡◌, take, map}
use Rattle.alta_search.specs.Lists.{level_in, level_list}
use Rattle.alta_loading.specs.Kept.{AreKept}
use Rattle.alta_loading.specs.Loads.{loads_from}
use Rattle.alta_loading.proofs.Runs.{Run}
use Rattle.alta_loading.proofs.term.load_coded.Given as goal

abbrev pub invariant-loop-number : goal.invariant-loop-number
invariant-loop-number g l = record {
  run : Run g.D.Disk.tells (loads_from 0 (take l.number l.levels) l.term) (map level_in l.lists.items) (map level_list l.lists.items) (g.D.Disk.state l.fn.disk) (g.D.Disk.state l.disk);
  nears : l.nears ≡ l.fn.nears;
  known : AreKept g.D.Disk.tells (g.D.Disk.state l.disk).content l.levels l.kept;
}
