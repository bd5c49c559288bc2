use Rattle.std.proofs.Common.{take}
use Rattle.alta_joins.proofs.LevelRuns.{Run}
use Rattle.alta_joins.proofs.levels.read_levels.Given as goal

abbrev pub invariant-loop-level : goal.invariant-loop-level
invariant-loop-level g l = Run g.D.Disk.tells (take l.level-index l.levels) l.contents.items (g.D.Disk.state l.fn.disk) (g.D.Disk.state l.disk)
