use Rattle.std.proofs.Common.{take}
use Rattle.alta_disk.specs.Calls.{Costs}
use Rattle.alta_disk.specs.Disk.{Passes}
use Rattle.alta_disk.specs.Parts.{Touches}
use Rattle.alta_rewrite.specs.Puts.{Writes, ranges_in}
use Rattle.alta_rewrite.proofs.putting.write_pieces.Given as goal

abbrev pub invariant-loop-piece : goal.invariant-loop-piece
invariant-loop-piece g l = record {
  wrote : g.D.Disk.tells → Writes (take l.piece-index l.pieces) (g.D.Disk.state l.fn.disk).content (g.D.Disk.state l.disk).content;
  images : Passes (Touches (ranges_in l.pieces)) (g.D.Disk.state l.fn.disk) (g.D.Disk.state l.disk);
  costs : Costs 0 (g.D.Disk.state l.fn.disk) (g.D.Disk.state l.disk);
}
