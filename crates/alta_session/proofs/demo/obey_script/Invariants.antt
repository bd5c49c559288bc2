use Rattle.std.proofs.Common.{◌≤◌, ◌-◌, length, take}
use Rattle.alta_make.specs.Script.{script}
use Rattle.alta_session.specs.Answering.{CanAnswer}
use Rattle.alta_session.specs.Demo.{Obeyed}
use Rattle.alta_session.specs.Ending.{KeepsDiskCounts}
use Rattle.alta_session.proofs.demo.obey_script.Given as goal

abbrev pub invariant-lines : goal.invariant-lines
invariant-lines g l = record {
  within : l.index ≤ length (script l.n);
  obeyed : Obeyed g.D.Disk.tells (g.D.Disk.state l.fn.disk) (g.D.Disk.state l.disk) l.fn.session l.session (take l.index (script l.n));
  can : CanAnswer g.D.Disk.tells (g.D.Disk.state l.disk) l.session;
  counts : KeepsDiskCounts (g.D.Disk.state l.fn.disk) (g.D.Disk.state l.disk);
}

abbrev pub decreases-lines : goal.decreases-lines
decreases-lines g l = length (script l.n) - l.index
