use Rattle.std.proofs.Common.{◌≡◌, ◌≤◌, ◌-◌, take}
use Rattle.alta_make.specs.Script.{report}
use Rattle.alta_session.specs.Ending.{KeepsCounts}
use Rattle.alta_session.specs.Answering.{CanAnswer}
use Rattle.alta_session.specs.Fed.{Fed}
use Rattle.alta_session.proofs.demo.report.Given as goal

abbrev pub invariant-lines : goal.invariant-lines
invariant-lines g l = record {
  within : l.index ≤ 7;
  fed : Fed g.D.Disk.tells (g.C.Console.told l.fn.console) (g.C.Console.told l.console) (g.D.Disk.state l.fn.disk) (g.D.Disk.state l.disk) l.fn.session l.session (take l.index report);
  can : CanAnswer g.D.Disk.tells (g.D.Disk.state l.disk) l.session;
  input_kept : g.C.Console.left l.console ≡ g.C.Console.left l.fn.console;
  counts : KeepsCounts g.C.Console.take_faults g.C.Console.give_faults l.fn.console l.console (g.D.Disk.state l.fn.disk) (g.D.Disk.state l.disk);
}

abbrev pub decreases-lines : goal.decreases-lines
decreases-lines g l = 7 - l.index
