use Rattle.std.proofs.Common.{◌+◌, ◌≤◌, ◌-◌, length}
use Rattle.alta_codec.specs.Bytes.{Lacks}
use Rattle.alta_machine.specs.declared.line.TheConstants.{LINE_LIMIT}
use Rattle.alta_session.specs.Ending.{KeepsCounts}
use Rattle.alta_session.specs.Answering.{CanAnswer}
use Rattle.alta_session.specs.Going.{Goes}
use Rattle.alta_session.proofs.serving.answer_pieces.Given as goal

abbrev pub invariant-takes : goal.invariant-takes
invariant-takes g l = record {
  goes : Goes g.D.Disk.tells l.fn.limit (g.C.Console.told l.fn.console) (g.C.Console.told l.console) (g.C.Console.left l.fn.console) (g.C.Console.left l.console) (g.D.Disk.state l.fn.disk) (g.D.Disk.state l.disk) l.fn.session l.session l.begun.items l.taken;
  short : length l.begun.items ≤ LINE_LIMIT + 1;
  free : Lacks 10 l.begun.items;
  can : CanAnswer g.D.Disk.tells (g.D.Disk.state l.disk) l.session;
  within : l.taken ≤ l.limit;
  counts : KeepsCounts g.C.Console.take_faults g.C.Console.give_faults l.fn.console l.console (g.D.Disk.state l.fn.disk) (g.D.Disk.state l.disk);
}

abbrev pub decreases-takes : goal.decreases-takes
decreases-takes g l = l.limit - l.taken
