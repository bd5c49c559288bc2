use Rattle.std.proofs.Common.{◌≡◌, ◌+◌, ◌≤◌, ◌-◌, length, take}
use Rattle.alta_codec.specs.Bytes.{Lacks}
use Rattle.alta_machine.specs.declared.line.TheConstants.{LINE_LIMIT}
use Rattle.alta_console.specs.Lines.{whole_from, begun_from}
use Rattle.alta_session.specs.Ending.{KeepsCounts}
use Rattle.alta_session.specs.Answering.{CanAnswer}
use Rattle.alta_session.specs.Fed.{Fed}
use Rattle.alta_session.specs.Keeping.{clip}
use Rattle.alta_session.proofs.serving.feed.Given as goal

abbrev pub invariant-lines : goal.invariant-lines
invariant-lines g l = record {
  within : l.at ≤ length l.piece;
  fed : Fed g.D.Disk.tells (g.C.Console.told l.fn.console) (g.C.Console.told l.console) (g.D.Disk.state l.fn.disk) (g.D.Disk.state l.disk) l.fn.session l.session (whole_from l.fn.begun.items (take l.at l.piece));
  begun : clip l.begun.items ≡ clip (begun_from l.fn.begun.items (take l.at l.piece));
  short : length l.begun.items ≤ LINE_LIMIT + 1;
  free : Lacks 10 l.begun.items;
  can : CanAnswer g.D.Disk.tells (g.D.Disk.state l.disk) l.session;
  input_kept : g.C.Console.left l.console ≡ g.C.Console.left l.fn.console;
  counts : KeepsCounts g.C.Console.take_faults g.C.Console.give_faults l.fn.console l.console (g.D.Disk.state l.fn.disk) (g.D.Disk.state l.disk);
}

abbrev pub decreases-lines : goal.decreases-lines
decreases-lines g l = length l.piece - l.at
