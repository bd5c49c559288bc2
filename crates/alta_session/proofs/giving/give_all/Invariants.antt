use Rattle.std.proofs.Common.{◌≡◌, ◌≤◌, ◌-◌, length, take}
use Rattle.alta_console.specs.Giving.{Gives}
use Rattle.alta_session.proofs.giving.give_all.Given as goal

abbrev pub invariant-loop-sent : goal.invariant-loop-sent
invariant-loop-sent g l = record {
  within : l.sent ≤ length l.bytes;
  gave : Gives (g.C.Console.told l.fn.console) (g.C.Console.told l.console) (take l.sent l.bytes);
  input_kept : g.C.Console.left l.console ≡ g.C.Console.left l.fn.console;
  take_count : g.C.Console.take_faults l.fn.console ≤ g.C.Console.take_faults l.console;
  give_count : g.C.Console.give_faults l.fn.console ≤ g.C.Console.give_faults l.console;
}

abbrev pub decreases-loop-sent : goal.decreases-loop-sent
decreases-loop-sent g l = length l.bytes - l.sent
