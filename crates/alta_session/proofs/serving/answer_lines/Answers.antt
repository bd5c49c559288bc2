use Rattle.std.proofs.Common.{[], inl, inr, refl}
use Rattle.alta_session.specs.declared.status.Status.TheVariants.{Memory}
use Rattle.alta_session.proofs.EndingLaws.{caused_memory, counts_none}
use Rattle.alta_session.proofs.RunLaws.{goes_none, runs_failed}
use Rattle.alta_session.proofs.serving.answer_lines.Goals as goal

-- no memory for the buffer
pub returns-in-Err-clause-run : goal.returns-in-Err-clause-run
returns-in-Err-clause-run g c =
    runs_failed g.D.Disk.tells c.args.limit _ _ _ _ _ _ _ _ _ c.args.session.now [] 0 _ (g.met.D.Disk.lawful c.args.disk.now)
    (goes_none g.D.Disk.tells c.args.limit (g.C.Console.told c.args.console.now) (g.C.Console.left c.args.console.now) (g.D.Disk.state c.args.disk.now) c.args.session.now (g.met.D.Disk.lawful c.args.disk.now)) refl refl (λ same. cc) (λ same. cc) (λ need gap same. cc)
    (λ place same. cc)

pub returns-in-Err-clause-accounts : goal.returns-in-Err-clause-accounts
returns-in-Err-clause-accounts g c = record {
  ends = inr (inr (inr (inl (inl refl))));
  caused = caused_memory g.D.Disk.tells g.C.Console.give_faults c.args.console.now c.args.console.now (g.D.Disk.state c.args.disk.now) (g.D.Disk.state c.args.disk.now) Memory refl;
  take_fault = λ is. absurd cc;
  read_all = λ is. absurd cc;
  counts = counts_none g.C.Console.take_faults g.C.Console.give_faults c.args.console.now (g.D.Disk.state c.args.disk.now);
}
