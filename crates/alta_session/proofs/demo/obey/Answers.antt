use Rattle.std.proofs.Common.{[], ◌≡◌, ℕ, List, None, refl, ap, subst, ◌∙◌, Result, Ok, Err}
use Rattle.alta_console.proofs.GivingLaws.{gives_piece}
use Rattle.alta_session.specs.Answering.{Answers}
use Rattle.alta_machine.specs.Machine.{step}
use Rattle.alta_session.specs.Tasks.{task_of}
use Rattle.alta_session.specs.declared.status.Status.TheVariants.{DiskFault, GiveFault, Full as StatusFull}
use Rattle.std.proofs.lemmas.List.Elements.{All-head}
use Rattle.alta_session.specs.Spending.{OnlyReads}
use Rattle.alta_machine.specs.Lines.{reading_of}
use Rattle.alta_session.specs.Joining.{Works}
use Rattle.alta_session.proofs.DamageLaws.{line_finds, line_wants}
use Rattle.alta_session.proofs.JoiningLaws.{line_says}
use Rattle.alta_session.proofs.SpendingLaws.{settled_line, spends_line}
use Rattle.alta_session.proofs.FedLaws.{fed_line, stops_unanswered}
use Rattle.alta_session.proofs.StatusLaws.{line_ends, line_ends_run, status_not, status_damaged, status_full, status_disk}
use Rattle.alta_store.specs.declared.fault.StoreFault.{StoreFault}
use Rattle.alta_session.proofs.demo.obey.Goals as goal

-- the line was not answered
pub status_of-requires : goal.status_of-requires
status_of-requires g c =
    line_ends_run c.in-Err.fault (subst (λ (r : Result (List ℕ) StoreFault). Answers g.D.Disk.tells g.D.Disk.state c.args.disk.now c.line.new.disk c.args.session.now c.line.new.self r (λ m. step m c.args.line.now) (λ m. task_of m c.args.line.now)) c.in-Err.is c.line.ensures.answers).only

pub returns-in-Err-clause-feeds : goal.returns-in-Err-clause-feeds
returns-in-Err-clause-feeds g c = record {
  ok = tt;
  err = stops_unanswered g.D.Disk.tells None (g.D.Disk.state c.args.disk.now) (g.D.Disk.state c.line.new.disk) c.args.session.now c.args.line.now c.status_of.result (g.met.D.Disk.lawful c.line.new.disk)
      (λ m tell agrees. (c.line.ensures.answers.from m tell agrees).images)
      (λ m held need gap tell agrees here is.
      (c.line.ensures.answers.from m tell agrees).full held need gap here (c.in-Err.is ∙ ap Err (status_full _ c.in-Err.fault need gap c.status_of.ensures is)))
      (λ m place tell agrees is. (c.line.ensures.answers.from m tell agrees).undamaged place (c.in-Err.is ∙ ap Err (status_damaged _ c.in-Err.fault place c.status_of.ensures is)))
      (λ place tell is. line_finds g.D.Disk.tells g.D.Disk.state c.args.disk.now c.line.new.disk c.args.session.now c.args.line.now c.line.result place c.requires.can c.line.ensures.loads c.line.ensures.works c.line.ensures.answers.still tell
      (c.in-Err.is ∙ ap Err (status_damaged _ c.in-Err.fault place c.status_of.ensures is)))
      (λ need gap tell is. line_wants g.D.Disk.tells g.D.Disk.state c.args.disk.now c.line.new.disk c.args.session.now c.args.line.now c.line.result need gap c.requires.can c.line.ensures.works c.line.ensures.answers.unwritten c.line.ensures.answers.same_limit tell
      (c.in-Err.is ∙ ap Err (status_full _ c.in-Err.fault need gap c.status_of.ensures is)))
      (λ m tell agrees. spends_line g.D.Disk.tells g.D.Disk.state c.args.disk.now c.line.new.disk c.args.session.now m c.args.line.now c.line.result agrees.cursors c.line.ensures.no_disk c.line.ensures.loads)
      (settled_line g.D.Disk.tells g.D.Disk.state c.args.disk.now c.line.new.disk c.args.session.now c.args.line.now c.line.result c.line.ensures.no_disk c.line.ensures.loads)
      (λ m tell agrees. (c.line.ensures.answers.spoken m tell (agrees.speaks tell)).images);
}

pub returns-in-Err-clause-accounts : goal.returns-in-Err-clause-accounts
returns-in-Err-clause-accounts g c = record {
  ends = line_ends c.status_of.result c.in-Err.fault c.status_of.ensures (subst (λ (r : Result (List ℕ) StoreFault). Answers g.D.Disk.tells g.D.Disk.state c.args.disk.now c.line.new.disk c.args.session.now c.line.new.self r (λ m. step m c.args.line.now) (λ m. task_of m c.args.line.now)) c.in-Err.is c.line.ensures.answers).only;
  gives_nothing = status_not c.status_of.result c.in-Err.fault c.status_of.ensures GiveFault tt;
  full = λ need gap tell is.
      let same : c.status_of.result ≡ StatusFull need gap = cc in
      c.line.ensures.answers.full need gap tell (c.in-Err.is ∙ ap Err (status_full _ c.in-Err.fault need gap c.status_of.ensures same));
  disk_fault = λ is.
      let same : c.status_of.result ≡ DiskFault = cc in
      c.line.ensures.answers.cause (c.in-Err.is ∙ ap Err (status_disk _ c.in-Err.fault c.status_of.ensures same));
  counts = record { faults = c.line.ensures.answers.faults; limit = c.line.ensures.answers.same_limit };
}

-- it was
pub returns-clause-feeds : goal.returns-clause-feeds
returns-clause-feeds g c = record {
  ok = let answers : Answers g.D.Disk.tells g.D.Disk.state c.args.disk.now c.line.new.disk c.args.session.now c.line.new.self (Ok c.in-Ok.reply) (λ m. step m c.args.line.now) (λ m. task_of m c.args.line.now) =
      subst (λ (r : Result (List ℕ) StoreFault). Answers g.D.Disk.tells g.D.Disk.state c.args.disk.now c.line.new.disk c.args.session.now c.line.new.self r (λ m. step m c.args.line.now) (λ m. task_of m c.args.line.now)) c.in-Ok.is c.line.ensures.answers in
      fed_line g.D.Disk.tells None None (g.D.Disk.state c.args.disk.now) (g.D.Disk.state c.line.new.disk) c.args.session.now c.line.new.self c.args.line.now c.in-Ok.reply
      (gives_piece None None c.in-Ok.reply refl) (λ m tell agrees. (answers.from m tell agrees).reply) (λ m tell agrees. (answers.from m tell agrees).agrees) (λ m tell agrees. (answers.from m tell agrees).images)
      (λ m held tell agrees here. (answers.from m tell agrees).works held here) c.line.ensures.answers.same_limit
      (λ all. c.line.ensures.kept (All-head OnlyReads c.args.line.now [] all))
      (λ m tell agrees. spends_line g.D.Disk.tells g.D.Disk.state c.args.disk.now c.line.new.disk c.args.session.now m c.args.line.now c.line.result agrees.cursors c.line.ensures.no_disk c.line.ensures.loads)
      (settled_line g.D.Disk.tells g.D.Disk.state c.args.disk.now c.line.new.disk c.args.session.now c.args.line.now c.line.result c.line.ensures.no_disk c.line.ensures.loads)
      answers.can.agrees (λ m tell agrees changes. line_says g.D.Disk.tells (g.D.Disk.state c.args.disk.now) c.args.session.now m c.args.line.now c.in-Ok.reply c.requires.can agrees (subst (λ (r : Result (List ℕ) StoreFault). Works g.D.Disk.tells g.D.Disk.state c.args.disk.now c.line.new.disk c.args.session.now.store (reading_of c.args.line.now) r) c.in-Ok.is c.line.ensures.works).replies tell changes) (λ m tell agrees. (answers.spoken m tell (agrees.speaks tell)).speaks) (λ m tell agrees. (answers.spoken m tell (agrees.speaks tell)).images);
  err = tt;
}

pub returns-clause-can : goal.returns-clause-can
returns-clause-can g c =
    (subst (λ (r : Result (List ℕ) StoreFault). Answers g.D.Disk.tells g.D.Disk.state c.args.disk.now c.line.new.disk c.args.session.now c.line.new.self r (λ m. step m c.args.line.now) (λ m. task_of m c.args.line.now)) c.in-Ok.is c.line.ensures.answers).can

pub returns-clause-accounts : goal.returns-clause-accounts
returns-clause-accounts g c = record {
  ends = tt;
  gives_nothing = tt;
  full = λ need gap tell is. absurd cc;
  disk_fault = λ is. absurd cc;
  counts = record { faults = c.line.ensures.answers.faults; limit = c.line.ensures.answers.same_limit };
}
