use Rattle.std.proofs.Common.{ℕ, List, subst, Result}
use Rattle.alta_session.specs.Answering.{Answers}
use Rattle.alta_machine.specs.Machine.{step}
use Rattle.alta_session.specs.Tasks.{task_of}
use Rattle.alta_store.specs.declared.fault.StoreFault.{StoreFault}
use Rattle.alta_machine.specs.Lines.{reading_of}
use Rattle.alta_session.specs.Joining.{Works}
use Rattle.alta_session.proofs.AnsweringLaws.{answers_failed}
use Rattle.alta_session.proofs.session.Session.line.Goals as goal

pub returns-in-Ok-clause-answers : goal.returns-in-Ok-clause-answers
returns-in-Ok-clause-answers g c =
    subst (λ (r : Result (List ℕ) StoreFault). Answers g.D.Disk.tells g.D.Disk.state c.args.disk.now c.reply.new.disk c.args.self.now c.reply.new.self r (λ m. step m c.args.line.now) (λ m. task_of m c.args.line.now)) c.in-Ok.is c.reply.ensures.answers

-- the session is given up
pub returns-in-Err-clause-answers : goal.returns-in-Err-clause-answers
returns-in-Err-clause-answers g c =
    answers_failed g.D.Disk.tells g.D.Disk.state c.args.disk.now c.reply.new.disk c.args.self.now c.reply.new.self _ c.in-Err.fault (λ m. step m c.args.line.now) (λ m. task_of m c.args.line.now)
    (subst (λ (r : Result (List ℕ) StoreFault). Answers g.D.Disk.tells g.D.Disk.state c.args.disk.now c.reply.new.disk c.args.self.now c.reply.new.self r (λ m. step m c.args.line.now) (λ m. task_of m c.args.line.now)) c.in-Err.is c.reply.ensures.answers)

pub returns-in-Ok-clause-works : goal.returns-in-Ok-clause-works
returns-in-Ok-clause-works g c = subst (λ (r : Result (List ℕ) StoreFault). Works g.D.Disk.tells g.D.Disk.state c.args.disk.now c.reply.new.disk c.args.self.now.store (reading_of c.args.line.now) r) c.in-Ok.is c.reply.ensures.works

pub returns-in-Err-clause-works : goal.returns-in-Err-clause-works
returns-in-Err-clause-works g c = subst (λ (r : Result (List ℕ) StoreFault). Works g.D.Disk.tells g.D.Disk.state c.args.disk.now c.reply.new.disk c.args.self.now.store (reading_of c.args.line.now) r) c.in-Err.is c.reply.ensures.works
