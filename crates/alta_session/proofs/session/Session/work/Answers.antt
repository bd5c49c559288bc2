use Rattle.std.proofs.Common.{refl, ◌≡◌, ◌∙◌, ap, codes, Err, arith}
use Rattle.std.specs.Prelude.{Some}
use Rattle.alta_machine.specs.declared.document.State.{State}
use Rattle.alta_machine.specs.Machine.{IsRefusal, started_at}
use Rattle.alta_store.specs.Agreement.{Has}
use Rattle.alta_store.specs.declared.fault.StoreFault.TheVariants.{Damaged, Disk, Full}
use Rattle.alta_machine.specs.Lines.{asks}
use Rattle.alta_session.proofs.JoiningLaws.{failed_done, joins_task, lacks_task, reply_by, works_done, works_failed}
use Rattle.alta_session.proofs.AnsweringLaws.{changed, if_so, kept_left}
use Rattle.alta_session.proofs.ObeyingLaws.{obeyed_works, obeyed_full, narrow_at, some_only}
use Rattle.alta_session.proofs.WorkingLaws.{asks_task, says_ok}
use Rattle.alta_session.specs.Working.{work_command, work_task}
use Rattle.alta_session.proofs.session.Session.work.Goals as goal

pub do_work-requires-clause-agrees : goal.do_work-requires-clause-agrees
do_work-requires-clause-agrees g c = c.requires.agrees

ok_is_none : IsRefusal (codes "ok\n") → ⊥
ok_is_none refusal = cc

pub returns-in-Ok-clause-answers : goal.returns-in-Ok-clause-answers
returns-in-Ok-clause-answers g c =
    let obeys = c.in-Ok.ensures.obeys in
    changed g.D.Disk.tells g.D.Disk.state c.args.disk.now c.do_work.new.disk c.args.self.now _ c.text.result (λ (s : State). (s, codes "ok\n")) (λ m. Some (work_task c.args.work)) _ c.text.ensures ok_is_none refl
    (record {
      sound = (c.requires.sound.0, obeys.done.sound ∙ c.requires.sound.1);
      agrees = obeys.done.agrees;
      known = kept_left g.D.Disk.tells (g.D.Disk.state c.args.disk.now) (g.D.Disk.state c.do_work.new.disk) c.args.self.now.store c.do_work.new.store _ _ _ c.requires.known c.slot-before.ensures obeys.done.levels c.forget_left.ensures;
      limit = omega (arith, c.requires.limit, obeys.throughout.costs.limit);
    }) obeys.throughout.costs.faults obeys.throughout.costs.limit
    (λ m tell agrees. record {
      reply = refl;
      stands = obeys.done.stands m.state tell (agrees.stands tell);
      images = obeys.throughout.images m.state agrees.stands;
      works = λ held here. obeyed_works (g.D.Disk.state c.args.disk.now).limit held (work_task c.args.work) (Some (work_task c.args.work)) (λ now. Has c.do_work.new.store now (g.D.Disk.state c.do_work.new.disk).content) refl (obeys.done.works held tell here);
    })
    (λ s tell speaks. record { speaks = if_so c.text.result _ (obeys.done.speaks s tell speaks); images = obeys.throughout.between s (λ told. speaks) })

-- it failed
pub returns-in-Err-clause-answers : goal.returns-in-Err-clause-answers
returns-in-Err-clause-answers g c =
    let obeys = c.in-Err.ensures.obeys in
    record {
      from = λ m tell agrees. record {
        reply = tt;
        agrees = tt;
        images = obeys.throughout.images m.state agrees.stands;
        refused = λ refusal. absurd (ok_is_none refusal);
        works = λ held here. tt;
        full = λ held need gap here is.
            let same : c.in-Err.fault ≡ Full need gap = cc in
            obeyed_full (g.D.Disk.state c.args.disk.now).limit held (work_task c.args.work) (Some (work_task c.args.work)) need gap refl (obeys.failed.full held need gap tell here (ap Err same));
        undamaged = λ place is. let same : c.in-Err.fault ≡ Damaged place = cc in obeys.failed.undamaged m.state tell (agrees.stands tell) place (ap Err same);
      };
      spoken = λ m tell speaks. record { speaks = tt; images = obeys.throughout.between m.state (λ told. speaks) };
      can = tt;
      unchanged = tt;
      only = some_only c.in-Err.fault obeys.failed.only;
      full = λ need gap tell is. let same : c.in-Err.fault ≡ Full need gap = cc in narrow_at _ _ _ need gap obeys.throughout.costs.limit (obeys.failed.narrow need gap tell (ap Err same));
      still = λ place tell is. let same : c.in-Err.fault ≡ Damaged place = cc in obeys.failed.still tell place (ap Err same);
      unwritten = λ need gap tell is. let same : c.in-Err.fault ≡ Full need gap = cc in obeys.failed.unwritten tell need gap (ap Err same);
      cause = λ is. let same : c.in-Err.fault ≡ Disk = cc in obeys.failed.cause (ap Err same);
      faults = obeys.throughout.costs.faults;
      same_limit = obeys.throughout.costs.limit;
    }

pub returns-in-Ok-clause-works : goal.returns-in-Ok-clause-works
returns-in-Ok-clause-works g c = works_done g.D.Disk.tells g.D.Disk.state c.args.disk.now c.do_work.new.disk c.args.self.now.store (asks (work_command c.args.work)) c.text.result c.text.ensures.memory (λ idle. (c.do_work.ensures.idle idle).1)
    (reply_by c.args.self.now.store (asks (work_command c.args.work)) _ _ c.text.ensures (λ m knows. says_ok m c.args.work))

pub returns-in-Err-clause-works : goal.returns-in-Err-clause-works
returns-in-Err-clause-works g c =
    works_failed g.D.Disk.tells g.D.Disk.state c.args.disk.now c.do_work.new.disk c.args.self.now.store (asks (work_command c.args.work)) c.in-Err.fault (λ s place knows tell is. joins_task c.args.self.now.store (g.D.Disk.state c.args.disk.now).content place _ (work_task c.args.work) (asks_task (started_at s) c.args.work) ((c.in-Err.ensures.obeys.failed.damage tell).broken place (ap Err is)))
    (λ s o need gap knows tell is lacks. lacks_task (g.D.Disk.state c.args.disk.now).limit (g.D.Disk.state c.args.disk.now).content c.args.self.now.store o need gap _ (work_task c.args.work) (asks_task (started_at s) c.args.work) (c.in-Err.ensures.obeys.failed.lacks o need gap tell is (ap Err lacks))) (λ idle. failed_done c.in-Err.fault c.do_work.result c.in-Err.is (c.do_work.ensures.idle idle).0)
