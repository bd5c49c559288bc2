use Rattle.std.proofs.Common.{refl, ◌≡◌, ℕ, List, ap, sym, subst, ◌∙◌, Err, rules, arith}
use Rattle.alta_disk.specs.Disk.{LeavesOnly}
use Rattle.alta_meaning.specs.Standing.{StandsFor, StandsForEither}
use Rattle.alta_machine.specs.Changes.{number_of}
use Rattle.alta_meaning.specs.Work.{enters}
use Rattle.alta_machine.specs.declared.document.State.{State}
use Rattle.alta_machine.specs.Machine.{adding}
use Rattle.alta_session.specs.Tasks.{reply_to_put, task_of_add}
use Rattle.alta_store.specs.Agreement.{Has, MaySpeakOf, MaySpeakOfEither}
use Rattle.alta_store.specs.Calls.{entry_for, with_put}
use Rattle.alta_store.proofs.Agreements.{knows_spoken}
use Rattle.alta_store.specs.declared.fault.StoreFault.TheVariants.{Damaged, Disk, Numbers, Full}
use Rattle.alta_machine.specs.Command.{adds}
use Rattle.alta_machine.specs.Lines.{asks}
use Rattle.alta_session.proofs.JoiningLaws.{joins_task, lacks_task, reply_by, works_done, works_failed, works_still}
use Rattle.alta_session.proofs.AddingLaws.{adding_bad, adding_full, adding_put, leaves_adding, not_refused, put_is_none, room_left}
use Rattle.alta_session.proofs.AgreementLaws.{knows_state}
use Rattle.alta_session.proofs.AnsweringLaws.{if_so, same_fault, same_store, looked, answers_same, changed, changed_rests, kept_left}
use Rattle.alta_session.proofs.ObeyingLaws.{obeyed_works, obeyed_full, narrow_at, put_only}
use Rattle.alta_session.proofs.TaskLaws.{add_bad, add_full, add_puts}
use Rattle.alta_session.proofs.session.Session.add.Goals as goal

pub put_document-requires-clause-agrees : goal.put_document-requires-clause-agrees
put_document-requires-clause-agrees g c = c.requires.can.agrees

pub returns-then-not-name_ok-clause-answers : goal.returns-then-not-name_ok-clause-answers
returns-then-not-name_ok-clause-answers g c =
    looked g.D.Disk.tells g.D.Disk.state c.args.disk.now c.args.self.now c.text.result _ _ _ (g.met.D.Disk.lawful c.args.disk.now) c.requires.can c.text.ensures
    (λ m knows. changed_rests m _ _ _ (adding_bad c.args.name.now c.args.title.now c.args.body.now m.state (search rules)) (add_bad c.args.name.now c.args.title.now c.args.body.now m.state (search rules)))

pub returns-in-Ok-clause-answers : goal.returns-in-Ok-clause-answers
returns-in-Ok-clause-answers g c =
    let intact = c.requires.can.agrees.intact in
    let obeys = c.in-Ok.ensures.obeys intact.state intact.knows in
    changed g.D.Disk.tells g.D.Disk.state c.args.disk.now c.put_document.new.disk c.args.self.now _ c.put_reply.result (adding c.args.name.now c.args.title.now c.args.body.now) (λ m. task_of_add c.args.name.now c.args.title.now c.args.body.now m.state) _ c.put_reply.ensures
    (put_is_none c.in-Ok.put.replaced c.in-Ok.put.number) refl
    (record {
      sound = (c.requires.can.sound.0, obeys.done.sound ∙ c.requires.can.sound.1);
      agrees = obeys.done.agrees;
      known = kept_left g.D.Disk.tells (g.D.Disk.state c.args.disk.now) (g.D.Disk.state c.put_document.new.disk) c.args.self.now.store c.put_document.new.self _ _ _ c.requires.can.known c.slot-before.ensures obeys.done.levels c.forget_left.ensures;
      limit = omega (arith, c.requires.can.limit, obeys.throughout.costs.limit);
    }) obeys.throughout.costs.faults obeys.throughout.costs.limit
    (λ m tell agrees.
    let knows = knows_state g.D.Disk.tells (g.D.Disk.state c.args.disk.now) c.args.self.now m agrees tell in
    let put = c.in-Ok.ensures.put m.state knows in
    let does = c.in-Ok.ensures.obeys m.state knows in
    let is = adding_put c.args.name.now c.args.title.now c.args.body.now m.state (number_of c.args.name.now m.state) (search rules) refl put.2 in
    let to : with_put (number_of c.args.name.now m.state) c.args.name.now c.args.title.now c.args.body.now m.state ≡ (adding c.args.name.now c.args.title.now c.args.body.now m.state).0 = sym (ap (λ (p : State × List ℕ). p.0) is) in
    record {
      reply = ap (λ (p : State × List ℕ). p.1) is ∙ ap (λ (n : ℕ). reply_to_put (number_of c.args.name.now m.state) n) (sym put.0) ∙ ap (λ o. reply_to_put o c.in-Ok.put.number) (sym put.1);
      stands = subst (λ (t : State). StandsFor t (g.D.Disk.state c.put_document.new.disk).content) to (does.done.stands m.state tell (agrees.stands tell));
      images = subst (λ (t : State). LeavesOnly (StandsForEither m.state t) (g.D.Disk.state c.args.disk.now) (g.D.Disk.state c.put_document.new.disk)) to (does.throughout.images m.state agrees.stands);
      works = λ held here.
          obeyed_works (g.D.Disk.state c.args.disk.now).limit held (enters (entry_for (number_of c.args.name.now m.state) c.args.name.now c.args.title.now c.args.body.now)) _ (λ now. Has c.put_document.new.self now (g.D.Disk.state c.put_document.new.disk).content)
          (add_puts c.args.name.now c.args.title.now c.args.body.now m.state (number_of c.args.name.now m.state) (search rules) refl put.2) (does.done.works held tell here);
    })
    (λ s tell speaks.
    let knows = knows_spoken g.D.Disk.tells (g.D.Disk.state c.args.disk.now) c.args.self.now.store c.requires.can.agrees s tell speaks in
    let put = c.in-Ok.ensures.put s knows in
    let does = c.in-Ok.ensures.obeys s knows in
    let to : with_put (number_of c.args.name.now s) c.args.name.now c.args.title.now c.args.body.now s ≡ (adding c.args.name.now c.args.title.now c.args.body.now s).0 = sym (ap (λ (p : State × List ℕ). p.0) (adding_put c.args.name.now c.args.title.now c.args.body.now s (number_of c.args.name.now s) (search rules) refl put.2)) in
    record {
      speaks = if_so c.put_reply.result _ (subst (λ (t : State). MaySpeakOf t (g.D.Disk.state c.put_document.new.disk).content) to (does.done.speaks s tell speaks));
      images = subst (λ (t : State). LeavesOnly (MaySpeakOfEither s t) (g.D.Disk.state c.args.disk.now) (g.D.Disk.state c.put_document.new.disk)) to (does.throughout.between s (λ told. speaks));
    })

pub returns-in-Numbers-clause-answers : goal.returns-in-Numbers-clause-answers
returns-in-Numbers-clause-answers g c =
    let is : c.put_document.result ≡ Err Numbers = c.in-Err.is ∙ ap Err c.in-Numbers.is in
    let same = c.put_document.ensures.refused is in
    answers_same g.D.Disk.tells g.D.Disk.state c.args.disk.now c.put_document.new.disk c.args.self.now _ c.text-in-Numbers.result _ _ same.0 (same_store c.args.self.now c.put_document.new.self same.1)
    (looked g.D.Disk.tells g.D.Disk.state c.args.disk.now c.args.self.now c.text-in-Numbers.result _ _ _ (g.met.D.Disk.lawful c.args.disk.now) c.requires.can c.text-in-Numbers.ensures
    (λ m knows.
    let full = (c.put_document.ensures.numbers m.state knows).0 is in
    changed_rests m _ _ _ (adding_full c.args.name.now c.args.title.now c.args.body.now m.state (search rules) full) (add_full c.args.name.now c.args.title.now c.args.body.now m.state full)))

-- nothing was put
pub returns-in_default-clause-answers : goal.returns-in_default-clause-answers
returns-in_default-clause-answers g c =
    let intact = c.requires.can.agrees.intact in
    let obeys = c.put_document.ensures.obeys intact.state intact.knows in
    record {
      from = λ m tell agrees.
          let knows = knows_state g.D.Disk.tells (g.D.Disk.state c.args.disk.now) c.args.self.now m agrees tell in
          let room = room_left m.state (λ full. c.in_default.not-Numbers (same_fault _ _ _ c.in-Err.is ((c.put_document.ensures.numbers m.state knows).1 full))) in
          let does = c.put_document.ensures.obeys m.state knows in
          let is = adding_put c.args.name.now c.args.title.now c.args.body.now m.state (number_of c.args.name.now m.state) (search rules) refl room in
          record {
            reply = tt;
            agrees = tt;
            images = leaves_adding StandsForEither (g.D.Disk.state c.args.disk.now) (g.D.Disk.state c.put_document.new.disk) m.state _ _ _ is (does.throughout.images m.state agrees.stands);
            refused = λ refusal. absurd (not_refused _ _ _ is (put_is_none (number_of c.args.name.now m.state) m.state.next) refusal);
            works = λ held here. tt;
            full = λ held need gap here is.
                let same : c.in-Err.fault ≡ Full need gap = cc in
                obeyed_full (g.D.Disk.state c.args.disk.now).limit held (enters (entry_for (number_of c.args.name.now m.state) c.args.name.now c.args.title.now c.args.body.now)) _ need gap
                (add_puts c.args.name.now c.args.title.now c.args.body.now m.state (number_of c.args.name.now m.state) (search rules) refl room) (does.failed.full held need gap tell here (c.in-Err.is ∙ ap Err same));
            undamaged = λ place is. let same : c.in-Err.fault ≡ Damaged place = cc in does.failed.undamaged m.state tell (agrees.stands tell) place (c.in-Err.is ∙ ap Err same);
          };
      spoken = λ m tell speaks.
          let knows = knows_spoken g.D.Disk.tells (g.D.Disk.state c.args.disk.now) c.args.self.now.store c.requires.can.agrees m.state tell speaks in
          let room = room_left m.state (λ full. c.in_default.not-Numbers (same_fault _ _ _ c.in-Err.is ((c.put_document.ensures.numbers m.state knows).1 full))) in
          let does = c.put_document.ensures.obeys m.state knows in
          let is = adding_put c.args.name.now c.args.title.now c.args.body.now m.state (number_of c.args.name.now m.state) (search rules) refl room in
          record { speaks = tt; images = leaves_adding MaySpeakOfEither (g.D.Disk.state c.args.disk.now) (g.D.Disk.state c.put_document.new.disk) m.state _ _ _ is (does.throughout.between m.state (λ told. speaks)) };
      can = tt;
      unchanged = tt;
      only = put_only c.in-Err.fault (c.in-Err.ensures.obeys intact.state intact.knows).failed.only c.in_default.not-Numbers;
      full = λ need gap tell is. let same : c.in-Err.fault ≡ Full need gap = cc in narrow_at _ _ _ need gap obeys.throughout.costs.limit (obeys.failed.narrow need gap tell (c.in-Err.is ∙ ap Err same));
      still = λ place tell is. let same : c.in-Err.fault ≡ Damaged place = cc in obeys.failed.still tell place (c.in-Err.is ∙ ap Err same);
      unwritten = λ need gap tell is. let same : c.in-Err.fault ≡ Full need gap = cc in obeys.failed.unwritten tell need gap (c.in-Err.is ∙ ap Err same);
      cause = λ is. let same : c.in-Err.fault ≡ Disk = cc in obeys.failed.cause (c.in-Err.is ∙ ap Err same);
      faults = obeys.throughout.costs.faults;
      same_limit = obeys.throughout.costs.limit;
    }

pub returns-then-not-name_ok-clause-works : goal.returns-then-not-name_ok-clause-works
returns-then-not-name_ok-clause-works g c = works_still g.D.Disk.tells g.D.Disk.state c.args.disk.now c.args.self.now.store (asks (adds c.args.name.now c.args.title.now c.args.body.now)) c.text.result c.text.ensures.memory
    (reply_by c.args.self.now.store (asks (adds c.args.name.now c.args.title.now c.args.body.now)) _ _ c.text.ensures (λ m knows. ap (λ (p : State × List ℕ). p.1) (adding_bad c.args.name.now c.args.title.now c.args.body.now m.state (search rules))))

pub returns-in-Ok-clause-works : goal.returns-in-Ok-clause-works
returns-in-Ok-clause-works g c = works_done g.D.Disk.tells g.D.Disk.state c.args.disk.now c.put_document.new.disk c.args.self.now.store (asks (adds c.args.name.now c.args.title.now c.args.body.now)) c.put_reply.result c.put_reply.ensures.memory (λ none. absurd none)
    (reply_by c.args.self.now.store (asks (adds c.args.name.now c.args.title.now c.args.body.now)) _ _ c.put_reply.ensures (λ m knows.
    let put = c.in-Ok.ensures.put m.state knows in
    ap (λ (p : State × List ℕ). p.1) (adding_put c.args.name.now c.args.title.now c.args.body.now m.state (number_of c.args.name.now m.state) (search rules) refl put.2)
    ∙ ap (λ (n : ℕ). reply_to_put (number_of c.args.name.now m.state) n) (sym put.0) ∙ ap (λ o. reply_to_put o c.in-Ok.put.number) (sym put.1)))

pub returns-in-Numbers-clause-works : goal.returns-in-Numbers-clause-works
returns-in-Numbers-clause-works g c = works_done g.D.Disk.tells g.D.Disk.state c.args.disk.now c.put_document.new.disk c.args.self.now.store (asks (adds c.args.name.now c.args.title.now c.args.body.now)) c.text-in-Numbers.result c.text-in-Numbers.ensures.memory (λ none. absurd none)
    (reply_by c.args.self.now.store (asks (adds c.args.name.now c.args.title.now c.args.body.now)) _ _ c.text-in-Numbers.ensures (λ m knows.
    let full = (c.put_document.ensures.numbers m.state knows).0 (c.in-Err.is ∙ ap Err c.in-Numbers.is) in
    ap (λ (p : State × List ℕ). p.1) (adding_full c.args.name.now c.args.title.now c.args.body.now m.state (search rules) full)))

pub returns-in_default-clause-works : goal.returns-in_default-clause-works
returns-in_default-clause-works g c =
    works_failed g.D.Disk.tells g.D.Disk.state c.args.disk.now c.put_document.new.disk c.args.self.now.store (asks (adds c.args.name.now c.args.title.now c.args.body.now)) c.in-Err.fault
    (λ s place knows tell is.
    let room = room_left s (λ full. c.in_default.not-Numbers (same_fault _ _ _ c.in-Err.is ((c.put_document.ensures.numbers s knows).1 full))) in
    joins_task c.args.self.now.store (g.D.Disk.state c.args.disk.now).content place _ (enters (entry_for (number_of c.args.name.now s) c.args.name.now c.args.title.now c.args.body.now))
    (add_puts c.args.name.now c.args.title.now c.args.body.now s (number_of c.args.name.now s) (search rules) refl room) (((c.put_document.ensures.obeys s knows).failed.damage tell).broken place (c.in-Err.is ∙ ap Err is)))
    (λ s o need gap knows tell is lacks.
    let room = room_left s (λ full. c.in_default.not-Numbers (same_fault _ _ _ c.in-Err.is ((c.put_document.ensures.numbers s knows).1 full))) in
    lacks_task _ (g.D.Disk.state c.args.disk.now).content c.args.self.now.store o need gap _ (enters (entry_for (number_of c.args.name.now s) c.args.name.now c.args.title.now c.args.body.now))
    (add_puts c.args.name.now c.args.title.now c.args.body.now s (number_of c.args.name.now s) (search rules) refl room) ((c.put_document.ensures.obeys s knows).failed.lacks o need gap tell is (c.in-Err.is ∙ ap Err lacks)))
    (λ none. absurd none)
