use Rattle.std.proofs.Common.{refl, ◌≡◌, ℕ, false, List, ap, sym, subst, ◌∙◌, Err, rules, arith}
use Rattle.std.specs.Prelude.{Some}
use Rattle.alta_disk.specs.Disk.{LeavesOnly}
use Rattle.alta_meaning.specs.Standing.{StandsFor, StandsForEither}
use Rattle.alta_machine.specs.Changes.{has_name, with_deleted, number_of}
use Rattle.alta_meaning.specs.Work.{enters}
use Rattle.alta_journal.specs.declared.entry.Entry.TheVariants.{Delete}
use Rattle.alta_machine.specs.declared.document.State.{State}
use Rattle.alta_machine.specs.Machine.{deleting}
use Rattle.alta_session.specs.Tasks.{task_of_delete}
use Rattle.alta_store.specs.Agreement.{Has, MaySpeakOf, MaySpeakOfEither}
use Rattle.alta_store.proofs.Agreements.{knows_spoken}
use Rattle.alta_store.specs.declared.fault.StoreFault.TheVariants.{Damaged, Disk, Missing, Full}
use Rattle.alta_machine.specs.Command.{deletes}
use Rattle.alta_machine.specs.Lines.{asks}
use Rattle.alta_session.proofs.JoiningLaws.{joins_task, lacks_task, reply_by, works_done, works_failed, works_still}
use Rattle.alta_session.proofs.AgreementLaws.{knows_state}
use Rattle.alta_session.proofs.AnsweringLaws.{if_so, same_fault, same_store, looked, answers_same, changed, changed_rests, kept_left}
use Rattle.alta_session.proofs.DeletingLaws.{deleting_bad, deleting_missing, deleting_deleted, leaves_deleting, missing_for, deleted_where, deleted_is_none}
use Rattle.alta_session.proofs.ObeyingLaws.{obeyed_works, obeyed_full, narrow_at, some_only}
use Rattle.alta_session.proofs.TaskLaws.{delete_bad, delete_missing, delete_enters}
use Rattle.alta_session.proofs.session.Session.delete.Goals as goal

pub delete-requires-clause-agrees : goal.delete-requires-clause-agrees
delete-requires-clause-agrees g c = c.requires.agrees

pub returns-then-not-name_ok-clause-answers : goal.returns-then-not-name_ok-clause-answers
returns-then-not-name_ok-clause-answers g c =
    looked g.D.Disk.tells g.D.Disk.state c.args.disk.now c.args.self.now c.text.result _ _ _ (g.met.D.Disk.lawful c.args.disk.now) c.requires c.text.ensures
    (λ m knows. changed_rests m _ _ _ (deleting_bad c.args.name.now m.state (search rules)) (delete_bad c.args.name.now m.state (search rules)))

pub returns-in-Ok-clause-answers : goal.returns-in-Ok-clause-answers
returns-in-Ok-clause-answers g c =
    let intact = c.requires.agrees.intact in
    let obeys = c.in-Ok.ensures.obeys intact.state c.in-Ok.number intact.knows (c.in-Ok.ensures.number intact.state intact.knows) in
    changed g.D.Disk.tells g.D.Disk.state c.args.disk.now c.delete.new.disk c.args.self.now _ c.deleted.result (deleting c.args.name.now) (λ m. task_of_delete c.args.name.now m.state) _ c.deleted.ensures (deleted_is_none c.in-Ok.number) refl
    (record {
      sound = (c.requires.sound.0, obeys.done.sound ∙ c.requires.sound.1);
      agrees = obeys.done.agrees;
      known = kept_left g.D.Disk.tells (g.D.Disk.state c.args.disk.now) (g.D.Disk.state c.delete.new.disk) c.args.self.now.store c.delete.new.self _ _ _ c.requires.known c.slot-before.ensures obeys.done.levels c.forget_left.ensures;
      limit = omega (arith, c.requires.limit, obeys.throughout.costs.limit);
    }) obeys.throughout.costs.faults obeys.throughout.costs.limit
    (λ m tell agrees.
    let numbered : number_of c.args.name.now m.state ≡ Some c.in-Ok.number = c.in-Ok.ensures.number m.state (knows_state g.D.Disk.tells (g.D.Disk.state c.args.disk.now) c.args.self.now m agrees tell) in
    let is = deleting_deleted c.args.name.now m.state c.in-Ok.number (search rules) numbered in
    let to : with_deleted c.args.name.now m.state ≡ (deleting c.args.name.now m.state).0 = sym (ap (λ (p : State × List ℕ). p.0) is) in
    record {
      reply = ap (λ (p : State × List ℕ). p.1) is;
      stands = subst (λ (t : State). StandsFor t (g.D.Disk.state c.delete.new.disk).content) to (obeys.done.stands m.state tell (agrees.stands tell));
      images = subst (λ (t : State). LeavesOnly (StandsForEither m.state t) (g.D.Disk.state c.args.disk.now) (g.D.Disk.state c.delete.new.disk)) to (obeys.throughout.images m.state agrees.stands);
      works = λ held here.
          obeyed_works (g.D.Disk.state c.args.disk.now).limit held (enters (Delete c.in-Ok.number)) _ (λ now. Has c.delete.new.self now (g.D.Disk.state c.delete.new.disk).content)
          (delete_enters c.args.name.now m.state c.in-Ok.number (search rules) numbered) (obeys.done.works held tell here);
    })
    (λ s tell speaks.
    let numbered : number_of c.args.name.now s ≡ Some c.in-Ok.number = c.in-Ok.ensures.number s (knows_spoken g.D.Disk.tells (g.D.Disk.state c.args.disk.now) c.args.self.now.store c.requires.agrees s tell speaks) in
    let to : with_deleted c.args.name.now s ≡ (deleting c.args.name.now s).0 = sym (ap (λ (p : State × List ℕ). p.0) (deleting_deleted c.args.name.now s c.in-Ok.number (search rules) numbered)) in
    record {
      speaks = if_so c.deleted.result _ (subst (λ (t : State). MaySpeakOf t (g.D.Disk.state c.delete.new.disk).content) to (obeys.done.speaks s tell speaks));
      images = subst (λ (t : State). LeavesOnly (MaySpeakOfEither s t) (g.D.Disk.state c.args.disk.now) (g.D.Disk.state c.delete.new.disk)) to (obeys.throughout.between s (λ told. speaks));
    })

pub returns-in-Missing-clause-answers : goal.returns-in-Missing-clause-answers
returns-in-Missing-clause-answers g c =
    let is : c.delete.result ≡ Err Missing = c.in-Err.is ∙ ap Err c.in-Missing.is in
    let same = c.delete.ensures.refused is in
    answers_same g.D.Disk.tells g.D.Disk.state c.args.disk.now c.delete.new.disk c.args.self.now _ c.text-in-Missing.result _ _ same.0 (same_store c.args.self.now c.delete.new.self same.1)
    (looked g.D.Disk.tells g.D.Disk.state c.args.disk.now c.args.self.now c.text-in-Missing.result _ _ _ (g.met.D.Disk.lawful c.args.disk.now) c.requires c.text-in-Missing.ensures
    (λ m knows.
    let none = (c.delete.ensures.missing m.state knows).0 is in
    changed_rests m _ _ _ (deleting_missing c.args.name.now m.state (search rules) none) (delete_missing c.args.name.now m.state (search rules) none)))

-- the deletion failed
pub returns-in_default-clause-answers : goal.returns-in_default-clause-answers
returns-in_default-clause-answers g c =
    let intact = c.requires.agrees.intact in
    let there : has_name c.args.name.now intact.state ≡ false → ⊥ = λ none. c.in_default.not-Missing (same_fault _ _ _ c.in-Err.is ((c.delete.ensures.missing intact.state intact.knows).1 none)) in
    let n = deleted_where c.args.name.now intact.state there in
    let obeys = c.in-Err.ensures.obeys intact.state n.0 intact.knows n.1 in
    record {
      from = λ m tell agrees.
          let knows = knows_state g.D.Disk.tells (g.D.Disk.state c.args.disk.now) c.args.self.now m agrees tell in
          let some : has_name c.args.name.now m.state ≡ false → ⊥ = λ none. c.in_default.not-Missing (same_fault _ _ _ c.in-Err.is ((c.delete.ensures.missing m.state knows).1 none)) in
          let number = deleted_where c.args.name.now m.state some in
          let does = c.in-Err.ensures.obeys m.state number.0 knows number.1 in
          record {
            reply = tt;
            agrees = tt;
            images = leaves_deleting StandsForEither (g.D.Disk.state c.args.disk.now) (g.D.Disk.state c.delete.new.disk) c.args.name.now m.state (search rules) (does.throughout.images m.state agrees.stands) (λ none. absurd (some none));
            refused = λ refusal. missing_for _ c.args.name.now m.state (search rules) (λ none. absurd (some none)) refusal;
            works = λ held here. tt;
            full = λ held need gap here is.
                let same : c.in-Err.fault ≡ Full need gap = cc in
                obeyed_full (g.D.Disk.state c.args.disk.now).limit held (enters (Delete number.0)) _ need gap (delete_enters c.args.name.now m.state number.0 (search rules) number.1) (does.failed.full held need gap tell here (ap Err same));
            undamaged = λ place is. let same : c.in-Err.fault ≡ Damaged place = cc in does.failed.undamaged m.state tell (agrees.stands tell) place (ap Err same);
          };
      spoken = λ m tell speaks.
          let knows = knows_spoken g.D.Disk.tells (g.D.Disk.state c.args.disk.now) c.args.self.now.store c.requires.agrees m.state tell speaks in
          let some : has_name c.args.name.now m.state ≡ false → ⊥ = λ none. c.in_default.not-Missing (same_fault _ _ _ c.in-Err.is ((c.delete.ensures.missing m.state knows).1 none)) in
          let number = deleted_where c.args.name.now m.state some in
          let does = c.in-Err.ensures.obeys m.state number.0 knows number.1 in
          record { speaks = tt; images = leaves_deleting MaySpeakOfEither (g.D.Disk.state c.args.disk.now) (g.D.Disk.state c.delete.new.disk) c.args.name.now m.state (search rules) (does.throughout.between m.state (λ told. speaks)) (λ none. absurd (some none)) };
      can = tt;
      unchanged = tt;
      only = some_only c.in-Err.fault obeys.failed.only;
      full = λ need gap tell is. let same : c.in-Err.fault ≡ Full need gap = cc in narrow_at _ _ _ need gap obeys.throughout.costs.limit (obeys.failed.narrow need gap tell (ap Err same));
      still = λ place tell is. let same : c.in-Err.fault ≡ Damaged place = cc in obeys.failed.still tell place (ap Err same);
      unwritten = λ need gap tell is. let same : c.in-Err.fault ≡ Full need gap = cc in obeys.failed.unwritten tell need gap (ap Err same);
      cause = λ is. let same : c.in-Err.fault ≡ Disk = cc in obeys.failed.cause (ap Err same);
      faults = obeys.throughout.costs.faults;
      same_limit = obeys.throughout.costs.limit;
    }

pub returns-then-not-name_ok-clause-works : goal.returns-then-not-name_ok-clause-works
returns-then-not-name_ok-clause-works g c = works_still g.D.Disk.tells g.D.Disk.state c.args.disk.now c.args.self.now.store (asks (deletes c.args.name.now)) c.text.result c.text.ensures.memory
    (reply_by c.args.self.now.store (asks (deletes c.args.name.now)) _ _ c.text.ensures (λ m knows. ap (λ (p : State × List ℕ). p.1) (deleting_bad c.args.name.now m.state (search rules))))

pub returns-in-Ok-clause-works : goal.returns-in-Ok-clause-works
returns-in-Ok-clause-works g c = works_done g.D.Disk.tells g.D.Disk.state c.args.disk.now c.delete.new.disk c.args.self.now.store (asks (deletes c.args.name.now)) c.deleted.result c.deleted.ensures.memory (λ none. absurd none)
    (reply_by c.args.self.now.store (asks (deletes c.args.name.now)) _ _ c.deleted.ensures (λ m knows. ap (λ (p : State × List ℕ). p.1) (deleting_deleted c.args.name.now m.state c.in-Ok.number (search rules) (c.in-Ok.ensures.number m.state knows))))

pub returns-in-Missing-clause-works : goal.returns-in-Missing-clause-works
returns-in-Missing-clause-works g c = works_done g.D.Disk.tells g.D.Disk.state c.args.disk.now c.delete.new.disk c.args.self.now.store (asks (deletes c.args.name.now)) c.text-in-Missing.result c.text-in-Missing.ensures.memory (λ none. absurd none)
    (reply_by c.args.self.now.store (asks (deletes c.args.name.now)) _ _ c.text-in-Missing.ensures (λ m knows.
    let none = (c.delete.ensures.missing m.state knows).0 (c.in-Err.is ∙ ap Err c.in-Missing.is) in
    ap (λ (p : State × List ℕ). p.1) (deleting_missing c.args.name.now m.state (search rules) none)))

pub returns-in_default-clause-works : goal.returns-in_default-clause-works
returns-in_default-clause-works g c =
    works_failed g.D.Disk.tells g.D.Disk.state c.args.disk.now c.delete.new.disk c.args.self.now.store (asks (deletes c.args.name.now)) c.in-Err.fault
    (λ s place knows tell is.
    let there : has_name c.args.name.now s ≡ false → ⊥ = λ none. c.in_default.not-Missing (same_fault _ _ _ c.in-Err.is ((c.delete.ensures.missing s knows).1 none)) in
    let n = deleted_where c.args.name.now s there in
    joins_task c.args.self.now.store (g.D.Disk.state c.args.disk.now).content place _ (enters (Delete n.0)) (delete_enters c.args.name.now s n.0 (search rules) n.1)
    (((c.in-Err.ensures.obeys s n.0 knows n.1).failed.damage tell).broken place (ap Err is)))
    (λ s o need gap knows tell is lacks.
    let there : has_name c.args.name.now s ≡ false → ⊥ = λ none. c.in_default.not-Missing (same_fault _ _ _ c.in-Err.is ((c.delete.ensures.missing s knows).1 none)) in
    let n = deleted_where c.args.name.now s there in
    lacks_task _ (g.D.Disk.state c.args.disk.now).content c.args.self.now.store o need gap _ (enters (Delete n.0)) (delete_enters c.args.name.now s n.0 (search rules) n.1) ((c.in-Err.ensures.obeys s n.0 knows n.1).failed.lacks o need gap tell is (ap Err lacks)))
    (λ none. absurd none)
