-- Laws of what the calls of a session do.
use Rattle.std.proofs.Common.{◌≡◌, ◌≤◌, ◌⊎◌, ℕ, inl, inr, List, refl, ap, sym, subst, ◌∙◌, arith, Option, None, Result, Ok, Err, IfOk, IfErr, OnOk}
use Rattle.std.proofs.lemmas.Result.{IfOk-weaker}
use Rattle.alta_disk.specs.Disk.{DiskState, LeavesOnly, IsLawful}
use Rattle.alta_disk.proofs.Moments.{leaves_start}
use Rattle.alta_layout.specs.declared.slot.Slot.{Slot}
use Rattle.alta_loading.specs.Kept.{AreKept, IsNoneKept}
use Rattle.alta_loading.specs.declared.kept.KeptLists.{KeptLists}
use Rattle.alta_loading.proofs.KeptLaws.{kept_stays, none_kept}
use Rattle.alta_machine.specs.declared.document.State.{State}
use Rattle.alta_cursors.specs.Open.{AreOpen}
use Rattle.alta_machine.specs.OpenAnswers.{OpenAnswers}
use Rattle.alta_cursors.specs.declared.cursors.OpenCursor.{OpenCursor}
use Rattle.alta_session.specs.Agreement.{AgreesOn}
use Rattle.alta_session.specs.Answering.{CanAnswer, AnswersFrom, Answers, SpeaksFrom}
use Rattle.alta_replies.specs.Loading.{KeptHolds}
use Rattle.alta_replies.specs.Replies.{IsReply}
use Rattle.alta_machine.specs.Cursors.{Turn}
use Rattle.alta_replies.specs.Turns.{Turns}
use Rattle.alta_machine.specs.Machine.{Machine, changed_by, turned_by, IsRefusal}
use Rattle.alta_session.specs.Tasks.{IsBy, IsWorked, worked_where}
use Rattle.alta_session.specs.declared.session.Session.{Session}
use Rattle.alta_session.proofs.AgreementLaws.{agrees_changed, knows_state}
use Rattle.alta_session.proofs.TaskLaws.{worked_none}
use Rattle.alta_store.specs.Agreement.{Knows, MaySpeakOf, MaySpeakOfEither, levels_of}
use Rattle.alta_store.specs.Calls.{HasSameLevels}
use Rattle.alta_meaning.specs.Holding.{Holding}
use Rattle.alta_meaning.specs.Standing.{StandsFor, StandsForEither}
use Rattle.alta_meaning.specs.Work.{Task}
use Rattle.alta_store.specs.declared.fault.StoreFault.{StoreFault}
use Rattle.alta_store.specs.declared.fault.StoreFault.TheVariants.{Disk, Memory, Damaged, Full}
use Rattle.alta_store.specs.declared.store.Store.{Store}
use Rattle.alta_store.proofs.Agreements.{images_have, images_stand, knows_spoken}
use Rattle.alta_table.specs.Tables.{Tables}

pub if_so : {T E : Type 0} (r : Result T E) (P : Type 0) → P → OnOk r P
if_so (Ok x) P here = here
if_so (Err e) P here = tt

if_all : {T E : Type 0} (r : Result T E) (P : T → Type 0) → ((x : T) → P x) → IfOk r P
if_all (Ok x) P all = all x
if_all (Err e) P all = tt

pub ok_weaker : {T E : Type 0} (r : Result T E) (P Q : Type 0) → (P → Q) → OnOk r P → OnOk r Q
ok_weaker (Ok x) P Q weaker here = weaker here
ok_weaker (Err e) P Q weaker here = tt

err_weaker : {T E : Type 0} (r : Result T E) (P Q : E → Type 0) → ((e : E) → P e → Q e) → IfErr r P → IfErr r Q
err_weaker (Ok x) P Q weaker here = tt
err_weaker (Err e) P Q weaker here = weaker e here

pub is_memory : {T : Type 0} (r : Result T StoreFault) (e : StoreFault) → IfErr r (λ f. f ≡ Memory) → r ≡ Err e → e ≡ Memory
is_memory (Ok x) e only is = absurd cc
is_memory (Err f) e only is = cc

pub same_fault : {T E : Type 0} (r : Result T E) (e f : E) → r ≡ Err e → r ≡ Err f → e ≡ f
same_fault r e f is other = cc (sym is ∙ other)

-- what is known of the lists of levels holds behind a change, unless it was forgotten: the slot that counts is the one of before, so the levels have stayed
pub kept_left : (tells : Type 0) (a b : DiskState) (store later : Store) (kept now : KeptLists) (slot : Slot) → KeptHolds tells a store kept → slot ≡ store.slot → (later.slot ≡ store.slot → HasSameLevels tells a b store later)
    → IsNoneKept now ⊎ ((later.slot ≡ slot) × (now ≡ kept)) → KeptHolds tells b later now
kept_left tells a b store later kept now slot holds is stay (inl none) = none_kept tells b.content (levels_of later) now none
kept_left tells a b store later kept now slot holds is stay (inr (here, same)) =
    let levels = stay (here ∙ is) in
    subst (λ (ls : List Tables). AreKept tells b.content ls now) (sym levels.tables)
    (subst (AreKept tells b.content (levels_of store)) (sym same) (kept_stays tells a.content b.content (levels_of store) kept levels.bytes holds))

-- the disk stays as it is
pub stays : (tells : Type 0) (d : DiskState) (session : Session) (m : Machine) → IsLawful tells d → AgreesOn tells d session m → LeavesOnly (StandsForEither m.state m.state) d d
stays tells d session m lawful agrees = leaves_start tells d (StandsForEither m.state m.state) lawful (λ c here. inl (images_stand tells d m.state lawful agrees.store.settled agrees.stands c here))

pub stays_speaking : {T : Type 0} (tells : Type 0) (d : DiskState) (session : Session) (result : Result T StoreFault) (s later : State) → IsLawful tells d → CanAnswer tells d session → later ≡ s → MaySpeakOf s d.content → SpeaksFrom d d result s later
stays_speaking tells d session result s later lawful can same speaks =
    subst (λ (t : State). SpeaksFrom d d result s t) (sym same) (record {
      speaks = if_so result (MaySpeakOf s d.content) speaks;
      images = leaves_start tells d (MaySpeakOfEither s s) lawful (λ c here. inl (images_have tells d (MaySpeakOf s) lawful can.agrees.settled (λ t. speaks) c here));
    })

-- The machine stays as it is, nothing is asked of the store, and this is the reply.
pub record Rests (m : Machine) (stepped : Machine × List ℕ) (task : Option Task) (text : List ℕ) : Type 0 where
  pub task_none : task ≡ None
  pub state : stepped.0.state ≡ m.state
  pub cursors : stepped.0.cursors ≡ m.cursors
  pub reply : stepped.1 ≡ text

-- A call that only looks.
pub looked : {D : Type 0} (tells : Type 0) (state : D → DiskState) (disk : D) (session : Session) (result : Result (List ℕ) StoreFault) (steps : Machine → Machine × List ℕ) (tasks : Machine → Option Task) (text : List ℕ) → IsLawful tells (state disk) → CanAnswer tells (state disk) session → IsReply text result
    → ((m : Machine) → Knows session.store m.state → Rests m (steps m) (tasks m) text) → Answers tells state disk disk session session result steps tasks
looked tells state disk session result steps tasks text lawful can replied rests =
    let memory : IfErr result (λ e. e ≡ Memory) = replied.memory in
    record {
      from = λ m tell agrees.
          let rest : Rests m (steps m) (tasks m) text = rests m (knows_state tells (state disk) session m agrees tell) in
          let now : AgreesOn tells (state disk) session (steps m).0 = record {
            store = agrees.store;
            stands = λ told. subst (λ (s : State). StandsFor s (state disk).content) (sym rest.state) (agrees.stands told);
            cursors = subst (λ (l : List OpenAnswers). AreOpen session.cursors l) (sym rest.cursors) agrees.cursors;
          } in
          record {
            reply = IfOk-weaker result (λ r. r ≡ text) (λ r. r ≡ (steps m).1) (λ r is. is ∙ sym rest.reply) replied.reply;
            agrees = if_so result (AgreesOn tells (state disk) session (steps m).0) now;
            images = subst (λ (s : State). LeavesOnly (StandsForEither m.state s) (state disk) (state disk)) (sym rest.state) (stays tells (state disk) session m lawful agrees);
            refused = λ refusal. (refl, memory);
            works = λ held here. if_so result _ (worked_none (state disk).limit held (tasks m) (IsBy session (state disk).content) rest.task_none here);
            full = λ held need gap here is. let wanting : Full need gap ≡ Memory = is_memory result (Full need gap) memory is in absurd cc;
            undamaged = λ place is. let wanting : Damaged place ≡ Memory = is_memory result (Damaged place) memory is in absurd cc;
          };
      spoken = λ m tell speaks. stays_speaking tells (state disk) session result m.state (steps m).0.state lawful can (rests m (knows_spoken tells (state disk) session.store can.agrees m.state tell speaks)).state speaks;
      can = if_so result (CanAnswer tells (state disk) session) can;
      unchanged = if_all result _ (λ r refusal. (refl, refl));
      only = err_weaker result (λ e. e ≡ Memory) _ (λ e is. inl (inl is)) memory;
      full = λ need gap tell is. let wanting : Full need gap ≡ Memory = is_memory result (Full need gap) memory is in absurd cc;
      still = λ place tell is. let wanting : Damaged place ≡ Memory = is_memory result (Damaged place) memory is in absurd cc;
      unwritten = λ need gap tell is. let wanting : Full need gap ≡ Memory = is_memory result (Full need gap) memory is in absurd cc;
      cause = λ is. let wanting : Disk ≡ Memory = is_memory result Disk memory is in absurd cc;
      faults = omega arith;
      same_limit = refl;
    }

-- where disk and session came out as they were
pub same_store : (session : Session) (store : Store) → store ≡ session.store → record { store = store; kept = session.kept; cursors = session.cursors; sound = session.sound } ≡ session
same_store session store same = ap (λ (x : Store). record { store = x; kept = session.kept; cursors = session.cursors; sound = session.sound }) same

-- only its cursors changed
abbrev pub with_cursors : Session → List OpenCursor → Session
with_cursors session cursors = record { store = session.store; kept = session.kept; cursors = cursors; sound = session.sound }

-- only its cursors changed, and what is known of lists
abbrev pub with_kept : Session → KeptLists → List OpenCursor → Session
with_kept session kept cursors = record { store = session.store; kept = kept; cursors = cursors; sound = session.sound }

pub answers_same : {D : Type 0} (tells : Type 0) (state : D → DiskState) (disk disk_now : D) (session session_now : Session) (result : Result (List ℕ) StoreFault) (steps : Machine → Machine × List ℕ) (tasks : Machine → Option Task) → disk_now ≡ disk → session_now ≡ session
    → Answers tells state disk disk session session result steps tasks → Answers tells state disk disk_now session session_now result steps tasks
answers_same {D} tells state disk disk_now session session_now result steps tasks same_disk same_session answers =
    subst (λ (d : D). Answers tells state disk d session session_now result steps tasks) (sym same_disk) (subst (λ (x : Session). Answers tells state disk disk session x result steps tasks) (sym same_session) answers)

-- by another name of the step and of the task
pub answers_by : {D : Type 0} (tells : Type 0) (state : D → DiskState) (disk disk_now : D) (session session_now : Session) (result : Result (List ℕ) StoreFault) (steps by : Machine → Machine × List ℕ) (tasks asks : Machine → Option Task)
    → ((m : Machine) → steps m ≡ by m) → ((m : Machine) → tasks m ≡ asks m) → Answers tells state disk disk_now session session_now result steps tasks → Answers tells state disk disk_now session session_now result by asks
answers_by tells state disk disk_now session session_now result steps by tasks asks is are answers = record {
  from = λ m tell agrees.
      subst (λ (t : Option Task). AnswersFrom tells state disk disk_now session session_now result m (by m) t) (are m)
      (subst (λ (p : Machine × List ℕ). AnswersFrom tells state disk disk_now session session_now result m p (tasks m)) (is m) (answers.from m tell agrees));
  spoken = λ m tell speaks. subst (λ (p : Machine × List ℕ). SpeaksFrom (state disk) (state disk_now) result m.state p.0.state) (is m) (answers.spoken m tell speaks);
  can = answers.can;
  unchanged = answers.unchanged;
  only = answers.only;
  full = answers.full;
  still = answers.still;
  unwritten = answers.unwritten;
  cause = answers.cause;
  faults = answers.faults;
  same_limit = answers.same_limit;
}

-- after an error nothing is said of the session
pub answers_failed : {D : Type 0} (tells : Type 0) (state : D → DiskState) (disk disk_now : D) (session session_now later : Session) (e : StoreFault) (steps : Machine → Machine × List ℕ) (tasks : Machine → Option Task) → Answers tells state disk disk_now session session_now (Err e) steps tasks → Answers tells state disk disk_now session later (Err e) steps tasks
answers_failed tells state disk disk_now session session_now later e steps tasks answers = record {
  from = λ m tell agrees. let one : AnswersFrom tells state disk disk_now session session_now (Err e) m (steps m) (tasks m) = answers.from m tell agrees in
      record { reply = tt; agrees = tt; images = one.images; refused = one.refused; works = λ held here. tt; full = one.full; undamaged = one.undamaged };
  spoken = λ m tell speaks. record { speaks = tt; images = (answers.spoken m tell speaks).images };
  can = tt;
  unchanged = tt;
  only = answers.only;
  full = answers.full;
  still = answers.still;
  unwritten = answers.unwritten;
  cause = answers.cause;
  faults = answers.faults;
  same_limit = answers.same_limit;
}

pub changed_rests : (m : Machine) (change : State × List ℕ) (task : Option Task) (text : List ℕ) → change ≡ (m.state, text) → task ≡ None → Rests m (changed_by m change) task text
changed_rests m change task text is none = record { task_none = none; state = ap (λ (p : State × List ℕ). p.0) is; cursors = refl; reply = ap (λ (p : State × List ℕ). p.1) is }

pub step_rests : (m : Machine) (stepped : Machine × List ℕ) (task : Option Task) (text : List ℕ) → stepped ≡ (m, text) → task ≡ None → Rests m stepped task text
step_rests m stepped task text is none = record { task_none = none; state = ap (λ (p : Machine × List ℕ). p.0.state) is; cursors = ap (λ (p : Machine × List ℕ). p.0.cursors) is; reply = ap (λ (p : Machine × List ℕ). p.1) is }

-- The disk was changed by this task, and this is the reply.
pub record Changes (disk disk_now : DiskState) (session session_now : Session) (text : List ℕ) (m : Machine) (change : State × List ℕ) (task : Option Task) : Type 0 where
  pub reply : change.1 ≡ text
  pub stands : StandsFor change.0 disk_now.content
  pub images : LeavesOnly (StandsForEither m.state change.0) disk disk_now
  pub works : (held : Holding) → IsBy session disk.content held → IsWorked (worked_where disk.limit held task) (IsBy session_now disk_now.content)

pub changed : {D : Type 0} (tells : Type 0) (state : D → DiskState) (disk disk_now : D) (session session_now : Session) (result : Result (List ℕ) StoreFault) (change : State → State × List ℕ) (tasks : Machine → Option Task) (text : List ℕ) → IsReply text result → (IsRefusal text → ⊥)
    → session_now.cursors ≡ session.cursors → CanAnswer tells (state disk_now) session_now → (state disk).faults ≤ (state disk_now).faults → (state disk_now).limit ≡ (state disk).limit
    → ((m : Machine) → tells → AgreesOn tells (state disk) session m → Changes (state disk) (state disk_now) session session_now text m (change m.state) (tasks m))
    → ((s : State) → tells → MaySpeakOf s (state disk).content → SpeaksFrom (state disk) (state disk_now) result s (change s).0)
    → Answers tells state disk disk_now session session_now result (λ m. changed_by m (change m.state)) tasks
changed tells state disk disk_now session session_now result change tasks text reply no_refusal same_cursors can faults same_limit changes spoken = record {
  from = λ m tell agrees.
      let one : Changes (state disk) (state disk_now) session session_now text m (change m.state) (tasks m) = changes m tell agrees in record {
        reply = IfOk-weaker result (λ r. r ≡ text) (λ r. r ≡ (change m.state).1) (λ r is. is ∙ sym one.reply) reply.reply;
        agrees = if_so result _ (agrees_changed tells (state disk_now) session_now m (change m.state) (subst (λ (l : List OpenCursor). AreOpen l m.cursors) (sym same_cursors) agrees.cursors) can.agrees (λ told. one.stands));
        images = one.images;
        refused = λ refusal. absurd (no_refusal (subst IsRefusal one.reply refusal));
        works = λ held here. if_so result _ (one.works held here);
        full = λ held need gap here is. let wanting : Full need gap ≡ Memory = is_memory result (Full need gap) reply.memory is in absurd cc;
        undamaged = λ place is. let wanting : Damaged place ≡ Memory = is_memory result (Damaged place) reply.memory is in absurd cc;
      };
  spoken = λ m tell speaks. spoken m.state tell speaks;
  can = if_so result (CanAnswer tells (state disk_now) session_now) can;
  unchanged = IfOk-weaker result (λ r. r ≡ text) (λ r. IsRefusal r → (disk_now ≡ disk) × (session_now ≡ session)) (λ r is refusal. absurd (no_refusal (subst IsRefusal is refusal))) reply.reply;
  only = err_weaker result (λ e. e ≡ Memory) _ (λ e is. inl (inl is)) reply.memory;
  full = λ need gap tell is. let wanting : Full need gap ≡ Memory = is_memory result (Full need gap) reply.memory is in absurd cc;
  still = λ place tell is. let wanting : Damaged place ≡ Memory = is_memory result (Damaged place) reply.memory is in absurd cc;
  unwritten = λ need gap tell is. let wanting : Full need gap ≡ Memory = is_memory result (Full need gap) reply.memory is in absurd cc;
  cause = λ is. let wanting : Disk ≡ Memory = is_memory result Disk reply.memory is in absurd cc;
  faults = faults;
  same_limit = same_limit;
}

-- ---- cursors

-- What was answered is this reply, or memory was wanting; and these cursors are open then.
pub turned : {D : Type 0} (tells : Type 0) (state : D → DiskState) (disk : D) (session : Session) (cursors : List OpenCursor) (result : Result (List ℕ) StoreFault)
    (steps : Machine → Machine × List ℕ) (tasks : Machine → Option Task) (turn : State → List OpenAnswers → Turn) → IsLawful tells (state disk) → CanAnswer tells (state disk) session
    → IfErr result (λ e. e ≡ Memory) → IfOk result (λ reply. IsRefusal reply → cursors ≡ session.cursors)
    → ((s : State) (all : List OpenAnswers) → Knows session.store s → AreOpen session.cursors all → Turns (turn s all) cursors result)
    → ((m : Machine) → steps m ≡ turned_by m (turn m.state m.cursors)) → ((m : Machine) → tasks m ≡ None) → Answers tells state disk disk session (with_cursors session cursors) result steps tasks
turned tells state disk session cursors result steps tasks turn lawful can memory refused turns is none =
    answers_by tells state disk disk session (with_cursors session cursors) result (λ m. turned_by m (turn m.state m.cursors)) steps (λ m. None) tasks (λ m. sym (is m)) (λ m. sym (none m)) (record {
      from = λ m tell agrees.
          let one = turns m.state m.cursors (knows_state tells (state disk) session m agrees tell) agrees.cursors in
          record {
            reply = one.reply;
            agrees = ok_weaker result (AreOpen cursors (turn m.state m.cursors).0) _ (λ open_now. record { store = agrees.store; stands = agrees.stands; cursors = open_now }) one.open_now;
            images = stays tells (state disk) session m lawful agrees;
            refused = λ refusal. (refl, memory);
            works = λ held here. if_so result _ (worked_none (state disk).limit held None (IsBy session (state disk).content) refl here);
            full = λ held need gap here is. let wanting : Full need gap ≡ Memory = is_memory result (Full need gap) memory is in absurd cc;
            undamaged = λ place is. let wanting : Damaged place ≡ Memory = is_memory result (Damaged place) memory is in absurd cc;
          };
      spoken = λ m tell speaks. stays_speaking tells (state disk) session result m.state m.state lawful can refl speaks;
      can = if_so result (CanAnswer tells (state disk) (with_cursors session cursors)) (record { sound = can.sound; agrees = can.agrees; known = can.known; limit = can.limit });
      unchanged = IfOk-weaker result (λ reply. IsRefusal reply → cursors ≡ session.cursors) _ (λ reply same refusal. (refl, ap (with_cursors session) (same refusal))) refused;
      only = err_weaker result (λ e. e ≡ Memory) _ (λ e is. inl (inl is)) memory;
      full = λ need gap tell is. let wanting : Full need gap ≡ Memory = is_memory result (Full need gap) memory is in absurd cc;
      still = λ place tell is. let wanting : Damaged place ≡ Memory = is_memory result (Damaged place) memory is in absurd cc;
      unwritten = λ need gap tell is. let wanting : Full need gap ≡ Memory = is_memory result (Full need gap) memory is in absurd cc;
      cause = λ is. let wanting : Disk ≡ Memory = is_memory result Disk memory is in absurd cc;
      faults = omega arith;
      same_limit = refl;
    })
