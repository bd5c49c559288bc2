-- Laws of lines that ask for the answers of a query.
use Rattle.std.proofs.Common.{◌≡◌, ◌⊎◌, ◌≤◌, ◌++◌, ℕ, inl, inr, ⊎_elim, Bool, true, false, cond, List, length, map, take, refl, ap, sym, subst, ◌∙◌, arith, Option, None, Result, Ok, Err, IfOk, IfErr, codes, decimal}
use Rattle.std.specs.Prelude.{nat_le}
use Rattle.std.proofs.lemmas.Bool.Decides.{nat_tests}
use Rattle.alta_disk.specs.Disk.{DiskState, IsLawful, Same}
use Rattle.alta_disk.proofs.Moments.{leaves_by}
use Rattle.alta_meaning.specs.Standing.{StandsFor, StandsForEither}
use Rattle.alta_meaning.specs.Work.{Task}
use Rattle.alta_loading.specs.Loads.{Load, load_sizes}
use Rattle.alta_loading.specs.declared.kept.KeptLists.{KeptLists}
use Rattle.alta_machine.specs.declared.document.Document.{Document}
use Rattle.alta_machine.specs.declared.document.State.{State}
use Rattle.alta_machine.specs.Deciding.{answers}
use Rattle.alta_machine.specs.QueryFaults.{Fault}
use Rattle.alta_machine.specs.Queries.{query_of}
use Rattle.alta_machine.specs.Shape.{Shape}
use Rattle.alta_machine.specs.Ranked.{ranked}
use Rattle.alta_machine.specs.Uses.{uses_of}
use Rattle.alta_cursors.specs.Open.{AreOpen}
use Rattle.alta_machine.specs.OpenAnswers.{OpenAnswers, least_free, with_opened}
use Rattle.alta_machine.specs.Scores.{scored}
use Rattle.alta_cursors.specs.declared.cursors.OpenCursor.{OpenCursor}
use Rattle.alta_machine.specs.declared.cursors.TheConstants.{CURSORS}
use Rattle.alta_cursors.proofs.CursorAnswers.{same_length}
use Rattle.alta_session.specs.Answering.{Answers, CanAnswer}
use Rattle.alta_machine.specs.Cursors.{Turn, opening, opened_by}
use Rattle.alta_replies.specs.Turns.{Turns}
use Rattle.alta_replies.specs.Loading.{Queries}
use Rattle.alta_machine.specs.Machine.{IsRefusal, Machine, turned_by}
use Rattle.alta_machine.specs.Searching.{IsNoQuery, answer_lines, counted_by, counting, found_by, found_line, ranked_by, ranking, score_lines, searching}
use Rattle.alta_session.specs.Tasks.{IsBy}
use Rattle.alta_session.specs.declared.session.Session.{Session}
use Rattle.alta_session.proofs.AnsweringLaws.{answers_by, if_so, ok_weaker, with_kept}
use Rattle.alta_replies.proofs.CursorLaws.{found_other, cursor_other, lines_other, no_refusal, scores_other}
use Rattle.alta_replies.proofs.LoadingLaws.{agrees_read}
use Rattle.alta_session.proofs.TaskLaws.{worked_none}
use Rattle.alta_store.specs.Agreement.{Agrees, MaySpeakOf, MaySpeakOfEither}
use Rattle.alta_store.specs.Answers.{IsOutside}
use Rattle.alta_store.specs.declared.fault.StoreFault.{StoreFault}
use Rattle.alta_store.specs.declared.fault.StoreFault.TheVariants.{Damaged, Full}
use Rattle.alta_store.proofs.Agreements.{images_have, images_stand}

ok_both : {T E : Type 0} (r : Result T E) (P Q R : T → Type 0) → ((x : T) → P x → Q x → R x) → IfOk r P → IfOk r Q → IfOk r R
ok_both (Ok x) P Q R both one two = both x one two
ok_both (Err e) P Q R both one two = tt

pub kept_all : {E : Type 0} (r : Result (List ℕ) E) (cursors : List OpenCursor) → IfOk r (λ reply. IsRefusal reply → cursors ≡ cursors)
kept_all (Ok x) cursors = λ refusal. refl
kept_all (Err e) cursors = tt

-- ---- faults
pub not_full : {T : Type 0} (r : Result T StoreFault) (need gap : ℕ) → IfErr r (λ e. IsOutside e ⊎ ((place : ℕ) × (e ≡ Damaged place))) → r ≡ Err (Full need gap) → ⊥
not_full (Ok x) need gap only is = cc
not_full (Err e) need gap (inl (inl memory)) is = cc
not_full (Err e) need gap (inl (inr disk)) is = cc
not_full (Err e) need gap (inr (place, damaged)) is = cc

not_damaged : {T : Type 0} (r : Result T StoreFault) (place : ℕ) → IfErr r IsOutside → r ≡ Err (Damaged place) → ⊥
not_damaged (Ok x) place outside is = cc
not_damaged (Err e) place (inl memory) is = cc
not_damaged (Err e) place (inr disk) is = cc

only_so : {T : Type 0} (r : Result T StoreFault) → IfErr r (λ e. IsOutside e ⊎ ((place : ℕ) × (e ≡ Damaged place)))
    → IfErr r (λ e. IsOutside e ⊎ (((need gap : ℕ) × (e ≡ Full need gap)) ⊎ ((place : ℕ) × (e ≡ Damaged place))))
only_so (Ok x) only = tt
only_so (Err e) (inl outside) = inl outside
only_so (Err e) (inr damaged) = inr (inr damaged)

-- ---- a call that answers a query, with this turn of the machine
pub queried : {D : Type 0} (tells : Type 0) (state : D → DiskState) (disk disk_now : D) (session : Session) (known : KeptLists) (cursors : List OpenCursor) (loads : List Load) (idle : Type 0) (result : Result (List ℕ) StoreFault)
    (steps : Machine → Machine × List ℕ) (tasks : Machine → Option Task) (turn : State → List OpenAnswers → Turn) → IsLawful tells (state disk) → CanAnswer tells (state disk) session
    → Queries tells state disk disk_now session.store session.kept known loads idle result → IfOk result (λ reply. IsRefusal reply → cursors ≡ session.cursors)
    → ((s : State) (all : List OpenAnswers) → tells → StandsFor s (state disk).content → AreOpen session.cursors all → Turns (turn s all) cursors result)
    → ((s : State) (all : List OpenAnswers) → AreOpen session.cursors all → IsRefusal (turn s all).1 → idle)
    → ((m : Machine) → steps m ≡ turned_by m (turn m.state m.cursors)) → ((m : Machine) → tasks m ≡ None) → Answers tells state disk disk_now session (with_kept session known cursors) result steps tasks
queried tells state disk disk_now session known cursors loads idle result steps tasks turn lawful can queries kept turns idles is none =
    let reads = queries.loading.loaded.reads in
    let agrees_now : Agrees tells (state disk_now) session.store = agrees_read tells (load_sizes loads) (state disk) (state disk_now) session.store lawful can.agrees reads in
    answers_by tells state disk disk_now session (with_kept session known cursors) result (λ m. turned_by m (turn m.state m.cursors)) steps (λ m. None) tasks (λ m. sym (is m)) (λ m. sym (none m)) (record {
      from = λ m tell agrees.
          let one : Turns (turn m.state m.cursors) cursors result = turns m.state m.cursors tell (agrees.stands tell) agrees.cursors in
          let before : (c : List ℕ) → (state disk).images c → StandsForEither m.state m.state c = λ c here. inl (images_stand tells (state disk) m.state lawful agrees.store.settled agrees.stands c here) in
          record {
            reply = one.reply;
            agrees = ok_weaker result (AreOpen cursors (turn m.state m.cursors).0) _
                (λ open_now. record { store = agrees_now; stands = λ told. subst (StandsFor m.state) (sym (reads.content told)) (agrees.stands told); cursors = open_now }) one.open_now;
            images = leaves_by tells (state disk) (state disk_now) (StandsForEither m.state m.state) Same lawful reads.images before (λ x z here same. subst (StandsForEither m.state m.state) (sym same) (before x here));
            refused = λ refusal. queries.idles (idles m.state m.cursors agrees.cursors refusal);
            works = λ held here. if_so result _ (worked_none (state disk).limit held None (IsBy session (state disk_now).content) refl (subst (λ (image : List ℕ). IsBy session image held) (sym (reads.content tell)) here));
            full = λ held need gap here failed. absurd (not_full result need gap queries.loading.loaded.only failed);
            undamaged = λ place failed. not_damaged result place (queries.loading.undamaged m.state tell (agrees.stands tell)) failed;
          };
      spoken = λ m tell speaks.
          let before : (c : List ℕ) → (state disk).images c → MaySpeakOfEither m.state m.state c = λ c here. inl (images_have tells (state disk) (MaySpeakOf m.state) lawful can.agrees.settled (λ t. speaks) c here) in
          record {
            speaks = if_so result (MaySpeakOf m.state (state disk_now).content) (subst (MaySpeakOf m.state) (sym (reads.content tell)) speaks);
            images = leaves_by tells (state disk) (state disk_now) (MaySpeakOfEither m.state m.state) Same lawful reads.images before (λ x z here same. subst (MaySpeakOfEither m.state m.state) (sym same) (before x here));
          };
      can = if_so result (CanAnswer tells (state disk_now) (with_kept session known cursors)) (record { sound = can.sound; agrees = agrees_now; known = queries.loading.known; limit = omega (arith, can.limit, reads.costs.limit) });
      unchanged = ok_both result (λ reply. IsRefusal reply → (disk_now ≡ disk) × (known ≡ session.kept)) (λ reply. IsRefusal reply → cursors ≡ session.cursors) _
          (λ reply same same_cursors refusal. ((same refusal).0, ap (λ (e : KeptLists). with_kept session e cursors) (same refusal).1 ∙ ap (with_kept session session.kept) (same_cursors refusal))) queries.refused kept;
      only = only_so result queries.loading.loaded.only;
      full = λ need gap tell failed. absurd (not_full result need gap queries.loading.loaded.only failed);
      still = λ place tell failed. reads.content tell;
      unwritten = λ need gap tell failed. reads.content tell;
      cause = queries.loading.loaded.cause;
      faults = reads.costs.faults;
      same_limit = reads.costs.limit;
    })

-- ---- replies that refuse
search_idle : (documents : List Document) (r : Result Shape Fault) → IsRefusal (found_by documents r) → (f : Fault) × (r ≡ Err f)
search_idle documents (Ok q) refusal = absurd (no_refusal (answer_lines (answers documents q) ++ found_line (length (answers documents q))) (lines_other (answers documents q) (length (answers documents q))) refusal)
search_idle documents (Err f) refusal = (f, refl)

pub search_refuses : (text : List ℕ) (documents : List Document) → IsRefusal (searching text documents) → IsNoQuery text
unfolding searching
search_refuses text documents refusal = search_idle documents (query_of text) refusal

count_idle : (documents : List Document) (r : Result Shape Fault) → IsRefusal (counted_by documents r) → (f : Fault) × (r ≡ Err f)
count_idle documents (Ok q) refusal = absurd (no_refusal (found_line (length (answers documents q))) (found_other (length (answers documents q))) refusal)
count_idle documents (Err f) refusal = (f, refl)

pub count_refuses : (text : List ℕ) (documents : List Document) → IsRefusal (counting text documents) → IsNoQuery text
unfolding counting
count_refuses text documents refusal = count_idle documents (query_of text) refusal

rank_idle : (count : ℕ) (documents : List Document) (r : Result Shape Fault) → IsRefusal (ranked_by count documents r) → (f : Fault) × (r ≡ Err f)
rank_idle count documents (Ok q) refusal =
    let best = take count (ranked (map (scored (uses_of q)) (answers documents q))) in
    absurd (no_refusal (score_lines best ++ found_line (length (answers documents q))) (scores_other best (length (answers documents q))) refusal)
rank_idle count documents (Err f) refusal = (f, refl)

pub rank_refuses : (count : ℕ) (text : List ℕ) (documents : List Document) → IsRefusal (ranking count text documents) → IsNoQuery text
unfolding ranking
rank_refuses count text documents refusal = rank_idle count documents (query_of text) refusal

over_idle : (documents : List Document) (all : List OpenAnswers) (b : Bool) → nat_le CURSORS (length all) ≡ b
    → IsRefusal (cond {A = List OpenAnswers × List ℕ} b (all, codes "! too many cursors\n") (with_opened documents all, codes "cursor " ++ decimal (least_free all) ++ codes "\n")).1 → CURSORS ≤ length all
over_idle documents all true test refusal = at_least (length all) test
  where
    at_least : (n : ℕ) → nat_le CURSORS n ≡ true → CURSORS ≤ n
    at_least n test = grind (arith, nat_tests)
over_idle documents all false test refusal = absurd (no_refusal (codes "cursor " ++ decimal (least_free all) ++ codes "\n") (cursor_other (least_free all)) refusal)

open_idle : (documents : List Document) (all : List OpenAnswers) (r : Result Shape Fault) → IsRefusal (opened_by documents all r).1 → ((f : Fault) × (r ≡ Err f)) ⊎ (CURSORS ≤ length all)
open_idle documents all (Ok q) refusal = inr (over_idle (answers documents q) all (nat_le CURSORS (length all)) refl refusal)
open_idle documents all (Err f) refusal = inl (f, refl)

pub open_refuses : (text : List ℕ) (documents : List Document) (cursors : List OpenCursor) (all : List OpenAnswers) → AreOpen cursors all → IsRefusal (opening text documents all).1 → IsNoQuery text ⊎ (CURSORS ≤ length cursors)
unfolding opening
open_refuses text documents cursors all are refusal =
    ⊎_elim (λ no_query. inl no_query) (λ full. inr (omega (arith, full, same_length cursors all are))) (open_idle documents all (query_of text) refusal)
