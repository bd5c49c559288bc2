-- Laws of a run over a copy of an index, from its bytes and its lines to its replies.
use Rattle.std.proofs.Common.{◌≡◌, ◌≢◌, ◌⊎◌, inl, inr, ⊎_elim, ℕ, zero, suc, ◌≤◌, ◌++◌, List, [], ◌∷◌, drop, true, false, Some, None, Ok, Err, length, refl, ap, sym, subst, ◌∙◌, arith, length-append, append-nil}
use Rattle.std.proofs.lemmas.Bool.{cases_lt}
use Rattle.std.specs.List.{concat}
use Rattle.alta_console.specs.Lines.{whole, begun, last_piece, lines_of}
use Rattle.alta_console.specs.Transcript.{given_in, taken_in, has_ended, lines_in, Grows, Consumes}
use Rattle.alta_console.specs.declared.event.Event.{Event}
use Rattle.alta_console.proofs.RunLaws.{within_all, open_lines, ended_lines}
use Rattle.alta_disk.specs.Disk.{DiskState}
use Rattle.alta_embed.specs.Answers.{Answers, FindDamage, IsCaused, Refuses, WantPlace}
use Rattle.alta_embed.specs.Refusals.{refusal_for}
use Rattle.alta_embed.specs.declared.answering.TheConstants.{INDEX_LIMIT, LINES_LIMIT}
use Rattle.alta_embed.specs.declared.refusal.Refusal.{Refusal}
use Rattle.alta_embed.specs.declared.refusal.Refusal.TheVariants.{NoMemory, Damaged, NoIndex, Full, TooLong, NoRoom}
use Rattle.alta_machine.specs.Lines.{Reading}
use Rattle.alta_machine.specs.Machine.{started_at, replies}
use Rattle.alta_machine.specs.declared.document.State.{State}
use Rattle.alta_meaning.specs.Broken.{IsBrokenAt}
use Rattle.alta_meaning.specs.Standing.{StandsFor}
use Rattle.alta_root.specs.Slots.{HasNoRoot}
use Rattle.alta_session.specs.Damage.{FindsDamage, FirstFindsDamage, FirstWantsPlace, ReadsFirst, WantsPlace}
use Rattle.alta_session.specs.Run.{Serves}
use Rattle.alta_session.specs.Status.{EndsOpened, Yields}
use Rattle.alta_session.specs.declared.status.Status.{Status}
use Rattle.alta_session.specs.declared.status.Status.TheVariants.{Done, Usage, DiskFault, TakeFault, GiveFault, Memory, Damaged as RunDamaged, NoRoot, Full as RunFull, TooLong as RunTooLong, Exists}

-- ---- from the end of a run to the refusal

pub done_of : (status : Status) → refusal_for status ≡ None → status ≡ Done
done_of Done is = refl
done_of Usage is = cc
done_of DiskFault is = cc
done_of TakeFault is = cc
done_of GiveFault is = cc
done_of Memory is = cc
done_of (RunDamaged place) is = cc
done_of NoRoot is = cc
done_of (RunFull need gap) is = cc
done_of RunTooLong is = cc
done_of Exists is = cc

-- the end that a refusal comes from
abbrev pub ComesFrom : Refusal → Status → Type 0
ComesFrom NoMemory status = Unit {0}
ComesFrom (Damaged place) status = status ≡ RunDamaged place
ComesFrom NoIndex status = status ≡ NoRoot
ComesFrom (Full need gap) status = status ≡ RunFull need gap
ComesFrom TooLong status = status ≡ RunTooLong
ComesFrom (NoRoom need) status = ⊥

pub comes_from : (status : Status) (refusal : Refusal) → refusal_for status ≡ Some refusal → ComesFrom refusal status
comes_from Done refusal is = cc
comes_from (RunDamaged place) refusal is = let same : Damaged place ≡ refusal = cc in subst (λ (r : Refusal). ComesFrom r (RunDamaged place)) same refl
comes_from NoRoot refusal is = let same : NoIndex ≡ refusal = cc in subst (λ (r : Refusal). ComesFrom r NoRoot) same refl
comes_from (RunFull need gap) refusal is = let same : Full need gap ≡ refusal = cc in subst (λ (r : Refusal). ComesFrom r (RunFull need gap)) same refl
comes_from RunTooLong refusal is = let same : TooLong ≡ refusal = cc in subst (λ (r : Refusal). ComesFrom r RunTooLong) same refl
comes_from Usage refusal is = let same : NoMemory ≡ refusal = cc in subst (λ (r : Refusal). ComesFrom r Usage) same tt
comes_from DiskFault refusal is = let same : NoMemory ≡ refusal = cc in subst (λ (r : Refusal). ComesFrom r DiskFault) same tt
comes_from TakeFault refusal is = let same : NoMemory ≡ refusal = cc in subst (λ (r : Refusal). ComesFrom r TakeFault) same tt
comes_from GiveFault refusal is = let same : NoMemory ≡ refusal = cc in subst (λ (r : Refusal). ComesFrom r GiveFault) same tt
comes_from Memory refusal is = let same : NoMemory ≡ refusal = cc in subst (λ (r : Refusal). ComesFrom r Memory) same tt
comes_from Exists refusal is = let same : NoMemory ≡ refusal = cc in subst (λ (r : Refusal). ComesFrom r Exists) same tt

-- a refusal that a run ends with for this cause, or for want of memory
refuses_as : {T : Type 0} (status cause : Status) (refusal wanted : Refusal) → refusal_for status ≡ Some refusal → refusal_for cause ≡ Some wanted → (status ≡ cause) ⊎ Yields status → Refuses {T = T} (Err refusal) wanted
refuses_as status cause refusal wanted is for_cause (inl same) = let known : refusal ≡ wanted = (let both : Some refusal ≡ Some wanted = sym is ∙ (ap refusal_for same ∙ for_cause) in cc) in inl (ap Err known)
refuses_as status cause refusal wanted is for_cause (inr (inl same)) = let known : refusal ≡ NoMemory = (let both : Some refusal ≡ Some NoMemory = sym is ∙ ap refusal_for same in cc) in inr (ap Err known)
refuses_as status cause refusal wanted is for_cause (inr (inr same)) = let known : refusal ≡ NoMemory = (let both : Some refusal ≡ Some NoMemory = sym is ∙ ap refusal_for same in cc) in inr (ap Err known)

-- ---- what a new console in memory took and gave

pub told_run : (told run : List Event) → Grows (Some []) (Some told) run → told ≡ run
told_run told run grew = cc

pub taken_front : (lines left taken : List ℕ) → Consumes (Some lines) (Some left) taken → lines ≡ taken ++ left
taken_front lines left taken read = cc

-- where nothing is left
pub taken_all : (lines left taken : List ℕ) → Consumes (Some lines) (Some left) taken → left ≡ [] → taken ≡ lines
taken_all lines left taken read none = sym (append-nil taken) ∙ ap (λ (l : List ℕ). taken ++ l) (sym none) ∙ sym (taken_front lines left taken read)

pub taken_fits : (lines left taken : List ℕ) → Consumes (Some lines) (Some left) taken → length taken ≤ length lines
taken_fits lines left taken read = omega (arith, ap length (taken_front lines left taken read), length-append taken left)

-- ---- the replies to all lines

-- the lines of an input that was read to its end
pub all_lines : (limit : ℕ) (lines : List ℕ) (run : List Event) → has_ended run ≡ true → taken_in run ≡ lines → length lines ≤ limit → lines_in limit run ≡ lines_of lines
all_lines limit lines run ended all fits = ended_lines limit run lines ended (within_all limit run (omega (arith, ap length all)) ∙ all)

-- ---- what a line of a front of the input finds or wants

-- the lines of a run are among those of what it took
lines_among : (P : List (List ℕ) → Type 0) → ((xs ys : List (List ℕ)) → P xs → P (xs ++ ys)) → (limit : ℕ) (run : List Event) → length (taken_in run) ≤ limit → P (lines_in limit run) → P (lines_of (taken_in run))
lines_among P more limit run fits holds =
    elim (has_ended run) as (λ b. has_ended run ≡ b → P (lines_of (taken_in run))) [
      | true ↦ λ ended. subst P (ended_lines limit run (taken_in run) ended (within_all limit run fits)) holds
      | false ↦ λ open_yet. more (whole (taken_in run)) (last_piece (begun (taken_in run))) (subst P (open_lines limit run (taken_in run) open_yet (within_all limit run fits)) holds)
    ] refl

-- What serving leaves, and what it says of its end, with the bytes of the index as the content and the lines as the input of a new console.
pub record Served (index lines : List ℕ) (told_now : List Event) (left_now : List ℕ) (disk disk_now : DiskState) (status : Status) : Type 0 where
  pub run : Serves (Unit {0}) LINES_LIMIT (Some []) (Some told_now) (Some lines) (Some left_now) disk disk_now status
  pub content : disk.content ≡ index
  pub limit : disk_now.limit ≡ INDEX_LIMIT
  pub read_all : status ≡ Done → left_now ≡ []
  pub rooted : HasNoRoot index → (status ≡ NoRoot) ⊎ Yields status
  pub broken : (place : ℕ) → IsBrokenAt index place → (status ≡ RunDamaged place) ⊎ Yields status
  pub no_root : status ≡ NoRoot → HasNoRoot index
  pub opened : (s : State) → StandsFor s index → EndsOpened status

pub served_of : (index lines : List ℕ) (told told_now : List Event) (left left_now : List ℕ) (disk disk_now : DiskState) (status : Status) → told ≡ [] → left ≡ lines → disk.content ≡ index → disk.limit ≡ INDEX_LIMIT → disk_now.limit ≡ disk.limit
    → Serves (Unit {0}) LINES_LIMIT (Some told) (Some told_now) (Some left) (Some left_now) disk disk_now status → (status ≡ Done → left_now ≡ []) → (HasNoRoot disk.content → (status ≡ NoRoot) ⊎ Yields status)
    → ((place : ℕ) → IsBrokenAt disk.content place → (status ≡ RunDamaged place) ⊎ Yields status) → (status ≡ NoRoot → HasNoRoot disk.content) → ((s : State) → StandsFor s disk.content → EndsOpened status)
    → Served index lines told_now left_now disk disk_now status
served_of index lines told told_now left left_now disk disk_now status new all content limit same_limit serves read_all rooted broken no_root opened = record {
  run = subst (λ (l : List ℕ). Serves (Unit {0}) LINES_LIMIT (Some []) (Some told_now) (Some l) (Some left_now) disk disk_now status) all
      (subst (λ (t : List Event). Serves (Unit {0}) LINES_LIMIT (Some t) (Some told_now) (Some left) (Some left_now) disk disk_now status) new serves);
  content = content;
  limit = same_limit ∙ limit;
  read_all = read_all;
  rooted = λ none. rooted (subst HasNoRoot (sym content) none);
  broken = λ place here. broken place (subst (λ (c : List ℕ). IsBrokenAt c place) (sym content) here);
  no_root = λ is. subst HasNoRoot content (no_root is);
  opened = λ s stands. opened s (subst (StandsFor s) (sym content) stands);
}

-- where the input is not too long
fits : (index lines : List ℕ) (told_now : List Event) (left_now : List ℕ) (disk disk_now : DiskState) (status : Status) (served : Served index lines told_now left_now disk disk_now status) → (status ≡ RunTooLong → ⊥) → length (taken_in served.run.run) ≤ LINES_LIMIT
fits index lines told_now left_now disk disk_now status served short = elim (cases_lt LINES_LIMIT (length (taken_in served.run.run))) [ inl long ↦ absurd (short (served.run.failed.too_long.1 long)) | inr within ↦ within ]

-- the first line behind so many is the first behind them of more lines
reads_on : (P : Reading → Type 0) (n : ℕ) (xs ys : List (List ℕ)) → ReadsFirst P (drop n xs) → ReadsFirst P (drop n (xs ++ ys))
reads_on P zero [] ys here = absurd here
reads_on P zero (x ∷ xs) ys here = here
reads_on P (suc n) [] ys here = absurd here
reads_on P (suc n) (x ∷ xs) ys here = reads_on P n xs ys here

finds_damage : (lines left copy : List ℕ) (run : List Event) (n place : ℕ) → Consumes (Some lines) (Some left) (taken_in run) → length (taken_in run) ≤ LINES_LIMIT → FirstFindsDamage copy (drop n (lines_in LINES_LIMIT run)) place → FindDamage lines place
finds_damage lines left copy run n place read fits finds = (
  copy,
  taken_in run,
  (left, taken_front lines left (taken_in run) read),
  (n, lines_among (λ l. FirstFindsDamage copy (drop n l) place) (λ xs ys. reads_on (λ reading. FindsDamage copy reading place) n xs ys) LINES_LIMIT run fits finds),
)

wants_place : (within : ℕ) (lines left copy : List ℕ) (run : List Event) (n need gap : ℕ) → Consumes (Some lines) (Some left) (taken_in run) → length (taken_in run) ≤ LINES_LIMIT → within ≡ INDEX_LIMIT
    → FirstWantsPlace within copy (drop n (lines_in LINES_LIMIT run)) need gap → WantPlace lines need gap
wants_place within lines left copy run n need gap read fits same wants = (
  copy,
  taken_in run,
  (left, taken_front lines left (taken_in run) read),
  (
    n,
    subst (λ (m : ℕ). FirstWantsPlace m copy (drop n (lines_of (taken_in run))) need gap) same
        (lines_among (λ l. FirstWantsPlace within copy (drop n l) need gap) (λ xs ys. reads_on (λ reading. WantsPlace within copy reading need gap) n xs ys) LINES_LIMIT run fits wants),
  ),
)

-- ---- what a run answers

-- it was done
pub answers_done : {T : Type 0} (index lines : List ℕ) (told_now : List Event) (left_now : List ℕ) (disk disk_now : DiskState) (status : Status) (given : T → List ℕ) (t : T)
    → Served index lines told_now left_now disk disk_now status → given t ≡ given_in told_now → refusal_for status ≡ None → Answers index lines given (Ok t)
answers_done index lines told_now left_now disk disk_now status given t served gave is =
    let done : status ≡ Done = done_of status is in
    let all : taken_in served.run.run ≡ lines = taken_all lines left_now (taken_in served.run.run) served.run.read (served.read_all done) in
    let short : length (taken_in served.run.run) ≤ LINES_LIMIT = fits index lines told_now left_now disk disk_now status served (λ long. cc) in
    let within : length lines ≤ LINES_LIMIT = omega (arith, short, ap length all) in
    record {
      replies = λ s stands.
          let answered : (has_ended served.run.run ≡ true) × (given_in served.run.run ≡ concat (replies (started_at s) (lines_in LINES_LIMIT served.run.run))) = (served.run.throughout.replies s tt (subst (StandsFor s) (sym served.content) stands)).all done in
          gave ∙ (ap given_in (told_run told_now served.run.run served.run.grew) ∙ (answered.1 ∙ ap (λ (l : List (List ℕ)). concat (replies (started_at s) l)) (all_lines LINES_LIMIT lines served.run.run answered.0 all within)));
      within = within;
      caused = tt;
      opened = λ s stands. tt;
      rooted = λ none. elim (served.rooted none) [ inl other ↦ cc | inr other ↦ elim other [ inl memory ↦ cc | inr fault ↦ cc ] ];
      broken = λ place broken. elim (served.broken place broken) [ inl other ↦ cc | inr other ↦ elim other [ inl memory ↦ cc | inr fault ↦ cc ] ];
    }

caused : (index lines : List ℕ) (told_now : List Event) (left_now : List ℕ) (disk disk_now : DiskState) (status : Status) (refusal : Refusal) → Served index lines told_now left_now disk disk_now status → ComesFrom refusal status → IsCaused index lines refusal
caused index lines told_now left_now disk disk_now status refusal served from = record {
  no_index = λ same. served.no_root (subst (λ (r : Refusal). ComesFrom r status) same from);
  damaged = λ place same.
      let is : status ≡ RunDamaged place = subst (λ (r : Refusal). ComesFrom r status) same from in
      ⊎_elim
      (λ broken. inl (subst (λ (c : List ℕ). IsBrokenAt c place) served.content broken))
      (λ finds. inr (finds_damage lines left_now disk_now.content served.run.run (length served.run.replied.gives.texts) place served.run.read (fits index lines told_now left_now disk disk_now status served (λ long. cc)) finds))
      (served.run.failed.damaged place tt is);
  full = λ need gap same.
      let is : status ≡ RunFull need gap = subst (λ (r : Refusal). ComesFrom r status) same from in
      wants_place disk_now.limit lines left_now disk_now.content served.run.run (length served.run.replied.gives.texts) need gap served.run.read (fits index lines told_now left_now disk disk_now status served (λ long. cc)) served.limit (served.run.failed.wanting need gap tt is);
  too_long = λ same.
      let is : status ≡ RunTooLong = subst (λ (r : Refusal). ComesFrom r status) same from in
      omega (arith, served.run.failed.too_long.0 is, taken_fits lines left_now (taken_in served.run.run) served.run.read);
  no_room = λ s need stands same. absurd (subst (λ (r : Refusal). ComesFrom r status) same from);
}

-- it ended before
pub answers_refused : {T : Type 0} (index lines : List ℕ) (told_now : List Event) (left_now : List ℕ) (disk disk_now : DiskState) (status : Status) (given : T → List ℕ) (refusal : Refusal)
    → Served index lines told_now left_now disk disk_now status → refusal_for status ≡ Some refusal → Answers index lines given (Err refusal)
answers_refused index lines told_now left_now disk disk_now status given refusal served is =
    let from : ComesFrom refusal status = comes_from status refusal is in
    record {
      replies = λ s stands. tt;
      within = tt;
      caused = caused index lines told_now left_now disk disk_now status refusal served from;
      opened = λ s stands. record {
        rooted = λ same. (served.opened s stands).rooted (subst (λ (r : Refusal). ComesFrom r status) same from);
        whole = λ place same. (served.opened s stands).whole place (subst (λ (r : Refusal). ComesFrom r status) same from);
      };
      rooted = λ none. refuses_as status NoRoot refusal NoIndex is refl (served.rooted none);
      broken = λ place broken. refuses_as status (RunDamaged place) refusal (Damaged place) is refl (served.broken place broken);
    }

-- a run's refusal is never for want of room
pub never_for_room : (status : Status) (refusal : Refusal) (need : ℕ) → refusal_for status ≡ Some refusal → refusal ≢ NoRoom need
never_for_room status refusal need is same = subst (λ (r : Refusal). ComesFrom r status) same (comes_from status refusal is)
