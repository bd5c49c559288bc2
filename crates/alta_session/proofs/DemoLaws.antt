-- Laws of demos.
use Rattle.std.proofs.Common.{◌≡◌, ◌≢◌, ◌⊎◌, ℕ, ◌+◌, ◌<◌, ◌≤◌, inl, inr, ⊎_elim, List, [], ◌++◌, Option, length, take, drop, refl, ap, sym, subst, ◌∙◌, append-nil, arith}
use Rattle.std.proofs.lemmas.List.{drop_at, length-take}
use Rattle.std.proofs.Math.ListN.{drop_of_length-le}
use Rattle.std.proofs.Math.Seq.{take-append-add}
use Rattle.alta_console.specs.Giving.{Gives}
use Rattle.std.specs.List.{concat}
use Rattle.alta_console.specs.declared.event.Event.{Event}
use Rattle.alta_console.proofs.GivingLaws.{gives_none}
use Rattle.alta_disk.specs.Disk.{DiskState, IsLawful}
use Rattle.alta_disk.proofs.Moments.{stands_only}
use Rattle.alta_meaning.specs.Holding.{Holding}
use Rattle.alta_meaning.specs.Standing.{StandsFor}
use Rattle.alta_machine.specs.States.{empty_state}
use Rattle.alta_meaning.specs.Switching.{empty_held}
use Rattle.alta_root.specs.Slots.{HasNoRoot}
use Rattle.alta_session.specs.Agreement.{AgreesOn}
use Rattle.alta_session.specs.Demo.{Obeyed, StopsObeying, ReportsFrom, EndsDemo, Demonstrates}
use Rattle.alta_session.specs.Fed.{Fed, FedFrom}
use Rattle.alta_session.specs.Fullness.{IsFullOnly, IsInterrupted, IsFull}
use Rattle.alta_machine.specs.Machine.{Machine, started_at, machine_after, replies}
use Rattle.alta_session.specs.Progress.{StopsWithin, StopsWithinFrom}
use Rattle.alta_session.specs.Run.{KeepsDisk}
use Rattle.alta_session.specs.Status.{EndsInit, EndsLine, StopsLine, EndsOpened, IsUnmade, Completes, status_for}
use Rattle.alta_session.specs.Tasks.{IsBy, IsWorked, worked_lines}
use Rattle.alta_session.specs.declared.session.Session.{Session}
use Rattle.alta_session.specs.declared.status.Status.{Status}
use Rattle.alta_session.specs.declared.status.Status.TheVariants.{Done, Usage, DiskFault, TakeFault, GiveFault, Damaged, Full, Exists}
use Rattle.alta_session.proofs.FullnessLaws.{full_exactly, full_more, full_on, over_more, over_on}
use Rattle.alta_session.proofs.MachineLaws.{after_append, replies_append, length_replies}
use Rattle.alta_session.proofs.ProgressLaws.{progress_begins}
use Rattle.alta_session.proofs.StatusLaws.{ends_not_done, ends_whole, running_rooted, init_opened, init_never}
use Rattle.alta_session.proofs.TaskLaws.{lines_on, worked_on_image}
use Rattle.alta_store.specs.Answers.{IsOutside}
use Rattle.alta_store.specs.declared.fault.StoreFault.{StoreFault}
use Rattle.alta_store.specs.declared.fault.StoreFault.TheVariants.{NoRoot as StoreNoRoot, Damaged as StoreDamaged}

-- ---- what is held of an index without documents

-- ---- lines, and then others whose replies are given

-- while the first are answered none was given
none_given : (m : Machine) (xs ys : List (List ℕ)) (k : ℕ) → k < length xs → [] ≡ concat (drop (length xs) (take k (replies m (xs ++ ys))))
none_given m xs ys k within =
    let all : List (List ℕ) = replies m (xs ++ ys) in
    sym (ap concat (drop_of_length-le (take k all) {i = length xs} (omega (arith, within, length-take k all))))

-- and then those to the others
given_behind_all : (m : Machine) (xs ys : List (List ℕ)) (k : ℕ) → concat (take k (replies (machine_after m xs) ys)) ≡ concat (drop (length xs) (take (length xs + k) (replies m (xs ++ ys))))
given_behind_all m xs ys k =
    let first : List (List ℕ) = replies m xs in
    let later : List (List ℕ) = replies (machine_after m xs) ys in
    let taken : take (length xs + k) (replies m (xs ++ ys)) ≡ first ++ take k later =
    ap (λ (l : List (List ℕ)). take (length xs + k) l) (replies_append m xs ys) ∙ ap (λ (n : ℕ). take (n + k) (first ++ later)) (sym (length_replies m xs)) ∙ take-append-add first later k in
    sym (ap concat (ap (λ (l : List (List ℕ)). drop (length xs) l) taken ∙ drop_at first (take k later) (length xs) (length_replies m xs)))

ends_opened : (status : Status) → EndsLine status → ((place : ℕ) → status ≡ Damaged place → ⊥) → EndsOpened status
ends_opened status ends whole = record { rooted = running_rooted status (inr (inr (inr ends))); whole = whole }

-- nothing was answered
interrupted_opened : (status : Status) → IsInterrupted status → EndsOpened status
interrupted_opened status (inl is) = record { rooted = λ other. cc; whole = λ place other. cc }
interrupted_opened status (inr (inl is)) = record { rooted = λ other. cc; whole = λ place other. cc }
interrupted_opened status (inr (inr is)) = record { rooted = λ other. cc; whole = λ place other. cc }

interrupted_not_done : (status : Status) → IsInterrupted status → status ≡ Done → ⊥
interrupted_not_done status (inl is) other = cc
interrupted_not_done status (inr (inl is)) other = cc
interrupted_not_done status (inr (inr is)) other = cc

interrupted_not_full : (status : Status) (need gap : ℕ) → IsInterrupted status → status ≡ Full need gap → ⊥
interrupted_not_full status need gap (inl is) other = cc
interrupted_not_full status need gap (inr (inl is)) other = cc
interrupted_not_full status need gap (inr (inr is)) other = cc

pub reports_none : (limit : ℕ) (held : Holding) (m : Machine) (lines asked : List (List ℕ)) (e : DiskState) (status : Status) → IsInterrupted status → ReportsFrom limit held m lines asked [] e status
reports_none limit held m lines asked e status stopped = record {
  begins = (concat (replies (machine_after m lines) asked), refl);
  all = λ done. absurd (interrupted_not_done status stopped done);
  stands = λ done. absurd (interrupted_not_done status stopped done);
  levels = λ done. absurd (interrupted_not_done status stopped done);
  full = record {
    only = λ need gap is. absurd (interrupted_not_full status need gap stopped is);
    always = λ k need gap over. inr stopped;
  };
  opened = interrupted_opened status stopped;
}

-- it stopped in the first lines
pub reports_early : (d e : DiskState) (session : Session) (held : Holding) (m : Machine) (lines asked : List (List ℕ)) (given : List ℕ) (status : Status) → IsBy session d.content held → StopsWithinFrom d e session lines given status m → EndsLine status → ReportsFrom d.limit held m lines asked [] e status
reports_early d e session held m lines asked given status here stops ends =
    let stopped : StopsLine status = ends_whole status ends stops.undamaged in
    let only : IsFullOnly d.limit held m lines given status = stops.full held here in
    record {
      begins = (concat (replies (machine_after m lines) asked), refl);
      all = λ done. absurd (ends_not_done status ends done);
      stands = λ done. absurd (ends_not_done status ends done);
      levels = λ done. absurd (ends_not_done status ends done);
      full = record {
        only = λ need gap is.
            let found = only need gap is in
            (found.0, over_more d.limit m held lines asked found.0 need gap found.1, none_given m lines asked found.0 found.1.within);
        always = (full_exactly d.limit m held (lines ++ asked) given status (full_more d.limit m held lines asked given status only) (inl stopped)).always;
      };
      opened = ends_opened status ends stops.undamaged;
    }

-- it stopped in the others
pub reports_late : (tells : Type 0) (d e f : DiskState) (s0 s1 : Session) (held : Holding) (m : Machine) (lines asked : List (List ℕ)) (silent given : List ℕ) (status : Status) → IsBy s0 d.content held → FedFrom tells d e s0 s1 lines silent m → e.limit ≡ d.limit
    → StopsWithinFrom e f s1 asked given status (machine_after m lines) → EndsLine status → ReportsFrom d.limit held m lines asked given f status
reports_late tells d e f s0 s1 held m lines asked silent given status here fed same stops ends =
    let stopped : StopsLine status = ends_whole status ends stops.undamaged in
    let done : IsWorked (worked_lines d.limit m held lines) (IsBy s1 e.content) = fed.works held here in
    let only : IsFullOnly e.limit done.now (machine_after m lines) asked given status = stops.full done.now done.held in
    record {
      begins = progress_begins (machine_after m lines) asked given f.images stops.progress;
      all = λ is. absurd (ends_not_done status ends is);
      stands = λ is. absurd (ends_not_done status ends is);
      levels = λ is. absurd (ends_not_done status ends is);
      full = record {
        only = λ need gap is.
            let found = only need gap is in
            (length lines + found.0, over_on d.limit e.limit m held done.now lines asked found.0 need gap same done.is found.1, found.2 ∙ given_behind_all m lines asked found.0);
        always = (full_exactly d.limit m held (lines ++ asked) (concat (replies m lines) ++ given) status (full_on d.limit e.limit m held done.now lines asked given status same done.is only) (inl stopped)).always;
      };
      opened = ends_opened status ends stops.undamaged;
    }

-- all were answered
pub reports_all : (tells : Type 0) (d e f : DiskState) (s0 s1 s2 : Session) (held : Holding) (m : Machine) (lines asked : List (List ℕ)) (silent given : List ℕ) → tells → IsBy s0 d.content held → FedFrom tells d e s0 s1 lines silent m → e.limit ≡ d.limit
    → FedFrom tells e f s1 s2 asked given (machine_after m lines) → ReportsFrom d.limit held m lines asked given f Done
reports_all tells d e f s0 s1 s2 held m lines asked silent given tell here fed same later =
    let done : IsWorked (worked_lines d.limit m held lines) (IsBy s1 e.content) = fed.works held here in
    let all : IsWorked (worked_lines d.limit m held (lines ++ asked)) (IsBy s2 f.content) = lines_on d.limit e.limit m held done.now lines asked (IsBy s2 f.content) same done.is (later.works done.now done.held) in
    record {
      begins = ([], sym later.given_is ∙ sym (append-nil given));
      all = λ is. later.given_is;
      stands = λ is. subst (λ (t : Machine). StandsFor t.state f.content) (sym (after_append m lines asked)) (later.agrees.stands tell);
      levels = λ is. (worked_on_image (worked_lines d.limit m held (lines ++ asked)) s2 f.content all, later.agrees.store.settled);
      full = record {
        only = λ need gap is. absurd cc;
        always = (full_exactly d.limit m held (lines ++ asked) given Done (λ need gap is. absurd cc) (inr (all.now, all.is))).always;
      };
      opened = record { rooted = λ is. cc; whole = λ place is. cc };
    }

pub line_not_exists : (status : Status) → EndsLine status → status ≢ Exists
line_not_exists status (inl (inl is)) other = cc
line_not_exists status (inl (inr (inl is))) other = cc
line_not_exists status (inl (inr (inr (inl is)))) other = cc
line_not_exists status (inl (inr (inr (inr (need, gap, is))))) other = cc
line_not_exists status (inr (place, is)) other = cc

-- ---- from the index on

-- no index was made
init_reports : (tells : Type 0) (lines asked : List (List ℕ)) (d e : DiskState) (status : Status) → EndsInit status → status ≢ Done → (status ≡ Exists → HasNoRoot d.content → ⊥) → ((need gap : ℕ) → status ≡ Full need gap → d.limit < 2105344)
    → HasNoRoot d.content → 2105344 ≤ d.limit → ReportsFrom d.limit empty_held (started_at empty_state) lines asked [] e status
init_reports tells lines asked d e status (inl done) not_done exists small none big = absurd (not_done done)
init_reports tells lines asked d e status (inr (inl fault)) not_done exists small none big = reports_none d.limit empty_held (started_at empty_state) lines asked e status (inr (inl fault))
init_reports tells lines asked d e status (inr (inr (inl there))) not_done exists small none big = absurd (exists there none)
init_reports tells lines asked d e status (inr (inr (inr (need, gap, is)))) not_done exists small none big = absurd (omega (arith, small need gap is, big))

unmade_of : (status : Status) (P : Type 0) → (status ≡ Exists) ⊎ (P × IsUnmade status) → IsUnmade status
unmade_of status P (inl there) = inl there
unmade_of status P (inr narrow) = narrow.1

pub demo_unmade : (tells : Type 0) (lines asked : List (List ℕ)) (told : Option (List Event)) (d e : DiskState) (status : Status) → EndsInit status → status ≢ Done
    → (tells → status ≡ Exists → HasNoRoot d.content → ⊥) → (tells → (HasNoRoot d.content → ⊥) → (status ≡ Exists) ⊎ (status ≡ DiskFault)) → ((need gap : ℕ) → status ≡ Full need gap → d.limit < 2105344)
    → (d.limit < 2105344 → (status ≡ Exists) ⊎ ((status ≡ Full 2105344 d.limit) ⊎ (status ≡ DiskFault))) → (IsUnmade status → KeepsDisk tells d e) → Demonstrates tells lines asked told told d e status
demo_unmade tells lines asked told d e status ends not_done exists found narrow small kept = record {
  ends = inl ends;
  given = [];
  gave = gives_none told;
  begins = λ tell. (concat (replies (machine_after (started_at empty_state) lines) asked), refl);
  opened = λ tell. init_opened status ends;
  exists = exists;
  found = found;
  small = small;
  unmade = λ which. (kept (unmade_of status (d.limit < 2105344) which), refl);
  reports = λ tell none big. init_reports tells lines asked d e status ends not_done (exists tell) narrow none big;
  narrow = λ need gap tell big is. absurd (omega (arith, narrow need gap is, big));
  stands = λ done. absurd (not_done done);
}

-- What the making of an index says once it is made: there was none, and the disk may have one.
pub record IsMade (tells : Type 0) (d : DiskState) : Type 0 where
  pub rootless : tells → (HasNoRoot d.content → ⊥) → ⊥
  pub large : d.limit < 2105344 → ⊥

pub is_made : (tells : Type 0) (d : DiskState) (status : Status) → status ≡ Done → (tells → (HasNoRoot d.content → ⊥) → (status ≡ Exists) ⊎ (status ≡ DiskFault))
    → (d.limit < 2105344 → (status ≡ Exists) ⊎ ((status ≡ Full 2105344 d.limit) ⊎ (status ≡ DiskFault))) → IsMade tells d
is_made tells d status done found small = record {
  rootless = λ tell rooted. ⊎_elim (λ is. cc) (λ is. cc) (found tell rooted);
  large = λ less. ⊎_elim (λ is. cc) (λ other. ⊎_elim (λ is. cc) (λ is. cc) other) (small less);
}

-- it was made
pub demo_made : (tells : Type 0) (lines asked : List (List ℕ)) (told told_now : Option (List Event)) (d e : DiskState) (given : List ℕ) (status : Status) → IsLawful tells e → IsMade tells d → EndsDemo status → status ≢ Exists → Gives told told_now given
    → (tells → ReportsFrom d.limit empty_held (started_at empty_state) lines asked given e status) → ((need gap : ℕ) → tells → status ≡ Full need gap → IsFull e need gap) → Demonstrates tells lines asked told told_now d e status
demo_made tells lines asked told told_now d e given status lawful made ends never gave reports narrow = record {
  ends = ends;
  given = given;
  gave = gave;
  begins = λ tell. (reports tell).begins;
  opened = λ tell. (reports tell).opened;
  exists = λ tell is none. never is;
  found = λ tell rooted. absurd (made.rootless tell rooted);
  small = λ less. absurd (made.large less);
  unmade = λ which. ⊎_elim (λ is. absurd (never is)) (λ other. absurd (made.large other.0)) which;
  reports = λ tell none big. reports tell;
  narrow = λ need gap tell big is. narrow need gap tell is;
  stands = λ done.
      stands_only tells e (StandsFor (machine_after (started_at empty_state) (lines ++ asked)).state) lawful (λ c here. ((reports (lawful.told c here)).levels done).1 c here) (λ tell. (reports tell).stands done);
}

-- the index was not opened
pub demo_unopened : (tells : Type 0) (lines asked : List (List ℕ)) (told : Option (List Event)) (d e : DiskState) (status : Status) → IsLawful tells e → IsMade tells d → EndsDemo status → status ≢ Exists → (tells → IsInterrupted status) → ((need gap : ℕ) → status ≡ Full need gap → ⊥)
    → Demonstrates tells lines asked told told d e status
demo_unopened tells lines asked told d e status lawful made ends never stopped not_full =
    demo_made tells lines asked told told d e [] status lawful made ends never (gives_none told) (λ tell. reports_none d.limit empty_held (started_at empty_state) lines asked e status (stopped tell))
    (λ need gap tell is. absurd (not_full need gap is))

-- What opening an index without documents says.
pub record IsNew (tells : Type 0) (d e : DiskState) (session : Session) : Type 0 where
  pub stands : tells → StandsFor empty_state e.content
  pub agrees : tells → AgreesOn tells e session (started_at empty_state)
  pub held : tells → IsBy session e.content empty_held
  pub same_limit : e.limit ≡ d.limit

pub demo_early : (tells : Type 0) (lines asked : List (List ℕ)) (told : Option (List Event)) (d e f : DiskState) (session : Session) (status : Status) → IsLawful tells f → IsMade tells d → IsNew tells d e session → StopsObeying tells e f session lines status → EndsLine status
    → ((need gap : ℕ) → tells → status ≡ Full need gap → IsFull f need gap) → Demonstrates tells lines asked told told d f status
demo_early tells lines asked told d e f session status lawful made new stops ends narrow =
    demo_made tells lines asked told told d f [] status lawful made (inr (inl ends)) (line_not_exists status ends) (gives_none told)
    (λ tell.
    subst (λ (limit : ℕ). ReportsFrom limit empty_held (started_at empty_state) lines asked [] f status) new.same_limit
    (reports_early e f session empty_held (started_at empty_state) lines asked stops.given status (new.held tell) (stops.each (started_at empty_state) tell (new.agrees tell)) ends))
    narrow

pub demo_late : (tells : Type 0) (lines asked : List (List ℕ)) (told told_now : Option (List Event)) (d e f h : DiskState) (s0 s1 : Session) (status : Status) → IsLawful tells h → IsMade tells d → IsNew tells d e s0 → Obeyed tells e f s0 s1 lines → StopsWithin tells told told_now f h s1 asked status
    → EndsLine status → ((need gap : ℕ) → tells → status ≡ Full need gap → IsFull h need gap) → Demonstrates tells lines asked told told_now d h status
demo_late tells lines asked told told_now d e f h s0 s1 status lawful made new obeyed stops ends narrow =
    demo_made tells lines asked told told_now d h stops.given status lawful made (inr (inl ends)) (line_not_exists status ends) stops.gave
    (λ tell.
    let fed : FedFrom tells e f s0 s1 lines obeyed.given (started_at empty_state) = obeyed.each (started_at empty_state) tell (new.agrees tell) in
    subst (λ (limit : ℕ). ReportsFrom limit empty_held (started_at empty_state) lines asked stops.given h status) new.same_limit
    (reports_late tells e f h s0 s1 empty_held (started_at empty_state) lines asked obeyed.given stops.given status (new.held tell) fed obeyed.same_limit (stops.each (machine_after (started_at empty_state) lines) tell fed.agrees) ends))
    narrow

pub demo_done : (tells : Type 0) (lines asked : List (List ℕ)) (told told_now : Option (List Event)) (d e f h : DiskState) (s0 s1 s2 : Session) → IsLawful tells h → IsMade tells d → IsNew tells d e s0 → Obeyed tells e f s0 s1 lines → Fed tells told told_now f h s1 s2 asked
    → Demonstrates tells lines asked told told_now d h Done
demo_done tells lines asked told told_now d e f h s0 s1 s2 lawful made new obeyed later =
    demo_made tells lines asked told told_now d h later.given Done lawful made (inl (inl refl)) (λ is. cc) later.gave
    (λ tell.
    let fed : FedFrom tells e f s0 s1 lines obeyed.given (started_at empty_state) = obeyed.each (started_at empty_state) tell (new.agrees tell) in
    subst (λ (limit : ℕ). ReportsFrom limit empty_held (started_at empty_state) lines asked later.given h Done) new.same_limit
    (reports_all tells e f h s0 s1 s2 empty_held (started_at empty_state) lines asked obeyed.given later.given tell (new.held tell) fed obeyed.same_limit (later.each (machine_after (started_at empty_state) lines) tell fed.agrees)))
    (λ need gap tell is. absurd cc)

-- ---- statuses

pub start_ends : (r : Status) (e : StoreFault) → r ≡ status_for e → IsOutside e ⊎ ((e ≡ StoreNoRoot) ⊎ ((place : ℕ) × (e ≡ StoreDamaged place))) → EndsDemo r
start_ends r e is (inl (inl memory)) = inr (inl (inl (inl (is ∙ ap status_for memory))))
start_ends r e is (inl (inr disk)) = inl (inr (inl (is ∙ ap status_for disk)))
start_ends r e is (inr (inl none)) = inr (inr (is ∙ ap status_for none))
start_ends r e is (inr (inr (place, damaged))) = inr (inl (inr (place, is ∙ ap status_for damaged)))

pub start_interrupted : (r : Status) (e : StoreFault) → r ≡ status_for e → IsOutside e → IsInterrupted r
start_interrupted r e is (inl memory) = inl (is ∙ ap status_for memory)
start_interrupted r e is (inr disk) = inr (inl (is ∙ ap status_for disk))

-- where no call fails, there was no index, and no damage is found
pub demo_completes : (status : Status) (gives disk : Type 0) → EndsDemo status → EndsOpened status → (status ≡ Exists → ⊥) → (status ≡ GiveFault → gives) → (status ≡ DiskFault → disk) → (gives → ⊥) → (disk → ⊥) → Completes status
demo_completes status gives disk (inl (inl is)) whole never g d no_give no_disk = inl is
demo_completes status gives disk (inl (inr (inl is))) whole never g d no_give no_disk = absurd (no_disk (d is))
demo_completes status gives disk (inl (inr (inr (inl is)))) whole never g d no_give no_disk = absurd (never is)
demo_completes status gives disk (inl (inr (inr (inr full)))) whole never g d no_give no_disk = inr (inr (inr full))
demo_completes status gives disk (inr (inl (inl (inl is)))) whole never g d no_give no_disk = inr (inr (inl is))
demo_completes status gives disk (inr (inl (inl (inr (inl is))))) whole never g d no_give no_disk = absurd (no_disk (d is))
demo_completes status gives disk (inr (inl (inl (inr (inr (inl is)))))) whole never g d no_give no_disk = absurd (no_give (g is))
demo_completes status gives disk (inr (inl (inl (inr (inr (inr full)))))) whole never g d no_give no_disk = inr (inr (inr full))
demo_completes status gives disk (inr (inl (inr (place, is)))) whole never g d no_give no_disk = absurd (whole.whole place is)
demo_completes status gives disk (inr (inr is)) whole never g d no_give no_disk = absurd (whole.rooted is)

-- what a demo never ends with
pub demo_never : (status : Status) → EndsDemo status → (status ≢ Usage) × (status ≢ TakeFault)
demo_never status (inl ends) = let never = init_never status ends in (never.usage, never.take)
demo_never status (inr (inl (inl (inl is)))) = (λ other. cc, λ other. cc)
demo_never status (inr (inl (inl (inr (inl is))))) = (λ other. cc, λ other. cc)
demo_never status (inr (inl (inl (inr (inr (inl is)))))) = (λ other. cc, λ other. cc)
demo_never status (inr (inl (inl (inr (inr (inr (need, gap, is))))))) = (λ other. cc, λ other. cc)
demo_never status (inr (inl (inr (place, is)))) = (λ other. cc, λ other. cc)
demo_never status (inr (inr is)) = (λ other. cc, λ other. cc)
