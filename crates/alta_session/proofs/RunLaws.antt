-- Laws of whole runs.
use Rattle.std.proofs.Common.{◌≡◌, ◌⊎◌, ℕ, zero, suc, ◌+◌, ◌<◌, ◌≤◌, inl, inr, true, List, [], ◌∷◌, ◌++◌, Option, length, take, drop, map, refl, ap, sym, subst, ◌∙◌, append-nil, length-append, arith, Ok}
use Rattle.alta_console.specs.Giving.{AllGiven}
use Rattle.alta_console.specs.Lines.{whole, whole_from, begun, begun_from, last_piece}
use Rattle.std.specs.List.{concat}
use Rattle.alta_console.specs.Transcript.{given_in, taken_in, has_ended, lines_in, TakesAt, Grows, Consumes}
use Rattle.alta_console.specs.declared.event.Event.{Event}
use Rattle.alta_console.specs.declared.event.Event.TheVariants.{Taken, Ended}
use Rattle.alta_console.proofs.Laws.{given_in_append, taken_in_append, grows_on, grows_none, consumes_none, consumes_on}
use Rattle.alta_console.proofs.LineLaws.{whole_from_append, begun_from_append}
use Rattle.alta_console.proofs.ReplyLaws.{joined_append}
use Rattle.alta_console.proofs.RunLaws.{given_takes_none, given_ends_none, given_takes_at, ended_append, takes_in, takes_later, within_all, open_lines, ended_lines, lines_past, taken_on}
use Rattle.alta_disk.specs.Disk.{DiskState, LeavesOnly, IsLawful}
use Rattle.alta_meaning.specs.Holding.{Holding}
use Rattle.alta_session.specs.Agreement.{AgreesOn, SpeaksOn}
use Rattle.alta_machine.specs.Lines.{Reading}
use Rattle.alta_session.specs.Damage.{FindsDamage, ReadsFirst, WantsPlace}
use Rattle.alta_session.specs.Fed.{Fed, FedFrom, SpokenThrough}
use Rattle.alta_session.specs.Fullness.{IsFullOnly, IsFullExactly}
use Rattle.alta_session.specs.Going.{Goes, GoingFrom}
use Rattle.alta_session.specs.Keeping.{clip}
use Rattle.alta_machine.specs.Machine.{Machine, machine_after, replies}
use Rattle.alta_session.specs.Progress.{SpeaksWithin, StandsAfterSome, Progress, StopsWithin, StopsWithinFrom}
use Rattle.alta_session.specs.Replied.{GivesReplies}
use Rattle.alta_session.specs.Run.{AnswersAll, AnswersInTime, Replied, Runs, RunsFrom}
use Rattle.alta_session.specs.Status.{StopsLine, EndsLine}
use Rattle.alta_session.specs.Tasks.{IsBy, IsDone, IsOn, IsWorked, worked_lines}
use Rattle.alta_session.specs.Spending.{KeepsSettled, KeepsStore, Spends}
use Rattle.alta_session.specs.declared.session.Session.{Session}
use Rattle.alta_session.specs.declared.status.Status.{Status}
use Rattle.alta_session.specs.declared.status.Status.TheVariants.{Done, Full, TooLong, Damaged}
use Rattle.alta_session.proofs.DamageLaws.{left_on}
use Rattle.alta_session.proofs.FedLaws.{done_on, leaves_on, leaves_none, fed_clip, spoken_none, spoken_on, stops_clip, stops_none, stops_full, within_full, within_on}
use Rattle.alta_session.proofs.FullnessLaws.{full_on, full_exactly}
use Rattle.alta_session.proofs.GivenLaws.{given_behind}
use Rattle.alta_session.proofs.KeepingLaws.{whole_from_clip, begun_from_clip, last_piece_clip}
use Rattle.alta_session.proofs.MachineLaws.{after_append, replies_append}
use Rattle.alta_session.proofs.ProgressLaws.{progress_begins, progress_acked, progress_on, progress_full}
use Rattle.alta_session.proofs.RepliedLaws.{in_time_then, texts_all, texts_on}
use Rattle.alta_session.proofs.StatusLaws.{ends_not_done, ends_not_long, ends_whole}
use Rattle.alta_session.proofs.TaskLaws.{lines_on, worked_on_image}
use Rattle.alta_meaning.specs.Standing.{StandsFor}
use Rattle.alta_store.proofs.Agreements.{images_stand}
use Rattle.alta_session.proofs.SpendingLaws.{keeps_on, settled_none, settled_on, spends_none, spends_on}

-- A run that was in time goes on by a take, and then by gives: it is in time where all was answered before the take.
in_time_on : (m : Machine) (run : List Event) (event : Event) (gives : List Event) → AnswersInTime m run → given_in run ≡ concat (replies m (whole (taken_in run))) → AllGiven gives → AnswersInTime m (run ++ event ∷ gives)
in_time_on m run event gives before now given k t =
    let P : List Event → Type 0 = λ l. given_in l ≡ concat (replies m (whole (taken_in l))) in
    elim (takes_in run (event ∷ gives) k t) [ inl here ↦ subst P (sym here.1) (before k here.0) | inr there ↦ subst P (sym there.2) (at_event there.0 there.1) ]
  where
    at_event : (j : ℕ) → TakesAt (event ∷ gives) j → given_in (run ++ take j (event ∷ gives)) ≡ concat (replies m (whole (taken_in (run ++ take j (event ∷ gives)))))
    at_event zero t =
        let P : List Event → Type 0 = λ l. given_in l ≡ concat (replies m (whole (taken_in l))) in
        subst P (sym (append-nil run)) now
    at_event (suc j) t = absurd (given_takes_at gives j given (takes_later event gives j t))

-- what a run from a machine keeps
runs_from : (limit : ℕ) (d e : DiskState) (session : Session) (run : List Event) (status : Status) (m : Machine) → AnswersInTime m run → Progress m (lines_in limit run) (given_in run) e.images
    → (status ≡ Done → (has_ended run ≡ true) × (given_in run ≡ concat (replies m (lines_in limit run)))) → LeavesOnly (StandsAfterSome m (lines_in limit run)) d e
    → ((held : Holding) → IsBy session d.content held → IsFullExactly d.limit held m (lines_in limit run) (given_in run) status) → ((held : Holding) → IsBy session d.content held → AnswersAll limit m run → IsDone (worked_lines d.limit m held (lines_in limit run)) e)
    → ((place : ℕ) → status ≡ Damaged place → ⊥) → Spends d e session m (lines_in limit run) → RunsFrom limit d e session run status m
runs_from limit d e session run status m time p done leaves full levels never spends = record {
  replies = record {
    begin = progress_begins m (lines_in limit run) (given_in run) e.images p;
    all = done;
    in_time = time;
  };
  keeps = record {
    now = λ c here. record {
      answered = p.answered;
      is_acked = progress_acked m (lines_in limit run) (given_in run) e.images p;
      stands = p.stand c here;
    };
    ever = leaves;
  };
  full = full;
  levels = levels;
  undamaged = never;
  spends = spends;
}

-- it ended in answering a line, or the work of all that came before was done too
ends_on : (limit later : ℕ) (m : Machine) (held now : Holding) (xs ys : List (List ℕ)) (status : Status) (Here : Holding → Type 0) → later ≡ limit → worked_lines limit m held xs ≡ Ok now → StopsLine status ⊎ IsWorked (worked_lines later (machine_after m xs) now ys) Here
    → StopsLine status ⊎ ((z : Holding) × (worked_lines limit m held (xs ++ ys) ≡ Ok z))
ends_on limit later m held now xs ys status Here same first (inl ends) = inl ends
ends_on limit later m held now xs ys status Here same first (inr more) = let all : IsWorked (worked_lines limit m held (xs ++ ys)) Here = lines_on limit later m held now xs ys Here same first more in inr (all.now, all.is)

-- at what is held
ends_at : (status : Status) (limit : ℕ) (m : Machine) (lines : List (List ℕ)) (Before Here : Holding → Type 0) (held : Holding) → Before held → StopsLine status ⊎ ((held : Holding) → Before held → IsWorked (worked_lines limit m held lines) Here)
    → StopsLine status ⊎ IsWorked (worked_lines limit m held lines) Here
ends_at status limit m lines Before Here held here (inl ends) = inl ends
ends_at status limit m lines Before Here held here (inr works) = inr (works held here)

-- a run that goes on, then a take, and then gives
given_on : (run gives : List Event) (event : Event) (given : List ℕ) → given_in (event ∷ []) ≡ [] → given_in gives ≡ given → given_in (run ++ event ∷ gives) ≡ given_in run ++ given
given_on run gives event given none is =
    given_in_append run (event ∷ gives) ∙ ap (λ (l : List ℕ). given_in run ++ l) (given_in_append (event ∷ []) gives ∙ ap (λ (l : List ℕ). l ++ given_in gives) none ∙ is)

after_from : (tells : Type 0) (limit : ℕ) (d e f : DiskState) (s0 s1 : Session) (run gives : List Event) (event : Event) (given : List ℕ) (later : List (List ℕ)) (status : Status) (m : Machine) → GoingFrom tells d e s0 s1 run m
    → KeepsStore s0 s1 (whole (taken_in run)) → e.limit ≡ d.limit → StopsWithinFrom e f s1 later given status (machine_after m (whole (taken_in run))) → AllGiven gives → given_in gives ≡ given → given_in (event ∷ []) ≡ [] → lines_in limit (run ++ event ∷ gives) ≡ whole (taken_in run) ++ later
    → (status ≡ Done → (has_ended (run ++ event ∷ gives) ≡ true) × (given ≡ concat (replies (machine_after m (whole (taken_in run))) later)))
    → StopsLine status ⊎ ((held : Holding) → IsBy s1 e.content held → IsWorked (worked_lines e.limit (machine_after m (whole (taken_in run))) held later) (IsOn f.content)) → RunsFrom limit d f s0 (run ++ event ∷ gives) status m
after_from tells limit d e f s0 s1 run gives event given later status m going kept same stops all_given gave none lines done ends =
    let before : List (List ℕ) = whole (taken_in run) in
    let now : List Event = run ++ event ∷ gives in
    let given_is : given_in now ≡ concat (replies m before) ++ given = given_on run gives event given none gave ∙ ap (λ (l : List ℕ). l ++ given) going.given_is in
    let P : List (List ℕ) → Type 0 = λ l. Progress m l (given_in now) f.images in
    let Q : List ℕ → Type 0 = λ l. Progress m (before ++ later) l f.images in
    let R : List (List ℕ) → Type 0 = λ l. LeavesOnly (StandsAfterSome m l) d f in
    let F : Holding → List (List ℕ) → Type 0 = λ held l. IsFullExactly d.limit held m l (given_in now) status in
    let G : Holding → List ℕ → Type 0 = λ held l. IsFullOnly d.limit held m (before ++ later) l status in
    let D : Holding → List (List ℕ) → Type 0 = λ held l. IsDone (worked_lines d.limit m held l) f in
    let S : List (List ℕ) → Type 0 = λ l. Spends d f s0 m l in
    runs_from limit d f s0 now status m (in_time_on m run event gives going.in_time going.given_is all_given)
    (subst P (sym lines) (subst Q (sym given_is) (progress_on m before later given f.images stops.progress)))
    (λ is. ((done is).0, given_is ∙ ap (λ (l : List ℕ). concat (replies m before) ++ l) (done is).1 ∙ sym (joined_append (replies m before) (replies (machine_after m before) later)) ∙ ap concat (sym (replies_append m before later) ∙ ap (λ (l : List (List ℕ)). replies m l) (sym lines))))
    (subst R (sym lines) (leaves_on StandsFor d e f m before later going.images stops.images))
    (λ held here.
    let done : IsWorked (worked_lines d.limit m held before) (IsBy s1 e.content) = going.works held here in
    subst (F held) (sym lines) (full_exactly d.limit m held (before ++ later) (given_in now) status
    (subst (G held) (sym given_is) (full_on d.limit e.limit m held done.now before later given status same done.is (stops.full done.now done.held)))
    (ends_on d.limit e.limit m held done.now before later status (IsOn f.content) same done.is (ends_at status e.limit (machine_after m before) later (IsBy s1 e.content) (IsOn f.content) done.now done.held ends))))
    (λ held here all.
    let done : IsWorked (worked_lines d.limit m held before) (IsBy s1 e.content) = going.works held here in
    subst (D held) (sym lines) (done_on d.limit e.limit m held done.now before later f same done.is
    (stops.works done.now done.held (given_behind m before later (concat (replies m before)) given refl (sym given_is ∙ all ∙ ap (λ (l : List (List ℕ)). concat (replies m l)) lines)))))
    stops.undamaged (subst S (sym lines) (spends_on d e f s0 s1 m before later going.spends kept stops.spends))

-- at the start
pub goes_none : (tells : Type 0) (limit : ℕ) (told : Option (List Event)) (left : Option (List ℕ)) (d : DiskState) (session : Session) → IsLawful tells d → Goes tells limit told told left left d d session session [] 0
goes_none tells limit told left d session lawful = record {
  run = [];
  grew = grows_none told;
  read = consumes_none left;
  taken_is = refl;
  within = omega arith;
  kept_is = refl;
  not_ended = refl;
  texts = [];
  each_one = refl;
  texts_are = refl;
  in_time = λ k t. absurd t;
  same_limit = refl;
  keeps = λ all. refl;
  settled = settled_none tells d [];
  each = λ m tell agrees. record {
    given_is = refl;
    in_time = λ k t. absurd t;
    agrees = agrees;
    images = leaves_none tells d session m [] lawful agrees;
    works = λ held here. record { now = held; is = refl; held = here };
    spends = spends_none d session m [];
  };
  spoken = λ m tell agrees. record { replies = refl; agrees = agrees; images = spoken_none tells d session m [] lawful agrees };
}

same_whole : (kept bytes piece : List ℕ) → clip kept ≡ clip (begun bytes) → map clip (whole_from kept piece) ≡ map clip (whole_from (begun bytes) piece)
same_whole kept bytes piece is = whole_from_clip kept (begun bytes) piece is

last_same : (kept line : List ℕ) → clip kept ≡ clip line → map clip (last_piece kept) ≡ map clip (last_piece line)
last_same kept line is = sym (last_piece_clip kept) ∙ ap (λ (l : List ℕ). map clip (last_piece l)) is ∙ last_piece_clip line

-- what was read in a run that goes on by a take
read_on : (la lb lc ld : Option (List ℕ)) (run gives : List Event) (event : Event) (bytes : List ℕ) → Consumes la lb (taken_in run) → Consumes lb lc bytes → ld ≡ lc → taken_in (run ++ event ∷ gives) ≡ taken_in run ++ bytes → Consumes la ld (taken_in (run ++ event ∷ gives))
read_on la lb lc ld run gives event bytes read more same taken =
    let P : Option (List ℕ) → Type 0 = λ l. Consumes la l (taken_in run ++ bytes) in
    let Q : List ℕ → Type 0 = λ l. Consumes la ld l in
    subst Q (sym taken) (subst P (sym same) (consumes_on la lb lc (taken_in run) bytes read more))

grew_on : (a b c d : Option (List Event)) (run gives : List Event) (event : Event) → Grows a b run → Grows b c (event ∷ []) → Grows c d gives → Grows a d (run ++ event ∷ gives)
grew_on a b c d run gives event grew took gave = grows_on a b d run (event ∷ gives) grew (grows_on b c d (event ∷ []) gives took gave)

-- a piece was taken, and the lines that end in it were answered
pub goes_on : (tells : Type 0) (limit : ℕ) (a b c d : Option (List Event)) (la lb lc ld : Option (List ℕ)) (e f h : DiskState) (s0 s1 s2 : Session) (kept kept_now : List ℕ) (taken : ℕ) (piece : List ℕ) → Goes tells limit a b la lb e f s0 s1 kept taken → Grows b c (Taken piece ∷ []) → Consumes lb lc piece
    → Fed tells c d f h s1 s2 (whole_from kept piece) → ld ≡ lc → clip kept_now ≡ clip (begun_from kept piece) → taken + length piece ≤ limit → Goes tells limit a d la ld e h s0 s2 kept_now (taken + length piece)
goes_on tells limit a b c d la lb lc ld e f h s0 s1 s2 kept kept_now taken piece goes took more fed same kept_is fits =
    let run : List Event = goes.run in
    let bytes : List ℕ = taken_in run in
    let later : List (List ℕ) = whole_from (begun bytes) piece in
    let fed_now : Fed tells c d f h s1 s2 later = fed_clip tells c d f h s1 s2 (whole_from kept piece) later (same_whole kept bytes piece goes.kept_is) fed in
    let gives : List Event = fed_now.gave.0 in
    let now : List Event = run ++ Taken piece ∷ gives in
    let taken_now : taken_in now ≡ bytes ++ piece = taken_on run gives piece fed_now.gave.2 in
    let lines : whole (taken_in now) ≡ whole bytes ++ later = ap whole taken_now ∙ whole_from_append [] bytes piece in
    record {
      run = now;
      grew = grew_on a b c d run gives (Taken piece) goes.grew took fed_now.gave.1;
      read = read_on la lb lc ld run gives (Taken piece) piece goes.read more same taken_now;
      taken_is = omega (arith, goes.taken_is, ap length taken_now, length-append bytes piece);
      within = omega (arith, goes.taken_is, ap length taken_now, length-append bytes piece);
      kept_is = kept_is ∙ begun_from_clip kept (begun bytes) piece goes.kept_is ∙ ap clip (sym (ap begun taken_now ∙ begun_from_append [] bytes piece));
      not_ended = ended_append run (Taken piece ∷ gives) goes.not_ended ∙ given_ends_none gives fed_now.gave.2;
      texts = goes.texts ++ fed_now.texts;
      each_one = omega (arith, length-append goes.texts fed_now.texts, goes.each_one, fed_now.each_one, length-append (whole bytes) later, ap length lines);
      texts_are = given_on run gives (Taken piece) fed_now.given refl fed_now.gave.3 ∙ texts_all goes.texts fed_now.texts (given_in run) fed_now.given goes.texts_are fed_now.texts_are;
      in_time = in_time_then goes.texts fed_now.texts run (Taken piece) gives goes.in_time goes.each_one goes.texts_are fed_now.gave.2;
      same_limit = fed_now.same_limit ∙ goes.same_limit;
      keeps = subst (λ (l : List (List ℕ)). KeepsStore s0 s2 l) (sym lines) (keeps_on s0 s1 s2 (whole bytes) later goes.keeps fed_now.keeps);
      settled = subst (λ (l : List (List ℕ)). KeepsSettled tells e h l) (sym lines) (settled_on tells e f h (whole bytes) later goes.settled fed_now.settled);
      each = λ m tell agrees.
          let one : GoingFrom tells e f s0 s1 run m = goes.each m tell agrees in
          let two : FedFrom tells f h s1 s2 later fed_now.given (machine_after m (whole bytes)) = fed_now.each (machine_after m (whole bytes)) tell one.agrees in
          record {
            given_is = given_on run gives (Taken piece) fed_now.given refl fed_now.gave.3 ∙ ap (λ (l : List ℕ). l ++ fed_now.given) one.given_is
                ∙ ap (λ (l : List ℕ). concat (replies m (whole bytes)) ++ l) two.given_is ∙ sym (joined_append (replies m (whole bytes)) (replies (machine_after m (whole bytes)) later))
                ∙ ap concat (sym (replies_append m (whole bytes) later) ∙ ap (λ (l : List (List ℕ)). replies m l) (sym lines));
            in_time = in_time_on m run (Taken piece) gives one.in_time one.given_is fed_now.gave.2;
            agrees = subst (λ (t : Machine). AgreesOn tells h s2 t) (sym (after_append m (whole bytes) later) ∙ ap (λ (l : List (List ℕ)). machine_after m l) (sym lines)) two.agrees;
            images = subst (λ (l : List (List ℕ)). LeavesOnly (StandsAfterSome m l) e h) (sym lines) (leaves_on StandsFor e f h m (whole bytes) later one.images two.images);
            works = λ held here.
                let done : IsWorked (worked_lines e.limit m held (whole bytes)) (IsBy s1 f.content) = one.works held here in
                subst (λ (l : List (List ℕ)). IsWorked (worked_lines e.limit m held l) (IsBy s2 h.content)) (sym lines) (lines_on e.limit f.limit m held done.now (whole bytes) later (IsBy s2 h.content) goes.same_limit done.is (two.works done.now done.held));
            spends = subst (λ (l : List (List ℕ)). Spends e h s0 m l) (sym lines) (spends_on e f h s0 s1 m (whole bytes) later one.spends goes.keeps two.spends);
          };
      spoken = λ m tell agrees.
          let one : SpokenThrough tells e f s1 (whole bytes) goes.texts m = goes.spoken m tell agrees in
          let all : SpokenThrough tells e h s2 (whole bytes ++ later) (goes.texts ++ fed_now.texts) m =
          spoken_on tells e f h s1 s2 m (whole bytes) later goes.texts fed_now.texts goes.each_one one (fed_now.spoken (machine_after m (whole bytes)) tell one.agrees) in
          subst (λ (l : List (List ℕ)). SpokenThrough tells e h s2 l (goes.texts ++ fed_now.texts) m) (sym lines) all;
    }

-- ---- the replies of a run that goes on by a take, and then by gives
module _ (tells : Type 0) (limit : ℕ) (told told_now : Option (List Event)) (left left_now : Option (List ℕ)) (d e f : DiskState) (s0 s1 : Session) (kept : List ℕ) (taken : ℕ) (goes : Goes tells limit told told_now left left_now d e s0 s1 kept taken)
    (event : Event) (gives : List Event) (later : List (List ℕ)) (given : List ℕ) (replied : GivesReplies later given) (status : Status) (none : given_in (event ∷ []) ≡ []) (all_given : AllGiven gives) (gave : given_in gives ≡ given)
    (lines : lines_in limit (goes.run ++ event ∷ gives) ≡ whole (taken_in goes.run) ++ later) where
  replied_on : (status ≡ Done → (length replied.texts ≡ length later) × (replied.part ≡ [])) → Replied limit (goes.run ++ event ∷ gives) status
  replied_on done = record {
    gives = record {
      texts = goes.texts ++ replied.texts;
      part = replied.part;
      within = omega (arith, length-append goes.texts replied.texts, length-append (whole (taken_in goes.run)) later, ap length lines, goes.each_one, replied.within);
      given_is = given_on goes.run gives event given none gave ∙ texts_on goes.texts replied.texts (given_in goes.run) given replied.part goes.texts_are replied.given_is;
    };
    in_time = in_time_then goes.texts replied.texts goes.run event gives goes.in_time goes.each_one goes.texts_are all_given;
    all = λ is. (omega (arith, length-append goes.texts replied.texts, length-append (whole (taken_in goes.run)) later, ap length lines, goes.each_one, (done is).0), (done is).1);
  }

  first_on : (P : Reading → Type 0) → ReadsFirst P (drop (length replied.texts) later) → ReadsFirst P (drop (length (goes.texts ++ replied.texts)) (lines_in limit (goes.run ++ event ∷ gives)))
  first_on P here = subst (λ (l : List (List ℕ)). ReadsFirst P (drop (length (goes.texts ++ replied.texts)) l)) (sym lines) (left_on P goes.texts replied.texts (whole (taken_in goes.run)) later goes.each_one here)

  spoken_then : ((m : Machine) → tells → SpeaksOn tells e s1 m → SpeaksWithin e f later replied.texts replied.part m) → (m : Machine) → tells → SpeaksOn tells d s0 m → SpeaksWithin d f (lines_in limit (goes.run ++ event ∷ gives)) (goes.texts ++ replied.texts) replied.part m
  spoken_then spoken m tell agrees =
      let one : SpokenThrough tells d e s1 (whole (taken_in goes.run)) goes.texts m = goes.spoken m tell agrees in
      subst (λ (l : List (List ℕ)). SpeaksWithin d f l (goes.texts ++ replied.texts) replied.part m) (sym lines)
      (within_on tells d e f s1 m (whole (taken_in goes.run)) later goes.texts replied.texts replied.part goes.each_one one (spoken (machine_after m (whole (taken_in goes.run))) tell one.agrees))

-- and of them some were answered
pub runs_stopped : (tells : Type 0) (limit : ℕ) (a b c d : Option (List Event)) (la lb lc ld : Option (List ℕ)) (e f h : DiskState) (s0 s1 : Session) (kept : List ℕ) (taken : ℕ) (piece : List ℕ) (status : Status) → Goes tells limit a b la lb e f s0 s1 kept taken → Grows b c (Taken piece ∷ []) → Consumes lb lc piece
    → StopsWithin tells c d f h s1 (whole_from kept piece) status → ld ≡ lc → taken + length piece ≤ limit → EndsLine status → Runs tells limit a d la ld e h s0 status
unfolding replied_on
runs_stopped tells limit a b c d la lb lc ld e f h s0 s1 kept taken piece status goes took more stops_kept same fits ends =
    let run : List Event = goes.run in
    let bytes : List ℕ = taken_in run in
    let later : List (List ℕ) = whole_from (begun bytes) piece in
    let stops : StopsWithin tells c d f h s1 later status = stops_clip tells c d f h s1 (whole_from kept piece) later status (same_whole kept bytes piece goes.kept_is) stops_kept in
    let gives : List Event = stops.gave.0 in
    let now : List Event = run ++ Taken piece ∷ gives in
    let taken_now : taken_in now ≡ bytes ++ piece = taken_on run gives piece stops.gave.2 in
    let within : length (taken_in now) ≤ limit = omega (arith, goes.taken_is, ap length taken_now, length-append bytes piece) in
    let lines : lines_in limit now ≡ whole bytes ++ later =
    open_lines limit now (bytes ++ piece) (ended_append run (Taken piece ∷ gives) goes.not_ended ∙ given_ends_none gives stops.gave.2) (within_all limit now within ∙ taken_now) ∙ whole_from_append [] bytes piece in
    record {
      run = now;
      grew = grew_on a b c d run gives (Taken piece) goes.grew took stops.gave.1;
      read = read_on la lb lc ld run gives (Taken piece) piece goes.read more same taken_now;
      too_long = (λ long. absurd (ends_not_long status ends long), λ past. absurd (omega arith));
      last = λ past. absurd (omega arith);
      replied = replied_on tells limit a b la lb e f h s0 s1 kept taken goes (Taken piece) gives later stops.given stops.replied status refl stops.gave.2 stops.gave.3 lines (λ done. absurd (ends_not_done status ends done));
      damaged = λ place tell is. first_on tells limit a b la lb e f h s0 s1 kept taken goes (Taken piece) gives later stops.given stops.replied status refl stops.gave.2 stops.gave.3 lines (λ (reading : Reading). FindsDamage h.content reading place) (stops.damaged place tell is);
      wanting = λ need gap tell is. first_on tells limit a b la lb e f h s0 s1 kept taken goes (Taken piece) gives later stops.given stops.replied status refl stops.gave.2 stops.gave.3 lines (λ (reading : Reading). WantsPlace h.limit h.content reading need gap) (stops.wanting need gap tell is);
      spoken = spoken_then tells limit a b la lb e f h s0 s1 kept taken goes (Taken piece) gives later stops.given stops.replied status refl stops.gave.2 stops.gave.3 lines stops.spoken;
      settled = subst (λ (l : List (List ℕ)). KeepsSettled tells e h l) (sym lines) (settled_on tells e f h (whole bytes) later goes.settled stops.settled);
      each = λ m tell agrees. let one : GoingFrom tells e f s0 s1 run m = goes.each m tell agrees in
          after_from tells limit e f h s0 s1 run gives (Taken piece) stops.given later status m one goes.keeps goes.same_limit (stops.each (machine_after m (whole bytes)) tell one.agrees) stops.gave.2 stops.gave.3 refl lines (λ done. absurd (ends_not_done status ends done)) (inl (ends_whole status ends (stops.each (machine_after m (whole bytes)) tell one.agrees).undamaged));
    }

-- a piece passed the limit
pub runs_past : (tells : Type 0) (limit : ℕ) (a b c : Option (List Event)) (la lb lc : Option (List ℕ)) (e f : DiskState) (s0 s1 : Session) (kept : List ℕ) (taken : ℕ) (piece : List ℕ) → IsLawful tells f → Goes tells limit a b la lb e f s0 s1 kept taken → Grows b c (Taken piece ∷ []) → Consumes lb lc piece
    → limit < taken + length piece → Runs tells limit a c la lc e f s0 TooLong
unfolding stops_none replied_on
runs_past tells limit a b c la lb lc e f s0 s1 kept taken piece lawful goes took more past =
    let run : List Event = goes.run in
    let bytes : List ℕ = taken_in run in
    let now : List Event = run ++ Taken piece ∷ [] in
    let stops : StopsWithin tells c c f f s1 [] TooLong = stops_none tells c f s1 [] TooLong lawful (λ need gap is. cc) (λ place is. cc) in
    let taken_now : taken_in now ≡ bytes ++ piece = taken_on run [] piece tt in
    let lines : lines_in limit now ≡ whole bytes ++ [] =
    lines_past limit run piece goes.not_ended goes.within (omega (arith, goes.taken_is)) ∙ open_lines limit run bytes goes.not_ended (within_all limit run goes.within) ∙ sym (append-nil (whole bytes)) in
    record {
      run = now;
      grew = grew_on a b c c run [] (Taken piece) goes.grew took (grows_none c);
      read = read_on la lb lc lc run [] (Taken piece) piece goes.read more refl taken_now;
      too_long = (λ long. omega (arith, goes.taken_is, ap length taken_now, length-append bytes piece), λ over. refl);
      last = λ over. record { before = run; piece = piece; run_is = refl; within = goes.within };
      replied = replied_on tells limit a b la lb e f f s0 s1 kept taken goes (Taken piece) [] [] [] stops.replied TooLong refl tt refl lines (λ done. absurd cc);
      damaged = λ place tell is. absurd cc;
      wanting = λ need gap tell is. absurd cc;
      spoken = spoken_then tells limit a b la lb e f f s0 s1 kept taken goes (Taken piece) [] [] [] stops.replied TooLong refl tt refl lines stops.spoken;
      settled = subst (λ (l : List (List ℕ)). KeepsSettled tells e f l) (sym lines) (settled_on tells e f f (whole bytes) [] goes.settled stops.settled);
      each = λ m tell agrees. let one : GoingFrom tells e f s0 s1 run m = goes.each m tell agrees in
          after_from tells limit e f f s0 s1 run [] (Taken piece) stops.given [] TooLong m one goes.keeps goes.same_limit (stops.each (machine_after m (whole bytes)) tell one.agrees) tt refl refl lines (λ done. absurd cc) (inr (λ held here. record { now = held; is = refl; held = here.is }));
    }

ended_on : (run gives : List Event) → AllGiven gives → taken_in (run ++ Ended ∷ gives) ≡ taken_in run ++ []
ended_on run gives given = taken_in_append run (Ended ∷ gives) ∙ ap (λ (l : List ℕ). taken_in run ++ l) (given_takes_none gives given)

-- the input ended, and of a last line some was answered
ended_with : (tells : Type 0) (limit : ℕ) (a b c d : Option (List Event)) (la lb lc ld : Option (List ℕ)) (e f h : DiskState) (s0 s1 : Session) (kept : List ℕ) (taken : ℕ) (status : Status) (goes : Goes tells limit a b la lb e f s0 s1 kept taken) → Grows b c (Ended ∷ []) → Consumes lb lc []
    → (stops : StopsWithin tells c d f h s1 (last_piece (begun (taken_in goes.run))) status) → ld ≡ lc → ((m : Machine) → tells → AgreesOn tells f s1 m → status ≡ Done → stops.given ≡ concat (replies m (last_piece (begun (taken_in goes.run))))) → (status ≡ TooLong → ⊥)
    → (status ≡ Done → (length stops.replied.texts ≡ length (last_piece (begun (taken_in goes.run)))) × (stops.replied.part ≡ []))
    → ((m : Machine) → tells → AgreesOn tells f s1 m → StopsLine status ⊎ ((held : Holding) → IsBy s1 f.content held → IsWorked (worked_lines f.limit m held (last_piece (begun (taken_in goes.run)))) (IsOn h.content))) → Runs tells limit a d la ld e h s0 status
unfolding replied_on
ended_with tells limit a b c d la lb lc ld e f h s0 s1 kept taken status goes took more stops same all not_long done ends =
    let run : List Event = goes.run in
    let bytes : List ℕ = taken_in run in
    let later : List (List ℕ) = last_piece (begun bytes) in
    let gives : List Event = stops.gave.0 in
    let now : List Event = run ++ Ended ∷ gives in
    let taken_now : taken_in now ≡ bytes ++ [] = ended_on run gives stops.gave.2 in
    let taken_same : taken_in now ≡ bytes = taken_now ∙ append-nil bytes in
    let within : length (taken_in now) ≤ limit = omega (arith, ap length taken_same, goes.within) in
    let ended : has_ended now ≡ true = ended_append run (Ended ∷ gives) goes.not_ended in
    let lines : lines_in limit now ≡ whole bytes ++ later = ended_lines limit now bytes ended (within_all limit now within ∙ taken_same) in
    record {
      run = now;
      grew = grew_on a b c d run gives Ended goes.grew took stops.gave.1;
      read = read_on la lb lc ld run gives Ended [] goes.read more same taken_now;
      too_long = (λ long. absurd (not_long long), λ past. absurd (omega arith));
      last = λ past. absurd (omega arith);
      replied = replied_on tells limit a b la lb e f h s0 s1 kept taken goes Ended gives later stops.given stops.replied status refl stops.gave.2 stops.gave.3 lines done;
      damaged = λ place tell is. first_on tells limit a b la lb e f h s0 s1 kept taken goes Ended gives later stops.given stops.replied status refl stops.gave.2 stops.gave.3 lines (λ (reading : Reading). FindsDamage h.content reading place) (stops.damaged place tell is);
      wanting = λ need gap tell is. first_on tells limit a b la lb e f h s0 s1 kept taken goes Ended gives later stops.given stops.replied status refl stops.gave.2 stops.gave.3 lines (λ (reading : Reading). WantsPlace h.limit h.content reading need gap) (stops.wanting need gap tell is);
      spoken = spoken_then tells limit a b la lb e f h s0 s1 kept taken goes Ended gives later stops.given stops.replied status refl stops.gave.2 stops.gave.3 lines stops.spoken;
      settled = subst (λ (l : List (List ℕ)). KeepsSettled tells e h l) (sym lines) (settled_on tells e f h (whole bytes) later goes.settled stops.settled);
      each = λ m tell agrees. let one : GoingFrom tells e f s0 s1 run m = goes.each m tell agrees in
          after_from tells limit e f h s0 s1 run gives Ended stops.given later status m one goes.keeps goes.same_limit (stops.each (machine_after m (whole bytes)) tell one.agrees) stops.gave.2 stops.gave.3 refl lines (λ done. (ended, all (machine_after m (whole bytes)) tell one.agrees done))
          (ends (machine_after m (whole bytes)) tell one.agrees);
    }

pub runs_ended : (tells : Type 0) (limit : ℕ) (a b c d : Option (List Event)) (la lb lc ld : Option (List ℕ)) (e f h : DiskState) (s0 s1 : Session) (kept : List ℕ) (taken : ℕ) (status : Status) → Goes tells limit a b la lb e f s0 s1 kept taken → Grows b c (Ended ∷ []) → Consumes lb lc []
    → StopsWithin tells c d f h s1 (last_piece kept) status → ld ≡ lc → EndsLine status → Runs tells limit a d la ld e h s0 status
runs_ended tells limit a b c d la lb lc ld e f h s0 s1 kept taken status goes took more stops same ends =
    let line : List ℕ = begun (taken_in goes.run) in
    ended_with tells limit a b c d la lb lc ld e f h s0 s1 kept taken status goes took more (stops_clip tells c d f h s1 (last_piece kept) (last_piece line) status (last_same kept line goes.kept_is) stops) same
    (λ m tell agrees done. absurd (ends_not_done status ends done)) (ends_not_long status ends) (λ done. absurd (ends_not_done status ends done))
    (λ m tell agrees. inl (ends_whole status ends (stops.each m tell agrees).undamaged))

-- and all of it
pub runs_done : (tells : Type 0) (limit : ℕ) (a b c d : Option (List Event)) (la lb lc ld : Option (List ℕ)) (e f h : DiskState) (s0 s1 s2 : Session) (kept : List ℕ) (taken : ℕ) → IsLawful tells h → Goes tells limit a b la lb e f s0 s1 kept taken → Grows b c (Ended ∷ []) → Consumes lb lc []
    → Fed tells c d f h s1 s2 (last_piece kept) → ld ≡ lc → Runs tells limit a d la ld e h s0 Done
unfolding stops_full
runs_done tells limit a b c d la lb lc ld e f h s0 s1 s2 kept taken lawful goes took more fed same =
    let line : List ℕ = begun (taken_in goes.run) in
    let fed_now : Fed tells c d f h s1 s2 (last_piece line) = fed_clip tells c d f h s1 s2 (last_piece kept) (last_piece line) (last_same kept line goes.kept_is) fed in
    ended_with tells limit a b c d la lb lc ld e f h s0 s1 kept taken Done goes took more (stops_full tells c d f h s1 s2 (last_piece line) Done lawful (λ need gap is. cc) (λ place is. cc) fed_now) same
    (λ m tell agrees done. (fed_now.each m tell agrees).given_is) (λ long. cc) (λ done. (fed_now.each_one, refl))
    (λ m tell agrees. inr (λ held here. worked_on_image (worked_lines f.limit m held (last_piece line)) s2 h.content ((fed_now.each m tell agrees).works held here)))

-- a take failed
pub runs_failed : (tells : Type 0) (limit : ℕ) (a b c : Option (List Event)) (la lb lc : Option (List ℕ)) (e f : DiskState) (s0 s1 : Session) (kept : List ℕ) (taken : ℕ) (status : Status) → IsLawful tells f → Goes tells limit a b la lb e f s0 s1 kept taken → c ≡ b → lc ≡ lb → (status ≡ Done → ⊥) → (status ≡ TooLong → ⊥) → ((need gap : ℕ) → status ≡ Full need gap → ⊥)
    → ((place : ℕ) → status ≡ Damaged place → ⊥) → Runs tells limit a c la lc e f s0 status
runs_failed tells limit a b c la lb lc e f s0 s1 kept taken status lawful goes same kept_input not_done not_long not_full never =
    let run : List Event = goes.run in
    let bytes : List ℕ = taken_in run in
    let lines : lines_in limit run ≡ whole bytes = open_lines limit run bytes goes.not_ended (within_all limit run goes.within) in
    record {
      run = run;
      grew = subst (λ (t : Option (List Event)). Grows a t run) (sym same) goes.grew;
      read = subst (λ (l : Option (List ℕ)). Consumes la l bytes) (sym kept_input) goes.read;
      too_long = (λ long. absurd (not_long long), λ past. absurd (omega (arith, goes.within)));
      last = λ past. absurd (omega (arith, goes.within));
      replied = record {
        gives = record { texts = goes.texts; part = []; within = omega (arith, goes.each_one, ap length lines); given_is = goes.texts_are ∙ sym (append-nil (concat goes.texts)) };
        in_time = goes.in_time;
        all = λ done. absurd (not_done done);
      };
      damaged = λ place tell is. absurd (never place is);
      wanting = λ need gap tell is. absurd (not_full need gap is);
      spoken = λ m tell agrees.
          subst (λ (l : List (List ℕ)). SpeaksWithin e f l goes.texts [] m) (sym lines) (within_full tells e f s1 m (whole bytes) goes.texts lawful goes.each_one (goes.spoken m tell agrees));
      settled = subst (λ (l : List (List ℕ)). KeepsSettled tells e f l) (sym lines) goes.settled;
      each = λ m tell agrees. let one : GoingFrom tells e f s0 s1 run m = goes.each m tell agrees in
          runs_from limit e f s0 run status m one.in_time
          (subst (λ (l : List (List ℕ)). Progress m l (given_in run) f.images) (sym lines) (subst (λ (l : List ℕ). Progress m (whole bytes) l f.images) (sym one.given_is) (progress_full m (whole bytes) f.images (images_stand tells f (machine_after m (whole bytes)).state lawful one.agrees.store.settled one.agrees.stands))))
          (λ done. absurd (not_done done)) (subst (λ (l : List (List ℕ)). LeavesOnly (StandsAfterSome m l) e f) (sym lines) one.images)
          (λ held here.
          let done : IsWorked (worked_lines e.limit m held (lines_in limit run)) (IsBy s1 f.content) = subst (λ (l : List (List ℕ)). IsWorked (worked_lines e.limit m held l) (IsBy s1 f.content)) (sym lines) (one.works held here) in
          full_exactly e.limit m held (lines_in limit run) (given_in run) status (λ need gap is. absurd (not_full need gap is)) (inr (done.now, done.is)))
          (λ held here all. (worked_on_image (worked_lines e.limit m held (lines_in limit run)) s1 f.content (subst (λ (l : List (List ℕ)). IsWorked (worked_lines e.limit m held l) (IsBy s1 f.content)) (sym lines) (one.works held here)), one.agrees.store.settled)) never (subst (λ (l : List (List ℕ)). Spends e f s0 m l) (sym lines) one.spends);
    }
