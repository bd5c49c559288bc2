-- Laws of runs that open what is on the disk.
use Rattle.std.proofs.Common.{◌≡◌, ◌⊎◌, ◌+◌, ◌≤◌, ℕ, inl, inr, ⊎_elim, List, [], ◌++◌, Option, None, length, refl, ap, sym, subst, ◌∙◌, arith}
use Rattle.std.specs.List.{All, concat}
use Rattle.alta_layout.specs.declared.slot.Slot.{Slot}
use Rattle.alta_console.specs.Replies.{IsAcked}
use Rattle.alta_console.proofs.ReplyLaws.{acked_part}
use Rattle.alta_console.specs.Transcript.{given_in, lines_in}
use Rattle.alta_console.specs.declared.event.Event.{Event}
use Rattle.alta_console.proofs.Laws.{grows_none, consumes_none}
use Rattle.alta_content.specs.declared.content.Content.{Content}
use Rattle.alta_catalog.proofs.MayLaws.{may_be, means_may}
use Rattle.alta_catalog.specs.Knowing.{newest_of}
use Rattle.alta_disk.specs.Disk.{DiskState, Each, Same, Only, Passes, Stands, LeavesOnly, IsLawful}
use Rattle.alta_disk.proofs.Moments.{leaves_then, leaves_by}
use Rattle.alta_machine.specs.declared.document.State.{State}
use Rattle.alta_meaning.specs.Broken.{IsBrokenAt}
use Rattle.alta_meaning.specs.Holding.{Holding, IsHeld, IsJobOf}
use Rattle.alta_session.specs.Agreement.{AgreesOn}
use Rattle.alta_session.specs.Fullness.{IsFullExactly}
use Rattle.alta_session.specs.Kept.{HoldsAnswered}
use Rattle.alta_machine.specs.Machine.{Machine, replies, started_at}
use Rattle.alta_session.specs.Progress.{SpeaksAfter, SpeaksWithin, StandsAfterSome}
use Rattle.alta_replies.specs.Loading.{newest_in}
use Rattle.alta_session.specs.Replied.{GivesReplies}
use Rattle.alta_session.specs.Run.{AnswersAll, KeepsAnswered, KeepsReplied, KeepsSince, NotOpened, Runs, RunsFrom, Serves, KeepsPrefix}
use Rattle.alta_session.proofs.RepliedLaws.{replies_are}
use Rattle.alta_session.specs.Spending.{MayChange, OnlyReads, Spends, lines_bytes, newest_of_opened, opening_bytes}
use Rattle.alta_session.specs.Tasks.{IsBy, IsFirst, IsOn, IsWorked, worked_lines}
use Rattle.alta_session.specs.declared.session.Session.{Session}
use Rattle.alta_session.specs.declared.status.Status.{Status}
use Rattle.alta_session.specs.declared.status.Status.TheVariants.{Damaged, DiskFault, Done, Full, TooLong}
use Rattle.alta_session.proofs.FullnessLaws.{full_exactly}
use Rattle.alta_session.proofs.MachineLaws.{length_replies}
use Rattle.alta_session.proofs.ProgressLaws.{after_none, some_none}
use Rattle.alta_meaning.specs.Standing.{StandsFor, view_of}
use Rattle.alta_meaning.specs.Views.{state_of}
use Rattle.alta_meaning.specs.Work.{Job}
use Rattle.alta_merge.specs.Merging.{Merging}
use Rattle.alta_meaning.specs.Opened.{Opened, IsOpened}
use Rattle.alta_memlevel.proofs.One.{one_content}
use Rattle.alta_root.specs.Slots.{Counts}
use Rattle.alta_root.specs.declared.root.Root.{Root}
use Rattle.alta_store.specs.Agreement.{Agrees, IsJobIn, Keeps, MaySpeakOf}
use Rattle.alta_table.specs.Tables.{Tables}
use Rattle.alta_store.proofs.Agreements.{opened_of}
use Rattle.alta_store.proofs.Holdings.{content_bytes, well_held}

-- calls that change nothing leave images of the same state
same_stands : (P : List ℕ → Type 0) (d e : DiskState) → Passes Same d e → ((c : List ℕ) → d.images c → P c) → (c : List ℕ) → e.images c → P c
same_stands P d e passes stand c here = let from = passes.now c here in subst P (sym from.2) (stand from.0 from.1)

opens_only : (tells : Type 0) (d e : DiskState) (P : List ℕ → Type 0) → IsLawful tells d → Passes Same d e → ((c : List ℕ) → d.images c → P c) → LeavesOnly P d e
opens_only tells d e P lawful passes stand = leaves_by tells d e P Same lawful passes stand (λ x z here same. subst P (sym same) (stand x here))

-- at a moment before the calls that opened it there was an image of then
older : (tells : Type 0) (d m : DiskState) (c : List ℕ) → IsLawful tells d → Passes Same d m → m.since d.clock c → d.images c
older tells d m c lawful passes here =
    ⊎_elim (λ old. lawful.only_now c old) (λ from. subst (λ (z : List ℕ). d.images z) (sym from.2) from.1) (passes.between d.clock c (omega arith) here)

-- what an image of the start's state keeps before any line
keeps_none : (limit : ℕ) (s : State) (c : List ℕ) → StandsFor s c → KeepsAnswered limit (started_at s) [] c
keeps_none limit s c stands = record {
  answered = 0;
  is_acked = record { within = omega arith; begins = ([], refl); greatest = λ j h begins. h };
  stands = record { reached = 0; least = omega arith; most = omega arith; within = omega arith; has = stands };
}

-- It was opened as far as its sync, and then it ended: from then on each image is the content of the start.
since_sync : (tells : Type 0) (limit : ℕ) (d e : DiskState) (s : State) → IsLawful tells d → IsLawful tells e → Passes Same d e → tells → e.content ≡ d.content → Only e.content e.images → StandsFor s d.content → KeepsSince limit (started_at s) [] d e
since_sync tells limit d e s lawful lawful_now passes tell same only stands =
    let here : (c : List ℕ) → e.images c → StandsFor s c = λ c left. subst (StandsFor s) (sym (only c left ∙ same)) stands in
    record {
      moment = e.clock;
      not_before = passes.later;
      not_after = omega arith;
      still = subst (λ (c : List ℕ). e.since e.clock c) same (lawful_now.counts_now e.clock e.content (omega arith) (lawful_now.present tell));
      now = λ c left. keeps_none limit s c (here c left);
      since = λ c left. some_none StandsFor (started_at s) [] c (here c (lawful_now.only_now c left));
      ever = λ c left. inl (older tells d e c lawful passes left);
    }

-- no line was answered
abbrev no_replies : (limit : ℕ) → GivesReplies (lines_in limit []) (given_in [])
no_replies limit = record { texts = []; part = []; within = omega arith; given_is = refl }

-- The same where the content of the start may speak of the state.
spoken_since : (tells : Type 0) (limit : ℕ) (d e : DiskState) (s : State) → IsLawful tells d → Passes Same d e → e.content ≡ d.content → Only e.content e.images → MaySpeakOf s d.content → KeepsReplied limit (started_at s) [] (no_replies limit) d e
spoken_since tells limit d e s lawful passes same only speaks = record {
  replies = refl;
  now = λ c left. after_none MaySpeakOf (started_at s) [] c (subst (MaySpeakOf s) (sym (only c left ∙ same)) speaks);
  ever = λ c left. inl (older tells d e c lawful passes left);
}

-- it was not opened
pub serves_none : (tells : Type 0) (limit : ℕ) (told : Option (List Event)) (left : Option (List ℕ)) (d e : DiskState) (status : Status) → IsLawful tells d → IsLawful tells e → Passes Same d e → (tells → e.content ≡ d.content) → (status ≡ DiskFault) ⊎ Only e.content e.images
    → (tells → (slot : Slot) → (root : Root) → Counts slot root d.content → e.taken ≤ d.taken + opening_bytes root d.content) → (status ≡ Done → ⊥) → (status ≡ TooLong → ⊥) → ((need gap : ℕ) → status ≡ Full need gap → ⊥)
    → ((place : ℕ) → tells → status ≡ Damaged place → IsBrokenAt d.content place) → Serves tells limit told told left left d e status
serves_none tells limit told left d e status lawful lawful_now passes same settled read not_done not_long not_full broken = record {
  run = [];
  grew = grows_none told;
  read = consumes_none left;
  replied = record { gives = no_replies limit; in_time = λ k t. absurd t; all = λ done. absurd (not_done done) };
  done = record {
    levels = λ s held tell stands here all. record { now = held; is = refl; held = subst (IsHeld held) (sym (same tell)) here.is };
    settled = λ s tell stands all some. absurd (omega (arith, some));
  };
  failed = record {
    too_long = (λ long. absurd (not_long long), λ past. absurd (omega arith));
    last = λ past. absurd (omega arith);
    damaged = λ place tell is. inl (broken place tell is);
    wanting = λ need gap tell is. absurd (not_full need gap is);
    full = λ s held tell stands here. full_exactly d.limit (started_at s) held [] [] status (λ need gap is. absurd (not_full need gap is)) (inr (held, refl));
  };
  throughout = record {
    firm = λ tell some all. absurd (some refl);
    spoken = λ s tell speaks. ⊎_elim (λ failed. inl (record { failed = failed; none = refl; same = passes })) (λ only. inr (spoken_since tells limit d e s lawful passes (same tell) only speaks)) settled;
    replies = λ s tell stands. record { begin = ([], refl); all = λ done. absurd (not_done done); in_time = λ k t. absurd t };
    keeps = λ s tell stands. record {
      now = λ c here. keeps_none limit s c (same_stands (StandsFor s) d e passes stands.images c here);
      ever = opens_only tells d e (StandsAfterSome (started_at s) []) lawful passes (λ c here. some_none StandsFor (started_at s) [] c (stands.images c here));
    };
    reopened = λ s tell stands. ⊎_elim (λ failed. inl (record { failed = failed; none = refl; same = passes })) (λ only. inr (since_sync tells limit d e s lawful lawful_now passes tell (same tell) only stands)) settled;
    reads = λ s tell stands all. omega (arith, read tell stands.opened.slot stands.opened.root stands.counts);
  };
}

-- what an image has, as a session has it behind its opening
pub opened_by : (tells : Type 0) (d m : DiskState) (session : Session) (held : Holding) → IsLawful tells m → tells → session.store.job ≡ None → m.content ≡ d.content → IsFirst d.content held → IsBy session m.content held
opened_by tells d m session held lawful told none same here =
    let is : IsHeld held m.content = subst (IsHeld held) (sym same) here.is in
    record {
      is = is;
      job = subst (λ (job : Option Merging). IsJobIn job held.job) (sym none) (subst (λ (job : Option Job). IsJobIn None job) (sym here.none) tt);
      well = well_held held m.content (content_bytes tells m lawful told) is (subst (λ (job : Option Job). IsJobOf job held.view) (sym here.none) tt);
    }

-- by the limit of before it was opened
full_before : (limit : ℕ) (d m e : DiskState) (session : Session) (run : List Event) (status : Status) (start : Machine) (held : Holding) → m.limit ≡ d.limit → RunsFrom limit m e session run status start → IsBy session m.content held
    → IsFullExactly d.limit held start (lines_in limit run) (given_in run) status
full_before limit d m e session run status start held same_limit runs here =
    subst (λ (n : ℕ). IsFullExactly n held start (lines_in limit run) (given_in run) status) same_limit (runs.full held here)

levels_before : (limit : ℕ) (d m e : DiskState) (session : Session) (run : List Event) (status : Status) (start : Machine) (held : Holding) → m.limit ≡ d.limit → RunsFrom limit m e session run status start → IsBy session m.content held → AnswersAll limit start run
    → IsWorked (worked_lines d.limit start held (lines_in limit run)) (IsOn e.content)
levels_before limit d m e session run status start held same_limit runs here all =
    subst (λ (n : ℕ). IsWorked (worked_lines n start held (lines_in limit run)) (IsOn e.content)) same_limit (runs.levels held here all).0

-- what an image that stands for a state has
pub held_of : (s : State) (image : List ℕ) → StandsFor s image → (held : Holding) × IsFirst image held × (state_of held.view ≡ s)
held_of s image stands = (
  record { view = view_of stands.opened stands.means.levels; list = stands.opened.root.deletions; job = None },
  record { is = record { opened = stands.opened; is = opened_of s image stands; are = stands.means.are; view_is = refl; list_is = refl }; none = refl },
  stands.means.state_is,
)

-- what an image that stands for a state may speak of
pub stands_speaks : (s : State) (image : List ℕ) → StandsFor s image → MaySpeakOf s image
stands_speaks s image stands = record { opened = stands.opened; is = opened_of s image stands; may = means_may s stands.opened image stands.means }

-- and one that is opened
pub opened_speaks : (o : Opened) (image : List ℕ) → IsOpened o image → (s : State) × MaySpeakOf s image
opened_speaks o image is = let some = may_be o in (some.0, record { opened = o; is = is; may = some.1 })

-- what an image keeps that holds what was answered, and no reply behind it
pub holds_answered : (limit : ℕ) (start : Machine) (run : List Event) (image : List ℕ) → KeepsAnswered limit start run image → HoldsAnswered StandsFor start (lines_in limit run) (given_in run) image
holds_answered limit start run image keeps = record {
  reached = keeps.stands.reached;
  within = keeps.stands.within;
  has = keeps.stands.has;
  answered = λ n within begins.
      omega (arith, keeps.is_acked.greatest n (omega (arith, within, length_replies start (lines_in limit run))) begins, keeps.stands.least);
}

-- what an image may speak of then, where the start's images may speak of the state
pub holds_replied : (tells : Type 0) (limit : ℕ) (told told_now : Option (List Event)) (left left_now : Option (List ℕ)) (d e : DiskState) (status : Status) (s : State) → tells → Stands tells d (MaySpeakOf s) → (serves : Serves tells limit told told_now left left_now d e status)
    → Each e.images (SpeaksAfter (length serves.replied.gives.texts) (started_at s) (lines_in limit serves.run))
holds_replied tells limit told told_now left left_now d e status s tell stands serves =
    ⊎_elim none (λ keeps. keeps.now) (serves.throughout.spoken s tell (stands.content tell))
  where
    none : NotOpened d e serves.run status → Each e.images (SpeaksAfter (length serves.replied.gives.texts) (started_at s) (lines_in limit serves.run))
    none closed c here =
        let lines : lines_in limit serves.run ≡ [] = ap (lines_in limit) closed.none in
        let count : 0 ≡ length serves.replied.gives.texts = omega (arith, serves.replied.gives.within, ap length lines) in
        subst (λ (n : ℕ). SpeaksAfter n (started_at s) (lines_in limit serves.run) c) count (after_none MaySpeakOf (started_at s) (lines_in limit serves.run) c (same_stands (MaySpeakOf s) d e closed.same stands.images c here))

-- and where each line may change the index, these lines are found by their replies
pub holds_changes : (tells : Type 0) (limit : ℕ) (told told_now : Option (List Event)) (left left_now : Option (List ℕ)) (d e : DiskState) (status : Status) (s : State) → tells → Stands tells d (MaySpeakOf s) → (serves : Serves tells limit told told_now left left_now d e status)
    → All MayChange (lines_in limit serves.run) → Each e.images (HoldsAnswered MaySpeakOf (started_at s) (lines_in limit serves.run) (given_in serves.run))
holds_changes tells limit told told_now left left_now d e status s tell stands serves changes = ⊎_elim none some (serves.throughout.spoken s tell (stands.content tell))
  where
    none : NotOpened d e serves.run status → Each e.images (HoldsAnswered MaySpeakOf (started_at s) (lines_in limit serves.run) (given_in serves.run))
    none closed c here = record {
      reached = 0;
      within = omega arith;
      has = same_stands (MaySpeakOf s) d e closed.same stands.images c here;
      answered = λ n within begins. omega (arith, within, ap length (ap (lines_in limit) closed.none));
    }

    some : KeepsReplied limit (started_at s) serves.run serves.replied.gives d e → Each e.images (HoldsAnswered MaySpeakOf (started_at s) (lines_in limit serves.run) (given_in serves.run))
    some keeps c here =
        let lines : List (List ℕ) = lines_in limit serves.run in
        let gives : GivesReplies lines (given_in serves.run) = serves.replied.gives in
        let are = replies_are (started_at s) lines gives.texts gives.part changes keeps.replies in
        let long : length (replies (started_at s) lines) ≡ length lines = length_replies (started_at s) lines in
        let acked : IsAcked (length gives.texts) (replies (started_at s) lines) (given_in serves.run) =
        acked_part (length gives.texts) (replies (started_at s) lines) (given_in serves.run) gives.part (omega (arith, gives.within, long)) (gives.given_is ∙ ap (λ (l : List (List ℕ)). concat l ++ gives.part) are.0) are.1 in
        let after = keeps.now c here in
        record {
          reached = after.reached;
          within = after.within;
          has = after.has;
          answered = λ n within begins. omega (arith, acked.greatest n (omega (arith, within, long)) begins, after.least);
        }

-- by the levels and newest documents of what was opened
spends_opened : (d e : DiskState) (session : Session) (m : Machine) (lines : List (List ℕ)) (o : Opened) → Keeps session.store o → Spends d e session m lines → All OnlyReads lines → e.taken ≤ d.taken + lines_bytes o.levels (newest_of_opened o) m lines
spends_opened d e session m lines o keeps spends all =
    let newest : newest_in session.store ≡ newest_of_opened o = one_content (newest_of o.root o.entries) (newest_in session.store) keeps.follows.content in
    let P : List Tables → Type 0 = λ levels. e.taken ≤ d.taken + lines_bytes levels (newest_in session.store) m lines in
    let Q : Content → Type 0 = λ content. e.taken ≤ d.taken + lines_bytes o.levels content m lines in
    subst Q newest (subst P keeps.levels (spends all))

-- it was opened, and then it ran
pub serves_opened : (tells : Type 0) (limit : ℕ) (told told_now : Option (List Event)) (left left_now : Option (List ℕ)) (d m e : DiskState) (session : Session) (status : Status) → IsLawful tells d → IsLawful tells m → session.store.job ≡ None → Passes Same d m → ((s : State) → tells → StandsFor s d.content → AgreesOn tells m session (started_at s)) → Agrees tells m session.store → (tells → m.content ≡ d.content) → m.limit ≡ d.limit
    → ((o : Opened) → tells → IsOpened o d.content → Keeps session.store o) → (tells → (slot : Slot) → (root : Root) → Counts slot root d.content → m.taken ≤ d.taken + opening_bytes root d.content)
    → Runs tells limit told told_now left left_now m e session status → Serves tells limit told told_now left left_now d e status
serves_opened tells limit told told_now left left_now d m e session status lawful lawful_now none passes agrees store same same_limit keeps read runs = record {
  run = runs.run;
  grew = runs.grew;
  read = runs.read;
  replied = runs.replied;
  done = record {
    levels = λ s held tell stands here all. levels_before limit d m e session runs.run status (started_at s) held same_limit (runs.each (started_at s) tell (agrees s tell stands)) (opened_by tells d m session held lawful_now tell none (same tell) here) all;
    settled = λ s tell stands all some.
        let held = held_of s d.content stands in
        ((runs.each (started_at s) tell (agrees s tell stands)).levels held.0 (opened_by tells d m session held.0 lawful_now tell none (same tell) held.1) all).1;
  };
  failed = record {
    too_long = runs.too_long;
    last = runs.last;
    damaged = λ place tell is. inr (runs.damaged place tell is);
    wanting = λ need gap tell is. runs.wanting need gap tell is;
    full = λ s held tell stands here. full_before limit d m e session runs.run status (started_at s) held same_limit (runs.each (started_at s) tell (agrees s tell stands)) (opened_by tells d m session held lawful_now tell none (same tell) here);
  };
  throughout = record {
    firm = λ tell some all. runs.settled all tell store.settled;
    spoken = λ s tell speaks.
        let one : SpeaksWithin m e (lines_in limit runs.run) runs.replied.gives.texts runs.replied.gives.part (started_at s) = runs.spoken (started_at s) tell (record { store = store; speaks = λ told. subst (MaySpeakOf s) (sym (same tell)) speaks }) in
        inr (record {
          replies = one.replies;
          now = one.now;
          ever = λ c here. ⊎_elim (λ old. inl (older tells d m c lawful passes old)) (λ some. inr some) (one.images.between d.clock c passes.later here);
        });
    replies = λ s tell stands. (runs.each (started_at s) tell (agrees s tell stands)).replies;
    keeps = λ s tell stands.
        let one : KeepsPrefix limit (started_at s) runs.run m e = (runs.each (started_at s) tell (agrees s tell (stands.content tell))).keeps in
        let lines : List (List ℕ) = lines_in limit runs.run in
        record {
          now = one.now;
          ever = leaves_then d m e (StandsAfterSome (started_at s) lines) (opens_only tells d m (StandsAfterSome (started_at s) lines) lawful passes (λ c here. some_none StandsFor (started_at s) lines c (stands.images c here))) one.ever;
        };
    reopened = λ s tell stands.
        let one : KeepsPrefix limit (started_at s) runs.run m e = (runs.each (started_at s) tell (agrees s tell stands)).keeps in
        inr (record {
          moment = m.clock;
          not_before = passes.later;
          not_after = one.ever.later;
          still = one.ever.keeps m.clock d.content (omega arith) (subst (λ (c : List ℕ). m.since m.clock c) (same tell) (lawful_now.counts_now m.clock m.content (omega arith) (lawful_now.present tell)));
          now = one.now;
          since = one.ever.each;
          ever = λ c here. ⊎_elim (λ old. inl (older tells d m c lawful passes old)) (λ some. inr some) (one.ever.between d.clock c passes.later here);
        });
    reads = λ s tell stands all.
        omega (
          arith,
          read tell stands.opened.slot stands.opened.root stands.counts,
          spends_opened m e session (started_at s) (lines_in limit runs.run) stands.opened (keeps stands.opened tell (opened_of s d.content stands)) (runs.each (started_at s) tell (agrees s tell stands)).spends all,
        );
  };
}
