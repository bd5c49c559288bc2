-- Laws of lines that were answered.
use Rattle.std.proofs.Common.{◌≡◌, ℕ, ◌+◌, ◌<◌, List, [], ◌∷◌, ◌++◌, Option, length, length-append, map, arith, refl, ap, sym, subst, ◌∙◌, append-nil, Ok, Err}
use Rattle.alta_console.specs.Giving.{Gives}
use Rattle.std.specs.List.{concat}
use Rattle.alta_console.specs.declared.event.Event.{Event}
use Rattle.alta_console.proofs.GivingLaws.{gives_on, gives_none}
use Rattle.alta_console.proofs.ReplyLaws.{joined_append}
use Rattle.alta_disk.specs.Disk.{DiskState, LeavesOnly, IsLawful, Each}
use Rattle.alta_disk.proofs.Moments.{leaves_now, leaves_start, leaves_then, leaves_as}
use Rattle.alta_meaning.specs.Holding.{Holding}
use Rattle.alta_machine.specs.declared.document.State.{State}
use Rattle.alta_session.specs.Agreement.{AgreesOn, SpeaksOn}
use Rattle.alta_machine.specs.Lines.{Reading, reading_of}
use Rattle.alta_session.specs.Damage.{FindsDamage, WantsPlace}
use Rattle.alta_session.specs.Fed.{Fed, FedFrom, SpokenThrough}
use Rattle.alta_session.specs.Fullness.{IsFullOnly}
use Rattle.alta_session.specs.Keeping.{clip}
use Rattle.alta_machine.specs.Machine.{Machine, step, machine_after, replies}
use Rattle.alta_session.specs.Progress.{After, AfterSome, SpeaksAfterSome, SpeaksWithin, StandsAfterSome, Progress, StopsWithin, StopsWithinFrom}
use Rattle.alta_session.specs.Tasks.{IsBy, IsDone, IsOn, IsWorked, task_of, worked_lines, worked_where}
use Rattle.alta_session.specs.Spending.{KeepsSettled, KeepsStore, OnlyReads, Spends}
use Rattle.alta_session.specs.declared.session.Session.{Session}
use Rattle.alta_session.specs.declared.status.Status.{Status}
use Rattle.alta_session.specs.declared.status.Status.TheVariants.{Full, Damaged}
use Rattle.alta_session.proofs.DamageLaws.{left_more, left_on, left_same}
use Rattle.alta_session.proofs.FullnessLaws.{full_on, full_more, full_clip, over_first}
use Rattle.alta_session.proofs.GivenLaws.{given_behind, given_less, none_behind, none_given}
use Rattle.alta_session.proofs.MachineLaws.{after_append, length_same, replies_append, replies_same, after_same, reply_some}
use Rattle.alta_session.proofs.ProgressLaws.{after_all, after_clipped, after_either, after_more, after_none, after_on, some_none, some_either, some_on, some_more, some_clip, progress_none, progress_stop, progress_on, progress_more, progress_full, progress_clip}
use Rattle.alta_session.proofs.RepliedLaws.{replies_alike, replies_more, replies_none, replies_on, texts_all, texts_on}
use Rattle.alta_session.proofs.TaskLaws.{lines_on, one_worked, worked_as, worked_on_image, worked_same}
use Rattle.alta_meaning.specs.Standing.{StandsFor, StandsForEither}
use Rattle.alta_store.specs.Agreement.{Agrees, MaySpeakOf, MaySpeakOfEither}
use Rattle.alta_store.proofs.Agreements.{images_have, images_stand}
use Rattle.alta_session.proofs.SpendingLaws.{keeps_clip, keeps_on, settled_clip, settled_more, settled_none, settled_on, spends_clip, spends_more, spends_none, spends_on}

-- from one machine on, images of lines and then of more
module _ (Has : State → List ℕ → Type 0) where
  pub leaves_on : (a b c : DiskState) (m : Machine) (xs ys : List (List ℕ)) → LeavesOnly (AfterSome Has m xs) a b → LeavesOnly (AfterSome Has (machine_after m xs) ys) b c → LeavesOnly (AfterSome Has m (xs ++ ys)) a c
  leaves_on a b c m xs ys one two =
      leaves_then a b c (AfterSome Has m (xs ++ ys)) (leaves_as a b (AfterSome Has m xs) (AfterSome Has m (xs ++ ys)) one (λ z here. some_more Has m xs ys z here))
      (leaves_as b c (AfterSome Has (machine_after m xs) ys) (AfterSome Has m (xs ++ ys)) two (λ z here. some_on Has m xs ys z here))

  pub leaves_more : (a b : DiskState) (m : Machine) (xs ys : List (List ℕ)) → LeavesOnly (AfterSome Has m xs) a b → LeavesOnly (AfterSome Has m (xs ++ ys)) a b
  leaves_more a b m xs ys one = leaves_as a b (AfterSome Has m xs) (AfterSome Has m (xs ++ ys)) one (λ z here. some_more Has m xs ys z here)

  pub leaves_clip : (a b : DiskState) (m : Machine) (xs ys : List (List ℕ)) → map clip xs ≡ map clip ys → LeavesOnly (AfterSome Has m xs) a b → LeavesOnly (AfterSome Has m ys) a b
  leaves_clip a b m xs ys same one = leaves_as a b (AfterSome Has m xs) (AfterSome Has m ys) one (λ z here. some_clip Has m xs ys z same here)

pub leaves_none : (tells : Type 0) (d : DiskState) (session : Session) (m : Machine) (lines : List (List ℕ)) → IsLawful tells d → AgreesOn tells d session m → LeavesOnly (StandsAfterSome m lines) d d
leaves_none tells d session m lines lawful agrees = leaves_start tells d (StandsAfterSome m lines) lawful (λ c here. some_none StandsFor m lines c (images_stand tells d m.state lawful agrees.store.settled agrees.stands c here))

-- ---- where the disk may speak of the machine's state

-- each image then does
pub images_speak : (tells : Type 0) (d : DiskState) (session : Session) (m : Machine) → IsLawful tells d → SpeaksOn tells d session m → Each d.images (MaySpeakOf m.state)
images_speak tells d session m lawful agrees = images_have tells d (MaySpeakOf m.state) lawful agrees.store.settled agrees.speaks

pub spoken_none : (tells : Type 0) (d : DiskState) (session : Session) (m : Machine) (lines : List (List ℕ)) → IsLawful tells d → SpeaksOn tells d session m → LeavesOnly (SpeaksAfterSome m lines) d d
spoken_none tells d session m lines lawful agrees = leaves_start tells d (SpeaksAfterSome m lines) lawful (λ c here. some_none MaySpeakOf m lines c (images_speak tells d session m lawful agrees c here))

pub spoken_on : (tells : Type 0) (d e f : DiskState) (s1 s2 : Session) (m : Machine) (xs ys texts more : List (List ℕ)) → length texts ≡ length xs → SpokenThrough tells d e s1 xs texts m → SpokenThrough tells e f s2 ys more (machine_after m xs) → SpokenThrough tells d f s2 (xs ++ ys) (texts ++ more) m
spoken_on tells d e f s1 s2 m xs ys texts more long one two = record {
  replies = replies_on m xs ys texts more [] one.replies long two.replies;
  agrees = subst (λ (t : Machine). SpeaksOn tells f s2 t) (sym (after_append m xs ys)) two.agrees;
  images = leaves_on MaySpeakOf d e f m xs ys one.images two.images;
}

pub within_on : (tells : Type 0) (d e f : DiskState) (s1 : Session) (m : Machine) (xs ys texts more : List (List ℕ)) (part : List ℕ) → length texts ≡ length xs → SpokenThrough tells d e s1 xs texts m → SpeaksWithin e f ys more part (machine_after m xs) → SpeaksWithin d f (xs ++ ys) (texts ++ more) part m
within_on tells d e f s1 m xs ys texts more part long one two = record {
  replies = replies_on m xs ys texts more part one.replies long two.replies;
  now = λ c here.
      let count : length xs + length more ≡ length (texts ++ more) = omega (arith, length-append texts more, long) in
      subst (λ (n : ℕ). After MaySpeakOf n m (xs ++ ys) c) count (after_on MaySpeakOf (length more) m xs ys c (two.now c here));
  images = leaves_on MaySpeakOf d e f m xs ys one.images two.images;
}

-- all lines have their replies
pub within_full : (tells : Type 0) (d e : DiskState) (s1 : Session) (m : Machine) (lines texts : List (List ℕ)) → IsLawful tells e → length texts ≡ length lines → SpokenThrough tells d e s1 lines texts m → SpeaksWithin d e lines texts [] m
within_full tells d e s1 m lines texts lawful long one = record {
  replies = one.replies;
  now = λ c here. after_all MaySpeakOf (length texts) m lines c long (images_speak tells e s1 (machine_after m lines) lawful one.agrees c here);
  images = one.images;
}

pub fed_none : (tells : Type 0) (told : Option (List Event)) (d : DiskState) (session : Session) → IsLawful tells d → Fed tells told told d d session session []
fed_none tells told d session lawful = record {
  given = [];
  gave = gives_none told;
  texts = [];
  each_one = refl;
  texts_are = refl;
  same_limit = refl;
  keeps = λ all. refl;
  settled = settled_none tells d [];
  each = λ m tell agrees. record { given_is = refl; agrees = agrees; images = leaves_none tells d session m [] lawful agrees; works = λ held here. record { now = held; is = refl; held = here }; spends = spends_none d session m [] };
  spoken = λ m tell agrees. record { replies = refl; agrees = agrees; images = spoken_none tells d session m [] lawful agrees };
}

pub fed_clip : (tells : Type 0) (a b : Option (List Event)) (d e : DiskState) (s0 s1 : Session) (xs ys : List (List ℕ)) → map clip xs ≡ map clip ys → Fed tells a b d e s0 s1 xs → Fed tells a b d e s0 s1 ys
fed_clip tells a b d e s0 s1 xs ys same fed = record {
  given = fed.given;
  gave = fed.gave;
  texts = fed.texts;
  each_one = fed.each_one ∙ length_same xs ys same;
  texts_are = fed.texts_are;
  same_limit = fed.same_limit;
  keeps = keeps_clip s0 s1 xs ys same fed.keeps;
  settled = settled_clip tells d e xs ys same fed.settled;
  each = λ m tell agrees. let one : FedFrom tells d e s0 s1 xs fed.given m = fed.each m tell agrees in record {
    given_is = one.given_is ∙ ap concat (replies_same m xs ys same);
    agrees = subst (λ (t : Machine). AgreesOn tells e s1 t) (after_same m xs ys same) one.agrees;
    images = leaves_clip StandsFor d e m xs ys same one.images;
    works = λ held here. worked_as _ _ (IsBy s1 e.content) (worked_same d.limit m held xs ys same) (one.works held here);
    spends = spends_clip d e s0 m xs ys same one.spends;
  };
  spoken = λ m tell agrees. let one : SpokenThrough tells d e s1 xs fed.texts m = fed.spoken m tell agrees in record {
    replies = replies_alike m xs ys fed.texts [] same one.replies;
    agrees = subst (λ (t : Machine). SpeaksOn tells e s1 t) (after_same m xs ys same) one.agrees;
    images = leaves_clip MaySpeakOf d e m xs ys same one.images;
  };
}

pub fed_on : (tells : Type 0) (a b c : Option (List Event)) (d e f : DiskState) (s0 s1 s2 : Session) (xs ys : List (List ℕ)) → Fed tells a b d e s0 s1 xs → Fed tells b c e f s1 s2 ys → Fed tells a c d f s0 s2 (xs ++ ys)
fed_on tells a b c d e f s0 s1 s2 xs ys first then_ = record {
  given = first.given ++ then_.given;
  gave = gives_on a b c first.given then_.given first.gave then_.gave;
  texts = first.texts ++ then_.texts;
  each_one = omega (arith, length-append first.texts then_.texts, length-append xs ys, first.each_one, then_.each_one);
  texts_are = texts_all first.texts then_.texts first.given then_.given first.texts_are then_.texts_are;
  same_limit = then_.same_limit ∙ first.same_limit;
  keeps = keeps_on s0 s1 s2 xs ys first.keeps then_.keeps;
  settled = settled_on tells d e f xs ys first.settled then_.settled;
  each = λ m tell agrees.
      let one : FedFrom tells d e s0 s1 xs first.given m = first.each m tell agrees in
      let two : FedFrom tells e f s1 s2 ys then_.given (machine_after m xs) = then_.each (machine_after m xs) tell one.agrees in
      record {
        given_is = ap (λ (l : List ℕ). l ++ then_.given) one.given_is ∙ ap (λ (l : List ℕ). concat (replies m xs) ++ l) two.given_is ∙ sym (joined_append (replies m xs) (replies (machine_after m xs) ys)) ∙ ap concat (sym (replies_append m xs ys));
        agrees = subst (λ (t : Machine). AgreesOn tells f s2 t) (sym (after_append m xs ys)) two.agrees;
        images = leaves_on StandsFor d e f m xs ys one.images two.images;
        works = λ held here.
            let done : IsWorked (worked_lines d.limit m held xs) (IsBy s1 e.content) = one.works held here in
            lines_on d.limit e.limit m held done.now xs ys (IsBy s2 f.content) first.same_limit done.is (two.works done.now done.held);
        spends = spends_on d e f s0 s1 m xs ys one.spends first.keeps two.spends;
      };
  spoken = λ m tell agrees.
      let one : SpokenThrough tells d e s1 xs first.texts m = first.spoken m tell agrees in
      spoken_on tells d e f s1 s2 m xs ys first.texts then_.texts first.each_one one (then_.spoken (machine_after m xs) tell one.agrees);
}

-- the work of lines, and of more behind them
pub done_on : (limit later : ℕ) (m : Machine) (held now : Holding) (xs ys : List (List ℕ)) (d : DiskState) → later ≡ limit → worked_lines limit m held xs ≡ Ok now → IsDone (worked_lines later (machine_after m xs) now ys) d → IsDone (worked_lines limit m held (xs ++ ys)) d
done_on limit later m held now xs ys d same first more = (lines_on limit later m held now xs ys (IsOn d.content) same first more.0, more.1)

-- it stopped in later lines
pub stops_on : (tells : Type 0) (a b c : Option (List Event)) (d e f : DiskState) (s0 s1 : Session) (xs ys : List (List ℕ)) (status : Status) → Fed tells a b d e s0 s1 xs → StopsWithin tells b c e f s1 ys status → StopsWithin tells a c d f s0 (xs ++ ys) status
stops_on tells a b c d e f s0 s1 xs ys status first stops = record {
  given = first.given ++ stops.given;
  gave = gives_on a b c first.given stops.given first.gave stops.gave;
  replied = record {
    texts = first.texts ++ stops.replied.texts;
    part = stops.replied.part;
    within = omega (arith, length-append first.texts stops.replied.texts, length-append xs ys, first.each_one, stops.replied.within);
    given_is = texts_on first.texts stops.replied.texts first.given stops.given stops.replied.part first.texts_are stops.replied.given_is;
  };
  damaged = λ place tell is. left_on (λ (reading : Reading). FindsDamage f.content reading place) first.texts stops.replied.texts xs ys first.each_one (stops.damaged place tell is);
  wanting = λ need gap tell is. left_on (λ (reading : Reading). WantsPlace f.limit f.content reading need gap) first.texts stops.replied.texts xs ys first.each_one (stops.wanting need gap tell is);
  settled = settled_on tells d e f xs ys first.settled stops.settled;
  each = λ m tell agrees.
      let one : FedFrom tells d e s0 s1 xs first.given m = first.each m tell agrees in
      let two : StopsWithinFrom e f s1 ys stops.given status (machine_after m xs) = stops.each (machine_after m xs) tell one.agrees in
      record {
        progress = subst (λ (l : List ℕ). Progress m (xs ++ ys) (l ++ stops.given) f.images) (sym one.given_is) (progress_on m xs ys stops.given f.images two.progress);
        images = leaves_on StandsFor d e f m xs ys one.images two.images;
        full = λ held here.
            let done : IsWorked (worked_lines d.limit m held xs) (IsBy s1 e.content) = one.works held here in
            subst (λ (l : List ℕ). IsFullOnly d.limit held m (xs ++ ys) (l ++ stops.given) status) (sym one.given_is) (full_on d.limit e.limit m held done.now xs ys stops.given status first.same_limit done.is (two.full done.now done.held));
        works = λ held here all.
            let done : IsWorked (worked_lines d.limit m held xs) (IsBy s1 e.content) = one.works held here in
            done_on d.limit e.limit m held done.now xs ys f first.same_limit done.is (two.works done.now done.held (given_behind m xs ys first.given stops.given one.given_is all));
        undamaged = two.undamaged;
        spends = spends_on d e f s0 s1 m xs ys one.spends first.keeps two.spends;
      };
  spoken = λ m tell agrees.
      let one : SpokenThrough tells d e s1 xs first.texts m = first.spoken m tell agrees in
      within_on tells d e f s1 m xs ys first.texts stops.replied.texts stops.replied.part first.each_one one (stops.spoken (machine_after m xs) tell one.agrees);
}

-- there are more lines
pub stops_more : (tells : Type 0) (a b : Option (List Event)) (d e : DiskState) (s0 : Session) (xs ys : List (List ℕ)) (status : Status) → StopsWithin tells a b d e s0 xs status → StopsWithin tells a b d e s0 (xs ++ ys) status
stops_more tells a b d e s0 xs ys status stops = record {
  given = stops.given;
  gave = stops.gave;
  replied = record { texts = stops.replied.texts; part = stops.replied.part; within = omega (arith, length-append xs ys, stops.replied.within); given_is = stops.replied.given_is };
  damaged = λ place tell is. left_more (λ (reading : Reading). FindsDamage e.content reading place) (length stops.replied.texts) xs ys stops.replied.within (stops.damaged place tell is);
  wanting = λ need gap tell is. left_more (λ (reading : Reading). WantsPlace e.limit e.content reading need gap) (length stops.replied.texts) xs ys stops.replied.within (stops.wanting need gap tell is);
  settled = settled_more tells d e xs ys stops.settled;
  each = λ m tell agrees. let one : StopsWithinFrom d e s0 xs stops.given status m = stops.each m tell agrees in record {
    progress = progress_more m xs ys stops.given e.images one.progress;
    images = leaves_more StandsFor d e m xs ys one.images;
    full = λ held here. full_more d.limit m held xs ys stops.given status (one.full held here);
    works = λ held here all.
        let none : ys ≡ [] = none_behind m xs ys stops.given e.images one.progress all in
        let same : xs ++ ys ≡ xs = ap (λ (l : List (List ℕ)). xs ++ l) none ∙ append-nil xs in
        subst (λ (l : List (List ℕ)). IsDone (worked_lines d.limit m held l) e) (sym same) (one.works held here (all ∙ ap (λ (l : List (List ℕ)). concat (replies m l)) same));
    undamaged = one.undamaged;
    spends = spends_more d e s0 m xs ys one.spends;
  };
  spoken = λ m tell agrees. let one : SpeaksWithin d e xs stops.replied.texts stops.replied.part m = stops.spoken m tell agrees in record {
    replies = replies_more m xs ys stops.replied.texts stops.replied.part one.replies;
    now = λ c here. after_more MaySpeakOf (length stops.replied.texts) m xs ys c (one.now c here);
    images = leaves_more MaySpeakOf d e m xs ys one.images;
  };
}

pub stops_clip : (tells : Type 0) (a b : Option (List Event)) (d e : DiskState) (s0 : Session) (xs ys : List (List ℕ)) (status : Status) → map clip xs ≡ map clip ys → StopsWithin tells a b d e s0 xs status → StopsWithin tells a b d e s0 ys status
stops_clip tells a b d e s0 xs ys status same stops = record {
  given = stops.given;
  gave = stops.gave;
  replied = record { texts = stops.replied.texts; part = stops.replied.part; within = omega (arith, length_same xs ys same, stops.replied.within); given_is = stops.replied.given_is };
  damaged = λ place tell is. left_same (λ (reading : Reading). FindsDamage e.content reading place) (length stops.replied.texts) xs ys same (stops.damaged place tell is);
  wanting = λ need gap tell is. left_same (λ (reading : Reading). WantsPlace e.limit e.content reading need gap) (length stops.replied.texts) xs ys same (stops.wanting need gap tell is);
  settled = settled_clip tells d e xs ys same stops.settled;
  each = λ m tell agrees. let one : StopsWithinFrom d e s0 xs stops.given status m = stops.each m tell agrees in record {
    progress = progress_clip m xs ys stops.given e.images same one.progress;
    images = leaves_clip StandsFor d e m xs ys same one.images;
    full = λ held here. full_clip d.limit m held xs ys stops.given status same (one.full held here);
    works = λ held here all.
        let done : IsDone (worked_lines d.limit m held xs) e = one.works held here (all ∙ ap concat (sym (replies_same m xs ys same))) in
        (worked_as _ _ (IsOn e.content) (worked_same d.limit m held xs ys same) done.0, done.1);
    undamaged = one.undamaged;
    spends = spends_clip d e s0 m xs ys same one.spends;
  };
  spoken = λ m tell agrees. let one : SpeaksWithin d e xs stops.replied.texts stops.replied.part m = stops.spoken m tell agrees in record {
    replies = replies_alike m xs ys stops.replied.texts stops.replied.part same one.replies;
    now = λ c here. after_clipped MaySpeakOf (length stops.replied.texts) m xs ys c same (one.now c here);
    images = leaves_clip MaySpeakOf d e m xs ys same one.images;
  };
}

-- it stopped before any line
unfoldable pub stops_none : (tells : Type 0) (told : Option (List Event)) (d : DiskState) (session : Session) (lines : List (List ℕ)) (status : Status) → IsLawful tells d → ((need gap : ℕ) → status ≡ Full need gap → ⊥)
    → ((place : ℕ) → status ≡ Damaged place → ⊥) → StopsWithin tells told told d d session lines status
stops_none tells told d session lines status lawful not_full whole = record {
  given = [];
  gave = gives_none told;
  replied = record { texts = []; part = []; within = omega arith; given_is = refl };
  damaged = λ place tell is. absurd (whole place is);
  wanting = λ need gap tell is. absurd (not_full need gap is);
  settled = settled_none tells d lines;
  each = λ m tell agrees. record {
    progress = progress_none m lines d.images (images_stand tells d m.state lawful agrees.store.settled agrees.stands);
    images = leaves_none tells d session m lines lawful agrees;
    full = λ held here need gap is. absurd (not_full need gap is);
    works = λ held here all.
        let none : [] ≡ lines = sym (none_given m lines (sym all)) in
        subst (λ (l : List (List ℕ)). IsDone (worked_lines d.limit m held l) d) none (record { now = held; is = refl; held = here.is }, agrees.store.settled);
    undamaged = whole;
    spends = spends_none d session m lines;
  };
  spoken = λ m tell agrees. record {
    replies = replies_none m lines;
    now = λ c here. after_none MaySpeakOf m lines c (images_speak tells d session m lawful agrees c here);
    images = spoken_none tells d session m lines lawful agrees;
  };
}

-- it stopped behind all lines
unfoldable pub stops_full : (tells : Type 0) (a b : Option (List Event)) (d e : DiskState) (s0 s1 : Session) (lines : List (List ℕ)) (status : Status) → IsLawful tells e → ((need gap : ℕ) → status ≡ Full need gap → ⊥)
    → ((place : ℕ) → status ≡ Damaged place → ⊥) → Fed tells a b d e s0 s1 lines → StopsWithin tells a b d e s0 lines status
stops_full tells a b d e s0 s1 lines status lawful not_full whole fed = record {
  given = fed.given;
  gave = fed.gave;
  replied = record { texts = fed.texts; part = []; within = omega (arith, fed.each_one); given_is = fed.texts_are ∙ sym (append-nil (concat fed.texts)) };
  damaged = λ place tell is. absurd (whole place is);
  wanting = λ need gap tell is. absurd (not_full need gap is);
  settled = fed.settled;
  each = λ m tell agrees. let one : FedFrom tells d e s0 s1 lines fed.given m = fed.each m tell agrees in record {
    progress = subst (λ (l : List ℕ). Progress m lines l e.images) (sym one.given_is) (progress_full m lines e.images (images_stand tells e (machine_after m lines).state lawful one.agrees.store.settled one.agrees.stands));
    images = one.images;
    full = λ held here need gap is. absurd (not_full need gap is);
    works = λ held here all. (worked_on_image (worked_lines d.limit m held lines) s1 e.content (one.works held here), one.agrees.store.settled);
    undamaged = whole;
    spends = one.spends;
  };
  spoken = λ m tell agrees. within_full tells d e s1 m lines fed.texts lawful fed.each_one (fed.spoken m tell agrees);
}

-- a line was answered
pub fed_line : (tells : Type 0) (a b : Option (List Event)) (d e : DiskState) (s0 s1 : Session) (line reply : List ℕ) → Gives a b reply → ((m : Machine) → tells → AgreesOn tells d s0 m → reply ≡ (step m line).1)
    → ((m : Machine) → tells → AgreesOn tells d s0 m → AgreesOn tells e s1 (step m line).0) → ((m : Machine) → tells → AgreesOn tells d s0 m → LeavesOnly (StandsForEither m.state (step m line).0.state) d e)
    → ((m : Machine) (held : Holding) → tells → AgreesOn tells d s0 m → IsBy s0 d.content held → IsWorked (worked_where d.limit held (task_of m line)) (IsBy s1 e.content)) → e.limit ≡ d.limit → KeepsStore s0 s1 (line ∷ []) → ((m : Machine) → tells → AgreesOn tells d s0 m → Spends d e s0 m (line ∷ []))
    → KeepsSettled tells d e (line ∷ []) → Agrees tells e s1.store → ((m : Machine) → tells → SpeaksOn tells d s0 m → ¬ (OnlyReads line) → reply ≡ (step m line).1)
    → ((m : Machine) → tells → SpeaksOn tells d s0 m → MaySpeakOf (step m line).0.state e.content) → ((m : Machine) → tells → SpeaksOn tells d s0 m → LeavesOnly (MaySpeakOfEither m.state (step m line).0.state) d e)
    → Fed tells a b d e s0 s1 (line ∷ [])
fed_line tells a b d e s0 s1 line reply gave is now leaves works same kept spends settled store told speaks spoken = record {
  given = reply;
  gave = gave;
  texts = reply ∷ [];
  each_one = refl;
  texts_are = sym (append-nil reply);
  same_limit = same;
  keeps = kept;
  settled = settled;
  each = λ m tell agrees. record {
    given_is = is m tell agrees ∙ sym (append-nil (step m line).1);
    agrees = now m tell agrees;
    images = leaves_as d e (StandsForEither m.state (step m line).0.state) (StandsAfterSome m (line ∷ [])) (leaves m tell agrees) (λ z here. some_either StandsFor m line [] z here);
    works = λ held here. worked_as _ _ (IsBy s1 e.content) (sym (one_worked d.limit m held line)) (works m held tell agrees here);
    spends = spends m tell agrees;
  };
  spoken = λ m tell agrees. record {
    replies = (told m tell agrees, refl);
    agrees = record { store = store; speaks = λ t. speaks m tell agrees };
    images = leaves_as d e (MaySpeakOfEither m.state (step m line).0.state) (SpeaksAfterSome m (line ∷ [])) (spoken m tell agrees) (λ z here. some_either MaySpeakOf m line [] z here);
  };
}

-- less than its reply was given
pub stops_line : (tells : Type 0) (a b : Option (List Event)) (d e : DiskState) (s0 : Session) (line part : List ℕ) (status : Status) → IsLawful tells e → Gives a b part → ((m : Machine) → tells → AgreesOn tells d s0 m → (left : List ℕ) × ((step m line).1 ≡ part ++ left) × (0 < length left))
    → ((m : Machine) → tells → AgreesOn tells d s0 m → LeavesOnly (StandsForEither m.state (step m line).0.state) d e)
    → ((m : Machine) (held : Holding) → tells → AgreesOn tells d s0 m → IsBy s0 d.content held → IsFullOnly d.limit held m (line ∷ []) part status)
    → ((m : Machine) (place : ℕ) → tells → AgreesOn tells d s0 m → status ≡ Damaged place → ⊥) → ((place : ℕ) → tells → status ≡ Damaged place → FindsDamage e.content (reading_of line) place) → ((need gap : ℕ) → tells → status ≡ Full need gap → WantsPlace e.limit e.content (reading_of line) need gap)
    → ((m : Machine) → tells → AgreesOn tells d s0 m → Spends d e s0 m (line ∷ [])) → KeepsSettled tells d e (line ∷ []) → ((m : Machine) → tells → SpeaksOn tells d s0 m → ¬ (OnlyReads line) → (left : List ℕ) × ((step m line).1 ≡ part ++ left) × (0 < length left))
    → ((m : Machine) → tells → SpeaksOn tells d s0 m → LeavesOnly (MaySpeakOfEither m.state (step m line).0.state) d e) → StopsWithin tells a b d e s0 (line ∷ []) status
stops_line tells a b d e s0 line part status lawful gave is leaves full whole finds wants spends settled begun spoken = record {
  given = part;
  gave = gave;
  replied = record { texts = []; part = part; within = omega arith; given_is = refl };
  damaged = finds;
  wanting = wants;
  settled = settled;
  each = λ m tell agrees. let rest = is m tell agrees in record {
    progress = progress_stop m line [] part rest.0 e.images rest.1 rest.2 (leaves_now tells d e (StandsForEither m.state (step m line).0.state) lawful (leaves m tell agrees));
    images = leaves_as d e (StandsForEither m.state (step m line).0.state) (StandsAfterSome m (line ∷ [])) (leaves m tell agrees) (λ z here. some_either StandsFor m line [] z here);
    full = λ held here. full m held tell agrees here;
    works = λ held here all. absurd (given_less m line part rest.0 rest.1 rest.2 all);
    undamaged = λ place is. whole m place tell agrees is;
    spends = spends m tell agrees;
  };
  spoken = λ m tell agrees. record {
    replies = begun m tell agrees;
    now = λ c here. after_either MaySpeakOf m line [] c (leaves_now tells d e (MaySpeakOfEither m.state (step m line).0.state) lawful (spoken m tell agrees) c here);
    images = leaves_as d e (MaySpeakOfEither m.state (step m line).0.state) (SpeaksAfterSome m (line ∷ [])) (spoken m tell agrees) (λ z here. some_either MaySpeakOf m line [] z here);
  };
}

-- none of it was given
pub stops_unanswered : (tells : Type 0) (a : Option (List Event)) (d e : DiskState) (s0 : Session) (line : List ℕ) (status : Status) → IsLawful tells e → ((m : Machine) → tells → AgreesOn tells d s0 m → LeavesOnly (StandsForEither m.state (step m line).0.state) d e)
    → ((m : Machine) (held : Holding) (need gap : ℕ) → tells → AgreesOn tells d s0 m → IsBy s0 d.content held → status ≡ Full need gap → worked_where d.limit held (task_of m line) ≡ Err (record { need = need; gap = gap }))
    → ((m : Machine) (place : ℕ) → tells → AgreesOn tells d s0 m → status ≡ Damaged place → ⊥) → ((place : ℕ) → tells → status ≡ Damaged place → FindsDamage e.content (reading_of line) place) → ((need gap : ℕ) → tells → status ≡ Full need gap → WantsPlace e.limit e.content (reading_of line) need gap)
    → ((m : Machine) → tells → AgreesOn tells d s0 m → Spends d e s0 m (line ∷ [])) → KeepsSettled tells d e (line ∷ []) → ((m : Machine) → tells → SpeaksOn tells d s0 m → LeavesOnly (MaySpeakOfEither m.state (step m line).0.state) d e) → StopsWithin tells a a d e s0 (line ∷ []) status
stops_unanswered tells a d e s0 line status lawful leaves full whole finds wants spends settled spoken =
    stops_line tells a a d e s0 line [] status lawful (gives_none a) (λ m tell agrees. ((step m line).1, refl, reply_some m line)) leaves
    (λ m held tell agrees here need gap is. (0, over_first d.limit m held line need gap (one_worked d.limit m held line ∙ full m held need gap tell agrees here is), refl)) whole finds wants spends settled
    (λ m tell agrees changes. ((step m line).1, refl, reply_some m line)) spoken
