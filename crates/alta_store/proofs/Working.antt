-- A task that puts levels in place of others is a change of the store.
use Rattle.std.proofs.Common.{◌≡◌, inl, inr, ⊎_elim, ℕ, ◌+◌, List, [], refl, sym, ◌∙◌, ap, subst, arith, Result, Ok, Err}
use Rattle.std.specs.Prelude.{Option, OnOk}
use Rattle.std.specs.List.{All, sum_by}
use Rattle.alta_layout.specs.Places.{other}
use Rattle.alta_layout.specs.declared.slot.Slot.{Slot}
use Rattle.alta_layout.specs.declared.slot.Slot.TheVariants.{A, B}
use Rattle.alta_content.specs.declared.content.Content.{Content}
use Rattle.alta_disk.specs.Calls.{Reads}
use Rattle.alta_disk.specs.Disk.{DiskState, IsLawful, LeavesOnly, Same}
use Rattle.alta_disk.proofs.Moments.{leaves_as, leaves_from, leaves_now, leaves_then, only_same}
use Rattle.alta_meaning.specs.Holding.{Holding, IsSpaced, IsWell}
use Rattle.alta_meaning.specs.Opened.{Opened, IsOpened, bytes_at, extent_of}
use Rattle.alta_meaning.specs.Standing.{StandsFor, StandsForEither, view_of}
use Rattle.alta_meaning.specs.Views.{View, state_of}
use Rattle.alta_meaning.specs.Work.{Job}
use Rattle.alta_meaning.specs.Working.{Full, switched}
use Rattle.alta_joins.specs.Contents.{AreSegmentsOn, data_size}
use Rattle.alta_joins.specs.Damages.{IsFirstDamage}
use Rattle.alta_joins.proofs.KeptLaws.{held_is_spaced}
use Rattle.alta_merge.specs.Merging.{Merging}
use Rattle.alta_machine.specs.declared.document.State.{State}
use Rattle.alta_rewrite.specs.Rewrites.{levels_to_come}
use Rattle.alta_rewrite.specs.declared.levels.NextLevels.{NextLevels}
use Rattle.alta_journal.specs.Journal.{StandsAhead}
use Rattle.alta_store.specs.Agreement.{Agrees, GoesOnOver, Has, KeepsOpened, IsJobIn, Keeps, MaySpeakOf, MaySpeakOfEither, levels_of}
use Rattle.alta_catalog.specs.Knowing.{gone_of}
use Rattle.alta_store.specs.Calls.{Changes, HasSameLevels, HaveLists, IsNarrow, IsRewrite, IsWork, NoRefusal}
use Rattle.alta_store.specs.Putting.{IsGivenBy, IsPut, MayPut, Puts, ReadsLevels}
use Rattle.alta_store.specs.declared.fault.StoreFault.{StoreFault}
use Rattle.alta_store.specs.declared.fault.StoreFault.TheVariants as faults
use Rattle.alta_store.specs.declared.store.Store.{Store}
use Rattle.alta_store.proofs.Agreements.{leaves_if}
use Rattle.alta_store.proofs.Changing.{Turns, Work, costs_more, finds_none, not_damaged, rose_later}
use Rattle.alta_store.proofs.Holdings.{has_of}
use Rattle.alta_store.proofs.Lacking.{narrow_rewrite}
use Rattle.alta_table.specs.Tables.{Tables}

-- ---- levels put in place of others

-- a slot is not the other one
not_other : (slot : Slot) → slot ≡ other slot → ⊥
not_other A same = absurd cc
not_other B same = absurd cc

-- What work asks of what is held: that it switches the root to these levels, and which join goes on then.
pub record Switches (limit : ℕ) (work : Work) (now : Store) (levels : NextLevels) (held : Holding) : Type 0 where
  pub job : Option Job
  pub is : work limit held ≡ switched limit held (levels_to_come levels held.view) job
  pub given : IsGivenBy held.view levels
  pub goes : (then : Holding) → switched limit held (levels_to_come levels held.view) job ≡ Ok then → IsJobIn now.job then.job

module _ (tells : Type 0) (a b : DiskState) (lawful_a : IsLawful tells a) (lawful_b : IsLawful tells b) (store now later : Store) (levels : NextLevels) (may : MayPut tells a store now levels) (work : Work) (turns : Turns)
    (well : (held then : Holding) → IsSpaced held.view → IsWell held → work a.limit held ≡ Ok then → IsWell then)
    (image : List ℕ) (same_image : tells → a.content ≡ image) (kind : View → NextLevels → Type 0)
    (becomes_by : (told : tells) (o : Opened) → IsOpened o a.content → (outcome : Result Opened Full) → IsRewrite a.limit image kind o outcome → turns a.limit o outcome)
    (work_is : (view : View) (levels : NextLevels) → kind view levels → IsWork view levels)
    (kind_is : (told : tells) (o : Opened) (is : IsOpened o a.content) → kind (view_of o (may.given o told is).0) levels)
    (read_is : (told : tells) (o : Opened) (is : IsOpened o a.content) → HaveLists image o (may.given o told is).0 levels)
    (switches : (held : Holding) → tells → Has store held a.content → Switches a.limit work now levels held) where
  images_put : {T : Type 0} (result : Result T StoreFault) → Puts tells levels a b store later result → (s : State) → (tells → StandsFor s a.content) → LeavesOnly (StandsForEither s s) a b
  images_put result puts s stands =
      leaves_if tells a b (StandsForEither s s) lawful_a puts.passes (λ told.
      let found = has_of tells a lawful_a store may.agrees told s (stands told) in
      leaves_as a b (StandsFor (state_of found.0.view)) (StandsForEither s s) (puts.images found.0 (λ told. (found.1.is, (switches found.0 told found.1).given))) (λ image here. inl (subst (λ (t : State). StandsFor t image) found.2 here)))

  between_put : {T : Type 0} (result : Result T StoreFault) → Puts tells levels a b store later result → (s : State) → (tells → MaySpeakOf s a.content) → LeavesOnly (MaySpeakOfEither s s) a b
  between_put result puts s speaks = leaves_as a b (MaySpeakOf s) (MaySpeakOfEither s s) (puts.between s speaks) (λ image here. inl here)

  -- what a rewrite comes to
  rewritten : (told : tells) (o : Opened) (is : IsOpened o a.content) (outcome : Result Opened Full) → IsPut a.limit levels (view_of o (may.given o told is).0) o outcome → IsRewrite a.limit image kind o outcome
  rewritten told o is outcome put = record {
    there = (may.given o told is).0;
    have = (may.given o told is).1;
    levels = levels;
    read = read_is told o is;
    kind_is = kind_is told o is;
    ends = put.ends;
    next = put.next;
    location = put.location;
    given = put.given;
    comes = put.comes;
  }

  -- a place is wanting
  lacks_put : {T : Type 0} (result : Result T StoreFault) → Puts tells levels a b store later result → (o : Opened) (need gap : ℕ) → tells → IsOpened o a.content → result ≡ Err (faults.Full need gap)
      → IsRewrite a.limit image kind o (Err (record { need = need; gap = gap }))
  lacks_put result puts o need gap told is e =
      let given = may.given o told is in rewritten told o is (Err (record { need = need; gap = gap })) (puts.lacks o given.0 need gap told is given.1 given.2 e)

  narrow_put : {T : Type 0} (result : Result T StoreFault) → Puts tells levels a b store later result → (need gap : ℕ) → tells → result ≡ Err (faults.Full need gap) → IsNarrow a.limit b.content need gap
  narrow_put result puts need gap told e =
      let holds = may.agrees.content told in
      subst (λ (there : List ℕ). IsNarrow a.limit there need gap) (sym (puts.unwritten need gap e ∙ same_image told))
      (narrow_rewrite a.limit kind work_is holds.opened image (subst (IsOpened holds.opened) (same_image told) holds.is) need gap (lacks_put result puts holds.opened need gap told holds.is e))

  pub changes_put : (u : Result (Unit {0}) StoreFault) → OnOk u (later.job ≡ now.job) → Puts tells levels a b store later u
      → Changes tells work turns (λ s. s) NoRefusal 1 [] a b store later u
  changes_put (Ok x) job puts = record {
    done = record {
      agrees = puts.agrees;
      sound = puts.sound;
      knows = puts.knows;
      levels = λ same. absurd (not_other store.slot (sym same ∙ puts.slot));
      works = λ held told has.
          let to = switches held told has in
          let w = puts.works held to.job told has.is to.given in (
            w.0,
            to.is ∙ w.1,
            record {
              is = w.2;
              job = subst (λ (m : Option Merging). IsJobIn m w.0.job) (sym job) (to.goes w.0 w.1);
              well = well held w.0 (held_is_spaced held a.content has.is) has.well (to.is ∙ w.1);
            },
          );
      stands = λ s told was. ⊎_elim (λ here. here) (λ here. here) (leaves_now tells a b (StandsForEither s s) lawful_b (images_put (Ok x) puts s (λ t. was)) b.content (lawful_b.present told));
      speaks = λ s told was. leaves_now tells a b (MaySpeakOf s) lawful_b (puts.between s (λ t. was)) b.content (lawful_b.present told);
      becomes = λ o told is.
          let given = may.given o told is in
          let w = puts.becomes o given.0 told is given.1 given.2 in (
            w.0,
            becomes_by told o is (Ok w.0) (rewritten told o is (Ok w.0) w.1),
            w.2,
            w.3,
          );
    };
    failed = record {
      full = λ held need gap told has e. absurd (not_ok (faults.Full need gap) e);
      lacks = λ o need gap told is e. absurd (not_ok (faults.Full need gap) e);
      narrow = λ need gap told e. absurd (not_ok (faults.Full need gap) e);
      damage = λ told. finds_none NoRefusal a.content [] (Ok x) refl (λ place e. not_ok (faults.Damaged place) e);
      undamaged = λ s told stands place e. not_ok (faults.Damaged place) e;
      unread = λ told none place e. not_ok (faults.Damaged place) e;
      still = λ told place e. absurd (not_ok (faults.Damaged place) e);
      unwritten = λ told need gap e. absurd (not_ok (faults.Full need gap) e);
      only = tt;
      cause = λ e. absurd (not_ok faults.Disk e);
    };
    throughout = record {
      images = images_put (Ok x) puts;
      between = between_put (Ok x) puts;
      costs = puts.costs;
    };
  }
    where
      not_ok : (fault : StoreFault) → ◌≡◌ {A = Result (Unit {0}) StoreFault} (Ok x) (Err fault) → ⊥
      not_ok fault e = absurd cc
  changes_put (Err fault) job puts = record {
    done = record {
      agrees = tt;
      sound = tt;
      knows = λ s knows. tt;
      levels = tt;
      works = λ held told has. tt;
      stands = λ s told was. tt;
      speaks = λ s told was. tt;
      becomes = λ o told is. tt;
    };
    failed = record {
      full = λ held need gap told has e. let to = switches held told has in to.is ∙ puts.full held to.job need gap told has.is to.given e;
      lacks = λ o need gap told is e. becomes_by told o is (Err (record { need = need; gap = gap })) (lacks_put (Err fault) puts o need gap told is e);
      narrow = narrow_put (Err fault) puts;
      damage = λ told. finds_none NoRefusal a.content [] (Err fault) refl no_damage;
      undamaged = λ s told stands place e. no_damage place e;
      unread = λ told none place e. no_damage place e;
      still = λ told place e. absurd (no_damage place e);
      unwritten = λ told need gap e. puts.unwritten need gap e;
      only = ⊎_elim (λ outside. inl outside) (λ full. inr (inr (inl full))) puts.only;
      cause = puts.cause;
    };
    throughout = record {
      images = images_put (Err fault) puts;
      between = between_put (Err fault) puts;
      costs = puts.costs;
    };
  }
    where
      no_damage : (place : ℕ) → ◌≡◌ {A = Result (Unit {0}) StoreFault} (Err fault) (Err (faults.Damaged place)) → ⊥
      no_damage place e = ⊎_elim (λ outside. not_damaged {T = Unit {0}} fault outside place e) (λ (need, gap, is). not_full need gap is) puts.only
        where
          not_full : (need gap : ℕ) → fault ≡ faults.Full need gap → ⊥
          not_full need gap is = absurd cc

-- ---- behind a call that reads

module _ (tells : Type 0) (a b : DiskState) (lawful_a : IsLawful tells a) (lawful_b : IsLawful tells b) (store : Store) (agrees : Agrees tells a store) (bytes : ℕ) (reads : Reads tells bytes a b) where
  -- store and disk agree still
  pub agrees_read : Agrees tells b store
  agrees_read = record {
    settled = only_same tells a lawful_a agrees.settled b reads.images reads.content;
    content = λ told. subst (KeepsOpened store) (sym (reads.content told)) (agrees.content told);
    intact = agrees.intact;
    joins = λ told. subst (λ (image : List ℕ). GoesOnOver image (levels_of store) (gone_of store.catalog) store.job agrees.intact.joining) (sym (reads.content told)) (agrees.joins told);
    ahead = λ told. subst (StandsAhead store.tail.place store.ahead) (sym (reads.content told)) (agrees.ahead told);
  }

  images_read : (s : State) → (tells → StandsFor s a.content) → LeavesOnly (StandsForEither s s) a b
  images_read s stands =
      leaves_from tells a lawful_a agrees.settled (StandsForEither s s) (λ told. inl (stands told)) b Same reads.images (λ told z same. inl (subst (StandsFor s) (sym same) (stands told)))

  between_read : (s : State) → (tells → MaySpeakOf s a.content) → LeavesOnly (MaySpeakOfEither s s) a b
  between_read s speaks =
      leaves_from tells a lawful_a agrees.settled (MaySpeakOfEither s s) (λ told. inl (speaks told)) b Same reads.images (λ told z same. inl (subst (MaySpeakOf s) (sym same) (speaks told)))

-- a change behind a call that read these levels, of which none is damaged
pub changes_read : {T : Type 0} (tells : Type 0) (work : Work) (turns : Turns) (bytes : ℕ) (joins : List Tables) (a b c : DiskState) → IsLawful tells a → IsLawful tells b → (store later : Store) (result : Result T StoreFault) → Agrees tells a store
    → Reads tells (sum_by data_size joins) a b → (tells → (place : ℕ) → IsFirstDamage a.content joins place → ⊥) → Changes tells work turns (λ s. s) NoRefusal bytes [] b c store later result
    → Changes tells work turns (λ s. s) NoRefusal bytes joins a c store later result
changes_read {T} tells work turns bytes joins a b c lawful_a lawful_b store later result agrees reads whole change = record {
  done = record {
    agrees = change.done.agrees;
    sound = change.done.sound;
    knows = change.done.knows;
    levels = by_result_levels result change;
    works = by_result_works result change;
    stands = λ s told stands. change.done.stands s told (subst (StandsFor s) (sym (reads.content told)) stands);
    speaks = λ s told speaks. change.done.speaks s told (subst (MaySpeakOf s) (sym (reads.content told)) speaks);
    becomes = by_result_becomes result change;
  };
  failed = record {
    full = λ held need gap told has e. ap (λ (limit : ℕ). work limit held) (sym limit) ∙ change.failed.full held need gap told (read_has told held has) e;
    lacks = λ o need gap told is e. subst (λ (l : ℕ). turns l o (Err (record { need = need; gap = gap }))) limit (change.failed.lacks o need gap told (subst (IsOpened o) (sym (reads.content told)) is) e);
    narrow = λ need gap told e. subst (λ (l : ℕ). IsNarrow l c.content need gap) limit (change.failed.narrow need gap told e);
    damage = λ told. record {
      first = λ place e. absurd (change.failed.unread told refl place e);
      broken = λ place e. absurd (change.failed.unread told refl place e);
      damaged = λ place damage. absurd (whole told place damage);
    };
    undamaged = λ s told stands place e. change.failed.unread told refl place e;
    unread = λ told none place e. change.failed.unread told refl place e;
    still = λ told place e. absurd (change.failed.unread told refl place e);
    unwritten = λ told need gap e. change.failed.unwritten told need gap e ∙ reads.content told;
    only = change.failed.only;
    cause = λ e. rose_later a.faults b.faults c.faults reads.costs.faults (change.failed.cause e);
  };
  throughout = record {
    images = λ s stands.
        leaves_then a b c (StandsForEither s s) (images_read tells a b lawful_a lawful_b store agrees (sum_by data_size joins) reads s stands)
        (change.throughout.images s (λ told. subst (StandsFor s) (sym (reads.content told)) (stands told)));
    between = λ s speaks.
        leaves_then a b c (MaySpeakOfEither s s) (between_read tells a b lawful_a lawful_b store agrees (sum_by data_size joins) reads s speaks)
        (change.throughout.between s (λ told. subst (MaySpeakOf s) (sym (reads.content told)) (speaks told)));
    costs = record {
      faults = omega (arith, reads.costs.faults, change.throughout.costs.faults);
      taken_up = omega (arith, reads.costs.taken_up, change.throughout.costs.taken_up);
      taken = omega (arith, reads.costs.taken, change.throughout.costs.taken);
      limit = change.throughout.costs.limit ∙ limit;
    };
  };
}
  where
    limit : b.limit ≡ a.limit
    limit = reads.costs.limit

    read_has : tells → (held : Holding) → Has store held a.content → Has store held b.content
    read_has told held has = subst (Has store held) (sym (reads.content told)) has

    by_result_levels : (r : Result T StoreFault) → Changes tells work turns (λ s. s) NoRefusal bytes [] b c store later r → OnOk r (later.slot ≡ store.slot → HasSameLevels tells a c store later)
    by_result_levels (Ok x) change = λ same.
        let stay = change.done.levels same in
        record { tables = stay.tables; bytes = λ told. subst (λ (image : List ℕ). All (λ (level : Tables). bytes_at (extent_of level) c.content ≡ bytes_at (extent_of level) image) (levels_of store)) (reads.content told) (stay.bytes told) }
    by_result_levels (Err fault) change = tt

    by_result_works : (r : Result T StoreFault) → Changes tells work turns (λ s. s) NoRefusal bytes [] b c store later r
        → (held : Holding) → tells → Has store held a.content → OnOk r ((then : Holding) × (work a.limit held ≡ Ok then) × Has later then c.content)
    by_result_works (Ok x) change held told has =
        let w = change.done.works held told (read_has told held has) in
        (w.0, ap (λ (l : ℕ). work l held) (sym limit) ∙ w.1, w.2)
    by_result_works (Err fault) change held told has = tt

    by_result_becomes : (r : Result T StoreFault) → Changes tells work turns (λ s. s) NoRefusal bytes [] b c store later r
        → (o : Opened) → tells → IsOpened o a.content → OnOk r ((p : Opened) × turns a.limit o (Ok p) × IsOpened p c.content × Keeps later p)
    by_result_becomes (Ok x) change o told is =
        let w = change.done.becomes o told (subst (IsOpened o) (sym (reads.content told)) is) in
        (w.0, subst (λ (l : ℕ). turns l o (Ok w.0)) limit w.1, w.2, w.3)
    by_result_becomes (Err fault) change o told is = tt

-- the levels were not read
pub changes_unread : {T X : Type 0} (tells : Type 0) (work : Work) (turns : Turns) (bytes : ℕ) (joins : List Tables) (a b : DiskState) → IsLawful tells a → IsLawful tells b → (store later : Store) (fault : StoreFault) → Agrees tells a store
    → ((s : State) → tells → StandsFor s a.content → (contents : List Content) × AreSegmentsOn a.content joins contents) → ReadsLevels {T = X} tells joins a b (Err fault)
    → Changes {T = T} tells work turns (λ s. s) NoRefusal bytes joins a b store later (Err fault)
changes_unread {T} {X} tells work turns bytes joins a b lawful_a lawful_b store later fault agrees segments read = record {
  done = record {
    agrees = tt;
    sound = tt;
    knows = λ s knows. tt;
    levels = tt;
    works = λ held told has. tt;
    stands = λ s told stands. tt;
    speaks = λ s told speaks. tt;
    becomes = λ o told opened. tt;
  };
  failed = record {
    full = λ held need gap told has e. absurd (no_full need gap e);
    lacks = λ o need gap told opened e. absurd (no_full need gap e);
    narrow = λ need gap told e. absurd (no_full need gap e);
    damage = λ told.
        let d = read.damage told in record {
          first = λ place e. d.first place (carried (faults.Damaged place) e);
          broken = λ place e. d.broken place (carried (faults.Damaged place) e);
          damaged = λ place damage. (tt, (d.damaged place damage).1);
        };
    undamaged = λ s told stands place e. let found = segments s told stands in read.whole found.0 place told found.1 (carried (faults.Damaged place) e);
    unread = λ told none place e. read.unread told none place (carried (faults.Damaged place) e);
    still = λ told place e. read.reads.content told;
    unwritten = λ told need gap e. absurd (no_full need gap e);
    only = ⊎_elim (λ outside. inl outside) (λ damage. inr (inr (inr damage))) read.only;
    cause = λ e. read.cause (carried faults.Disk e);
  };
  throughout = record {
    images = images_read tells a b lawful_a lawful_b store agrees (sum_by data_size joins) read.reads;
    between = between_read tells a b lawful_a lawful_b store agrees (sum_by data_size joins) read.reads;
    costs = costs_more (sum_by data_size joins) (bytes + sum_by data_size joins) a b (omega arith) read.reads.costs;
  };
}
  where
    carried : (f : StoreFault) → ◌≡◌ {A = Result T StoreFault} (Err fault) (Err f) → ◌≡◌ {A = Result X StoreFault} (Err fault) (Err f)
    carried f e = ap (λ (g : StoreFault). Err g) (same fault f e)
      where
        same : (g h : StoreFault) → ◌≡◌ {A = Result T StoreFault} (Err g) (Err h) → g ≡ h
        same g h e = cc

    no_full : (need gap : ℕ) → ◌≡◌ {A = Result T StoreFault} (Err fault) (Err (faults.Full need gap)) → ⊥
    no_full need gap e =
        ⊎_elim (λ outside. ⊎_elim (λ (is : fault ≡ faults.Memory). absurd (not_memory is)) (λ (is : fault ≡ faults.Disk). absurd (not_disk is)) outside) (λ (place, is). absurd (not_place place is)) read.only
      where
        not_memory : fault ≡ faults.Memory → ⊥
        not_memory is = absurd cc

        not_disk : fault ≡ faults.Disk → ⊥
        not_disk is = absurd cc

        not_place : (place : ℕ) → fault ≡ faults.Damaged place → ⊥
        not_place place is = absurd cc
