-- One entry more, on a store and its disk.
use Rattle.std.proofs.Common.{◌≡◌, ℕ, ◌+◌, ◌<◌, ◌≤◌, true, false, Vec, Global, List, [], ◌∷◌, ◌++◌, length, get_or, map, take, inl, inr, ⊎_elim, refl, sym, ◌∙◌, ap, subst, arith}
use Rattle.std.specs.Prelude.{Option, Some, Result, Ok, Err}
use Rattle.std.specs.List.{All}
use Rattle.std.proofs.lemmas.List.Elements.{All-tail}
use Rattle.alta_layout.specs.Places.{half_start}
use Rattle.alta_layout.specs.declared.slot.Slot.{Slot}
use Rattle.alta_catalog.specs.Knowing.{Follows, KnowsBy, gone_of}
use Rattle.alta_catalog.proofs.KnownLaws.{entered as may_enter}
use Rattle.alta_catalog.proofs.MayLaws.{may_be}
use Rattle.alta_catalog.proofs.ReplaceLaws.{is_number, named_is}
use Rattle.alta_codec.specs.Faults.{Rose}
use Rattle.alta_codec.proofs.ByteLaws.{lacks_byte}
use Rattle.alta_content.specs.Rows.{AreDocuments, end_of, ends_among}
use Rattle.alta_content.specs.declared.document.DocRow.{DocRow}
use Rattle.alta_disk.specs.Calls.{Costs}
use Rattle.alta_disk.specs.Disk.{DiskState, IsLawful, Only, Passes, Stands, LeavesOnly}
use Rattle.alta_disk.proofs.Moments.{stands_only, leaves_from}
use Rattle.alta_meaning.specs.Entries.{Allows, after_entries, after_entry, IsDocument}
use Rattle.alta_meaning.specs.Holding.{Holding, IsHeld}
use Rattle.alta_meaning.specs.Opened.{Opened, IsOpened, table_rows, extent_of}
use Rattle.alta_meaning.specs.Standing.{StandsFor, StandsForEither}
use Rattle.alta_machine.specs.Changes.{number_of, with_added, with_deleted, with_replaced, without}
use Rattle.alta_meaning.specs.Switching.{MayAppend, with_entry}
use Rattle.alta_meaning.specs.Views.{View}
use Rattle.alta_meaning.specs.Work.{enters, fits, needs_raise}
use Rattle.alta_meaning.specs.Working.{entered}
use Rattle.alta_meaning.proofs.AppendLaws.{opened_appended, opened_appending, stands_appended, stands_appending}
use Rattle.alta_meaning.proofs.Entering.{after_more}
use Rattle.alta_meaning.proofs.HeldLaws.{held_appended}
use Rattle.alta_meaning.proofs.KeptStates.{unmap}
use Rattle.alta_meaning.proofs.SwitchLaws.{extents_clear}
use Rattle.alta_meaning.proofs.Untouched.{IsSame, extents_same}
use Rattle.alta_meaning.proofs.Tests.{equal_test}
use Rattle.alta_meaning.proofs.WellLaws.{by_raise, by_room, work_well}
use Rattle.alta_joins.proofs.KeptLaws.{held_is_spaced}
use Rattle.alta_journal.specs.declared.appending.JournalFault.{JournalFault}
use Rattle.alta_journal.specs.declared.appending.JournalFault.TheVariants.{Disk as JournalDisk, Full as JournalFull}
use Rattle.alta_journal.specs.Entry.{IsTyped, KeepTexts, KeepsRules, MayBeRecorded}
use Rattle.alta_journal.specs.Journal.{Appended, Appends, StandsAhead}
use Rattle.alta_journal.specs.Places.{HasClosedGate, left_behind}
use Rattle.alta_journal.specs.Record.{body_of, record_of}
use Rattle.alta_journal.specs.declared.entry.Entry.{Entry}
use Rattle.alta_journal.specs.declared.entry.Entry.TheVariants.{Add, Delete, Replace}
use Rattle.alta_journal.proofs.Frames.{appends_touch, ends_closed}
use Rattle.alta_merge.specs.Merging.{Merging}
use Rattle.alta_machine.specs.declared.document.State.{State}
use Rattle.alta_root.specs.Root.{extents_of}
use Rattle.alta_root.specs.declared.root.Root.{Root}
use Rattle.alta_root.proofs.Frames.{counts_sound}
use Rattle.alta_store.specs.Agreement.{Agrees, GoesOnOver, Has, IsJobIn, Keeps, Knows, MayGoOn, MaySpeakOf, MaySpeakOfEither, levels_of, room_of}
use Rattle.alta_store.specs.Calls.{Enters, IsStepFrom, IsStepOf, NoRefusal, needs_room}
use Rattle.alta_store.specs.declared.store.Store.{Store}
use Rattle.alta_store.specs.declared.fault.StoreFault.{StoreFault}
use Rattle.alta_store.specs.declared.fault.StoreFault.TheVariants.{Damaged as StoreDamaged, Disk as StoreDisk, Full as StoreFull}
use Rattle.alta_store.proofs.Agreements.{kept, knows_of, knows_spoken, opened_of}
use Rattle.alta_store.proofs.Changing.{finds_none, finds_outside, not_damaged}
use Rattle.alta_store.proofs.GoingOn.{goes_on_over, goes_on_there}
use Rattle.alta_store.proofs.Naming.{named_at, number_alike}
use Rattle.alta_store.proofs.Room.{fits_room, journal_fits, le_true, may_record, raised_not, short_of}
use Rattle.alta_store.proofs.Speaking.{may_append}
use Rattle.alta_table.specs.Tables.{Tables}

-- what the journal asks of a document
pub keeps_texts : (name title body : List ℕ) → IsDocument name title body → KeepTexts name title body
keeps_texts name title body d = (
  d.named,
  lacks_byte 9 title d.title_is_a_field,
  lacks_byte 10 title d.title_is_a_line,
  lacks_byte 10 body d.body_is_a_line,
  d.short,
)

-- a record that fits is not found too long
pub never_full : (fault : JournalFault) (need left : ℕ) → fault ≡ JournalFull need left → fault ≡ JournalDisk → ⊥
never_full fault need left full disk = absurd cc

pub ap_err : {T : Type 0} {fault other : JournalFault} → fault ≡ other → ◌≡◌ {A = Result T JournalFault} (Err fault) (Err other)
ap_err {T} is = ap (λ (f : JournalFault). Err f) is

ok_fails : {T : Type 0} (x : T) (fault : StoreFault) → ◌≡◌ {A = Result T StoreFault} (Ok x) (Err fault) → ⊥
ok_fails x fault e = absurd cc

module _ (tells : Type 0) (a : DiskState) (lawful : IsLawful tells a) (store : Store) (agrees : Agrees tells a store) where
  -- a record may be appended
  pub closed : Stands tells a (HasClosedGate store.tail.place)
  closed = stands_only tells a (HasClosedGate store.tail.place) lawful agrees.settled (λ told.
      let held = agrees.content told in
      subst (λ (place : ℕ). HasClosedGate place a.content) (sym held.keeps.place)
      (ends_closed held.opened.root.version (half_start held.opened.slot) held.opened.tail held.opened.entries a.content (journal_fits held.opened.slot) held.is.named.journal))

  -- and its body may stand there
  pub ahead : Stands tells a (StandsAhead store.tail.place store.ahead)
  ahead = stands_only tells a (StandsAhead store.tail.place store.ahead) lawful agrees.settled agrees.ahead

  -- one entry more, which each state that the store knows allows, and for which there is room
  module _ (entry : Entry) (keeps_rules : KeepsRules entry) (typed : IsTyped entry) (allowed : (s : State) → Knows store s → Allows s entry) (room : needs_room store entry ≡ false) where
    short : length (body_of entry) ≤ room_of store
    short = short_of store entry room

    -- the root's version may have its record
    pub recorded : MayBeRecorded store.root.version entry
    recorded = may_record store.root.version entry keeps_rules typed (raised_not store entry room)

    still_held : (told : tells) (held : Holding) → IsHeld held a.content → needs_raise held.view.version entry ≡ false
    still_held told held has =
        ap (λ (view : View). needs_raise view.version entry) has.view_is
        ∙ ap (λ (root : Root). needs_raise root.version entry) (sym (kept store a.content (agrees.content told) has.opened has.is).root) ∙ raised_not store entry room

    fits_held : (told : tells) (held : Holding) → IsHeld held a.content → fits held.view.entries entry ≡ true
    fits_held told held has =
        ap (λ (view : View). fits view.entries entry) has.view_is
        ∙ fits_room store has.opened a.content (kept store a.content (agrees.content told) has.opened has.is) has.is entry ∙ le_true (length (body_of entry)) (room_of store) short

    may : (told : tells) (o : Opened) (is : IsOpened o a.content) → MayAppend entry o is.named.known
    may told o is =
        let keeps = kept store a.content (agrees.content told) o is in
        let s = may_be o in
        may_append o a.content is s.0 s.1 entry (allowed s.0 (keeps.knows s.0 s.1).0) (subst (λ (root : Root). MayBeRecorded root.version entry) keeps.root recorded) (omega (arith, short, ap half_start keeps.half, keeps.place, store.tail.starts, store.tail.ends))

    module _ (b : DiskState) (run : Passes (Appends store.root.version (half_start store.tail.slot) store.tail.place entry) a b) where
      here : (told : tells) (o : Opened) → IsOpened o a.content → (z : List ℕ) → Appends store.root.version (half_start store.tail.slot) store.tail.place entry a.content z → Appends o.root.version (half_start o.slot) o.tail entry a.content z
      here told o is z step =
          let keeps = kept store a.content (agrees.content told) o is in
          subst (λ (root : Root). Appends root.version (half_start o.slot) o.tail entry a.content z) keeps.root
          (subst (λ (place : ℕ). Appends store.root.version (half_start o.slot) place entry a.content z) keeps.place
          (subst (λ (h : Slot). Appends store.root.version (half_start h) store.tail.place entry a.content z) keeps.half step))

      -- at each moment the image stands for the state before or after
      pub either : (s t : State) → (tells → StandsFor s a.content) → (tells → after_entry s entry ≡ t) → LeavesOnly (StandsForEither s t) a b
      either s t stands after_is =
          leaves_from tells a lawful agrees.settled (StandsForEither s t)
          (λ told. inl (stands told)) b (Appends store.root.version (half_start store.tail.slot) store.tail.place entry) run
          (λ told z step.
          let was = stands told in
          let is = opened_of s a.content was in
          ⊎_elim (λ still. inl still) (λ more. inr (subst (λ (u : State). StandsFor u z) (after_is told) more))
          (stands_appending s entry a.content z was (may told was.opened is) (here told was.opened is z step)))

      -- and may speak of the state before or after
      either_speaks : (s t : State) → (tells → MaySpeakOf s a.content) → (tells → after_entry s entry ≡ t) → LeavesOnly (MaySpeakOfEither s t) a b
      either_speaks s t speaks after_is =
          leaves_from tells a lawful agrees.settled (MaySpeakOfEither s t)
          (λ told. inl (speaks told)) b (Appends store.root.version (half_start store.tail.slot) store.tail.place entry) run
          (λ told z step.
          let was = speaks told in
          ⊎_elim (λ still. inl (record { opened = was.opened; is = still; may = was.may }))
          (λ more. inr (subst (λ (u : State). MaySpeakOf u z) (after_is told) (record { opened = with_entry was.opened entry; is = more; may = may_enter s was.opened entry was.may })))
          (opened_appending was.opened entry a.content z was.is (may told was.opened was.is) (here told was.opened was.is z step)))

      -- a call of the disk failed
      pub enters_failed : {T : Type 0} (later : Store) (turn : State → State) → IsStepOf entry turn store → (fault : StoreFault) → fault ≡ StoreDisk → Rose a.faults b.faults → Costs 0 a b
          → Enters {T = T} tells entry turn a b store later (Err fault)
      enters_failed {T} later turn turns fault is rose costs = record {
        done = record {
          agrees = tt;
          sound = tt;
          knows = λ s k. tt;
          levels = tt;
          works = λ held told has. tt;
          stands = λ s told stands. tt;
          speaks = λ s told speaks. tt;
          becomes = λ o told opened. tt;
        };
        failed = record {
          full = λ held need gap told has failed. absurd (not_full need gap failed);
          lacks = λ o need gap told opened failed. absurd (not_full need gap failed);
          narrow = λ need gap told failed. absurd (not_full need gap failed);
          damage = λ told. finds_outside NoRefusal a.content [] fault (inr is) (not_damaged fault (inr is));
          undamaged = λ s told stands place failed. not_damaged fault (inr is) place failed;
          unread = λ told none place failed. not_damaged fault (inr is) place failed;
          still = λ told place failed. absurd (not_damaged fault (inr is) place failed);
          unwritten = λ told need gap failed. absurd (not_full need gap failed);
          only = inl (inr is);
          cause = λ failed. rose;
        };
        throughout = record {
          images = λ s stands. either s (turn s) stands (λ told. turns s (knows_of tells a store agrees s told (stands told)));
          between = λ s speaks. either_speaks s (turn s) speaks (λ told. turns s (knows_spoken tells a store agrees s told (speaks told)));
          costs = costs;
        };
      }
        where
          not_full : (need gap : ℕ) → ◌≡◌ {A = Result T StoreFault} (Err fault) (Err (StoreFull need gap)) → ⊥
          not_full need gap failed = absurd cc

      module _ (lawful_b : IsLawful tells b) (durable : Only b.content b.images)
          (appended : tells → Appended store.root.version (half_start store.tail.slot) store.tail.place entry a.content b.content) where
        step : tells → Appends store.root.version (half_start store.tail.slot) store.tail.place entry a.content b.content
        step told =
            let after = run.now b.content (lawful_b.present told) in
            subst (λ (d : List ℕ). Appends store.root.version (half_start store.tail.slot) store.tail.place entry d b.content) (agrees.settled after.0 after.1) after.2

        done : (told : tells) (o : Opened) → IsOpened o a.content → Appended o.root.version (half_start o.slot) o.tail entry a.content b.content
        done told o is =
            let keeps = kept store a.content (agrees.content told) o is in
            subst (λ (root : Root). Appended root.version (half_start o.slot) o.tail entry a.content b.content) keeps.root
            (subst (λ (place : ℕ). Appended store.root.version (half_start o.slot) place entry a.content b.content) keeps.place
            (subst (λ (h : Slot). Appended store.root.version (half_start h) store.tail.place entry a.content b.content) keeps.half (appended told)))

        -- the content is opened with the entry as its last
        opened_more : (told : tells) (o : Opened) → IsOpened o a.content → IsOpened (with_entry o entry) b.content
        opened_more told o is = opened_appended o entry a.content b.content is (may told o is) (here told o is b.content (step told)) (done told o is)

        -- and stands for the state after
        pub stands_after : (s t : State) → tells → StandsFor s a.content → after_entry s entry ≡ t → StandsFor t b.content
        stands_after s t told stands after_is =
            let is = opened_of s a.content stands in
            subst (λ (u : State). StandsFor u b.content) after_is
            (stands_appended s entry a.content b.content stands (may told stands.opened is) (here told stands.opened is b.content (step told)) (done told stands.opened is))

        -- what is held goes on with the entry
        held_more : (told : tells) (held : Holding) → IsHeld held a.content → IsHeld (entered held entry) b.content
        held_more told held is =
            held_appended held entry a.content b.content is (may told is.opened is.is) (here told is.opened is.is b.content (step told)) (done told is.opened is.is)

        module _ (later : Store) (slot_is : later.slot ≡ store.slot) (root_is : later.root ≡ store.root) (listed_is : later.listed ≡ store.listed) (place_is : later.tail.place ≡ store.tail.place + length (record_of entry))
            (half_is : later.tail.slot ≡ store.tail.slot) (job_is : later.job ≡ store.job) (sound_is : later.sound ≡ store.sound) (levels_are : levels_of later ≡ levels_of store)
            (still : (row : DocRow) → ends_among (gone_of store.catalog) row ≡ true → ends_among (gone_of later.catalog) row ≡ true)
            (follows : (root : Root) (entries : List Entry) → Follows store.catalog root entries → Follows later.catalog root (entries ++ entry ∷ []))
            (knows : (s : State) → (k : Knows store s) → KnowsBy later.catalog k.olds (after_entry s entry))
            (stands_ahead : tells → StandsAhead later.tail.place later.ahead b.content) where
          keeps_more : (told : tells) (o : Opened) → IsOpened o a.content → Keeps later (with_entry o entry)
          keeps_more told o is =
              let keeps = kept store a.content (agrees.content told) o is in
              record {
                slot = slot_is ∙ keeps.slot;
                root = root_is ∙ keeps.root;
                listed = ap (λ (v : Vec ℕ Global). v.items) listed_is ∙ keeps.listed;
                half = half_is ∙ keeps.half;
                place = place_is ∙ ap (λ (n : ℕ). n + length (record_of entry)) keeps.place;
                levels = levels_are ∙ keeps.levels;
                extents = keeps.extents;
                follows = follows o.root o.entries keeps.follows;
                knows = λ s may.
                    let before : State = after_entries may.start o.entries in
                    let was = keeps.knows before (record { start = may.start; starts = may.starts; state_is = refl }) in
                    let now = knows before was.0 in
                    subst (KnowsBy later.catalog may.starts.olds) (sym (may.state_is ∙ after_more may.start o.entries entry)) (now.0, now.1 ∙ was.1);
              }

          -- the levels have the bytes that they had
          same_levels : (told : tells) → All (IsSame a.content b.content) (map extent_of (levels_of store))
          same_levels told =
              let holds = agrees.content told in
              let o = holds.opened in
              let n = 1 + left_behind (half_start o.slot) o.tail in
              let range : List (ℕ × ℕ) = (o.tail, n) ∷ [] in
              let touches = appends_touch o.root.version (half_start o.slot) o.tail entry a.content b.content (here told o holds.is b.content (step told)) in
              let clear = extents_clear o.tail n (length a.content) o.root (omega (arith, journal_fits o.slot, (may told o holds.is).fits)) (counts_sound o.slot o.root a.content holds.is.counts) in
              subst (λ (levels : List Tables). All (IsSame a.content b.content) (map extent_of levels)) (sym holds.keeps.levels)
              (subst (All (IsSame a.content b.content)) (sym holds.keeps.extents)
              (All-tail (IsSame a.content b.content) o.root.deletions o.root.levels.items (extents_same range a.content b.content (extents_of o.root) touches clear)))

          -- the join goes on
          going : (on : MayGoOn (levels_of later) (gone_of later.catalog) later.job)
              × ((image : List ℕ) → GoesOnOver image (levels_of store) (gone_of store.catalog) store.job agrees.intact.joining → GoesOnOver image (levels_of later) (gone_of later.catalog) later.job on)
          going =
              subst (λ (job : Option Merging). (on : MayGoOn (levels_of later) (gone_of later.catalog) job)
              × ((image : List ℕ) → GoesOnOver image (levels_of store) (gone_of store.catalog) store.job agrees.intact.joining → GoesOnOver image (levels_of later) (gone_of later.catalog) job on))
              (sym job_is)
              (goes_on_over (levels_of store) (levels_of later) (gone_of store.catalog) (gone_of later.catalog) store.job (ap (take 2) levels_are) (λ k d within. still (get_or (table_rows (levels_of store)) k d)) agrees.intact.joining)

          -- store and disk agree
          agrees_after : Agrees tells b later
          agrees_after = record {
            settled = durable;
            content = λ told.
                let held = agrees.content told in
                record { opened = with_entry held.opened entry; is = opened_more told held.opened held.is; keeps = keeps_more told held.opened held.is };
            intact = record {
              state = after_entry agrees.intact.state entry;
              knows = (knows agrees.intact.state agrees.intact.knows).0;
              entries = agrees.intact.entries ++ entry ∷ [];
              follows = subst (λ (root : Root). Follows later.catalog root (agrees.intact.entries ++ entry ∷ [])) (sym root_is) (follows store.root agrees.intact.entries agrees.intact.follows);
              below = subst (λ (levels : List Tables). All (λ (row : DocRow). (row.number < later.root.next_number) × (end_of row < later.root.next_location)) (table_rows levels)) (sym levels_are)
                  (subst (λ (root : Root). All (λ (row : DocRow). (row.number < root.next_number) × (end_of row < root.next_location)) (table_rows (levels_of store))) (sym root_is) agrees.intact.below);
              documents = subst (λ (levels : List Tables). AreDocuments (table_rows levels)) (sym levels_are) agrees.intact.documents;
              extents = ap (map extent_of) levels_are ∙ agrees.intact.extents ∙ ap (λ (root : Root). root.levels.items) (sym root_is);
              joining = going.0;
            };
            joins = λ told. going.1 b.content (goes_on_there a.content b.content (levels_of store) (gone_of store.catalog) store.job agrees.intact.joining (same_levels told) (agrees.joins told));
            ahead = stands_ahead;
          }

          -- what is held has the entry
          has_more : (told : tells) (held : Holding) → Has store held a.content → Has later (entered held entry) b.content
          has_more told held has = record {
            is = held_more told held has.is;
            job = subst (λ (job : Option Merging). IsJobIn job held.job) (sym job_is) has.job;
            well = work_well a.limit held (entered held entry) (enters entry) (held_is_spaced held a.content has.is) has.well
                (ap (by_raise a.limit held entry) (still_held told held has.is) ∙ ap (by_room a.limit held entry) (fits_held told held has.is));
          }

          -- the entry was entered
          pub enters_ok : {T : Type 0} (turn : State → State) → IsStepOf entry turn store → (x : T) → Costs 0 a b → Enters tells entry turn a b store later (Ok x)
          enters_ok turn turns x costs = record {
            done = record {
              agrees = agrees_after;
              sound = sound_is;
              knows = λ s k. subst (Knows later) (turns s k) (knows s k).0;
              levels = λ here. record { tables = levels_are; bytes = λ told. unmap (IsSame a.content b.content) extent_of (levels_of store) (same_levels told) };
              works = λ held told has. (entered held entry, refl, has_more told held has);
              stands = λ s told stands. stands_after s (turn s) told stands (turns s (knows_of tells a store agrees s told stands));
              speaks = λ s told was.
                  subst (λ (u : State). MaySpeakOf u b.content) (turns s (knows_spoken tells a store agrees s told was))
                  (record { opened = with_entry was.opened entry; is = opened_more told was.opened was.is; may = may_enter s was.opened entry was.may });
              becomes = λ o told is. (with_entry o entry, refl, opened_more told o is, keeps_more told o is);
            };
            failed = record {
              full = λ held need gap told has failed. absurd (ok_fails x (StoreFull need gap) failed);
              lacks = λ o need gap told is failed. absurd (ok_fails x (StoreFull need gap) failed);
              narrow = λ need gap told failed. absurd (ok_fails x (StoreFull need gap) failed);
              damage = λ told. finds_none NoRefusal a.content [] (Ok x) refl (λ place failed. ok_fails x (StoreDamaged place) failed);
              undamaged = λ s told stands place failed. ok_fails x (StoreDamaged place) failed;
              unread = λ told none place failed. ok_fails x (StoreDamaged place) failed;
              still = λ told place failed. absurd (ok_fails x (StoreDamaged place) failed);
              unwritten = λ told need gap failed. absurd (ok_fails x (StoreFull need gap) failed);
              only = tt;
              cause = λ failed. absurd (ok_fails x StoreDisk failed);
            };
            throughout = record {
              images = λ s stands. either s (turn s) stands (λ told. turns s (knows_of tells a store agrees s told (stands told)));
              between = λ s speaks. either_speaks s (turn s) speaks (λ told. turns s (knows_spoken tells a store agrees s told (speaks told)));
              costs = costs;
            };
          }

-- ---- which entries the documents allow

-- an add of a name that is free, while numbers are left
pub add_steps : (store : Store) (name title body : List ℕ) → IsStepFrom (Add name title body) (with_added name title body) store
add_steps store name title body = λ later s knows now t known. refl

-- the document of a name
module _ (store : Store) (name : List ℕ) (number : ℕ) (named : (s : State) → Knows store s → number_of name s ≡ Some number) where
  pub delete_allowed : (s : State) → Knows store s → Allows s (Delete number)
  delete_allowed s knows = (named_at store s knows name number (named s knows)).0

  without_is : (later : Store) (s : State) → Knows store s → Knows later s → (t : State) → Knows later t → without number t ≡ with_deleted name t
  without_is later s knows now t known = (named_at later t known name number (number_alike later s now t known name ∙ named s knows)).1

  pub delete_steps : IsStepFrom (Delete number) (with_deleted name) store
  delete_steps = λ later s knows now t known. without_is later s knows now t known

  -- is replaced, while numbers are left
  pub replace_allowed : (title body : List ℕ) → ((s : State) → Knows store s → s.next < 4294967296) → (s : State) → Knows store s → Allows s (Replace number name title body)
  replace_allowed title body left s knows = (
    sym (named_is name number s knows.notes.ordered) ∙ ap (λ (o : Option ℕ). is_number o number) (named s knows) ∙ equal_test number number refl,
    left s knows,
  )

  pub replace_steps : (title body : List ℕ) → IsStepFrom (Replace number name title body) (with_replaced name title body) store
  replace_steps title body = λ later s knows now t known. ap (with_added name title body) (without_is later s knows now t known)
