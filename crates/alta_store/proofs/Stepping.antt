-- A step whose join goes on, and a merge of all levels.
use Rattle.std.proofs.Common.{◌≡◌, inl, inr, ℕ, ◌+◌, ◌<◌, ◌≤◌, Bool, false, cond, List, [], ◌∷◌, ◌++◌, length, refl, sym, ◌∙◌, ap, subst, arith, Result, Ok, Err}
use Rattle.std.specs.Prelude.{nat_le, OnOk, Option, Some, None}
use Rattle.std.specs.List.{All, sum_by}
use Rattle.std.proofs.lemmas.List.Elements.{All-cons, All-nil, All-weaker}
use Rattle.alta_catalog.specs.Knowing.{gone_of, memory_of, newest_of}
use Rattle.alta_content.specs.Parts.{IsPart}
use Rattle.alta_content.specs.Rows.{end_of, live_rows}
use Rattle.alta_content.specs.declared.content.Content.{Content}
use Rattle.alta_content.specs.declared.document.DocRow.{DocRow}
use Rattle.alta_disk.specs.Calls.{Reads}
use Rattle.alta_disk.specs.Disk.{DiskState, IsLawful}
use Rattle.alta_disk.proofs.Moments.{leaves_start}
use Rattle.alta_meaning.specs.Holding.{Holding}
use Rattle.alta_meaning.specs.Opened.{Opened, IsOpened, table_rows}
use Rattle.alta_meaning.specs.Standing.{StandsForEither}
use Rattle.alta_meaning.specs.Work.{Job, merges, steps}
use Rattle.alta_meaning.specs.Working.{moved, worked}
use Rattle.alta_meaning.proofs.KeptStates.{added_behind, added_high}
use Rattle.alta_meaning.proofs.KnownLaws.{all_both}
use Rattle.alta_meaning.proofs.Tests.{by_test}
use Rattle.alta_meaning.proofs.WellLaws.{by_terms, work_well}
use Rattle.alta_joins.specs.Contents.{AreContentsOf, AreSegmentsOn, data_size}
use Rattle.alta_joins.specs.Damages.{IsFirstDamage}
use Rattle.alta_joins.specs.Jobs.{AreJoinedOn, IsMerging, moved_by}
use Rattle.alta_joins.specs.Newest.{IsNewest}
use Rattle.alta_joins.proofs.JoiningLaws.{joining_moved}
use Rattle.alta_joins.proofs.KeptLaws.{held_is_spaced}
use Rattle.alta_journal.specs.declared.entry.Entry.{Entry}
use Rattle.alta_memlevel.specs.Added.{Added, HasContent, IsInSpace, IsSpace}
use Rattle.alta_memlevel.specs.Documents.{AreMade, IsBefore, content_of}
use Rattle.alta_merge.specs.Merging.{Merging}
use Rattle.alta_rewrite.specs.Rewrites.{Replaces, levels_to_come, no_content}
use Rattle.alta_root.specs.declared.root.Root.{Root}
use Rattle.alta_rewrite.specs.declared.levels.NextLevels.{NextLevels}
use Rattle.alta_rewrite.proofs.JoinedLaws.{merge_is}
use Rattle.alta_store.specs.Agreement.{Agrees, Has, IsIntact, IsJobIn, Keeps, MaySpeakOf, MaySpeakOfEither, levels_of}
use Rattle.alta_store.specs.Calls.{Becomes, HaveLists, JoinsAll, NoRefusal, Obeys, ends_join, is_one}
use Rattle.alta_store.specs.Putting.{IsDrained, MayPut, Puts}
use Rattle.alta_store.specs.declared.fault.StoreFault.{StoreFault}
use Rattle.alta_store.specs.declared.fault.StoreFault.TheVariants as faults
use Rattle.alta_store.specs.declared.store.Store.{Store}
use Rattle.alta_store.proofs.Agreements.{images_have, images_stand, kept}
use Rattle.alta_store.proofs.Changing.{costs_none, finds_none, stay_here}
use Rattle.alta_store.proofs.Flushing.{ObeysOver, step_reads, two_of}
use Rattle.alta_store.proofs.Idling.{one_held}
use Rattle.alta_store.proofs.Joining.{IsJoinOf, ends_as, job_held, switched_job}
use Rattle.alta_store.proofs.Tasks.{HasNewest, all_held, all_kind_put, all_may, all_read}
use Rattle.alta_store.proofs.Working.{Switches, agrees_read, changes_put, changes_read}
use Rattle.alta_table.specs.Tables.{Tables}
use Rattle.alta_content.specs.Joining.{joined_in, terms_in}

-- ---- a join that goes on

-- the store, with this join going on
abbrev pub with_join : Store → Merging → Store
with_join store merging = record {
  alloc = store.alloc;
  slot = store.slot;
  root = store.root;
  listed = store.listed;
  tail = store.tail;
  catalog = store.catalog;
  job = Some merging;
  ahead = store.ahead;
  guess = store.guess;
  sound = store.sound;
}

-- and without one
abbrev pub without_join : Store → Store
without_join store = record {
  alloc = store.alloc;
  slot = store.slot;
  root = store.root;
  listed = store.listed;
  tail = store.tail;
  catalog = store.catalog;
  job = None;
  ahead = store.ahead;
  guess = store.guess;
  sound = store.sound;
}

less_of : (m n : ℕ) → nat_le m n ≡ false → n < m
less_of m n e = grind (arith, e)

module _ (tells : Type 0) (a : DiskState) (lawful : IsLawful tells a) (store : Store) (agrees : Agrees tells a store) (merging : Merging) (join : IsJoinOf tells a.content store merging)
    (n : ℕ) (more : Merging) (moves : (j : Job) → IsMerging merging j → IsMerging more (moved_by j n))
    (goes_on : (j : Job) → IsMerging merging j → nat_le (length (terms_in (j.older ∷ j.newer ∷ []))) (j.merged + n) ≡ false) where
  abbrev later : Store
  later = with_join store more

  keeps_join : (o : Opened) → Keeps store o → Keeps later o
  keeps_join o keeps = record {
    slot = keeps.slot;
    root = keeps.root;
    listed = keeps.listed;
    half = keeps.half;
    place = keeps.place;
    levels = keeps.levels;
    extents = keeps.extents;
    follows = keeps.follows;
    knows = keeps.knows;
  }

  agrees_join : Agrees tells a later
  agrees_join =
      let j = join.joining.job in
      let on = joining_moved (levels_of store) (gone_of store.catalog) merging join.joining more n (moves j join.joining.is) (less_of (length (terms_in (j.older ∷ j.newer ∷ []))) (j.merged + n) (goes_on j join.joining.is)) in
      record {
        settled = agrees.settled;
        content = λ told. let holds = agrees.content told in record { opened = holds.opened; is = holds.is; keeps = keeps_join holds.opened holds.keeps };
        intact = record {
          state = agrees.intact.state;
          knows = agrees.intact.knows;
          entries = agrees.intact.entries;
          follows = agrees.intact.follows;
          below = agrees.intact.below;
          documents = agrees.intact.documents;
          extents = agrees.intact.extents;
          joining = on.0;
        };
        joins = λ told. on.2 a.content (join.over told);
        ahead = agrees.ahead;
      }

  -- what is held then
  held_join : Holding → Job → Holding
  held_join held j = record { view = held.view; list = held.list; job = Some (moved_by j n) }

  works_join : (held : Holding) → tells → Has store held a.content → (then : Holding) × (worked a.limit held (steps n) ≡ Ok then) × Has later then a.content
  unfolding held_join
  works_join held told has =
      let j = job_held tells a lawful store agrees merging join told held has in
      let is : worked a.limit held (steps n) ≡ Ok (held_join held j.0) = ap (moved a.limit held n) j.1 ∙ ap (by_terms a.limit held n j.0) (goes_on j.0 j.2) in (
        held_join held j.0,
        is,
        record {
          is = record { opened = has.is.opened; is = has.is.is; are = has.is.are; view_is = has.is.view_is; list_is = has.is.list_is };
          job = moves j.0 j.2;
          well = work_well a.limit held (held_join held j.0) (steps n) (held_is_spaced held a.content has.is) has.well is;
        },
      )

  changes_join : (image : List ℕ) (u : Unit {0}) → ObeysOver tells (steps n) image [] a a store later (Ok u)
  changes_join image u = record {
    done = record {
      agrees = agrees_join;
      sound = refl;
      knows = λ s knows. knows;
      levels = λ here. stay_here tells a store later refl;
      works = works_join;
      stands = λ s told stands. stands;
      speaks = λ s told speaks. speaks;
      becomes = λ o told is.
          let keeps = kept store a.content (agrees.content told) o is in
          (o, inl (ap (ends_join n store.job) (sym keeps.levels) ∙ ends_as tells a.content store merging join n false goes_on, refl), is, keeps_join o keeps);
    };
    failed = record {
      full = λ held need gap told has e. absurd (not_ok (faults.Full need gap) e);
      lacks = λ o need gap told is e. absurd (not_ok (faults.Full need gap) e);
      narrow = λ need gap told e. absurd (not_ok (faults.Full need gap) e);
      damage = λ told. finds_none NoRefusal a.content [] (Ok u) refl (λ place e. not_ok (faults.Damaged place) e);
      undamaged = λ s told stands place e. not_ok (faults.Damaged place) e;
      unread = λ told none place e. not_ok (faults.Damaged place) e;
      still = λ told place e. absurd (not_ok (faults.Damaged place) e);
      unwritten = λ told need gap e. absurd (not_ok (faults.Full need gap) e);
      only = tt;
      cause = λ e. absurd (not_ok faults.Disk e);
    };
    throughout = record {
      images = λ s stands. leaves_start tells a (StandsForEither s s) lawful (λ image here. inl (images_stand tells a s lawful agrees.settled stands image here));
      between = λ s speaks. leaves_start tells a (MaySpeakOfEither s s) lawful (λ image here. inl (images_have tells a (MaySpeakOf s) lawful agrees.settled speaks image here));
      costs = costs_none 1 a;
    };
  }
    where
      not_ok : (fault : StoreFault) → ◌≡◌ {A = Result (Unit {0}) StoreFault} (Ok u) (Err fault) → ⊥
      not_ok fault e = absurd cc

-- behind a call that read the two oldest levels
pub step_moves : (tells : Type 0) (a b : DiskState) → IsLawful tells a → IsLawful tells b → (store : Store) → Agrees tells a store → Reads tells (sum_by data_size (two_of store)) a b
    → (tells → (place : ℕ) → IsFirstDamage a.content (two_of store) place → ⊥) → 2 ≤ length (levels_of store) → (merging : Merging) → IsJoinOf tells a.content store merging → (n : ℕ) → (more : Merging)
    → ((j : Job) → IsMerging merging j → IsMerging more (moved_by j n)) → ((j : Job) → IsMerging merging j → nat_le (length (terms_in (j.older ∷ j.newer ∷ []))) (j.merged + n) ≡ false)
    → (u : Unit {0}) → Obeys tells (steps n) (λ s. s) NoRefusal a b store (with_join store more) (Ok u)
step_moves tells a b lawful_a lawful_b store agrees reads whole two merging join n more moves goes_on u =
    let there : Agrees tells b store = agrees_read tells a b lawful_a lawful_b store agrees (sum_by data_size (two_of store)) reads in
    let join_there : IsJoinOf tells b.content store merging = record {
      joining = join.joining;
      over = λ told. subst (λ (image : List ℕ). AreJoinedOn image join.joining) (sym (reads.content told)) (join.over told);
      which = join.which;
    } in
    subst (λ (joins : List Tables). ObeysOver tells (steps n) a.content joins a b store (with_join store more) (Ok u)) (sym (step_reads store two))
    (changes_read tells (λ limit held. worked limit held (steps n)) (λ limit o outcome. Becomes limit a.content store.job (steps n) o outcome) 1 (two_of store) a b b lawful_a lawful_b store (with_join store more) (Ok u) agrees reads whole
    (changes_join tells b lawful_b store there merging join_there n more moves goes_on a.content u))

-- ---- a merge

-- the store's levels are these, and its deleted ends
pub newest_as : (levels others : List Tables) (gone ends : List ℕ) (added : List Added) (content : Content) → levels ≡ others → gone ≡ ends → IsNewest levels gone added content → IsNewest others ends added content
newest_as levels others gone ends added content same still is = subst (λ (es : List ℕ). IsNewest others es added content) still (subst (λ (ls : List Tables). IsNewest ls gone added content) same is)

-- what a merge of all levels tells, in the store's words
abbrev pub IsMergedFrom : (tells : Type 0) (image : List ℕ) (levels : List Tables) (gone : List ℕ) (oldest newest : Content) → Type 0
IsMergedFrom tells image levels gone oldest newest =
    (added : List Added) → IsNewest levels gone added newest → (contents : List Content) × AreContentsOf levels contents × (tells → AreSegmentsOn image levels contents) × (oldest ≡ joined_in (contents ++ content_of added ∷ []) gone)

pub merged_as : (tells : Type 0) (image : List ℕ) (store : Store) (levels : List Tables) (gone : List ℕ) (oldest newest : Content) → levels ≡ levels_of store → gone ≡ gone_of store.catalog → IsMergedFrom tells image levels gone oldest newest
    → IsMergedFrom tells image (levels_of store) (gone_of store.catalog) oldest newest
merged_as tells image store levels gone oldest newest same still merged =
    subst (λ (es : List ℕ). IsMergedFrom tells image (levels_of store) es oldest newest) still (subst (λ (ls : List Tables). IsMergedFrom tells image ls gone oldest newest) same merged)

-- a join that goes on is no part of what is taken out
pub given_up : (store now : Store) → IsDrained (without_join store) now → IsDrained store now
given_up store now drained = record { slot = drained.slot; root = drained.root; listed = drained.listed; tail = drained.tail; sound = drained.sound; catalog = drained.catalog }

-- the newest documents stand behind all levels
pub newest_behind_levels : (store : Store) → (intact : IsIntact store) → (entries : List Entry) → HasContent (newest_of store.root entries) (memory_of store.catalog).content → AreMade (newest_of store.root entries)
    → (newest : Content) → HasNewest store newest → IsNewest (levels_of store) (gone_of store.catalog) (newest_of store.root entries) newest
newest_behind_levels store intact entries content made newest has_newest =
    by_test (nat_le 1 store.root.next_location)
    (λ some. from store.root.next_location (grind (arith, some)) (λ row low. low.1) (λ (x : Added) behind. behind.1))
    (λ none. from 1 (omega arith) (λ row low. absurd (omega (arith, low.1, less_of 1 store.root.next_location none))) (λ (x : Added) behind. behind.0.positive))
  where
    added : List Added
    added = newest_of store.root entries

    from : (location : ℕ) → 1 ≤ location → ((row : DocRow) → (row.number < store.root.next_number) × (end_of row < store.root.next_location) → end_of row < location)
        → ((x : Added) → IsInSpace x × (store.root.next_location ≤ x.row.first) → location ≤ x.row.first) → IsNewest (levels_of store) (gone_of store.catalog) (newest_of store.root entries) newest
    from location located low first = record {
      number = store.root.next_number;
      location = location;
      numbered = omega (arith, intact.knows.from.0, intact.follows.first);
      located = located;
      behind = All-weaker (λ (row : DocRow). (row.number < store.root.next_number) × (end_of row < store.root.next_location)) (IsBefore store.root.next_number location) (λ row both. (both.0, low row both)) (table_rows (levels_of store)) intact.below;
      are_added = record {
        space = content.space;
        made = made;
        behind =
            all_both (λ (x : Added). store.root.next_number ≤ x.row.number) (λ (x : Added). location ≤ x.row.first) (newest_of store.root entries) (added_high store.root.next_number store.root.next_location entries)
            (All-weaker (λ (x : Added). IsInSpace x × (store.root.next_location ≤ x.row.first)) (λ (x : Added). location ≤ x.row.first) first (newest_of store.root entries)
            (all_both IsInSpace (λ (x : Added). store.root.next_location ≤ x.row.first) (newest_of store.root entries) (all_space (newest_of store.root entries) content.space)
            (added_behind store.root.next_number store.root.next_location entries)));
      };
      content_is = has_newest (newest_of store.root entries) content made;
    }
      where
        all_space : (xs : List Added) → IsSpace xs → All IsInSpace xs
        all_space [] space = All-nil IsInSpace
        all_space (x ∷ xs) space = All-cons IsInSpace x xs space.0 (all_space xs space.3)

module _ (tells : Type 0) (a b c : DiskState) (lawful_a : IsLawful tells a) (lawful_b : IsLawful tells b) (lawful_c : IsLawful tells c) (store : Store) (agrees : Agrees tells a store)
    (reads : Reads tells (sum_by data_size (levels_of store)) a b) (whole : tells → (place : ℕ) → IsFirstDamage a.content (levels_of store) place → ⊥) (now : Store) (drained : IsDrained store now) (no_job : now.job ≡ None)
    (oldest newest : Content) (has_newest : HasNewest store newest) (part : IsPart oldest) (no_part : IsPart no_content) (rows_are : oldest.documents ≡ live_rows (gone_of store.catalog) (table_rows (levels_of store) ++ newest.documents))
    (levels : NextLevels) (replaces : Replaces levels (length (levels_of store)) oldest no_content)
    (merged : (added : List Added) → IsNewest (levels_of store) (gone_of store.catalog) added newest
    → (contents : List Content) × AreContentsOf (levels_of store) contents × (tells → AreSegmentsOn a.content (levels_of store) contents) × (oldest ≡ joined_in (contents ++ content_of added ∷ []) (gone_of store.catalog))) where
  abbrev pub agrees_there : Agrees tells b store
  agrees_there = agrees_read tells a b lawful_a lawful_b store agrees (sum_by data_size (levels_of store)) reads

  pub merged_there : (added : List Added) → HasContent added (memory_of store.catalog).content → AreMade added → (o : Opened) → tells → IsOpened o b.content → newest_of o.root o.entries ≡ added
      → (contents : List Content) × AreContentsOf (levels_of store) contents × (tells → AreSegmentsOn b.content (levels_of store) contents) × (oldest ≡ joined_in (contents ++ content_of added ∷ []) (gone_of store.catalog))
  merged_there added content made o told is same =
      let root_is : store.root ≡ o.root = (kept store b.content (agrees_there.content told) o is).root in
      let added_is : newest_of store.root o.entries ≡ added = ap (λ (r : Root). newest_of r o.entries) root_is ∙ same in
      let behind : IsNewest (levels_of store) (gone_of store.catalog) added newest =
      subst (λ (xs : List Added). IsNewest (levels_of store) (gone_of store.catalog) xs newest) added_is
      (newest_behind_levels store agrees.intact o.entries (subst (λ (xs : List Added). HasContent xs (memory_of store.catalog).content) (sym added_is) content) (subst AreMade (sym added_is) made) newest has_newest) in
      let m = merged added behind in
      (m.0, m.1, λ told. subst (λ (image : List ℕ). AreSegmentsOn image (levels_of store) m.0) (sym (reads.content told)) (m.2 told), m.3)

  abbrev pub all_put : MayPut tells b store now levels
  all_put = all_may tells b lawful_b store agrees_there now drained no_job oldest newest has_newest part no_part rows_are levels replaces merged_there

  merge_switches : is_one store ≡ false → (held : Holding) → tells → Has store held b.content → Switches b.limit (λ limit held. worked limit held merges) now levels held
  merge_switches some held told has =
      let all = all_held tells b lawful_b store agrees_there now drained no_job oldest newest has_newest part no_part rows_are levels replaces merged_there told held has.is in
      record {
        job = None;
        is = merge_is b.limit held levels (one_held tells b lawful_b store agrees_there told held has.is ∙ some) all.0;
        given = all.1;
        goes = λ then e. subst (λ (m : Option Merging). IsJobIn m then.job) (sym no_job) (subst (λ (j : Option Job). IsJobIn None j) (sym (switched_job b.limit held (levels_to_come levels held.view) None then e)) tt);
      }

  pub merge_put : is_one store ≡ false → (later : Store) → (u : Result (Unit {0}) StoreFault) → OnOk u (later.job ≡ now.job) → Puts tells levels b c store later u → Obeys tells merges (λ s. s) NoRefusal a c store later u
  merge_put some later u job puts =
      subst (λ (joins : List Tables). ObeysOver tells merges a.content joins a c store later u) (sym (ap (λ (x : Bool). cond x [] (levels_of store)) some))
      (changes_read tells (λ limit held. worked limit held merges) (λ limit o outcome. Becomes limit a.content store.job merges o outcome) 1 (levels_of store) a b c lawful_a lawful_b store later u agrees reads whole
      (changes_put tells b c lawful_b lawful_c store now later levels all_put (λ limit held. worked limit held merges) (λ limit o outcome. Becomes limit a.content store.job merges o outcome)
      (λ held then spaced well e. work_well b.limit held then merges spaced well e) a.content reads.content JoinsAll (λ told o is outcome rewrite. inr rewrite) (λ view levels kind. (store.job, inr (inr kind)))
      (λ told o is. all_kind_put tells b lawful_b store agrees_there now drained no_job oldest newest has_newest part no_part rows_are levels replaces merged_there told o is)
      (λ told o is.
      subst (λ (image : List ℕ). HaveLists image o (all_put.given o told is).0 levels) (reads.content told)
      (all_read tells b lawful_b store agrees_there now drained no_job oldest newest has_newest part no_part rows_are levels replaces merged_there told o is))
      (merge_switches some) u job puts))
