-- Levels in place of others, on a store and its disk.
use Rattle.std.proofs.Common.{◌≡◌, ◌⊎◌, inl, inr, ⊎_elim, ℕ, ◌+◌, ◌<◌, true, Vec, Global, List, [], ◌∷◌, ◌++◌, map, take, drop, refl, sym, ◌∙◌, ap, ap₂, subst, arith, Result, Ok, Err}
use Rattle.std.specs.Prelude.{Contains, Option, Some, None, ⊤}
use Rattle.std.specs.List.{All}
use Rattle.std.proofs.lemmas.Bool.{false≢true}
use Rattle.std.proofs.lemmas.Grind.{flat_map-append}
use Rattle.std.proofs.lemmas.List.{drop-map, map-append}
use Rattle.std.proofs.lemmas.List.Elements.{All-contains_itself, All-filter, All-map, All-weaker}
use Rattle.alta_layout.specs.Places.{half_start, other}
use Rattle.alta_catalog.specs.Knowing.{Follows, Knows as CatalogKnows, KnowsBy, gone_of, levels_of as levels_in, location_of, memory_of, next_of}
use Rattle.alta_catalog.specs.Replacing.{IsEmptied, IsLeft, IsPrepared, MayReplace, deleted_of, ends_in, level_in, rows_between, tables_between}
use Rattle.alta_catalog.specs.Rows.{AreRowsOf, MayBe, documents_left}
use Rattle.alta_catalog.specs.declared.catalog.Catalog.{Catalog}
use Rattle.alta_catalog.specs.declared.replacing.PreparedLevels.{PreparedLevels}
use Rattle.alta_catalog.proofs.EndLaws.{among, here_or_there, no_member}
use Rattle.alta_catalog.proofs.GoneLaws.{among_is}
use Rattle.alta_catalog.proofs.MayLaws.{may_be}
use Rattle.alta_codec.specs.Faults.{Rose}
use Rattle.alta_codec.specs.declared.extent.Extent.{Extent}
use Rattle.alta_content.specs.Rows.{AreDocuments, end_of, ends_among}
use Rattle.alta_content.specs.declared.content.Content.{Content}
use Rattle.alta_content.specs.declared.document.DocRow.{DocRow}
use Rattle.alta_content.proofs.Kept.{rows_kept}
use Rattle.alta_content.proofs.Rises.{Contains-head, Contains-tail}
use Rattle.alta_disk.specs.Calls.{Costs}
use Rattle.alta_disk.proofs.Moments.{leaves_as, leaves_start, passes_start}
use Rattle.alta_disk.specs.Disk.{DiskState, IsLawful, LeavesOnly, Only, Passes}
use Rattle.alta_meaning.specs.Entries.{after_entries}
use Rattle.alta_meaning.specs.Holding.{Holding, IsHeld}
use Rattle.alta_meaning.specs.Levels.{Level}
use Rattle.alta_meaning.specs.Opened.{Opened, IsOpened, table_rows, extent_of}
use Rattle.alta_meaning.proofs.WrittenLaws.{held_stands}
use Rattle.alta_meaning.specs.Standing.{StandsFor, tables_by, view_of}
use Rattle.alta_meaning.specs.Views.{View, state_of}
use Rattle.alta_meaning.specs.Work.{Job, coming, gone_among, newest, level_rows, stays}
use Rattle.alta_meaning.specs.Working.{content_to_come, switched}
use Rattle.alta_content.specs.Joining.{rows_in as content_rows}
use Rattle.alta_meaning.proofs.JoinLaws.{coming_rows}
use Rattle.alta_meaning.proofs.KeptStates.{rows_by_levels, stay_contents}
use Rattle.alta_meaning.proofs.Tests.{by_test, filter_drop, filter_keep}
use Rattle.alta_meaning.proofs.Untouched.{IsSame}
use Rattle.alta_joins.specs.Jobs.{DeadAreGone}
use Rattle.alta_journal.specs.Journal.{StandsAhead}
use Rattle.alta_journal.specs.Record.{Record}
use Rattle.alta_journal.specs.declared.entry.Entry.{Entry}
use Rattle.alta_memlevel.specs.Added.{Added, HasContent, LevelView}
use Rattle.alta_memlevel.specs.Documents.{IsBefore}
use Rattle.alta_merge.specs.Merging.{Merging}
use Rattle.alta_machine.specs.declared.document.State.{State}
use Rattle.alta_rewrite.specs.Drafts.{rewrite_places}
use Rattle.alta_rewrite.specs.Rewrites.{AgreesWith, HaveRows, IsComing, IsRewritten, MayBecome, IsRewrittenOpened, MayRewrite, MayRewriteOpened, levels_to_come, rows_to_come, tables_in}
use Rattle.alta_rewrite.specs.declared.ends.Ends.{Ends}
use Rattle.alta_rewrite.specs.declared.fault.RewriteFault.{RewriteFault}
use Rattle.alta_rewrite.specs.declared.fault.RewriteFault.TheVariants as rewrite_faults
use Rattle.alta_rewrite.specs.declared.levels.NextLevels.{NextLevels}
use Rattle.alta_rewrite.specs.declared.rewriting.Rewritten.{Rewritten}
use Rattle.alta_root.specs.declared.root.Root.{Root}
use Rattle.alta_content.specs.All.{rows_of_levels}
use Rattle.alta_store.specs.Agreement.{Agrees, GoesOnOver, IsIntact, Keeps, Knows, MayGoOn, MaySpeakOf, levels_of}
use Rattle.alta_store.specs.Answers.{IsOutside, of_rewrite}
use Rattle.alta_store.specs.Putting.{IsGivenBy, IsPut, MayPut, Puts, rows_of}
use Rattle.alta_store.specs.declared.fault.StoreFault.{StoreFault}
use Rattle.alta_store.specs.declared.fault.StoreFault.TheVariants as store_faults
use Rattle.alta_store.specs.declared.store.Store.{Store}
use Rattle.alta_store.proofs.Agreements.{images_have, kept, leaves_if}
use Rattle.alta_store.proofs.Coming.{comes_may, rows_in_between, same_level, state_with}
use Rattle.alta_store.proofs.GoingOn.{goes_on_over, goes_on_there}
use Rattle.alta_table.specs.Tables.{Tables}
use Rattle.alta_content.proofs.Elements.{all_left}

-- ---- rows

-- the rows of the levels to come are those of the new ones, and those of the levels that stay between them
rows_come : (levels : NextLevels) (view : View) → rows_to_come levels view ≡ levels.oldest.documents ++ (level_rows (drop levels.stay_from view.levels) ++ levels.newest.documents)
rows_come levels view =
    let first = coming levels.oldest in
    let old = map stays (drop levels.stay_from view.levels) in
    let last = coming levels.newest in
    ap content_rows (map-append content_to_come first (old ++ last))
    ∙ flat_map-append (λ (x : Content). x.documents) (map content_to_come first) (map content_to_come (old ++ last))
    ∙ ap₂ (λ (xs ys : List DocRow). xs ++ ys) (coming_rows levels.oldest)
    (ap content_rows (map-append content_to_come old last)
    ∙ flat_map-append (λ (x : Content). x.documents) (map content_to_come old) (map content_to_come last)
    ∙ ap₂ (λ (xs ys : List DocRow). xs ++ ys) (ap content_rows (stay_contents (drop levels.stay_from view.levels)) ∙ rows_by_levels (drop levels.stay_from view.levels)) (coming_rows levels.newest))

abbrev rows_of_table : Tables → List DocRow
rows_of_table t = t.documents

abbrev rows_of_level : Level → List DocRow
rows_of_level l = l.content.documents

tables_joined : (tables : List Tables) → table_rows tables ≡ rows_of_levels (map rows_of_table tables)
tables_joined [] = refl
tables_joined (t ∷ tables) = ap (λ (rows : List DocRow). t.documents ++ rows) (tables_joined tables)

levels_joined : (levels : List Level) → level_rows levels ≡ rows_of_levels (map rows_of_level levels)
levels_joined [] = refl
levels_joined (l ∷ levels) = ap (λ (rows : List DocRow). l.content.documents ++ rows) (levels_joined levels)

-- from an index on, levels with the rows of tables have their rows
pub rows_from : (n : ℕ) (tables : List Tables) (there : List Level) → map rows_of_table tables ≡ map rows_of_level there → level_rows (drop n there) ≡ table_rows (drop n tables)
rows_from n tables there same =
    levels_joined (drop n there) ∙ ap rows_of_levels (sym (drop-map rows_of_level n there) ∙ ap (drop n) (sym same) ∙ drop-map rows_of_table n tables) ∙ sym (tables_joined (drop n tables))

tables_rows : (levels : List Level) → map rows_of_table (map tables_by levels) ≡ map rows_of_level levels
tables_rows [] = refl
tables_rows (l ∷ levels) = ap (λ (rows : List (List DocRow)). l.content.documents ∷ rows) (tables_rows levels)

-- what is held has the rows of what is opened
pub have_rows : (held : Holding) (image : List ℕ) → (has : IsHeld held image) → HaveRows has.opened held.view.levels
have_rows held image has = record { extents = has.are.extents; rows = ap (map rows_of_table) has.are.tables ∙ tables_rows held.view.levels }

-- what was prepared for the rows of these levels
pub prepared_as : (c : Catalog) (levels : NextLevels) (prepared : PreparedLevels) (oldest newest : List DocRow) → oldest ≡ levels.oldest.documents → newest ≡ levels.newest.documents
    → IsPrepared c oldest levels.stay_from newest prepared → IsPrepared c levels.oldest.documents levels.stay_from levels.newest.documents prepared
prepared_as c levels prepared oldest newest first last is =
    subst (λ (rows : List DocRow). IsPrepared c rows levels.stay_from levels.newest.documents prepared) first (subst (λ (rows : List DocRow). IsPrepared c oldest levels.stay_from rows prepared) last is)

-- ---- what a rewrite is given

module _ (tells : Type 0) (a : DiskState) (before now : Store) (levels : NextLevels) (may : MayPut tells a before now levels) (prepared : PreparedLevels)
    (is_prepared : IsPrepared now.catalog levels.oldest.documents levels.stay_from levels.newest.documents prepared) (ends : Ends) (listed_is : ends.listed.now ≡ now.listed.items)
    (deleted_is : ends.deleted.now ≡ deleted_of prepared) (next location : ℕ) (next_is : next ≡ next_of now.catalog) (location_is : location ≡ location_of now.catalog) where
  abbrev coming_rows_are : List DocRow
  coming_rows_are = rows_between levels.oldest.documents levels.stay_from (levels_of before) levels.newest.documents

  deleted_before : ends.deleted.now ≡ ends_in (gone_of before.catalog) coming_rows_are
  deleted_before =
      deleted_is ∙ is_prepared.deleted
      ∙ ap (λ (g : List ℕ). ends_in g (rows_between levels.oldest.documents levels.stay_from now.catalog.levels.items levels.newest.documents)) may.drained.catalog.gone
      ∙ ap (λ (v : Vec Tables Global). ends_in before.catalog.gone (rows_between levels.oldest.documents levels.stay_from v.items levels.newest.documents)) may.drained.catalog.levels

  agrees_opened : (told : tells) (o : Opened) → IsOpened o a.content → (there : List Level) → HaveRows o there → AgreesWith (view_of o there) levels ends next location
  agrees_opened told o is there have =
      let keeps = kept before a.content (may.agrees.content told) o is in
      let s = may_be o in
      let view = view_of o there in
      let rows : level_rows there ≡ table_rows o.levels = rows_from 0 o.levels there have.rows in
      let all : rows_of before ≡ level_rows there ++ map (λ (a : Added). a.row) (newest view) =
      ap₂ (λ (xs ys : List DocRow). xs ++ ys) (ap table_rows keeps.levels ∙ sym rows) keeps.follows.content.documents in
      let some : All (Contains (level_rows there ++ map (λ (a : Added). a.row) (newest view))) coming_rows_are =
      subst (All (Contains (level_rows there ++ map (λ (a : Added). a.row) (newest view)))) (sym may.rows)
      (All-filter may.kept (Contains (level_rows there ++ map (λ (a : Added). a.row) (newest view))) (rows_of before)
      (subst (λ (rs : List DocRow). All (Contains rs) (rows_of before)) all (All-contains_itself (rows_of before)))) in
      let same : coming_rows_are ≡ rows_to_come levels view =
      ap (λ (rs : List DocRow). levels.oldest.documents ++ (rs ++ levels.newest.documents))
      (ap (λ (ts : List Tables). table_rows (drop levels.stay_from ts)) keeps.levels ∙ sym (rows_from levels.stay_from o.levels there have.rows)) ∙ sym (rows_come levels view) in
      record {
        listed = listed_is ∙ ap (λ (v : Vec ℕ Global). v.items) may.drained.listed ∙ keeps.listed;
        deleted = deleted_before ∙ among_is before.catalog s.0 o a.content there is s.1 (keeps.knows s.0 s.1) keeps.follows keeps.levels rows coming_rows_are some ∙ ap (gone_among view) same;
        next_is = next_is ∙ may.drained.catalog.next ∙ keeps.follows.next;
        location_is = location_is ∙ may.drained.catalog.location ∙ keeps.follows.location;
      }

  agrees_held : (told : tells) (held : Holding) → IsHeld held a.content → AgreesWith held.view levels ends next location
  agrees_held told held has =
      subst (λ (view : View). AgreesWith view levels ends next location) (sym has.view_is) (agrees_opened told has.opened has.is held.view.levels (have_rows held a.content has))

  pub may_rewrite : (told : tells) (held : Holding) → IsHeld held a.content → IsGivenBy held.view levels → MayRewrite held levels ends next location a.content
  may_rewrite told held has given = record { is = has; given = given ends next location (agrees_held told held has) }

  pub may_rewrite_opened : (told : tells) (o : Opened) → IsOpened o a.content → (there : List Level) → HaveRows o there → IsGivenBy (view_of o there) levels → MayRewriteOpened o there levels ends next location a.content
  may_rewrite_opened told o is there have given = record { is = is; have = have; given = given ends next location (agrees_opened told o is there have) }

  -- what comes may speak of each state of which the content may
  comes_speak : (told : tells) (s : State) (speaks : MaySpeakOf s a.content) (coming : Opened) → IsComing a.limit speaks.opened coming levels ends next location → MayBe s coming
  comes_speak told s speaks coming come =
      comes_may before speaks.opened (kept before a.content (may.agrees.content told) speaks.opened speaks.is) levels may.kept may.rows may.gone ends next location (next_is ∙ may.drained.catalog.next) deleted_before a.limit coming come s speaks.may

-- ---- the root was not switched

module _ (tells : Type 0) (a b : DiskState) (before now : Store) (levels : NextLevels) (may : MayPut tells a before now levels) (prepared : PreparedLevels)
    (is_prepared : IsPrepared now.catalog levels.oldest.documents levels.stay_from levels.newest.documents prepared) (ends : Ends) (listed_is : ends.listed.now ≡ now.listed.items)
    (deleted_is : ends.deleted.now ≡ deleted_of prepared) (next location : ℕ) (next_is : next ≡ next_of now.catalog) (location_is : location ≡ location_of now.catalog)
    (passes : Passes (λ old new. ⊤) a b) (stands : (held : Holding) → (tells → MayRewrite held levels ends next location a.content) → LeavesOnly (StandsFor (state_of held.view)) a b)
    (lawful_a : IsLawful tells a) (opens : (o : Opened) → (there : List Level) → (tells → MayRewriteOpened o there levels ends next location a.content) → LeavesOnly (MayBecome a.limit o levels ends next location) a b) where
  images_put : (held : Holding) → (tells → IsHeld held a.content × IsGivenBy held.view levels) → LeavesOnly (StandsFor (state_of held.view)) a b
  images_put held has = stands held (λ told.
      may_rewrite tells a before now levels may prepared is_prepared ends listed_is deleted_is next location next_is location_is told held (has told).0 (has told).1)

  between_put : (s : State) → (tells → MaySpeakOf s a.content) → LeavesOnly (MaySpeakOf s) a b
  between_put s speaks = leaves_if tells a b (MaySpeakOf s) lawful_a passes (λ told.
      let was = speaks told in
      let given = may.given was.opened told was.is in
      leaves_as a b (MayBecome a.limit was.opened levels ends next location) (MaySpeakOf s)
      (opens was.opened given.0 (λ t.
      may_rewrite_opened tells a before now levels may prepared is_prepared ends listed_is deleted_is next location next_is location_is told was.opened was.is given.0 given.1 given.2))
      (λ image either. ⊎_elim (λ here. record { opened = was.opened; is = here; may = was.may })
      (λ (coming, come, here). record {
        opened = coming;
        is = here;
        may = comes_speak tells a before now levels may prepared is_prepared ends listed_is deleted_is next location next_is location_is told s was coming come;
      }) either))

  module _ (fault : RewriteFault)
      (full : (held : Holding) → (job : Option Job) → tells → MayRewrite held levels ends next location a.content → (need gap : ℕ)
      → ◌≡◌ {A = Result Rewritten RewriteFault} (Err fault) (Err (rewrite_faults.Full need gap)) → switched a.limit held (levels_to_come levels held.view) job ≡ Err (record { need = need; gap = gap }))
      (why : (need gap : ℕ) → ◌≡◌ {A = Result Rewritten RewriteFault} (Err fault) (Err (rewrite_faults.Full need gap)) → rewrite_places a.limit now.root levels ends ≡ Err (record { need = need; gap = gap }))
      (unwritten : (need gap : ℕ) → ◌≡◌ {A = Result Rewritten RewriteFault} (Err fault) (Err (rewrite_faults.Full need gap)) → b ≡ a)
      (cause : ◌≡◌ {A = Result Rewritten RewriteFault} (Err fault) (Err rewrite_faults.Disk) → Rose a.faults b.faults) (costs : Costs 1 a b) where
    full_of : {T : Type 0} (other : StoreFault) (need gap : ℕ) → other ≡ of_rewrite fault → ◌≡◌ {A = Result T StoreFault} (Err other) (Err (store_faults.Full need gap)) → fault ≡ rewrite_faults.Full need gap
    full_of {T} other need gap is e = by_fault fault (sym is ∙ same e)
      where
        same : ◌≡◌ {A = Result T StoreFault} (Err other) (Err (store_faults.Full need gap)) → other ≡ store_faults.Full need gap
        same e = cc

        by_fault : (f : RewriteFault) → of_rewrite f ≡ store_faults.Full need gap → f ≡ rewrite_faults.Full need gap
        by_fault rewrite_faults.Disk e = absurd cc
        by_fault rewrite_faults.Memory e = absurd cc
        by_fault (rewrite_faults.Full n g) e = cc

    disk_of : {T : Type 0} (other : StoreFault) → other ≡ of_rewrite fault → ◌≡◌ {A = Result T StoreFault} (Err other) (Err store_faults.Disk) → fault ≡ rewrite_faults.Disk
    disk_of {T} other is e = by_fault fault (sym is ∙ same e)
      where
        same : ◌≡◌ {A = Result T StoreFault} (Err other) (Err store_faults.Disk) → other ≡ store_faults.Disk
        same e = cc

        by_fault : (f : RewriteFault) → of_rewrite f ≡ store_faults.Disk → f ≡ rewrite_faults.Disk
        by_fault rewrite_faults.Disk e = refl
        by_fault rewrite_faults.Memory e = absurd cc
        by_fault (rewrite_faults.Full n g) e = absurd cc

    -- a place is wanting, by the root that counts
    lacks_is : (told : tells) (o : Opened) → IsOpened o a.content → (there : List Level) → HaveRows o there → IsGivenBy (view_of o there) levels → (need gap : ℕ) → fault ≡ rewrite_faults.Full need gap
        → IsPut a.limit levels (view_of o there) o (Err (record { need = need; gap = gap }))
    lacks_is told o is there have given need gap fault_is =
        let rewrites = may_rewrite_opened tells a before now levels may prepared is_prepared ends listed_is deleted_is next location next_is location_is told o is there have given in
        let root_is : now.root ≡ o.root = may.drained.root ∙ (kept before a.content (may.agrees.content told) o is).root in
        record {
          ends = ends;
          next = next;
          location = location;
          given = rewrites.given;
          comes = ap (λ (root : Root). rewrite_places a.limit root levels ends) (sym root_is) ∙ why need gap (ap (λ (f : RewriteFault). Err f) fault_is);
        }

    pub put_failed : {T : Type 0} (later : Store) (other : StoreFault) → other ≡ of_rewrite fault → Puts {T = T} tells levels a b before later (Err other)
    put_failed {T} later other is = record {
      agrees = tt;
      sound = tt;
      knows = λ s knows. tt;
      slot = tt;
      works = λ held job told has given. tt;
      full = λ held job need gap told has given e.
          full held job told (may_rewrite tells a before now levels may prepared is_prepared ends listed_is deleted_is next location next_is location_is told held has given) need gap
          (ap (λ (f : RewriteFault). Err f) (full_of {T = T} other need gap is e));
      passes = passes;
      images = images_put;
      between = between_put;
      becomes = λ o there told opened have given. tt;
      lacks = λ o there need gap told opened have given e. lacks_is told o opened there have given need gap (full_of {T = T} other need gap is e);
      unwritten = λ need gap e. ap (λ (state : DiskState). state.content) (unwritten need gap (ap (λ (f : RewriteFault). Err f) (full_of {T = T} other need gap is e)));
      only = subst (λ (f : StoreFault). IsOutside f ⊎ ((need : ℕ) × (gap : ℕ) × (f ≡ store_faults.Full need gap))) (sym is) (by_fault fault);
      cause = λ e. cause (ap (λ (f : RewriteFault). Err f) (disk_of {T = T} other is e));
      costs = costs;
    }
      where
        by_fault : (f : RewriteFault) → IsOutside (of_rewrite f) ⊎ ((need : ℕ) × (gap : ℕ) × (of_rewrite f ≡ store_faults.Full need gap))
        by_fault rewrite_faults.Disk = inl (inr refl)
        by_fault rewrite_faults.Memory = inl (inl refl)
        by_fault (rewrite_faults.Full n g) = inr (n, g, refl)

-- ---- memory was wanting before any call of the disk

pub put_nothing : (tells : Type 0) (a : DiskState) → IsLawful tells a → (before now : Store) (levels : NextLevels) → MayPut tells a before now levels → (later : Store)
    → Puts {T = Unit {0}} tells levels a a before later (Err store_faults.Memory)
put_nothing tells a lawful before now levels may later = record {
  agrees = tt;
  sound = tt;
  knows = λ s knows. tt;
  slot = tt;
  works = λ held job told has given. tt;
  full = λ held job need gap told has given e. absurd (not_full need gap e);
  passes = passes_start tells a (λ old new. ⊤) lawful (λ c. tt);
  images = λ held has. leaves_start tells a (StandsFor (state_of held.view)) lawful
      (λ z here. subst (StandsFor (state_of held.view)) (sym (may.agrees.settled z here)) (held_stands held a.content (has (lawful.told z here)).0));
  between = λ s speaks. leaves_start tells a (MaySpeakOf s) lawful (images_have tells a (MaySpeakOf s) lawful may.agrees.settled speaks);
  becomes = λ o there told opened have given. tt;
  lacks = λ o there need gap told opened have given e. absurd (not_full need gap e);
  unwritten = λ need gap e. absurd (not_full need gap e);
  only = inl (inl refl);
  cause = λ e. absurd (not_disk e);
  costs = record { faults = omega arith; taken_up = omega arith; taken = omega arith; limit = refl };
}
  where
    not_full : (need gap : ℕ) → ◌≡◌ {A = Result (Unit {0}) StoreFault} (Err store_faults.Memory) (Err (store_faults.Full need gap)) → ⊥
    not_full need gap e = absurd cc

    not_disk : ◌≡◌ {A = Result (Unit {0}) StoreFault} (Err store_faults.Memory) (Err store_faults.Disk) → ⊥
    not_disk e = absurd cc

-- ---- the root was switched

none_more : (n : ℕ) → n + 0 ≡ n
none_more n = omega arith

-- the rows of the levels of a catalog lie below its number and location
levels_below : (c : Catalog) (s : State) → CatalogKnows c s → All (IsBefore c.next c.location) (table_rows c.levels.items)
levels_below c s knows =
    subst (All (IsBefore c.next c.location)) knows.rows.rows_are
    (All-map (IsBefore c.next c.location) (λ (a : Added). a.row) knows.olds (all_left (λ (a : Added). IsBefore c.next c.location a.row) knows.olds knows.added knows.behind))

-- ends that are gone are among those of rows that end there
row_there : (gone : List ℕ) (rows : List DocRow) (row : DocRow) → Contains rows row → ends_among gone row ≡ true → Contains (ends_in gone rows) (end_of row)
row_there gone [] row has is = absurd (no_member row has)
row_there gone (r ∷ rows) row has is =
    by_test (ends_among gone r)
    (λ yes.
    subst (λ (rs : List DocRow). Contains (map end_of rs) (end_of row)) (sym (filter_keep (ends_among gone) r rows yes))
    (⊎_elim (λ (same : r ≡ row). subst (λ (x : DocRow). Contains (end_of r ∷ ends_in gone rows) (end_of x)) same (Contains-head (end_of r) (ends_in gone rows)))
    (λ more. Contains-tail (end_of r) (ends_in gone rows) (end_of row) (row_there gone rows row more is)) (here_or_there r rows row has)))
    (λ no.
    subst (λ (rs : List DocRow). Contains (map end_of rs) (end_of row)) (sym (filter_drop (ends_among gone) r rows no))
    (⊎_elim (λ (same : r ≡ row). absurd (false≢true (sym no ∙ ap (ends_among gone) same ∙ is))) (λ more. row_there gone rows row more is) (here_or_there r rows row has)))

-- of the rows of a list each that is gone is among the ends of those that are gone
still_gone : (gone : List ℕ) (rows : List DocRow) → DeadAreGone gone (ends_in gone rows) rows
still_gone gone rows =
    All-weaker (Contains rows) (λ (row : DocRow). ends_among gone row ≡ true → ends_among (ends_in gone rows) row ≡ true)
    (λ row has is. among (ends_in gone rows) (end_of row) (row_there gone rows row has is)) rows (All-contains_itself rows)

extents_between : (oldest newest : Option Tables) (n : ℕ) (tables : List Tables) → map extent_of (tables_between oldest n tables newest) ≡ map extent_of (tables_in oldest) ++ (drop n (map extent_of tables) ++ map extent_of (tables_in newest))
extents_between oldest newest n tables =
    map-append extent_of (level_in oldest) (drop n tables ++ level_in newest)
    ∙ ap₂ (λ (xs ys : List Extent). xs ++ ys) (ap (map extent_of) (sym (same_level oldest)))
    (map-append extent_of (drop n tables) (level_in newest) ∙ ap₂ (λ (xs ys : List Extent). xs ++ ys) (sym (drop-map extent_of n tables)) (ap (map extent_of) (sym (same_level newest))))

module _ (tells : Type 0) (a b : DiskState) (lawful_a : IsLawful tells a) (lawful_b : IsLawful tells b) (before now : Store) (levels : NextLevels) (may : MayPut tells a before now levels) (prepared : PreparedLevels)
    (is_prepared : IsPrepared now.catalog levels.oldest.documents levels.stay_from levels.newest.documents prepared) (ends : Ends) (listed_is : ends.listed.now ≡ now.listed.items)
    (deleted_is : ends.deleted.now ≡ deleted_of prepared) (next location : ℕ) (next_is : next ≡ next_of now.catalog) (location_is : location ≡ location_of now.catalog)
    (all_documents : AreDocuments (rows_of before)) (done : Rewritten) (later : Store)
    (slot_later : later.slot ≡ done.slot) (root_later : later.root ≡ done.root) (listed_later : later.listed.items ≡ ends.deleted.now) (half_later : later.tail.slot ≡ done.slot)
    (place_later : later.tail.place ≡ half_start done.slot) (job_later : later.job ≡ now.job) (sound_later : later.sound ≡ now.sound)
    (slot_done : done.slot ≡ other now.slot) (number_done : done.root.next_number ≡ next) (location_done : done.root.next_location ≡ location)
    (rows_done : (table_rows (tables_in done.oldest) ≡ levels.oldest.documents) × (table_rows (tables_in done.newest) ≡ levels.newest.documents))
    (extents_done : done.root.levels.items ≡ map extent_of (tables_in done.oldest) ++ (drop levels.stay_from now.root.levels.items ++ map extent_of (tables_in done.newest)))
    (none_done : levels.oldest.documents ≡ [] → done.oldest ≡ None) (spared : tells → All (IsSame a.content b.content) now.root.levels.items)
    (left : Catalog) (left_is : IsLeft levels.stay_from now.catalog left)
    (same : (c emptied : Catalog) → (s : State) → (n : ℕ) → IsEmptied c emptied → CatalogKnows c s → IsLeft n emptied left → IsPrepared emptied (table_rows (level_in done.oldest)) n (table_rows (level_in done.newest)) prepared → MayReplace c done.oldest n done.newest
    → CatalogKnows later.catalog s)
    (levels_are : levels_in later.catalog ≡ level_in done.oldest ++ (levels_in left ++ level_in done.newest)) (gone_are : gone_of later.catalog ≡ deleted_of prepared)
    (follows : (root : Root) → root.next_number ≡ next_of left → root.next_location ≡ location_of left → HasContent [] (memory_of left).content → Follows later.catalog root []) where
  prepared_here : IsPrepared now.catalog (table_rows (level_in done.oldest)) levels.stay_from (table_rows (level_in done.newest)) prepared
  prepared_here =
      subst (λ (rows : List DocRow). IsPrepared now.catalog rows levels.stay_from (table_rows (level_in done.newest)) prepared) (sym (ap table_rows (sym (same_level done.oldest)) ∙ rows_done.0))
      (subst (λ (rows : List DocRow). IsPrepared now.catalog levels.oldest.documents levels.stay_from rows prepared) (sym (ap table_rows (sym (same_level done.newest)) ∙ rows_done.1)) is_prepared)

  replaces : MayReplace before.catalog done.oldest levels.stay_from done.newest
  replaces = record {
    kept = may.kept;
    rows = rows_in_between done.oldest done.newest levels.stay_from (levels_of before)
        ∙ ap₂ (λ (xs ys : List DocRow). rows_between xs levels.stay_from (levels_of before) ys) (ap table_rows (sym (same_level done.oldest)) ∙ rows_done.0) (ap table_rows (sym (same_level done.newest)) ∙ rows_done.1) ∙ may.rows;
    gone = may.gone;
  }

  pub knows_then : (s : State) → Knows before s → Knows later s
  knows_then s knows = same before.catalog now.catalog s levels.stay_from may.drained.catalog knows left_is prepared_here replaces

  levels_then : levels_of later ≡ tables_between done.oldest levels.stay_from (levels_of before) done.newest
  levels_then =
      levels_are ∙ ap (λ (ls : List Tables). level_in done.oldest ++ (ls ++ level_in done.newest)) left_is.levels
      ∙ ap (λ (v : Vec Tables Global). tables_between done.oldest levels.stay_from v.items done.newest) may.drained.catalog.levels

  follows_then : Follows later.catalog later.root []
  follows_then =
      follows later.root (ap (λ (r : Root). r.next_number) root_later ∙ number_done ∙ next_is ∙ sym left_is.next) (ap (λ (r : Root). r.next_location) root_later ∙ location_done ∙ location_is ∙ sym left_is.location)
      (subst (λ (m : LevelView). HasContent [] m.content) (sym left_is.memory) may.drained.catalog.empty)

  extents_then : map extent_of (levels_of later) ≡ later.root.levels.items
  extents_then =
      ap (map extent_of) levels_then ∙ extents_between done.oldest done.newest levels.stay_from (levels_of before)
      ∙ ap (λ (es : List Extent). map extent_of (tables_in done.oldest) ++ (drop levels.stay_from es ++ map extent_of (tables_in done.newest))) (may.agrees.intact.extents ∙ ap (λ (r : Root). r.levels.items) (sym may.drained.root))
      ∙ sym extents_done ∙ ap (λ (r : Root). r.levels.items) (sym root_later)

  deleted_then : gone_of later.catalog ≡ ends_in (gone_of before.catalog) (rows_between levels.oldest.documents levels.stay_from (levels_of before) levels.newest.documents)
  deleted_then = gone_are ∙ sym deleted_is ∙ deleted_before tells a before now levels may prepared is_prepared ends listed_is deleted_is next location next_is location_is

  -- the join that goes on, if one does
  abbrev GoesOn : Option Merging → Type 0
  GoesOn job = (on : MayGoOn (levels_of later) (gone_of later.catalog) job) × ((told : tells) → GoesOnOver b.content (levels_of later) (gone_of later.catalog) job on)

  going : GoesOn later.job
  going =
      ⊎_elim (λ (none : now.job ≡ None). subst GoesOn (sym (job_later ∙ none)) (tt, λ told. tt))
      (λ (all, empty, same_job). subst GoesOn (sym (job_later ∙ same_job)) (by_job before.job refl all empty may.agrees.intact.joining may.agrees.joins)) may.goes_on
    where
      by_job : (job : Option Merging) → before.job ≡ job → levels.stay_from ≡ 0 → levels.oldest.documents ≡ [] → (joining : MayGoOn (levels_of before) (gone_of before.catalog) job)
          → (tells → GoesOnOver a.content (levels_of before) (gone_of before.catalog) job joining) → GoesOn job
      by_job None is all empty joining joins = (tt, λ told. tt)
      by_job (Some merging) is all empty joining joins =
          let more : levels_of later ≡ levels_of before ++ level_in done.newest =
          levels_then ∙ ap₂ (λ (o : Option Tables) (n : ℕ). tables_between o n (levels_of before) done.newest) (none_done empty) all in
          let oldest : levels_of later ≡ joining.older ∷ joining.newer ∷ (joining.more ++ level_in done.newest) = more ∙ ap (λ (ls : List Tables). ls ++ level_in done.newest) joining.oldest in
          let rows : rows_between levels.oldest.documents levels.stay_from (levels_of before) levels.newest.documents ≡ table_rows (levels_of before) ++ levels.newest.documents =
          ap₂ (λ (xs : List DocRow) (n : ℕ). rows_between xs n (levels_of before) levels.newest.documents) empty all in
          let kept : DeadAreGone (gone_of before.catalog) (gone_of later.catalog) (table_rows (levels_of before)) =
          subst (λ (es : List ℕ). DeadAreGone (gone_of before.catalog) es (table_rows (levels_of before))) (sym (deleted_then ∙ ap (ends_in (gone_of before.catalog)) rows))
          (all_left (λ (row : DocRow). ends_among (gone_of before.catalog) row ≡ true → ends_among (ends_in (gone_of before.catalog) (table_rows (levels_of before) ++ levels.newest.documents)) row ≡ true) (table_rows (levels_of before)) levels.newest.documents (still_gone (gone_of before.catalog) (table_rows (levels_of before) ++ levels.newest.documents))) in
          let on = goes_on_over (levels_of before) (levels_of later) (gone_of before.catalog) (gone_of later.catalog) (Some merging) (ap (take 2) oldest ∙ ap (take 2) (sym joining.oldest)) kept joining in (
            on.0,
            λ told.
                on.1 b.content (goes_on_there a.content b.content (levels_of before) (gone_of before.catalog) (Some merging) joining
                (subst (All (IsSame a.content b.content)) (ap (λ (r : Root). r.levels.items) may.drained.root ∙ sym may.agrees.intact.extents) (spared told)) (joins told)),
          )

  intact_then : IsIntact later
  unfolding replaces
  intact_then =
      let s = may.agrees.intact.state in
      let knows = knows_then s may.agrees.intact.knows in
      record {
        state = s;
        knows = knows;
        entries = [];
        follows = follows_then;
        below =
            subst (λ (n : ℕ). All (λ (row : DocRow). (row.number < n) × (end_of row < later.root.next_location)) (table_rows (levels_of later))) (follows_then.next ∙ none_more later.root.next_number)
            (subst (λ (n : ℕ). All (λ (row : DocRow). (row.number < later.catalog.next) × (end_of row < n)) (table_rows (levels_of later))) (follows_then.location ∙ none_more later.root.next_location)
            (levels_below later.catalog s knows));
        documents = subst AreDocuments (sym (ap table_rows levels_then ∙ replaces.rows)) (rows_kept may.kept (rows_of before) all_documents);
        extents = extents_then;
        joining = going.0;
      }

  module _ (knows_by : (c emptied : Catalog) → (s : State) → (n : ℕ) → (olds : List Added) → IsEmptied c emptied → CatalogKnows c s → IsLeft n emptied left → IsPrepared emptied (table_rows (level_in done.oldest)) n (table_rows (level_in done.newest)) prepared
      → MayReplace c done.oldest n done.newest → AreRowsOf (table_rows (levels_in later.catalog)) olds → KnowsBy later.catalog olds (record { next = s.next; documents = documents_left (deleted_of prepared) olds })) where
    keeps_then : (told : tells) (o coming : Opened) → IsOpened o a.content → IsRewrittenOpened a.limit o coming levels ends next location done b.content → Keeps later coming
    unfolding state_with
    keeps_then told o coming is become =
        let keeps = kept before a.content (may.agrees.content told) o is in
        let slot_is : later.slot ≡ coming.slot = slot_later ∙ become.slot_is in
        let root_is : later.root ≡ coming.root = root_later ∙ become.root_is in
        let levels_come : levels_of later ≡ coming.levels =
        levels_then ∙ ap (λ (ts : List Tables). tables_between done.oldest levels.stay_from ts done.newest) keeps.levels
        ∙ ap₂ (λ (xs ys : List Tables). xs ++ (drop levels.stay_from o.levels ++ ys)) (sym (same_level done.oldest)) (sym (same_level done.newest)) ∙ sym become.levels_are in
        record {
          slot = slot_is;
          root = root_is;
          listed = listed_later ∙ sym become.coming_is.deleted_are;
          half = half_later ∙ become.slot_is;
          place = place_later ∙ ap half_start become.slot_is ∙ sym become.coming_is.tail_is;
          levels = levels_come;
          extents = ap (map extent_of) (sym levels_come) ∙ extents_then ∙ ap (λ (r : Root). r.levels.items) root_is;
          follows = subst (λ (es : List Entry). Follows later.catalog coming.root es) (sym become.coming_is.entries_are) (subst (λ (r : Root). Follows later.catalog r []) root_is follows_then);
          knows = λ s here.
              let some : (t : State) × MayBe t o = may_be o in
              let known : Knows before some.0 = (keeps.knows some.0 some.1).0 in
              let olds = here.starts.olds in
              let rows_are : AreRowsOf (table_rows (levels_in later.catalog)) olds = subst (λ (ls : List Tables). AreRowsOf (table_rows ls) olds) (sym levels_come) here.starts.rows in
              let knows : KnowsBy later.catalog olds (record { next = some.0.next; documents = documents_left (deleted_of prepared) olds }) =
              knows_by before.catalog now.catalog some.0 levels.stay_from olds may.drained.catalog known left_is prepared_here replaces rows_are in
              let next_comes : some.0.next ≡ coming.root.next_number =
              sym known.notes.next ∙ sym may.drained.catalog.next ∙ sym next_is ∙ sym number_done ∙ ap (λ (r : Root). r.next_number) become.root_is in
              let state_is : s ≡ record { next = some.0.next; documents = documents_left (deleted_of prepared) olds } =
              here.state_is ∙ ap (after_entries here.start) become.coming_is.entries_are ∙ here.starts.state_is
              ∙ ap₂ (λ (n : ℕ) (ds : List ℕ). state_with n (documents_left ds olds)) (sym next_comes) (become.coming_is.deleted_are ∙ deleted_is) in
              subst (KnowsBy later.catalog olds) (sym state_is) knows;
        }

    module _ (none_ahead : later.ahead ≡ None) (durable : Only b.content b.images) (costs : Costs 1 a b) (passes : Passes (λ old new. ⊤) a b) (stands : (held : Holding) → (tells → MayRewrite held levels ends next location a.content) → LeavesOnly (StandsFor (state_of held.view)) a b)
        (works : (held : Holding) → (job : Option Job) → tells → MayRewrite held levels ends next location a.content → (then : Holding) × IsRewritten a.limit now.slot held levels job then done b.content)
        (opened_then : (o : Opened) → (there : List Level) → tells → MayRewriteOpened o there levels ends next location a.content → (coming : Opened) × IsRewrittenOpened a.limit o coming levels ends next location done b.content)
        (opens : (o : Opened) → (there : List Level) → (tells → MayRewriteOpened o there levels ends next location a.content) → LeavesOnly (MayBecome a.limit o levels ends next location) a b) where
      abbrev opened_may : (told : tells) (o : Opened) → IsOpened o a.content → (there : List Level) → HaveRows o there → IsGivenBy (view_of o there) levels → MayRewriteOpened o there levels ends next location a.content
      opened_may told o is there have given = may_rewrite_opened tells a before now levels may prepared is_prepared ends listed_is deleted_is next location next_is location_is told o is there have given

      agrees_then : Agrees tells b later
      unfolding intact_then
      agrees_then = record {
        settled = durable;
        content = λ told.
            let holds = may.agrees.content told in
            let given = may.given holds.opened told holds.is in
            let come = opened_then holds.opened given.0 told (opened_may told holds.opened holds.is given.0 given.1 given.2) in
            record { opened = come.0; is = come.1.is; keeps = keeps_then told holds.opened come.0 holds.is come.1 };
        intact = intact_then;
        joins = going.1;
        ahead = λ told. subst (λ (o : Option Record). StandsAhead later.tail.place o b.content) (sym none_ahead) refl;
      }

      pub put_done : (u : Unit {0}) → Puts tells levels a b before later (Ok u)
      put_done u = record {
        agrees = agrees_then;
        sound = sound_later ∙ may.drained.sound;
        knows = knows_then;
        slot = slot_later ∙ slot_done ∙ ap other may.drained.slot;
        works = λ held job told has given.
            let found = works held job told (may_rewrite tells a before now levels may prepared is_prepared ends listed_is deleted_is next location next_is location_is told held has given) in
            (found.0, found.1.switched_is, found.1.is);
        full = λ held job need gap told has given e. absurd (not_ok (store_faults.Full need gap) e);
        passes = passes;
        images = images_put tells a b before now levels may prepared is_prepared ends listed_is deleted_is next location next_is location_is passes stands lawful_a opens;
        between = between_put tells a b before now levels may prepared is_prepared ends listed_is deleted_is next location next_is location_is passes stands lawful_a opens;
        becomes = λ o there told is have given.
            let rewrites = opened_may told o is there have given in
            let come = opened_then o there told rewrites in
            (come.0, record { ends = ends; next = next; location = location; given = rewrites.given; comes = come.1.coming_is }, come.1.is, keeps_then told o come.0 is come.1);
        lacks = λ o there need gap told is have given e. absurd (not_ok (store_faults.Full need gap) e);
        unwritten = λ need gap e. absurd (not_ok (store_faults.Full need gap) e);
        only = tt;
        cause = λ e. absurd (not_ok store_faults.Disk e);
        costs = costs;
      }
        where
          not_ok : (fault : StoreFault) → ◌≡◌ {A = Result (Unit {0}) StoreFault} (Ok u) (Err fault) → ⊥
          not_ok fault e = absurd cc
