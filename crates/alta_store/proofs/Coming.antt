-- What an image is opened as once levels were put in place of others, and of which states it may speak.
use Rattle.std.proofs.Common.{◌≡◌, ℕ, Bool, true, false, Vec, Global, List, [], ◌∷◌, ◌++◌, drop, length, refl, sym, ◌∙◌, ap, ap₂, subst}
use Rattle.std.specs.Prelude.{Option, Some, None}
use Rattle.std.specs.List.{All, filter}
use Rattle.std.proofs.lemmas.Grind.{flat_map-append}
use Rattle.alta_catalog.specs.Knowing.{gone_of}
use Rattle.alta_catalog.specs.Replacing.{MayReplace, ends_in, level_in, rows_between, tables_between}
use Rattle.alta_catalog.specs.Rows.{AreRowsOf, MayBe, documents_left}
use Rattle.alta_catalog.proofs.LevelLaws.{kept, kept_are, left_same}
use Rattle.alta_content.specs.Rows.{ends_among}
use Rattle.alta_content.specs.declared.document.DocRow.{DocRow}
use Rattle.alta_meaning.specs.Entries.{after_entries}
use Rattle.alta_meaning.specs.Opened.{Opened, table_rows}
use Rattle.alta_journal.specs.declared.entry.Entry.{Entry}
use Rattle.alta_memlevel.specs.Added.{Added}
use Rattle.alta_machine.specs.declared.document.Document.{Document}
use Rattle.alta_machine.specs.declared.document.State.{State}
use Rattle.alta_rewrite.specs.Drafts.{list_of, segment_of, table_to_come}
use Rattle.alta_rewrite.specs.Places.{as_list}
use Rattle.alta_rewrite.specs.Rewrites.{IsComing, tables_in}
use Rattle.alta_rewrite.specs.declared.ends.Ends.{Ends}
use Rattle.alta_rewrite.specs.declared.levels.NextLevels.{NextLevels}
use Rattle.alta_rewrite.proofs.LevelLaws.{rows_placed}
use Rattle.alta_rewrite.proofs.PlaceLaws.{places_are}
use Rattle.alta_root.specs.Gaps.{taken_by}
use Rattle.alta_root.specs.declared.root.Root.{Root}
use Rattle.alta_store.specs.Agreement.{Keeps, Knows, levels_of}
use Rattle.alta_store.specs.Putting.{rows_of}
use Rattle.alta_store.specs.declared.store.Store.{Store}
use Rattle.alta_table.specs.Tables.{Tables}

-- ---- rows and states

pub same_level : (level : Option Tables) → tables_in level ≡ level_in level
same_level None = refl
same_level (Some level) = refl

pub rows_in_between : (oldest newest : Option Tables) (n : ℕ) (tables : List Tables) → table_rows (tables_between oldest n tables newest) ≡ rows_between (table_rows (level_in oldest)) n tables (table_rows (level_in newest))
rows_in_between oldest newest n tables =
    flat_map-append (λ (t : Tables). t.documents) (level_in oldest) (drop n tables ++ level_in newest)
    ∙ ap (λ (rows : List DocRow). table_rows (level_in oldest) ++ rows) (flat_map-append (λ (t : Tables). t.documents) (drop n tables) (level_in newest))

unfoldable pub state_with : ℕ → List Document → State
state_with next documents = record { next = next; documents = documents }

-- ---- of which states what comes may speak

-- A store goes on with what is opened. Levels come in place of its own whose rows are some of all its rows, and the documents of the others
-- are gone: what comes may speak of each state of which what is opened may, by the cells that its documents had.
module _ (before : Store) (o : Opened) (keeps : Keeps before o) (levels : NextLevels) (kept_row : DocRow → Bool)
    (rows : rows_between levels.oldest.documents levels.stay_from (levels_of before) levels.newest.documents ≡ filter kept_row (rows_of before))
    (gone : All (λ (row : DocRow). kept_row row ≡ false → ends_among (gone_of before.catalog) row ≡ true) (rows_of before)) (ends : Ends) (next location : ℕ)
    (next_is : next ≡ before.catalog.next) (deleted_is : ends.deleted.now ≡ ends_in (gone_of before.catalog) (rows_between levels.oldest.documents levels.stay_from (levels_of before) levels.newest.documents))
    (limit : ℕ) (coming : Opened) (come : IsComing limit o coming levels ends next location) where
  abbrev oldest : Option Tables
  oldest = table_to_come come.places.oldest levels.oldest

  abbrev newest : Option Tables
  newest = table_to_come come.places.newest levels.newest

  -- the rows of the levels to come are those of the contents that were given
  same_rows : table_rows (tables_between oldest levels.stay_from (levels_of before) newest) ≡ rows_between levels.oldest.documents levels.stay_from (levels_of before) levels.newest.documents
  same_rows =
      let places = places_are limit o.root (length (segment_of levels.oldest)) (length (segment_of levels.newest)) (length (list_of ends)) come.places come.places_are in
      rows_in_between oldest newest levels.stay_from (levels_of before)
      ∙ ap₂ (λ (xs ys : List DocRow). rows_between xs levels.stay_from (levels_of before) ys)
      (ap table_rows (sym (same_level oldest)) ∙ rows_placed levels.oldest (taken_by o.root []) limit come.places.oldest places.oldest_is)
      (ap table_rows (sym (same_level newest)) ∙ rows_placed levels.newest (taken_by o.root (as_list come.places.oldest)) limit come.places.newest places.newest_is)

  replaces : MayReplace before.catalog oldest levels.stay_from newest
  replaces = record { kept = kept_row; rows = same_rows ∙ rows; gone = gone }

  levels_come : coming.levels ≡ tables_between oldest levels.stay_from (levels_of before) newest
  levels_come =
      come.levels_are ∙ ap₂ (λ (xs ys : List Tables). xs ++ (drop levels.stay_from o.levels ++ ys)) (same_level oldest) (same_level newest)
      ∙ ap (λ (ts : List Tables). tables_between oldest levels.stay_from ts newest) (sym keeps.levels)

  pub comes_may : (s : State) → MayBe s o → MayBe s coming
  unfolding state_with
  comes_may s may =
      let knows : Knows before s = (keeps.knows s may).0 in
      let olds : List Added = kept before.catalog s knows oldest levels.stay_from newest replaces in
      let next_comes : s.next ≡ coming.root.next_number = sym knows.notes.next ∙ sym next_is ∙ ap (λ (r : Root). r.next_number) (sym come.root_is) in
      let left : s.documents ≡ documents_left coming.deleted olds =
      sym (left_same before.catalog s knows oldest levels.stay_from newest replaces)
      ∙ ap (λ (es : List ℕ). documents_left es olds) (ap (ends_in (gone_of before.catalog)) same_rows ∙ sym deleted_is ∙ sym come.deleted_are) in
      record {
        start = s;
        starts = record {
          olds = olds;
          rows = subst (λ (ls : List Tables). AreRowsOf (table_rows ls) olds) (sym levels_come) (kept_are before.catalog s knows oldest levels.stay_from newest replaces);
          state_is = ap₂ (λ (n : ℕ) (ds : List Document). state_with n ds) next_comes left;
        };
        state_is = ap (λ (es : List Entry). after_entries s es) (sym come.entries_are);
      }
