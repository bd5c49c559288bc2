-- What a catalog is once other levels stand in place of some of its own.
use Rattle.std.specs.Prelude.{◌≡◌, ◌+◌, ◌≤◌, ℕ, nat_eq, Bool, true, false, IsTrue, List, [], ◌∷◌, ◌++◌, drop, map, Option, Some, None, Result, Ok, Err}
use Rattle.std.specs.List.{All, filter, list_any}
use Rattle.std.specs.Vec.{vec_capacity, vec_len}
use Rattle.alta_content.specs.Rows.{end_of, ends_among}
use Rattle.alta_content.specs.declared.document.DocRow.{DocRow}
use Rattle.alta_meaning.specs.Opened.{table_rows}
use Rattle.alta_memlevel.specs.Added.{HasContent}
use Rattle.alta_catalog.specs.declared.catalog.Catalog.{Catalog}
use Rattle.alta_catalog.specs.declared.replacing.PreparedLevels.{PreparedLevels}
use Rattle.alta_table.specs.Tables.{Tables}

-- ---- rows

-- the ends of those rows whose end is gone
abbrev pub ends_in : List ℕ → List DocRow → List ℕ
ends_in gone rows = map end_of (filter (ends_among gone) rows)

-- whether one of these rows ends there
abbrev pub is_end : List DocRow → ℕ → Bool
is_end rows end = list_any (λ (row : DocRow). nat_eq (end_of row) end) rows

-- ---- levels

-- what there is, or nothing
abbrev pub some_in : {X : Type 0} → Option X → List X
some_in None = []
some_in (Some x) = x ∷ []

-- a level, or none
abbrev pub level_in : Option Tables → List Tables
level_in level = some_in level

-- the levels from an index on, between two others
abbrev pub tables_between : Option Tables → ℕ → List Tables → Option Tables → List Tables
tables_between oldest n tables newest = level_in oldest ++ (drop n tables ++ level_in newest)

-- the rows of the levels from an index on, between others
abbrev pub rows_between : List DocRow → ℕ → List Tables → List DocRow → List DocRow
rows_between oldest n tables newest = oldest ++ (table_rows (drop n tables) ++ newest)

-- ---- a catalog

-- The level in memory was taken out, and all else stayed.
pub record IsEmptied (before now : Catalog) : Type 0 where
  pub next : now.next ≡ before.next
  pub location : now.location ≡ before.location
  pub first : now.first ≡ before.first
  pub count : now.count ≡ before.count
  pub words : now.words ≡ before.words
  pub names : now.names ≡ before.names
  pub levels : now.levels ≡ before.levels
  pub gone : now.gone ≡ before.gone
  pub sound : IsTrue now.memory.sound
  pub empty : HasContent [] now.memory.content

-- the ends that are deleted once the levels stand
abbrev pub deleted_of : PreparedLevels → List ℕ
deleted_of prepared = prepared.deleted

-- What was prepared has room for all levels of the catalog and two more.
pub record HasRoom (c : Catalog) (prepared : PreparedLevels) : Type 0 where
  pub no_levels : prepared.levels.items ≡ []
  pub levels : vec_len c.levels + 2 ≤ vec_capacity prepared.levels

-- These rows were prepared to come in place of the n oldest levels of the catalog, and those behind all. The ends to come are those of
-- all rows to come that are gone.
pub record IsPrepared (c : Catalog) (oldest : List DocRow) (n : ℕ) (newest : List DocRow)
    (prepared : PreparedLevels) : Type 0 where
  pub deleted : prepared.deleted ≡ ends_in c.gone (rows_between oldest n c.levels.items newest)
  pub room : HasRoom c prepared

-- The tables of the n oldest levels were dropped, and all else stayed.
pub record IsLeft (n : ℕ) (before now : Catalog) : Type 0 where
  pub next : now.next ≡ before.next
  pub location : now.location ≡ before.location
  pub first : now.first ≡ before.first
  pub count : now.count ≡ before.count
  pub words : now.words ≡ before.words
  pub names : now.names ≡ before.names
  pub memory : now.memory ≡ before.memory
  pub gone : now.gone ≡ before.gone
  pub levels : now.levels.items ≡ drop n before.levels.items
  pub few : vec_len now.levels ≤ vec_len before.levels

-- the tables of the n oldest levels were dropped, and on Err all is as it was
abbrev pub Leaves : {T E : Type 0} → ℕ → (before now : Catalog) → Result T E → Type 0
Leaves n before now (Ok x) = IsLeft n before now
Leaves n before now (Err e) = now ≡ before

-- The levels from an index on may stand between two others, in place of all levels and the newest documents of a catalog: their rows are
-- some of all rows, in order, and the documents of the others are gone.
pub record MayReplace (before : Catalog) (oldest : Option Tables) (n : ℕ) (newest : Option Tables) : Type 0 where
  pub kept : DocRow → Bool
  pub rows : table_rows (tables_between oldest n before.levels.items newest)
      ≡ filter kept (table_rows before.levels.items ++ before.memory.content.documents)
  pub gone : All (λ (row : DocRow). kept row ≡ false → ends_among before.gone row ≡ true)
      (table_rows before.levels.items ++ before.memory.content.documents)
