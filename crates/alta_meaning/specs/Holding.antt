-- What a store holds.
use Rattle.std.specs.Prelude.{◌≡◌, ◌↔◌, ◌<◌, ◌≤◌, true, ℕ, List, [], ◌∷◌, ◌++◌, length, map, Option, Some, None}
use Rattle.std.specs.List.{All}
use Rattle.alta_codec.specs.declared.extent.Extent.{Extent}
use Rattle.alta_memlevel.specs.Added.{Added, IsSpace}
use Rattle.alta_content.specs.Rows.{end_of, ends_among}
use Rattle.alta_machine.specs.declared.document.Document.{Document}
use Rattle.alta_root.specs.Root.{no_extent}
use Rattle.alta_meaning.specs.Entries.{AllowsAll}
use Rattle.alta_meaning.specs.Levels.{Level}
use Rattle.alta_meaning.specs.Views.{View, rooted}
use Rattle.alta_meaning.specs.Work.{Job, extents_in, is_gone, newest, level_rows}
use Rattle.alta_content.specs.declared.document.DocRow.{DocRow}
use Rattle.alta_meaning.specs.Opened.{Opened, IsOpened}
use Rattle.alta_meaning.specs.Ordered.{RowsPrecede}
use Rattle.alta_meaning.specs.Standing.{AreLevels, view_of}
use Rattle.alta_content.specs.Joining.{terms_in}

-- The view of the disk, where the deletion list stands, with place and bytes 0 where there is none, and the job if one goes on.
pub record Holding : Type 0 where
  pub view : View
  pub list : Extent
  pub job : Option Job

-- the extents of the root in force
abbrev pub taken_by_held : Holding → List Extent
taken_by_held held = held.list ∷ extents_in held.view.levels

-- A job is over the two oldest levels, a term is left, and what was dead when it began is gone.
pub record IsJob (job : Job) (view : View) : Type 0 where
  pub older : Level
  pub newer : Level
  pub more : List Level
  pub oldest : view.levels ≡ older ∷ newer ∷ more
  pub contents : (job.older ≡ older.content) × (job.newer ≡ newer.content)
  pub left : job.merged < length (terms_in (job.older ∷ job.newer ∷ []))
  pub dead : All (λ (row : DocRow). ends_among job.dead row ≡ true
      → is_gone view row ≡ true) (job.older.documents ++ job.newer.documents)

abbrev pub IsJobOf : Option Job → View → Type 0
IsJobOf None view = Unit {0}
IsJobOf (Some job) view = IsJob job view

-- What a store holds is well formed: there is a list exactly where ends are deleted, and a job is one over its view.
pub record IsWell (held : Holding) : Type 0 where
  pub listed : (held.list ≡ no_extent) ↔ (held.view.deleted ≡ [])
  pub job : IsJobOf held.job held.view

-- all rows of a view: of its levels, the oldest first, and of the newest documents
abbrev pub all_rows : View → List DocRow
all_rows view = level_rows view.levels ++ map (λ (a : Added). a.row) (newest view)

-- All rows rise, each with a cell at least. The levels' rows lie below the next number and location, and so do what is deleted and
-- the numbers of the root's documents; the newest documents' cells have places, and each entry is allowed where it stands.
pub record IsSpaced (view : View) : Type 0 where
  pub rise : RowsPrecede (all_rows view)
  pub filled : All (λ (row : DocRow). 1 ≤ row.cells) (all_rows view)
  pub below : All (λ (row : DocRow). (row.number < view.next) × (end_of row < view.location)) (level_rows view.levels)
  pub deleted : All (λ end. end < view.location) view.deleted
  pub numbers : All (λ (d : Document). d.number < view.next) (rooted view).documents
  pub space : IsSpace (newest view)
  pub allowed : AllowsAll (rooted view) view.entries

-- An image has what is held: the root that counts names it, and each level's bytes are the segment of its content.
pub record IsHeld (held : Holding) (image : List ℕ) : Type 0 where
  pub opened : Opened
  pub is : IsOpened opened image
  pub are : AreLevels opened held.view.levels image
  pub view_is : held.view ≡ view_of opened held.view.levels
  pub list_is : held.list ≡ opened.root.deletions
