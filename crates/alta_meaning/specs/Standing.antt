-- What an image stands for: it is opened, and its levels' bytes are the segments of contents.
use Rattle.std.specs.Prelude.{◌≡◌, ◌⊎◌, ℕ, List, map}
use Rattle.std.specs.List.{All}
use Rattle.alta_level.specs.Segments.{IsSegment, rows_of}
use Rattle.alta_machine.specs.declared.document.State.{State}
use Rattle.alta_root.specs.Slots.{Counts}
use Rattle.alta_meaning.specs.Levels.{Level}
use Rattle.alta_meaning.specs.Views.{View, state_of}
use Rattle.alta_table.specs.Tables.{Tables}
use Rattle.alta_meaning.specs.Opened.{Opened, IsNamed, bytes_at}

-- the tables of a level by its content
abbrev pub tables_by : Level → Tables
tables_by level = record {
  place = level.extent.place;
  documents = level.content.documents;
  terms = rows_of level.content.lists;
}

-- These are the levels of what is opened: each one's bytes are the segment of a content, whose tables are those that are
-- there.
pub record AreLevels (opened : Opened) (levels : List Level) (image : List ℕ) : Type 0 where
  pub extents : opened.root.levels.items ≡ map (λ (l : Level). l.extent) levels
  pub tables : opened.levels ≡ map tables_by levels
  pub segments : All (λ (l : Level). IsSegment (bytes_at l.extent image) l.content) levels

-- what is opened, with its levels' contents
abbrev pub view_of : Opened → List Level → View
view_of opened levels = record {
  version = opened.root.version;
  next = opened.root.next_number;
  location = opened.root.next_location;
  levels = levels;
  deleted = opened.deleted;
  entries = opened.entries;
}

-- What a root names keeps all rules, streams and summaries among them, and is the view of this state.
pub record Means (s : State) (opened : Opened) (image : List ℕ) : Type 0 where
  pub named : IsNamed opened image
  pub levels : List Level
  pub are : AreLevels opened levels image
  pub state_is : state_of (view_of opened levels) ≡ s

-- The image stands for this state: the root that counts means it.
pub record StandsFor (s : State) (image : List ℕ) : Type 0 where
  pub opened : Opened
  pub counts : Counts opened.slot opened.root image
  pub means : Means s opened image

-- the image stands for one of two states
abbrev pub StandsForEither : State → State → List ℕ → Type 0
StandsForEither before later image = StandsFor before image ⊎ StandsFor later image
