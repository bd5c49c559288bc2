-- Lists of all documents' ends that were tested.
use Rattle.std.specs.Prelude.{◌≡◌, ℕ, List, All}
use Rattle.alta_content.specs.Lists.{end_term}
use Rattle.alta_content.specs.Rows.{ends_of}
use Rattle.alta_loading.specs.Loads.{IsWhole, Load, list_at, load_in}
use Rattle.alta_loading.specs.declared.kept.Ends.{Ends}
use Rattle.alta_loading.specs.declared.kept.Ends.TheVariants.{Tested, Untested}
use Rattle.alta_table.specs.Tables.{Tables}

-- the list of the ends of a level's documents is whole on the image, where the level has one
abbrev pub HasWholeEnds : List ℕ → Tables → Type 0
HasWholeEnds image level = All (IsWhole image) (load_in 0 level end_term)

-- where they were tested, those of these levels are
abbrev pub AreEndsWhole : Ends → List ℕ → List Tables → Type 0
AreEndsWhole Untested image levels = Unit {0}
AreEndsWhole Tested image levels = All (HasWholeEnds image) levels

-- What stands on the image is whole, and is the ends of all documents of its level.
pub record IsAllEnds (image : List ℕ) (load : Load) : Type 0 where
  pub whole : IsWhole image load
  pub are : list_at image load ≡ ends_of load.level.documents
