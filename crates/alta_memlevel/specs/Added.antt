-- Documents that were added, and the content that they make up.
use Rattle.std.specs.Prelude.{◌≡◌, ℕ, ◌+◌, ◌<◌, ◌≤◌, cond, not, Bool, List, [], ◌∷◌, ◌++◌, length, map}
use Rattle.std.specs.Cmp.Lexicographic.{slice_cmp}
use Rattle.std.specs.List.{All, filter}
use Rattle.std.specs.List.Sorted.{IsStrictlySortedBy}
use Rattle.std.specs.Ordering.{nat_cmp}
use Rattle.alta_codec.specs.declared.location.TheConstants.{TOP}
use Rattle.alta_content.specs.declared.content.Content.{Content}
use Rattle.alta_content.specs.declared.document.DocRow.{DocRow}
use Rattle.alta_content.specs.Lists.{locations_of, terms_of}
use Rattle.alta_content.specs.Rows.{end_of, ends_among}
use Rattle.alta_machine.specs.Cells.{cell_holds}

-- a level as callers see it: its content, and whether it can still be used
pub record LevelView : Type 0 where
  pub sound : Bool
  pub content : Content

-- a document with its cells, which stand one behind the other from the row's first location
pub record Added : Type 0 where
  pub row : DocRow
  pub cells : List (List (List ℕ))

-- the locations of the cells that hold the term, where the first cell stands at `first` and each other one behind the one before
abbrev pub places_of : ℕ → List ℕ → List (List (List ℕ)) → List ℕ
places_of first term [] = []
places_of first term (cell ∷ cells) = (cond (cell_holds term cell) (first ∷ []) []) ++ places_of (first + 1) term cells

-- the locations of all cells of the documents that hold the term
abbrev pub list_of : List Added → List ℕ → List ℕ
list_of [] term = []
list_of (a ∷ more) term = places_of a.row.first term a.cells ++ list_of more term

-- a document has a cell for each location of its row, and at least one, from 1 to below TOP
pub record IsInSpace (a : Added) : Type 0 where
  pub positive : 1 ≤ a.row.first
  pub some : 1 ≤ a.row.cells
  pub counted : a.row.cells ≡ length a.cells
  pub below : end_of a.row < TOP

-- numbers and ranges rise from document to document
abbrev pub IsSpace : List Added → Type 0
IsSpace [] = Unit {0}
IsSpace (a ∷ more) =
    IsInSpace a × All (λ b. a.row.number < b.row.number) more
    × All (λ b. end_of a.row < b.row.first) more × IsSpace more

-- the content is that of the documents: their rows in order, and in collating order each term that a cell holds, with the locations of the cells that hold it
pub record HasContent (added : List Added) (content : Content) : Type 0 where
  pub space : IsSpace added
  pub documents : content.documents ≡ map (λ a. a.row) added
  pub lists : (term : List ℕ) → locations_of content.lists term ≡ list_of added term
  pub some : All (λ l. 0 < length l.locations) content.lists
  pub sorted : IsStrictlySortedBy (slice_cmp nat_cmp) (terms_of content.lists)

-- the documents whose end is not one of these
abbrev pub live_of : List ℕ → List Added → List Added
live_of deleted added = filter (λ a. not (ends_among deleted a.row)) added
