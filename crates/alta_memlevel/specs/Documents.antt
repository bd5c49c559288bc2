-- Documents that were made of texts, the content that they make up, and what is read back from one.
use Rattle.std.specs.Prelude.{◌≡◌, ℕ, ◌<◌, ◌≤◌, IsTrue, List, length, map}
use Rattle.std.specs.List.{All, flat_map}
use Rattle.alta_codec.specs.declared.location.TheConstants.{TOP}
use Rattle.alta_codec.specs.Name.{IsName}
use Rattle.alta_codec.specs.Rising.{IsRising}
use Rattle.alta_content.specs.declared.content.Content.{Content}
use Rattle.alta_content.specs.TermList.{TermList}
use Rattle.alta_content.specs.declared.document.DocRow.{DocRow}
use Rattle.alta_content.specs.Cells.{cells_at}
use Rattle.alta_content.specs.Joining.{in_order}
use Rattle.alta_content.specs.Rows.{end_of}
use Rattle.alta_machine.specs.Cells.{cells_of}
use Rattle.alta_machine.specs.declared.document.Document.{Document}
use Rattle.alta_memlevel.specs.Added.{Added, HasContent, IsSpace, LevelView, list_of, live_of}

-- a document of a name, a title and a body: its cells are theirs, not too many, and its number is from 1 to below TOP
pub record IsMade (a : Added) : Type 0 where
  pub title : List ℕ
  pub body : List ℕ
  pub named : IsName a.row.name
  pub made : a.cells ≡ cells_of a.row.name title body
  pub few : length a.cells ≤ 262146
  pub numbered : 1 ≤ a.row.number
  pub number_below : a.row.number < TOP

abbrev pub AreMade : List Added → Type 0
AreMade added = All IsMade added

-- the document stands at or behind this number and this location
abbrev pub IsFrom : ℕ → ℕ → Added → Type 0
IsFrom number location a = (number ≤ a.row.number) × (location ≤ a.row.first)

-- Documents of names, titles and bodies stand one behind the other, at or behind this number and this location.
pub record AreAdded (number location : ℕ) (added : List Added) : Type 0 where
  pub space : IsSpace added
  pub made : AreMade added
  pub behind : All (IsFrom number location) added

-- the row stands before this number and this location
abbrev pub IsBefore : ℕ → ℕ → DocRow → Type 0
IsBefore number location row = (row.number < number) × (end_of row < location)

-- the document that was added
abbrev pub document_in : Added → Document
document_in a = record { number = a.row.number; name = a.row.name; cells = a.cells }

-- The level can be used, its content is that of documents that were made of texts, and those of them that are not deleted are these,
-- in order.
pub record HasDocuments (gone : List ℕ) (documents : List Document) (level : LevelView) : Type 0 where
  pub added : List Added
  pub sound : IsTrue level.sound
  pub content : HasContent added level.content
  pub made : AreMade added
  pub rising : IsRising gone
  pub live : map document_in (live_of gone added) ≡ documents

-- the document of a row, whose cells are read off the lists
abbrev pub document_of : List TermList → DocRow → Document
document_of lists row = record { number = row.number; name = row.name; cells = cells_at lists row }

-- the terms of the cells of documents, as they stand in them
abbrev pub terms_added : List Added → List (List ℕ)
terms_added added = flat_map (λ (a : Added). flat_map (λ cell. cell) a.cells) added

-- the content of documents: their rows in order, and each term that a cell of theirs holds with the locations of these cells
abbrev pub content_of : List Added → Content
content_of added = record {
  documents = map (λ (a : Added). a.row) added;
  lists = map (λ term. record { term = term; locations = list_of added term }) (in_order (terms_added added));
}
