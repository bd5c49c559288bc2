-- What is counted of the rows of live documents.
use Rattle.std.specs.Prelude.{◌≡◌, ℕ, ◌-◌, List, length}
use Rattle.std.specs.List.{sum_by}
use Rattle.alta_content.specs.Rows.{live_rows}
use Rattle.alta_content.specs.declared.document.DocRow.{DocRow}
use Rattle.alta_catalog.specs.declared.starting.Tally.{Tally}

-- the words of a row's document: a cell each, beside those of the name, the title's end and the document's end
abbrev pub row_words : DocRow → ℕ
row_words row = row.cells - 3

abbrev pub cells_in : List DocRow → ℕ
cells_in rows = sum_by (λ (row : DocRow). row.cells) rows

-- so many rows are live, and have so many words
pub record IsTally (gone : List ℕ) (rows : List DocRow) (tally : Tally) : Type 0 where
  pub documents : tally.documents ≡ length (live_rows gone rows)
  pub words : tally.words ≡ sum_by row_words (live_rows gone rows)
