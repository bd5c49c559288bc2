-- What is told of a row, and rows by their indexes.
use Rattle.std.specs.Prelude.{ℕ, List, [], map, slice_index_or}
use Rattle.alta_content.specs.declared.document.DocRow.{DocRow}
use Rattle.alta_machine.specs.Searching.{AnswerRow}

abbrev pub answer_of : DocRow → AnswerRow
answer_of row = record { number = row.number; name = row.name }

-- what stands past the last row
abbrev pub no_row : DocRow
no_row = record { number = 0; first = 0; cells = 0; name = [] }

-- the rows at these indexes
abbrev pub rows_at : List DocRow → List ℕ → List DocRow
rows_at rows picks = map (λ i. slice_index_or rows i no_row) picks
