-- A walk along the rows of a term part: what it stands behind.
use Rattle.std.specs.Prelude.{◌≡◌, ℕ, List, take, Ok}
use Rattle.alta_format.specs.Format.{read}
use Rattle.alta_table.specs.declared.term.TermRow.{TermRow}
use Rattle.alta_table.specs.declared.walk.Walk.{Walk}
use Rattle.alta_table.specs.Terms.{Behind, term_format}

-- the term of the row before
abbrev pub term_of : Walk → List ℕ
term_of w = take w.len w.term

-- what the rows before leave behind
abbrev pub behind_of : Walk → Behind
behind_of w = record { term = term_of w; room = w.left }

-- the row before
abbrev pub row_of : Walk → TermRow
row_of w = record { term = term_of w; count = w.count; stream = w.stream; summary = w.summary }

-- a row stands behind
abbrev pub IsNext : Walk → Type 0
IsNext w = (row : TermRow) × (rest : List ℕ) × (read (term_format (behind_of w)) w.rest.now ≡ Ok (row, rest))
