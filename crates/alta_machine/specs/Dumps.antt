-- The dump of a state, and the state that its add lines make.
use Rattle.std.specs.Prelude.{ℕ, ◌+◌, List, [], ◌∷◌, ◌++◌, length, map, codes, decimal, Option, Some, None, is_some, count_by}
use Rattle.std.specs.List.{concat}
use Rattle.alta_machine.specs.declared.document.Document.{Document}
use Rattle.alta_machine.specs.declared.document.State.{State}
use Rattle.alta_machine.specs.DumpLines.{cells_again, line_of}

-- the line, or that the document is skipped
abbrev pub line_or_skipped : Document → Option (List ℕ) → List ℕ
line_or_skipped d (Some line) = line ++ codes "\n"
line_or_skipped d None = codes "skipped " ++ decimal d.number ++ codes " " ++ d.name ++ codes "\n"

abbrev pub lines_for : List Document → List ℕ
lines_for documents = concat (map (λ d. line_or_skipped d (line_of d)) documents)

-- how many of them have a line
abbrev pub count_lines : List Document → ℕ
count_lines documents = count_by (λ d. is_some (line_of d)) documents

-- of each document its line, or that it is skipped, in order, and then how many lines there are
unfoldable pub dumped : List Document → List ℕ
dumped documents = lines_for documents ++ codes "dumped " ++ decimal (count_lines documents) ++ codes "\n"

-- the dump of the live documents
abbrev pub dump_of : State → List ℕ
dump_of s = dumped s.documents

-- the documents once their lines were added, numbered from here on
abbrev pub added_from : ℕ → List Document → List Document
added_from number [] = []
added_from number (d ∷ ds) = record { number = number; name = d.name; cells = cells_again d }
    ∷ added_from (number + 1) ds

-- the state that the add lines of the documents make
abbrev pub restored : List Document → State
restored documents = record { next = length documents + 1; documents = added_from 1 documents }
