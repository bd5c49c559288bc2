-- What a dump walks over.
use Rattle.std.specs.Prelude.{ℕ, List, [], ◌∷◌}
use Rattle.std.specs.List.{flat_map}
use Rattle.alta_content.specs.Cells.{locations_from}
use Rattle.alta_content.specs.declared.document.DocRow.{DocRow}
use Rattle.alta_memlevel.specs.Added.{Added}
use Rattle.alta_machine.specs.declared.kinds.TheConstants.{WORD, TITLE_END, DOCUMENT_END}
use Rattle.alta_machine.specs.declared.test.Test.{Test}
use Rattle.alta_machine.specs.declared.test.Test.TheVariants.{Is, Begins}

-- the lists of the ends of documents and of titles, and of all folded words
abbrev pub dump_tests : List Test
dump_tests = Is (DOCUMENT_END ∷ []) ∷ Is (TITLE_END ∷ []) ∷ Begins (WORD ∷ []) ∷ []

-- the places of the cells of rows, in order
abbrev pub places_of : List DocRow → List ℕ
places_of rows = flat_map (λ (row : DocRow). locations_from row.first row.cells) rows

abbrev pub row_in : Added → DocRow
row_in a = a.row
