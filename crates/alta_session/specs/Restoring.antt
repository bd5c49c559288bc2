-- The add lines of a dump.
use Rattle.std.specs.Prelude.{◌≡◌, ℕ, ◌<◌, List, length, map, Some}
use Rattle.std.specs.List.{All}
use Rattle.alta_codec.specs.Name.{IsName}
use Rattle.alta_machine.specs.DumpLines.{line_of}
use Rattle.alta_machine.specs.States.{AllDiffer, name_of}
use Rattle.alta_machine.specs.declared.document.Document.{Document}

-- Each of the documents has its line, and they have proper names, no two the same, and not more than there are numbers.
pub record AreAddLines (documents : List Document) (lines : List (List ℕ)) : Type 0 where
  pub each : map line_of documents ≡ map Some lines
  pub named : All IsName (map name_of documents)
  pub distinct : AllDiffer (map name_of documents)
  pub numbered : length documents < 4294967296
