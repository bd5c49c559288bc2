-- How a text is read: as the query that it spells, or with its first fault.
use Rattle.std.specs.Prelude.{ℕ, List, length, Result}
use Rattle.alta_machine.specs.Shape.{Shape}
use Rattle.alta_machine.specs.QueryFaults.{Fault}
use Rattle.alta_machine.specs.Spots.{spots}
use Rattle.alta_machine.specs.Parser.{parse_of}

unfoldable pub query_of : List ℕ → Result Shape Fault
query_of text = parse_of (spots text) (length text)
