-- The names of live documents in a table.
use Rattle.std.specs.Prelude.{ℕ, if◌then◌else◌, List, [], ◌∷◌, Option, Some, None}
use Rattle.std.specs.Str.{bytes_eq}
use Rattle.alta_names.specs.Names.{Fits}
use Rattle.alta_names.specs.declared.table.NameTable.{NameTable}
use Rattle.alta_meaning.specs.Known.{Named}

-- the number of the first of these with this name
abbrev pub number_of : List ℕ → List Named → Option ℕ
number_of name [] = None
number_of name (row ∷ rows) = if bytes_eq name row.name then Some row.number else number_of name rows

-- The table has the names of these, each with its number, and no other name.
abbrev pub AreNames : NameTable → List Named → Type 0
AreNames table live = Fits table (λ name. number_of name live)
