-- The names of live documents, as a list in order.
use Rattle.std.specs.Prelude.{◌≡◌, ◌↔◌, ℕ, List, [], ◌∷◌, map, Contains, Some}
use Rattle.std.specs.Cmp.Lexicographic.{slice_cmp}
use Rattle.std.specs.List.{All}
use Rattle.std.specs.Ordering.{nat_cmp}
use Rattle.std.specs.declared.cmp.Ordering.{Ordering}
use Rattle.alta_catalog.specs.declared.lists.NameRow.{NameRow}
use Rattle.alta_codec.specs.Order.{Precedes}
use Rattle.alta_meaning.specs.Known.{Named}
use Rattle.alta_machine.specs.Changes.{number_of}
use Rattle.alta_machine.specs.declared.document.State.{State}

-- each name comes before all those behind it, in the order of bytes
abbrev pub Ascend : List (List ℕ) → Type 0
Ascend [] = Unit {0}
Ascend (name ∷ names) = All (Precedes name) names × Ascend names

-- These are the names of the live documents with their numbers, in the order of bytes, each once.
pub record AreNamesOf (s : State) (rows : List NameRow) : Type 0 where
  pub ascending : Ascend (map (λ (row : NameRow). row.name) rows)
  pub live : (name : List ℕ) (number : ℕ) → Contains rows (record { name = name; number = number })
      ↔ (number_of name s ≡ Some number)

-- rows by their names, in the order of bytes
abbrev pub by_name : NameRow → NameRow → Ordering
by_name a b = slice_cmp nat_cmp a.name b.name

-- a name with its number, as a row
abbrev pub name_row : Named → NameRow
name_row live = record { name = live.name; number = live.number }
