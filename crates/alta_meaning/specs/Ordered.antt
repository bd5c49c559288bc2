-- What live documents keep at each moment: their numbers rise, and their names differ.
use Rattle.std.specs.Prelude.{◌≢◌, ◌≤◌, ◌<◌, List, [], ◌∷◌}
use Rattle.std.specs.List.{All}
use Rattle.alta_root.specs.declared.root.Root.{Root}
use Rattle.alta_content.specs.Rows.{end_of}
use Rattle.alta_content.specs.declared.document.DocRow.{DocRow}
use Rattle.alta_meaning.specs.Known.{Named, Known}

-- a lower number, and another name
abbrev pub IsBefore : Named → Named → Type 0
IsBefore row later = (row.number < later.number) × (row.name ≢ later.name)

abbrev pub AreOrdered : List Named → Type 0
AreOrdered [] = Unit {0}
AreOrdered (row ∷ more) = All (IsBefore row) more × AreOrdered more

-- The numbers rise, from 1 to below the next, and the names differ.
pub record IsOrdered (known : Known) : Type 0 where
  pub ordered : AreOrdered known.live
  pub within : All (λ (row : Named). (1 ≤ row.number) × (row.number < known.next)) known.live

-- ---- rows

-- a lower number, and no location that is not lower
abbrev pub Precedes : DocRow → DocRow → Type 0
Precedes row later = (row.number < later.number) × (end_of row < later.first)

-- each row precedes all behind it
abbrev pub RowsPrecede : List DocRow → Type 0
RowsPrecede [] = Unit {0}
RowsPrecede (row ∷ more) = All (Precedes row) more × RowsPrecede more

-- numbers and locations lie below the next ones of the root
abbrev pub AreBelow : Root → List DocRow → Type 0
AreBelow root rows = All (λ (row : DocRow). (row.number < root.next_number) × (end_of row < root.next_location)) rows
