-- Rows by their numbers.
use Rattle.std.specs.Prelude.{◌≡◌, ◌==◌, ℕ, ◌+◌, false, List, [], ◌∷◌}
use Rattle.std.specs.List.{All}
use Rattle.alta_content.specs.declared.document.DocRow.{DocRow}

-- each of these rows has another number
abbrev pub AreOther : ℕ → List DocRow → Type 0
AreOther number rows = All (λ (row : DocRow). (row.number == number) ≡ false) rows

-- the rows have the numbers from this one on
abbrev pub FollowOn : ℕ → List DocRow → Type 0
FollowOn number [] = Unit {0}
FollowOn number (row ∷ rows) = (row.number ≡ number) × FollowOn (number + 1) rows
