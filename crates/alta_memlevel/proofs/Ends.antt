-- The ends of rows that rise.
use Rattle.std.proofs.Common.{ℕ, ◌+◌, ◌<◌, ◌≤◌, List, [], ◌∷◌, map, arith}
use Rattle.std.specs.List.{All}
use Rattle.std.proofs.lemmas.List.Elements.{All-nil, All-cons, All-head, All-weaker}
use Rattle.alta_codec.specs.declared.location.TheConstants.{TOP}
use Rattle.alta_codec.specs.Rising.{IsRising}
use Rattle.alta_content.specs.Rows.{RowsRise, end_of}
use Rattle.alta_content.specs.declared.document.DocRow.{DocRow}
use Rattle.alta_memlevel.proofs.Contents.{RisesIn, rising_from}

all_behind : (low : ℕ) (rows : List DocRow) → All (λ (r : DocRow). low < r.first) rows → All (λ (r : DocRow). low + 1 ≤ r.first) rows
all_behind low rows h = All-weaker (λ (r : DocRow). low < r.first) (λ (r : DocRow). low + 1 ≤ r.first) (λ r l. omega (arith, l)) rows h

ends_in : (low : ℕ) (rows : List DocRow) → RowsRise rows → All (λ (r : DocRow). low ≤ r.first) rows → RisesIn low TOP (map end_of rows)
ends_in low [] r h = tt
ends_in low (row ∷ more) r h =
    (omega (arith, All-head (λ (r : DocRow). low ≤ r.first) row more h, r.0.some), r.0.below, ends_in (end_of row + 1) more r.2 (all_behind (end_of row) more r.1))

all_positive : (rows : List DocRow) → RowsRise rows → All (λ (r : DocRow). 1 ≤ r.first) rows
all_positive [] r = All-nil (λ (r : DocRow). 1 ≤ r.first)
all_positive (row ∷ more) r = All-cons (λ (r : DocRow). 1 ≤ r.first) row more r.0.positive (all_positive more r.2)

pub ends_rise : (rows : List DocRow) → RowsRise rows → IsRising (map end_of rows)
ends_rise rows r = rising_from (map end_of rows) (ends_in 1 rows r (all_positive rows r))
