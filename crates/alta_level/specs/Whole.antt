-- A list of a level that is read whole, or not.
use Rattle.std.specs.Prelude.{ℕ, List, Result, IfOk}
use Rattle.alta_content.specs.declared.document.DocRow.{DocRow}
use Rattle.alta_table.specs.declared.fault.LevelFault.{LevelFault}
use Rattle.alta_table.specs.Answers.{IfDamaged}
use Rattle.alta_level.specs.Stored.{IsListFault, IsListOf, Stored}

-- on Ok what stands there is this list, and a damage is its first fault
pub record ReadsList {X : Type 0} (documents : List DocRow) (s : Stored) (list : List ℕ)
    (result : Result X LevelFault) : Type 0 where
  pub found : IfOk result (λ x. IsListOf documents s list)
  pub first : IfDamaged result (IsListFault documents s)
