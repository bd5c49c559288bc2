use Rattle.std.proofs.Common.{◌≡◌, ◌++◌, ◌≤◌, List, drop, length}
use Rattle.alta_content.specs.Rows.{AreDocumentsBehind, Before}
use Rattle.alta_content.specs.declared.document.DocRow.{DocRow}
use Rattle.alta_opening.specs.Rows.{are_ends}
use Rattle.alta_opening.proofs.ends.passed.Given as goal

abbrev pub invariant-loop-row : goal.invariant-loop-row
invariant-loop-row l = record {
  within : l.at ≤ length l.deleted;
  passed : (before : Before) → (later : List DocRow) → AreDocumentsBehind before (l.rows ++ later)
      → are_ends (l.rows ++ later) (drop l.from l.deleted) ≡ are_ends (drop l.row-index (l.rows ++ later)) (drop l.at l.deleted);
}
