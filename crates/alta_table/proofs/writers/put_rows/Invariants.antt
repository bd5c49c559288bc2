use Rattle.std.proofs.Common.{◌≡◌, ◌++◌, drop, take, length}
use Rattle.alta_format.specs.Format.{AreEntries, entries_bytes}
use Rattle.alta_table.specs.Documents.{documents_table, row_bytes, documents_bytes}
use Rattle.alta_content.specs.Rows.{MayFollow}
use Rattle.alta_table.proofs.writers.put_rows.Given as goal

abbrev pub invariant-loop-row : goal.invariant-loop-row
invariant-loop-row l = record {
  keeps : AreEntries documents_table MayFollow (record { number = l.number; end = l.end }) (drop l.row-index l.rows);
  spells : l.out.items ++ entries_bytes documents_table row_bytes (record { number = l.number; end = l.end }) (drop l.row-index l.rows) ≡ l.fn.out.items ++ documents_bytes l.rows;
  grown : take (length l.fn.out.items) l.out.items ≡ l.fn.out.items;
}
