use Rattle.std.proofs.Common.{◌≡◌, [], map, take}
use Rattle.std.specs.List.{All}
use Rattle.alta_joins.specs.Reading.{IsOpen}
use Rattle.alta_meaning.specs.Opened.{table_rows}
use Rattle.alta_table.specs.Tables.{Tables}
use Rattle.alta_joins.proofs.oldest.begin_levels.Given as goal

abbrev pub invariant-loop-level : goal.invariant-loop-level
invariant-loop-level l = record {
  opened : All IsOpen (take l.level-index l.levels);
  documents : l.documents.items ≡ table_rows (take l.level-index l.levels);
  rows : l.rows.items ≡ map (λ (level : Tables). 0) (take l.level-index l.levels);
  hand : l.hand.items ≡ map (λ (level : Tables). []) (take l.level-index l.levels);
}
