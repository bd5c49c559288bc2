use Rattle.std.proofs.Common.{◌≡◌, take}
use Rattle.alta_content.specs.Spans.{deleted_spans}
use Rattle.alta_content.proofs.spans.spans_of.Given as goal

abbrev pub invariant-loop-row : goal.invariant-loop-row
invariant-loop-row l = l.spans.items ≡ deleted_spans l.deleted (take l.row-index l.rows)
