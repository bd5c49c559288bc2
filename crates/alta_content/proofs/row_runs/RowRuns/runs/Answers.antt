use Rattle.std.proofs.Common.{map, sym, subst}
use Rattle.alta_codec.specs.Rising.{IsRising}
use Rattle.alta_content.specs.Rows.{end_of}
use Rattle.alta_content.specs.All.{rows_of_levels, shared_rows}
use Rattle.alta_content.proofs.Behind.{ends_behind}
use Rattle.alta_content.proofs.row_runs.RowRuns.runs.Goals as goal

pub copy_run-requires : goal.copy_run-requires
copy_run-requires c =
    subst (λ rows. IsRising (map end_of rows)) (sym c.deref-2.ensures.value)
    (ends_behind (rows_of_levels (map shared_rows c.self.inside.full.items)) c.self.inside.last.items c.self.invariant)
