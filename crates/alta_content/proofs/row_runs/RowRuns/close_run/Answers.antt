use Rattle.std.proofs.Common.{map, sym, subst}
use Rattle.alta_codec.specs.Rising.{IsRising}
use Rattle.alta_content.specs.Rows.{end_of}
use Rattle.alta_content.specs.Runs.{AreRunsOf}
use Rattle.alta_content.specs.All.{rows_of_levels, shared_rows}
use Rattle.alta_content.proofs.Behind.{ends_behind}
use Rattle.alta_content.proofs.row_runs.RowRuns.close_run.Goals as goal

pub ends_of-requires : goal.ends_of-requires
ends_of-requires c =
    subst (λ rows. IsRising (map end_of rows)) (sym c.deref.ensures.value)
    (ends_behind (rows_of_levels (map shared_rows c.self.inside.full.items)) c.self.inside.last.items c.self.invariant)

pub runs_of-requires-clause-rising : goal.runs_of-requires-clause-rising
runs_of-requires-clause-rising c =
    subst (λ rows. IsRising (map end_of rows)) (sym c.deref-2.ensures.value)
    (ends_behind (rows_of_levels (map shared_rows c.self.inside.full.items)) c.self.inside.last.items c.self.invariant)

pub with_runs-requires-clause-rising : goal.with_runs-requires-clause-rising
with_runs-requires-clause-rising c =
    subst (λ rows. IsRising (map end_of rows.items)) (sym c.replace-rows.ensures.value)
    (ends_behind (rows_of_levels (map shared_rows c.self.inside.full.items)) c.self.inside.last.items c.self.invariant)

pub with_runs-requires-clause-runs : goal.with_runs-requires-clause-runs
with_runs-requires-clause-runs c =
    let runs = c.in_ok-runs.runs in
    subst (λ rows. AreRunsOf rows.items runs.firsts.items runs.ends.items) (sym c.replace-rows.ensures.value)
    (subst (λ rows. AreRunsOf rows runs.firsts.items runs.ends.items) c.deref-2.ensures.value c.in_ok-runs.ensures)
