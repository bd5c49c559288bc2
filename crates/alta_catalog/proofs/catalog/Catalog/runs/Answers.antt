use Rattle.std.proofs.Common.{◌≡◌, List, ap, map, subst, ◌∙◌}
use Rattle.std.specs.Prelude.{IfOk}
use Rattle.alta_content.specs.All.{rows_of_levels, shared_rows}
use Rattle.alta_content.specs.declared.document.DocRow.{DocRow}
use Rattle.alta_table.specs.Tables.{Tables}
use Rattle.alta_catalog.specs.Knowing.{documents_of}
use Rattle.alta_catalog.proofs.KnowingLaws.{shared_behind}
use Rattle.alta_catalog.proofs.catalog.Catalog.runs.Goals as goal

pub returns : goal.returns
returns c =
    let shared = c.in_ok-rows.ensures ∙ ap (λ (levels : List Tables). map documents_of levels) c.deref.ensures.value in
    subst (λ (rows : List DocRow). IfOk c.with_runs.result (λ all. rows_of_levels (map shared_rows all.items) ≡ rows))
    (shared_behind c.args.self.now c.in_ok-rows.rows.items c.in_ok-runs.field-0.items shared c.in_ok-runs.ensures) c.with_runs.ensures
