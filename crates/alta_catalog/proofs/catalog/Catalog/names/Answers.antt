use Rattle.std.proofs.Common.{List, Global, ap, map, sym, ◌∙◌}
use Rattle.std.specs.declared.rc.Rc.{Rc}
use Rattle.alta_content.specs.All.{rows_of_levels, shared_rows}
use Rattle.alta_content.specs.declared.document.DocRow.{DocRow}
use Rattle.alta_content.specs.declared.level.LevelRows.{LevelRows}
use Rattle.alta_meaning.specs.Opened.{live_in}
use Rattle.alta_catalog.proofs.KnownLaws.{live_of_rows}
use Rattle.alta_catalog.proofs.Naming.{are_names}
use Rattle.alta_catalog.proofs.catalog.Catalog.names.Goals as goal

pub returns : goal.returns
returns c = λ s knows.
    let gone = c.args.self.now.gone in
    are_names s knows.notes.ordered (live_in gone (rows_of_levels (map shared_rows c.deref.result.now)))
    (ap (λ (runs : List (Rc LevelRows Global)). live_in gone (rows_of_levels (map shared_rows runs))) c.deref.ensures.value
    ∙ ap (λ (rows : List DocRow). live_in gone rows) c.in_ok-runs.ensures ∙ sym (live_of_rows c.args.self.now s knows))
    c.names_in.result c.names_in.ensures.rows c.names_in.ensures.sorted
