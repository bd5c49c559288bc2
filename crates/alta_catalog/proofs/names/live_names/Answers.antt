use Rattle.std.proofs.Common.{◌++◌, List, map, take, sym, ap, ◌∙◌, Global}
use Rattle.std.proofs.lemmas.List.{take_all}
use Rattle.std.specs.declared.rc.Rc.{Rc}
use Rattle.alta_content.specs.All.{rows_of_levels, shared_rows}
use Rattle.alta_content.specs.declared.document.DocRow.{DocRow}
use Rattle.alta_content.specs.declared.level.LevelRows.{LevelRows}
use Rattle.alta_meaning.specs.Opened.{live_in}
use Rattle.alta_catalog.specs.Names.{name_row}
use Rattle.alta_catalog.specs.declared.lists.NameRow.{NameRow}
use Rattle.alta_catalog.proofs.Naming.{names_split, runs_next}
use Rattle.alta_catalog.proofs.names.live_names.Goals as goal

pub loop-run-preserved : goal.loop-run-preserved
loop-run-preserved c =
    let gone = c.args.gone.now in
    let runs = c.args.runs.now in
    let i = c.loop-run.run-index in
    c.in_ok-put_names.ensures
    ∙ ap (λ (rows : List DocRow). c.loop-run.names.items ++ map name_row (live_in gone rows)) c.deref.ensures
    ∙ ap (λ (names : List NameRow). names ++ map name_row (live_in gone (shared_rows c.run-item.result))) c.loop-run.invariant
    ∙ names_split gone (rows_of_levels (map shared_rows (take i runs))) (shared_rows c.run-item.result)
    ∙ ap (λ (rows : List DocRow). map name_row (live_in gone rows)) (sym (runs_next runs i c.run-item.result c.loop-run-test.true c.run-item.is))

pub returns : goal.returns
returns c =
    c.loop-run.invariant
    ∙ ap (λ (runs : List (Rc LevelRows Global)). map name_row (live_in c.args.gone.now (rows_of_levels (map shared_rows runs)))) (take_all c.loop-run.run-index c.args.runs.now c.loop-run-test.false)
