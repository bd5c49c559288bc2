use Rattle.std.proofs.Common.{List, map, sym, subst}
use Rattle.std.specs.List.Sorted.{IsPermutation, IsSorted}
use Rattle.alta_content.specs.All.{rows_of_levels, shared_rows}
use Rattle.alta_meaning.specs.Opened.{live_in}
use Rattle.alta_catalog.specs.Names.{by_name, name_row}
use Rattle.alta_catalog.specs.declared.lists.NameRow.{NameRow}
use Rattle.alta_catalog.proofs.names.names_in.Goals as goal

pub returns-clause-rows : goal.returns-clause-rows
returns-clause-rows c =
    subst (λ (rows : List NameRow). IsPermutation (map name_row (live_in c.args.gone.now (rows_of_levels (map shared_rows c.args.runs.now)))) rows) (sym c.from_vec.ensures)
    (subst (λ (rows : List NameRow). IsPermutation rows c.sort.new.rows.items) c.in_ok-names.ensures c.sort.ensures.same)

pub returns-clause-sorted : goal.returns-clause-sorted
returns-clause-sorted c = subst (λ (rows : List NameRow). IsSorted by_name rows) (sym c.from_vec.ensures) c.sort.ensures.sorted
