use Rattle.std.proofs.Common.{◌≡◌, ◌++◌, ◌∷◌, [], ◌+◌, take, cond, get_or, sym, ap, subst, ◌∙◌, append_assoc, arith}
use Rattle.std.proofs.lemmas.List.{get_or_default}
use Rattle.alta_machine.specs.Cells.{cell_holds}
use Rattle.alta_memlevel.specs.Added.{places_of}
use Rattle.alta_memlevel.specs.Lists.{list_in}
use Rattle.alta_memlevel.proofs.Keyed.{places_of-more}
use Rattle.alta_memlevel.proofs.lists.put_cells.Goals as goal

pub loop-cell-preserved : goal.loop-cell-preserved
loop-cell-preserved c =
    let i = c.loop-cell.cell-index in
    let at : get_or c.args.cells.now i [] ≡ c.cell-item.result = get_or_default c.args.cells.now i [] c.cell-item.result c.loop-cell-test.true ∙ sym c.cell-item.is in
    let place : c.args.first + i ≡ c.loop-cell.location = sym c.loop-cell.invariant.1 in (
      c.in_ok-put_cell.ensures.index,
      omega (arith, c.loop-cell.invariant.1),
      λ other.
          let more : places_of c.args.first other (take (i + 1) c.args.cells.now) ≡ places_of c.args.first other (take i c.args.cells.now) ++ cond (cell_holds other c.cell-item.result) (c.loop-cell.location ∷ []) [] =
          subst (λ n. places_of c.args.first other (take (i + 1) c.args.cells.now) ≡ places_of c.args.first other (take i c.args.cells.now) ++ cond (cell_holds other c.cell-item.result) (n ∷ []) []) place
          (subst (λ x. places_of c.args.first other (take (i + 1) c.args.cells.now) ≡ places_of c.args.first other (take i c.args.cells.now) ++ cond (cell_holds other x) ((c.args.first + i) ∷ []) []) at
          (places_of-more c.args.first other c.args.cells.now i c.loop-cell-test.true)) in
          let x = cond (cell_holds other c.cell-item.result) (c.loop-cell.location ∷ []) [] in
          c.in_ok-put_cell.ensures.added other
          ∙ ap (λ l. l ++ x) (c.loop-cell.invariant.2 other)
          ∙ append_assoc (list_in c.args.lists.now.entries other) (places_of c.args.first other (take i c.args.cells.now)) x
          ∙ ap (λ l. list_in c.args.lists.now.entries other ++ l) (sym more),
    )
