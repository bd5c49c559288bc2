use Rattle.std.proofs.Common.{◌≡◌, Some, None, ◌++◌, ◌∷◌, [], false, take, cond, ap, ◌∙◌, rules}
use Rattle.std.specs.Prelude.{slice_get}
use Rattle.std.proofs.lemmas.Option.{slice_get-get_or}
use Rattle.std.specs.Str.{bytes_eq}
use Rattle.alta_machine.specs.Cells.{cell_holds}
use Rattle.alta_memlevel.proofs.Keyed.{once_new}
use Rattle.alta_memlevel.proofs.lists.put_at.Goals as goal

pub returns-in_ok-put-in-Some-clause-added : goal.returns-in_ok-put-in-Some-clause-added
returns-in_ok-put-in-Some-clause-added c =
    let t = c.in-Some.term.now in
    let at : slice_get c.args.cell.now c.args.i ≡ Some t = search rules in
    let apart : cell_holds t (take c.args.i c.args.cell.now) ≡ false = search rules in
    λ base other e. c.in_ok-put-in-Some.ensures.added other ∙ ap (λ b. b ++ cond (bytes_eq t other) (c.args.location ∷ []) []) e ∙ once_new c.args.cell.now c.args.i c.args.location t other base c.requires.within at apart

pub returns-in-None-clause-added : goal.returns-in-None-clause-added
returns-in-None-clause-added c =
    let none : None ≡ slice_get c.args.cell.now c.args.i = search rules in
    let same = none ∙ slice_get-get_or c.args.cell.now c.args.i [] c.requires.within in
    absurd (search rules)
