use Rattle.std.proofs.Common.{[], ◌∷◌, ◌++◌, ◌-◌, ◌*◌, ◌/◌, ◌≤◌, length, sym, ◌∙◌, arith}
use Rattle.std.specs.Prelude.{codes}
use Rattle.alta_make.specs.Script.{adds, deletes}
use Rattle.alta_make.specs.Text.{text_of}
use Rattle.alta_make.proofs.Lines.{none-past, length-adds, within-front, get-back}
use Rattle.alta_make.proofs.script.line_at.Goals as goal

pub overflow_sub-index : goal.overflow_sub-index
overflow_sub-index c = omega (arith, none-past (adds c.args.n) c.args.index (sym c.in-None.ensures), length-adds c.args.n)

pub overflow_sub-index-in-None : goal.overflow_sub-index-in-None
overflow_sub-index-in-None c = omega (arith, none-past (adds c.args.n) c.args.index (sym c.in-None.ensures), length-adds c.args.n)

pub returns-in-Some : goal.returns-in-Some
returns-in-Some c =
    sym (within-front (adds c.args.n) (deletes c.args.n ++ codes "merge" ∷ []) c.args.index (text_of c.in-Some.line) (sym c.in-Some.ensures))

pub returns-in-None : goal.returns-in-None
returns-in-None c =
    let n = c.args.n in
    let past : length (adds n) ≤ c.args.index = none-past (adds n) c.args.index (sym c.in-None.ensures) in
    c.closing.ensures ∙ sym (get-back (adds n) (deletes n ++ codes "merge" ∷ []) (c.args.index - n - 2 * (n / 100)) c.args.index (omega (arith, past, length-adds n)))
