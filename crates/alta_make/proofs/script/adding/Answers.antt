use Rattle.std.proofs.Common.{◌≡◌, suc, ◌+◌, ◌*◌, ◌/◌, ◌%◌, ◌<◌, sym, ap, ◌∙◌, arith}
use Rattle.std.specs.Prelude.{Some}
use Rattle.alta_make.specs.Script.{add_line}
use Rattle.alta_make.proofs.Lines.{get-add, get-behind, past-adds}
use Rattle.alta_make.proofs.script.adding.Goals as goal

pub returns-then-document-n : goal.returns-then-document-n
returns-then-document-n c =
    let i = 100 * (c.args.index / 102) + c.args.index % 102 in
    let e : i + 1 ≡ suc i = omega arith in
    ap (λ k. Some (add_line k)) e ∙ sym (get-add c.args.n i c.args.index (omega arith) (omega arith))

pub returns-else-document-n : goal.returns-else-document-n
returns-else-document-n c = sym (past-adds c.args.n c.args.index (omega arith))

pub returns-then-hundreds-n : goal.returns-then-hundreds-n
returns-then-hundreds-n c = sym (past-adds c.args.n c.args.index (omega arith))

pub returns-then-at-eq100 : goal.returns-then-at-eq100
returns-then-at-eq100 c = sym (get-behind c.args.n (c.args.index / 102) 0 c.args.index (omega arith) (omega arith) (omega arith))

pub returns-else-at-eq100 : goal.returns-else-at-eq100
returns-else-at-eq100 c =
    let l : c.args.index % 102 < 102 = omega arith in
    sym (get-behind c.args.n (c.args.index / 102) 1 c.args.index (omega arith) (omega arith) (omega (arith, c.if-at-eq100.false, c.if-at-lt100.false)))
