use Rattle.std.proofs.Common.{◌≡◌, false, take, subst}
use Rattle.std.specs.Prelude.{IfSome}
use Rattle.alta_machine.specs.Cells.{cell_holds, terms_of}
use Rattle.alta_machine.proofs.Apart.{alone}
use Rattle.alta_machine.proofs.cell.Cell.get.Goals as goal

pub returns-clause-apart : goal.returns-clause-apart
returns-clause-apart c =
    subst (λ cell. IfSome c.term_at.result (λ term. cell_holds term.now (take c.args.i cell) ≡ false)) c.self.view_is
    (alone (terms_of c.self.inside.terms) c.args.i c.term_at.result c.self.invariant c.term_at.ensures)
