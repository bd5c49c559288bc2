use Rattle.std.proofs.Common.{List, subst, arith}
use Rattle.std.proofs.lemmas.Bool.{leb-true}
use Rattle.alta_content.specs.Rows.{AreJoined}
use Rattle.alta_content.specs.declared.document.DocRow.{DocRow}
use Rattle.alta_content.proofs.level.LevelRows.is_joined.Goals as goal

pub returns : goal.returns
returns c = λ few. subst (λ (rows : List DocRow). AreJoined rows) c.self.view_is (c.self.invariant.2.joined (omega (arith, leb-true _ _ few, c.len.ensures)))
