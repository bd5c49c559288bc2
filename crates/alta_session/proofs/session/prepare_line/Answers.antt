use Rattle.std.proofs.Common.{List, ℕ, subst}
use Rattle.alta_machine.specs.Command.{ReadsLine}
use Rattle.alta_model.specs.Seen.{command_of}
use Rattle.alta_model.specs.declared.line.Line.{Line}
use Rattle.alta_session.proofs.AddingLaws.{line_is_document}
use Rattle.alta_session.proofs.session.prepare_line.Goals as goal

pub prepare_document-requires : goal.prepare_document-requires
prepare_document-requires c =
    let line : List ℕ = c.args.line.now in
    let P : Line → Type 0 = λ l. ReadsLine line (command_of l) in
    line_is_document line c.in-Add.name.now c.in-Add.title.now c.in-Add.body.now c.requires c.in-Ok.ensures.read.0 (subst P c.in-Add.is c.in-Ok.ensures.read.1)
