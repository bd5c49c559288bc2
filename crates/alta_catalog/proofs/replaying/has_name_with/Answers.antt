use Rattle.std.proofs.Common.{ap, ◌∙◌}
use Rattle.alta_catalog.proofs.ReplaceLaws.{is_number, named_is}
use Rattle.alta_catalog.proofs.replaying.has_name_with.Goals as goal

pub returns-in-Some : goal.returns-in-Some
returns-in-Some c = λ s knows. ap (λ o. is_number o c.args.number) (c.in-Some.ensures.value s knows) ∙ named_is c.args.name.now c.args.number s knows.notes.ordered

pub returns-in-None : goal.returns-in-None
returns-in-None c = λ s knows. ap (λ o. is_number o c.args.number) (c.in-None.ensures.value s knows) ∙ named_is c.args.name.now c.args.number s knows.notes.ordered
