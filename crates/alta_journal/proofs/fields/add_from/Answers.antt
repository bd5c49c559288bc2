use Rattle.std.proofs.Common.{List, ℕ, Option, subst}
use Rattle.alta_journal.specs.Found.{AreFound}
use Rattle.alta_journal.specs.Reading.{texts_in}
use Rattle.alta_journal.proofs.FoundLaws.{no_add, add_found}
use Rattle.alta_journal.proofs.fields.add_from.Goals as goal

pub returns-in_default : goal.returns-in_default
returns-in_default c = no_add c.args.fields.now (subst (λ (o : Option (List ℕ × List ℕ × List ℕ)). AreFound (texts_in c.args.fields.now) o) c.in_default.is c.in_ok-name.ensures)

pub returns : goal.returns
returns c = add_found c.args.fields.now _ (subst (λ (o : Option (List ℕ × List ℕ × List ℕ)). AreFound (texts_in c.args.fields.now) o) c.in-Some.is c.in_ok-name.ensures)
