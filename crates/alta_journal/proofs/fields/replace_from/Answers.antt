use Rattle.std.proofs.Common.{ℕ, List, Option, subst, take}
use Rattle.alta_journal.specs.Found.{AreFound}
use Rattle.alta_journal.specs.Reading.{texts_in}
use Rattle.alta_journal.proofs.FoundLaws.{no_number, no_replace, replace_found}
use Rattle.alta_journal.proofs.fields.replace_from.Goals as goal

pub returns-in_default : goal.returns-in_default
returns-in_default c = no_number c.args.fields.now c.in_default.ensures

pub returns-in_default-2 : goal.returns-in_default-2
returns-in_default-2 c =
    no_replace c.args.fields.now (take 8 c.args.fields.now) c.in-Some.fields.now c.in-Some.ensures.0
    (subst (λ (o : Option (List ℕ × List ℕ × List ℕ)). AreFound (texts_in c.in-Some.fields.now) o) c.in_default-2.is c.in_ok-name.ensures)

pub returns : goal.returns
returns c =
    replace_found c.args.fields.now (take 8 c.args.fields.now) c.in-Some.fields.now c.in-Some.number _ c.in-Some.ensures.0 c.in-Some.ensures.1 c.in-Some.ensures.2
    (subst (λ (o : Option (List ℕ × List ℕ × List ℕ)). AreFound (texts_in c.in-Some.fields.now) o) c.in-Some-2.is c.in_ok-name.ensures)
