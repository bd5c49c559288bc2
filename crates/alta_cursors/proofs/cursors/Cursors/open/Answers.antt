use Rattle.std.proofs.Common.{◌≡◌, ◌<◌, [], ◌∷◌, ◌++◌, length, sym, subst, ap, ◌∙◌}
use Rattle.alta_cursors.specs.Open.{AreOpen}
use Rattle.alta_machine.specs.declared.cursors.TheConstants.{CURSORS}
use Rattle.alta_cursors.proofs.CursorAnswers.{free_in, free_range, numbers_opened, opened_is, same_free}
use Rattle.alta_cursors.proofs.cursors.Cursors.open.Goals as goal

number_is : (c : goal.In_ok-push) → c.free_number-number.result ≡ free_in c.self.inside.cursors.items
number_is c = c.free_number-number.ensures ∙ ap free_in c.deref.ensures.value

few : (c : goal.In_ok-push) → length c.self.inside.cursors.items < CURSORS
few c = subst (λ l. length l < CURSORS) (sym c.self.view_is) c.requires

pub invariant_of-self-2 : goal.invariant_of-self-2
invariant_of-self-2 c =
    numbers_opened c.self.inside.cursors.items c.push.new.self.items (record { number = c.free_number-number.result; cursor = c.args.cursor })
    c.in_ok-push.ensures.items (number_is c) (few c) c.self.invariant

pub returns-clause-opened : goal.returns-clause-opened
returns-clause-opened c = λ all documents h left.
    opened_is c.self.inside.cursors.items c.push.new.self.items (record { number = c.free_number-number.result; cursor = c.args.cursor }) all documents
    c.in_ok-push.ensures.items (number_is c) (subst (λ l. AreOpen l all) (sym c.self.view_is) h) left

pub returns-clause-number : goal.returns-clause-number
returns-clause-number c = λ all h. number_is c ∙ ap free_in c.self.view_is ∙ same_free c.args.self.now all h

pub returns-clause-range : goal.returns-clause-range
returns-clause-range c = free_range c.self.inside.cursors.items c.free_number-number.result (number_is c) (few c)

pub returns-clause-free : goal.returns-clause-free
returns-clause-free c = number_is c ∙ ap free_in c.self.view_is

pub returns-clause-pushed : goal.returns-clause-pushed
returns-clause-pushed c = c.in_ok-push.ensures.items ∙ ap (λ l. l ++ record { number = c.free_number-number.result; cursor = c.args.cursor } ∷ []) c.self.view_is
