use Rattle.std.proofs.Common.{◌≡◌, sym, ◌∙◌}
use Rattle.alta_names.proofs.Fitting.{by_text}
use Rattle.alta_catalog.specs.Knowing.{numbers_in}
use Rattle.alta_catalog.proofs.KnowingLaws.{likely_live, named_none, named_some}
use Rattle.alta_catalog.proofs.catalog.Catalog.number_of.Goals as goal

-- no number has the name's hash first
pub returns-in_default-clause-value : goal.returns-in_default-clause-value
returns-in_default-clause-value c = λ s knows.
    c.other.ensures ∙ by_text c.args.self.now.names (numbers_in s) knows.notes.names c.args.name.now (λ n first has. absurd (cc (first, c.likely.ensures, c.in_default.is)))

pub returns-in_default-clause-some : goal.returns-in_default-clause-some
returns-in_default-clause-some c = λ s knows. named_some c.args.self.now s knows c.args.name.now c.other.result (returns-in_default-clause-value c s knows)

pub returns-in_default-clause-none : goal.returns-in_default-clause-none
returns-in_default-clause-none c = λ s knows. named_none c.args.self.now s knows c.args.name.now c.other.result (returns-in_default-clause-value c s knows)

-- the first number with the hash has the name
pub returns-then-is_named-clause-value : goal.returns-then-is_named-clause-value
returns-then-is_named-clause-value c = λ s knows.
    let number = c.in-Some.number in
    sym (c.is_named.ensures.yes s knows (likely_live c.args.self.now s knows c.args.name.now number (sym c.likely.ensures ∙ c.in-Some.is)) c.if-is_named.true)

pub returns-then-is_named-clause-some : goal.returns-then-is_named-clause-some
returns-then-is_named-clause-some c = λ s knows. named_some c.args.self.now s knows c.args.name.now _ (returns-then-is_named-clause-value c s knows)

-- another number has it, or none
pub returns-clause-value : goal.returns-clause-value
returns-clause-value c = λ s knows.
    let number = c.in-Some.number in
    c.other-2.ensures
    ∙ by_text c.args.self.now.names (numbers_in s) knows.notes.names c.args.name.now
    (λ n first has.
    c.is_named.ensures.no s knows (likely_live c.args.self.now s knows c.args.name.now number (sym c.likely.ensures ∙ c.in-Some.is)) c.if-is_named.false
    (has ∙ sym first ∙ sym c.likely.ensures ∙ c.in-Some.is))

pub returns-clause-some : goal.returns-clause-some
returns-clause-some c = λ s knows. named_some c.args.self.now s knows c.args.name.now c.other-2.result (returns-clause-value c s knows)

pub returns-clause-none : goal.returns-clause-none
returns-clause-none c = λ s knows. named_none c.args.self.now s knows c.args.name.now c.other-2.result (returns-clause-value c s knows)
