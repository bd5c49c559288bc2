use Rattle.std.proofs.Common.{ℕ, sym, subst, ◌∙◌}
use Rattle.std.specs.Prelude.{Option, None}
use Rattle.alta_catalog.proofs.KnowingLaws.{named_none}
use Rattle.alta_machine.specs.Changes.{with_added, with_replaced}
use Rattle.alta_meaning.specs.Work.{enters}
use Rattle.alta_store.specs.Calls.{NoRefusal, Obeys, entry_for, with_put}
use Rattle.alta_store.proofs.Commits.{add_steps, keeps_texts, replace_allowed, replace_steps}
use Rattle.alta_store.proofs.store.Store.enter_put.Goals as goal

pub enter-requires-clause-rules : goal.enter-requires-clause-rules
enter-requires-clause-rules g c = keeps_texts c.args.name.now c.args.title.now c.args.body.now c.requires.document

-- the name is free
pub enter-requires-clause-allowed : goal.enter-requires-clause-allowed
enter-requires-clause-allowed g c = λ s knows. (named_none c.args.self.now.catalog s knows c.args.name.now None (sym (c.requires.named s knows ∙ c.in-None.is)), c.requires.left s knows)

pub enter-requires-in-Some-clause-rules : goal.enter-requires-in-Some-clause-rules
enter-requires-in-Some-clause-rules g c = keeps_texts c.args.name.now c.args.title.now c.args.body.now c.requires.document

pub enter-requires-in-Some-clause-allowed : goal.enter-requires-in-Some-clause-allowed
enter-requires-in-Some-clause-allowed g c =
    replace_allowed c.args.self.now c.args.name.now c.in-Some.number (λ s knows. c.requires.named s knows ∙ c.in-Some.is) c.args.title.now c.args.body.now c.requires.left

pub returns-in-None : goal.returns-in-None
returns-in-None g c =
    subst (λ (o : Option ℕ). Obeys g.D.Disk.tells (enters (entry_for o c.args.name.now c.args.title.now c.args.body.now)) (with_put o c.args.name.now c.args.title.now c.args.body.now) NoRefusal (g.D.Disk.state c.args.disk.now)
    (g.D.Disk.state c.enter.new.disk) c.args.self.now c.enter.new.self c.enter.result) (sym c.in-None.is)
    (c.enter.ensures (with_added c.args.name.now c.args.title.now c.args.body.now) (add_steps c.args.self.now c.args.name.now c.args.title.now c.args.body.now))

pub returns-in-Some : goal.returns-in-Some
returns-in-Some g c =
    subst (λ (o : Option ℕ). Obeys g.D.Disk.tells (enters (entry_for o c.args.name.now c.args.title.now c.args.body.now)) (with_put o c.args.name.now c.args.title.now c.args.body.now) NoRefusal (g.D.Disk.state c.args.disk.now)
    (g.D.Disk.state c.enter-in-Some.new.disk) c.args.self.now c.enter-in-Some.new.self c.enter-in-Some.result) (sym c.in-Some.is)
    (c.enter-in-Some.ensures (with_replaced c.args.name.now c.args.title.now c.args.body.now)
    (replace_steps c.args.self.now c.args.name.now c.in-Some.number (λ s knows. c.requires.named s knows ∙ c.in-Some.is) c.args.title.now c.args.body.now))
