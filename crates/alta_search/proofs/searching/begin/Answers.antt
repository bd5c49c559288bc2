use Rattle.std.proofs.Common.{sym, subst}
use Rattle.std.specs.Prelude.{Option}
use Rattle.alta_compile.specs.View.{tree}
use Rattle.alta_compile.specs.declared.asked.Conjunction.{Conjunction}
use Rattle.alta_search.proofs.searching.begin.Goals as goal
use Rattle.alta_search.specs.Walked.{BeginsReader}

pub returns-in-Some : goal.returns-in-Some
returns-in-Some g c =
    subst (λ (o : Option Conjunction). BeginsReader (tree c.args.plan.now) o c.args.snapshot.now c.args.from c.args.steps.now c.by_word.new.steps c.by_word.result) (sym c.in-Some.is) c.by_word.ensures

pub returns-in-None : goal.returns-in-None
returns-in-None g c =
    subst (λ (o : Option Conjunction). BeginsReader (tree c.args.plan.now) o c.args.snapshot.now c.args.from c.args.steps.now c.by_tree.new.steps c.by_tree.result) (sym c.in-None.is) c.by_tree.ensures
