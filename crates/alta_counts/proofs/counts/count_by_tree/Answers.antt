use Rattle.std.proofs.Common.{◌+◌, subst, ap, ◌∙◌, rules}
use Rattle.std.specs.Prelude.{None}
use Rattle.alta_compile.specs.View.{tree}
use Rattle.alta_counts.specs.Live.{count_live}
use Rattle.alta_search.specs.Leads.{AreByRarest}
use Rattle.alta_search.specs.View.{View}
use Rattle.alta_search.specs.Walks.{IsBegun}
use Rattle.alta_search.specs.Walked.{AreSearchSteps}
use Rattle.alta_counts.proofs.Counted.{count_is}
use Rattle.alta_search.proofs.Paging.{begun_steps}
use Rattle.alta_counts.proofs.counts.count_by_tree.Goals as goal

pub returns : goal.returns
returns g c =
    let p = tree c.args.plan.now in let s = c.args.snapshot.now in let u = c.in_ok-reader.reader in let before = c.args.steps.now in let begun = c.by_tree.new.steps in
    let is : IsBegun p s u 0 before begun = subst (λ (x : View). IsBegun p x u 0 before begun) c.whole.ensures c.in_ok-reader.ensures.begun in
    let moves = subst (λ (x : View). AreByRarest None x before (begun + u.moves)) c.whole.ensures c.in_ok-reader.ensures.moves in
    record {
      count = λ space shows. c.in_ok-live.ensures.count
          ∙ ap (λ gone. count_live u.list gone u.place) c.gone.ensures.value
          ∙ count_is p s u before begun is space shows;
      steps = begun_steps p None s u 0 before begun c.tally.new.steps is moves c.tally.ensures.steps c.tally.ensures.moves;
    }

pub returns-in_err-live : goal.returns-in_err-live
returns-in_err-live g c =
    let p = tree c.args.plan.now in let s = c.args.snapshot.now in let u = c.in_ok-reader.reader in let before = c.args.steps.now in let begun = c.by_tree.new.steps in
    let is : IsBegun p s u 0 before begun = subst (λ (x : View). IsBegun p x u 0 before begun) c.whole.ensures c.in_ok-reader.ensures.begun in
    let moves = subst (λ (x : View). AreByRarest None x before (begun + u.moves)) c.whole.ensures c.in_ok-reader.ensures.moves in
    record {
      count = search rules;
      steps = begun_steps p None s u 0 before begun c.tally.new.steps is moves c.tally.ensures.steps c.tally.ensures.moves;
    }

pub returns-in_err-reader : goal.returns-in_err-reader
returns-in_err-reader g c = record {
  count = search rules;
  steps = subst (λ (x : View). AreSearchSteps None x c.args.steps.now c.by_tree.new.steps) c.whole.ensures c.by_tree.ensures.steps;
}
