use Rattle.std.proofs.Common.{map, sym, subst, ap, ◌∙◌}
use Rattle.std.specs.Prelude.{All, Ok, Some}
use Rattle.alta_compile.specs.Space.{ends_of, list_of}
use Rattle.alta_compile.specs.View.{tree}
use Rattle.alta_lead.specs.Having.{ends_having}
use Rattle.alta_search.specs.Met.{IsExact}
use Rattle.alta_search.specs.View.{View}
use Rattle.alta_counts.specs.Counted.{CountsAnswers}
use Rattle.alta_counts.proofs.Counted.{live_is}
use Rattle.alta_counts.proofs.counts.count_words.Goals as goal

pub count_by_level-requires-clause-tests : goal.count_by_level-requires-clause-tests
count_by_level-requires-clause-tests g c = ap (λ (v : View). v.tests) c.whole-section.ensures ∙ c.requires.tests ∙ c.requires.found.tests

pub count_by_level-requires-clause-exact : goal.count_by_level-requires-clause-exact
count_by_level-requires-clause-exact g c =
    subst (All IsExact) (sym (ap (λ (v : View). v.tests) c.whole-section.ensures ∙ c.requires.tests)) c.requires.found.exact

pub returns : goal.returns
returns g c =
    let p = tree c.args.plan.now in let found = c.args.found.now in let v = c.whole-section.result in
    subst (λ (x : View). CountsAnswers p (Some found) x c.args.steps.now c.count_by_level.new.steps (Ok c.in_ok-live.live)) c.whole-section.ensures
    (record {
      count = λ space shows.
          live_is p v space (ends_having (ends_of space) (map (list_of space) found.words) (map (list_of space) found.negated)) c.in_ok-live.live shows (c.requires.found.finds space shows.lawful)
          (c.in_ok-live.ensures.count space shows);
      steps = c.count_by_level.ensures.steps;
    })
