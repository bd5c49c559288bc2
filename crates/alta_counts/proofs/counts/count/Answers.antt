use Rattle.std.proofs.Common.{subst, ap, ◌∙◌}
use Rattle.alta_compile.specs.Conjoined.{conjunction_of}
use Rattle.alta_compile.specs.View.{tree}
use Rattle.alta_query.specs.View.{shape}
use Rattle.alta_search.specs.View.{View}
use Rattle.alta_counts.specs.Counted.{CountsAnswers}
use Rattle.alta_counts.proofs.Counted.{title_three, title_exact, title_counts, stem_some, stem_counts, either_exact, either_counts}
use Rattle.alta_counts.proofs.counts.count.Goals as goal

pub count_titled-requires-clause-three : goal.count_titled-requires-clause-three
count_titled-requires-clause-three g c =
    title_three (shape c.args.query.now) (tree c.args.plan.now) c.whole-section.result c.requires.query (ap (λ (v : View). v.tests) c.whole-section.ensures ∙ c.requires.tests) c.in-Title.ensures

pub count_titled-requires-clause-exact : goal.count_titled-requires-clause-exact
count_titled-requires-clause-exact g c =
    title_exact (shape c.args.query.now) (tree c.args.plan.now) c.whole-section.result c.requires.query (ap (λ (v : View). v.tests) c.whole-section.ensures ∙ c.requires.tests) c.in-Title.ensures

pub count_stem-requires : goal.count_stem-requires
count_stem-requires g c = record {
  some = stem_some (shape c.args.query.now) (tree c.args.plan.now) c.whole-section.result c.requires.query (ap (λ (v : View). v.tests) c.whole-section.ensures ∙ c.requires.tests) c.in-Stem.ensures;
}

pub count_either-requires-clause-some : goal.count_either-requires-clause-some
count_either-requires-clause-some g c = c.in-Either.ensures.1

pub count_either-requires-clause-exact : goal.count_either-requires-clause-exact
count_either-requires-clause-exact g c =
    either_exact (shape c.args.query.now) (tree c.args.plan.now) c.whole-section.result c.requires.query (ap (λ (v : View). v.tests) c.whole-section.ensures ∙ c.requires.tests) c.in-Either.ensures.0

pub returns-in-Title : goal.returns-in-Title
returns-in-Title g c =
    let q = shape c.args.query.now in let p = tree c.args.plan.now in
    subst (λ (v : View). CountsAnswers p (conjunction_of q) v c.args.steps.now c.count_titled.new.steps c.count_titled.result) c.whole-section.ensures
    (title_counts q p c.whole-section.result c.requires.query (ap (λ (v : View). v.tests) c.whole-section.ensures ∙ c.requires.tests) c.in-Title.ensures
    c.args.steps.now c.count_titled.new.steps c.count_titled.result c.count_titled.ensures)

pub returns-in-Stem : goal.returns-in-Stem
returns-in-Stem g c =
    let q = shape c.args.query.now in let p = tree c.args.plan.now in
    subst (λ (v : View). CountsAnswers p (conjunction_of q) v c.args.steps.now c.count_stem.new.steps c.count_stem.result) c.whole-section.ensures
    (stem_counts q p c.whole-section.result c.requires.query (ap (λ (v : View). v.tests) c.whole-section.ensures ∙ c.requires.tests) c.in-Stem.ensures
    c.args.steps.now c.count_stem.new.steps c.count_stem.result c.count_stem.ensures)

pub returns-in-Either : goal.returns-in-Either
returns-in-Either g c =
    let q = shape c.args.query.now in let p = tree c.args.plan.now in
    subst (λ (v : View). CountsAnswers p (conjunction_of q) v c.args.steps.now c.count_either.new.steps c.count_either.result) c.whole-section.ensures
    (either_counts q p c.whole-section.result c.requires.query (ap (λ (v : View). v.tests) c.whole-section.ensures ∙ c.requires.tests) c.in-Either.ensures.0
    c.args.steps.now c.count_either.new.steps c.count_either.result c.count_either.ensures)
