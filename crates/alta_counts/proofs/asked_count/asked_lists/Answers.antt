use Rattle.std.proofs.Common.{◌∷◌, map, append-nil, sym, subst, ap, ◌∙◌, arith}
use Rattle.std.specs.Prelude.{All, None}
use Rattle.std.proofs.lemmas.List.Elements.{All-head, All-tail}
use Rattle.alta_codec.specs.declared.location.TheConstants.{TOP}
use Rattle.alta_codec.specs.Rising.{IsRising}
use Rattle.alta_counts.specs.Live.{count_live}
use Rattle.alta_counts.specs.Asked.{ends_asked}
use Rattle.alta_counts.specs.ByLevel.{levels_of, whole_at, AreWindowSteps}
use Rattle.alta_search.specs.Lists.{test_list, lists_at, IsCut}
use Rattle.alta_search.specs.Met.{IsSingle}
use Rattle.alta_counts.proofs.ByLevel.{term_whole, each_whole, each_rises, top_lists, top_size}
use Rattle.alta_counts.proofs.asked_count.asked_lists.Goals as goal

pub count_levels-requires-clause-rising : goal.count_levels-requires-clause-rising
count_levels-requires-clause-rising g c =
    let ts = c.args.tests.now in
    subst (λ us. All (λ u. IsRising (whole_at ts u)) (c.args.ends ∷ us)) (sym (append-nil c.args.words.now)) (each_rises ts (c.args.ends ∷ c.args.words.now) c.requires.cut)

pub returns-clause-count : goal.returns-clause-count
returns-clause-count g c =
    let ts = c.args.tests.now in let f = lists_at ts in let u = c.args.ends in let us = c.args.words.now in
    c.in_ok-live.ensures.count
    ∙ ap (λ es. count_live (ends_asked c.args.followed es (map (whole_at ts) us)) c.args.gone.now 0)
    (term_whole (f u) (All-head IsCut (f u) (map f us) c.requires.cut) (All-head IsSingle (f u) (map f us) c.requires.single))
    ∙ ap (λ ls. count_live (ends_asked c.args.followed (test_list (f u)) ls) c.args.gone.now 0)
    (each_whole ts us (All-tail IsCut (f u) (map f us) c.requires.cut) (All-tail IsSingle (f u) (map f us) c.requires.single))

pub returns-clause-most : goal.returns-clause-most
returns-clause-most g c =
    let ts = c.args.tests.now in let us = c.args.ends ∷ c.args.words.now in
    let is : AreWindowSteps (levels_of ts) us None 0 TOP c.args.steps.now c.count_levels.new.steps =
    subst (λ ws. AreWindowSteps (levels_of ts) (c.args.ends ∷ ws) None 0 TOP c.args.steps.now c.count_levels.new.steps) (append-nil c.args.words.now) c.count_levels.ensures.steps in
    omega (arith, is.steps, top_lists ts us c.requires.cut c.requires.single, top_size ts us c.requires.cut c.requires.single)

pub returns-in_err-live-clause-most : goal.returns-in_err-live-clause-most
returns-in_err-live-clause-most g c =
    let ts = c.args.tests.now in let us = c.args.ends ∷ c.args.words.now in
    let is : AreWindowSteps (levels_of ts) us None 0 TOP c.args.steps.now c.count_levels.new.steps =
    subst (λ ws. AreWindowSteps (levels_of ts) (c.args.ends ∷ ws) None 0 TOP c.args.steps.now c.count_levels.new.steps) (append-nil c.args.words.now) c.count_levels.ensures.steps in
    omega (arith, is.steps, top_lists ts us c.requires.cut c.requires.single, top_size ts us c.requires.cut c.requires.single)
