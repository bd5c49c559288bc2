use Rattle.std.proofs.Common.{◌≡◌, ◌∷◌, ◌++◌, map, length, get_or, sym, subst, ap, ◌∙◌, arith, rules}
use Rattle.std.specs.Prelude.{All, Some}
use Rattle.alta_codec.specs.declared.location.TheConstants.{TOP}
use Rattle.alta_codec.specs.Rising.{IsRising}
use Rattle.alta_lead.specs.Having.{ends_having}
use Rattle.alta_compile.specs.Space.{ends_of, list_of}
use Rattle.alta_counts.specs.Live.{count_live}
use Rattle.alta_counts.specs.ByLevel.{levels_of, whole_at, having_all, AreWindowSteps}
use Rattle.alta_search.specs.Leads.{thirds}
use Rattle.alta_search.specs.Lists.{lists_at, test_at, IsCut}
use Rattle.alta_search.specs.Met.{IsSingle}
use Rattle.alta_counts.proofs.ByLevel.{each_rises, conjoined, conjoined_steps}
use Rattle.alta_search.proofs.Paging.{no_steps}
use Rattle.alta_search.proofs.Parts.{all_parts}
use Rattle.alta_search.proofs.Rarest.{uses_split, uses_length, used_parts}
use Rattle.alta_counts.proofs.by_level.count_by_level.Goals as goal

pub rarest-lead-requires-clause-some : goal.rarest-lead-requires-clause-some
rarest-lead-requires-clause-some g c = omega (arith, c.requires.some, c.split_at-2.ensures.front_len, c.len.ensures)

pub rarest-lead-requires-clause-cut : goal.rarest-lead-requires-clause-cut
rarest-lead-requires-clause-cut g c =
    let f = lists_at c.uses.result.0.now in let uses = c.uses.result.1.now in let u = get_or c.split_at.result.0.now 0 0 in let words = c.split_at-2.result.0.now in let against = c.split_at-2.result.1.now in
    let split : uses ≡ u ∷ words ++ against =
    uses_split uses c.split_at.result.0.now c.split_at.result.1.now words against c.len.result
    (omega (arith, uses_length (test_at c.uses.result.0.now) uses c.args.found.now c.args.snapshot.now.tests c.uses.ensures.used c.requires.tests))
    c.split_at.ensures.front c.split_at.ensures.back c.split_at-2.ensures.front c.split_at-2.ensures.back in
    let cut_here = used_parts f uses words against u split IsCut c.uses.ensures.cut in
    let single_here = used_parts f uses words against u split IsSingle (c.uses.ensures.single c.requires.exact) in
    (all_parts IsCut f u words (thirds against) cut_here).1

pub rarest-lead-requires-clause-single : goal.rarest-lead-requires-clause-single
rarest-lead-requires-clause-single g c =
    let f = lists_at c.uses.result.0.now in let uses = c.uses.result.1.now in let u = get_or c.split_at.result.0.now 0 0 in let words = c.split_at-2.result.0.now in let against = c.split_at-2.result.1.now in
    let split : uses ≡ u ∷ words ++ against =
    uses_split uses c.split_at.result.0.now c.split_at.result.1.now words against c.len.result
    (omega (arith, uses_length (test_at c.uses.result.0.now) uses c.args.found.now c.args.snapshot.now.tests c.uses.ensures.used c.requires.tests))
    c.split_at.ensures.front c.split_at.ensures.back c.split_at-2.ensures.front c.split_at-2.ensures.back in
    let cut_here = used_parts f uses words against u split IsCut c.uses.ensures.cut in
    let single_here = used_parts f uses words against u split IsSingle (c.uses.ensures.single c.requires.exact) in
    (all_parts IsSingle f u words (thirds against) single_here).1

pub count_levels-requires-clause-rising : goal.count_levels-requires-clause-rising
count_levels-requires-clause-rising g c =
    let f = lists_at c.uses.result.0.now in let uses = c.uses.result.1.now in let u = get_or c.split_at.result.0.now 0 0 in let words = c.split_at-2.result.0.now in let against = c.split_at-2.result.1.now in
    let split : uses ≡ u ∷ words ++ against =
    uses_split uses c.split_at.result.0.now c.split_at.result.1.now words against c.len.result
    (omega (arith, uses_length (test_at c.uses.result.0.now) uses c.args.found.now c.args.snapshot.now.tests c.uses.ensures.used c.requires.tests))
    c.split_at.ensures.front c.split_at.ensures.back c.split_at-2.ensures.front c.split_at-2.ensures.back in
    let cut_here = used_parts f uses words against u split IsCut c.uses.ensures.cut in
    let single_here = used_parts f uses words against u split IsSingle (c.uses.ensures.single c.requires.exact) in
    subst (λ ns. All (λ x. IsRising (whole_at c.uses.result.0.now x)) (u ∷ words ++ ns)) (sym (c.deref.ensures.value ∙ c.in_ok-negated.ensures))
    (each_rises c.uses.result.0.now (u ∷ words ++ thirds against) cut_here)

pub returns : goal.returns
returns g c =
    let f = lists_at c.uses.result.0.now in let uses = c.uses.result.1.now in let u = get_or c.split_at.result.0.now 0 0 in let words = c.split_at-2.result.0.now in let against = c.split_at-2.result.1.now in
    let split : uses ≡ u ∷ words ++ against =
    uses_split uses c.split_at.result.0.now c.split_at.result.1.now words against c.len.result
    (omega (arith, uses_length (test_at c.uses.result.0.now) uses c.args.found.now c.args.snapshot.now.tests c.uses.ensures.used c.requires.tests))
    c.split_at.ensures.front c.split_at.ensures.back c.split_at-2.ensures.front c.split_at-2.ensures.back in
    let cut_here = used_parts f uses words against u split IsCut c.uses.ensures.cut in
    let single_here = used_parts f uses words against u split IsSingle (c.uses.ensures.single c.requires.exact) in
    record {
      count = λ space shows.
          c.in_ok-live.ensures.count
          ∙ ap (λ ns. count_live (having_all c.uses.result.0.now u words ns) c.gone.result.now 0) (c.deref.ensures.value ∙ c.in_ok-negated.ensures)
          ∙ ap (λ l. count_live l c.gone.result.now 0) (conjoined c.uses.result.0.now uses words against u split c.args.found.now c.args.snapshot.now c.uses.ensures.cuts (omega (arith, c.split_at-2.ensures.front_len, c.len.ensures)) c.requires.tests
          (subst (All IsCut) c.uses.ensures.cuts c.uses.ensures.cut) (subst (All IsSingle) c.uses.ensures.cuts (c.uses.ensures.single c.requires.exact)) cut_here single_here
          c.rarest-lead.result c.rarest-lead.ensures.within c.rarest-lead.ensures.least c.args.steps.now c.count_levels.new.steps
          (subst (λ ns. AreWindowSteps (levels_of c.uses.result.0.now) (u ∷ words ++ ns) (Some (length (whole_at c.uses.result.0.now (get_or words c.rarest-lead.result 0)))) 0 TOP c.args.steps.now c.count_levels.new.steps)
          (c.deref.ensures.value ∙ c.in_ok-negated.ensures) c.count_levels.ensures.steps) space shows)
          ∙ ap (λ gone. count_live (ends_having (ends_of space) (map (list_of space) c.args.found.now.words) (map (list_of space) c.args.found.now.negated)) gone 0) c.gone.ensures.value;
      steps = conjoined_steps c.uses.result.0.now uses words against u split c.args.found.now c.args.snapshot.now c.uses.ensures.cuts (omega (arith, c.split_at-2.ensures.front_len, c.len.ensures)) c.requires.tests
          (subst (All IsCut) c.uses.ensures.cuts c.uses.ensures.cut) (subst (All IsSingle) c.uses.ensures.cuts (c.uses.ensures.single c.requires.exact)) cut_here single_here
          c.rarest-lead.result c.rarest-lead.ensures.within c.rarest-lead.ensures.least c.args.steps.now c.count_levels.new.steps
          (subst (λ ns. AreWindowSteps (levels_of c.uses.result.0.now) (u ∷ words ++ ns) (Some (length (whole_at c.uses.result.0.now (get_or words c.rarest-lead.result 0)))) 0 TOP c.args.steps.now c.count_levels.new.steps)
          (c.deref.ensures.value ∙ c.in_ok-negated.ensures) c.count_levels.ensures.steps);
    }

pub returns-in_err-live : goal.returns-in_err-live
returns-in_err-live g c =
    let f = lists_at c.uses.result.0.now in let uses = c.uses.result.1.now in let u = get_or c.split_at.result.0.now 0 0 in let words = c.split_at-2.result.0.now in let against = c.split_at-2.result.1.now in
    let split : uses ≡ u ∷ words ++ against =
    uses_split uses c.split_at.result.0.now c.split_at.result.1.now words against c.len.result
    (omega (arith, uses_length (test_at c.uses.result.0.now) uses c.args.found.now c.args.snapshot.now.tests c.uses.ensures.used c.requires.tests))
    c.split_at.ensures.front c.split_at.ensures.back c.split_at-2.ensures.front c.split_at-2.ensures.back in
    let cut_here = used_parts f uses words against u split IsCut c.uses.ensures.cut in
    let single_here = used_parts f uses words against u split IsSingle (c.uses.ensures.single c.requires.exact) in
    record {
      count = search rules;
      steps = conjoined_steps c.uses.result.0.now uses words against u split c.args.found.now c.args.snapshot.now c.uses.ensures.cuts (omega (arith, c.split_at-2.ensures.front_len, c.len.ensures)) c.requires.tests
          (subst (All IsCut) c.uses.ensures.cuts c.uses.ensures.cut) (subst (All IsSingle) c.uses.ensures.cuts (c.uses.ensures.single c.requires.exact)) cut_here single_here
          c.rarest-lead.result c.rarest-lead.ensures.within c.rarest-lead.ensures.least c.args.steps.now c.count_levels.new.steps
          (subst (λ ns. AreWindowSteps (levels_of c.uses.result.0.now) (u ∷ words ++ ns) (Some (length (whole_at c.uses.result.0.now (get_or words c.rarest-lead.result 0)))) 0 TOP c.args.steps.now c.count_levels.new.steps)
          (c.deref.ensures.value ∙ c.in_ok-negated.ensures) c.count_levels.ensures.steps);
    }

pub returns-in_err-negated : goal.returns-in_err-negated
returns-in_err-negated g c = record { count = search rules; steps = no_steps (Some c.args.found.now) c.args.snapshot.now c.args.steps.now }
