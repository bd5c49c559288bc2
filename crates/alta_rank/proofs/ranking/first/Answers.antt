use Rattle.std.proofs.Common.{sym, subst, ap, ◌++◌, ◌∷◌, [], take, ◌∙◌}
use Rattle.std.proofs.lemmas.List.{map-id}
use Rattle.std.proofs.lemmas.Iterator.Adapters.{YieldsList-from_vec}
use Rattle.std.proofs.lemmas.Iterator.Consumers.{YieldsList-end}
use Rattle.alta_rank.specs.Kept.{IsBest}
use Rattle.alta_machine.specs.Ranked.{ranked}
use Rattle.alta_rank.proofs.ranking.first.Goals as goal

pub answers-preserved : goal.answers-preserved
answers-preserved c =
    let inv = c.answers.invariant in record {
      can_next = tt;
      is_finite = tt;
      count = c.put.ensures.count ∙ inv.count;
      best = subst (λ n. IsBest n (c.answers.yielded ++ c.in-Some.answer ∷ []) c.put.new.self.kept) inv.count
          (c.in_ok-put.ensures.best c.answers.yielded (subst (λ n. IsBest n c.answers.yielded c.answers.best.kept) (sym inv.count) inv.best));
    }

pub returns : goal.returns
returns c =
    let gives = c.into_iter-answer-iterator.ensures.into_iter_gives in
    let every = c.args.list.items in
    let all = YieldsList-end (YieldsList-from_vec {s = c.into_iter-answer-iterator.result} every gives.0 (gives.1 ∙ c.args.list.ok.0))
    c.answers.yielded c.answers.answer-iterator c.answers.yielded_by c.next.result c.next.new.self c.in-None.is c.next.ensures.steps in
    let inv = c.answers.invariant in
    c.into_sorted.ensures every c.requires
    (subst (λ n. IsBest n every c.answers.best.kept) (sym inv.count) (subst (λ l. IsBest c.args.count l c.answers.best.kept) (sym (map-id c.answers.yielded) ∙ all.0) inv.best))
    ∙ ap (λ n. take n (ranked every)) inv.count
