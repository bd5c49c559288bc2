use Rattle.std.proofs.Common.{◌++◌, ◌∷◌, [], ℕ, List, get_or, subst, ap, ◌∙◌}
use Rattle.std.proofs.lemmas.Option.{get_or_from_slice_get}
use Rattle.alta_rank.specs.Kept.{IsBest, KeptOf}
use Rattle.alta_machine.specs.declared.scored.Scored.{Scored}
use Rattle.alta_search.specs.Told.{no_row}
use Rattle.alta_top.proofs.Ranks.{has_more, has_none, ranking_more, ranking_none}
use Rattle.alta_top.proofs.ranking.best_of.Goals as goal

pub loop-index-init : goal.loop-index-init
loop-index-init g c = record {
  scored = has_none c.args.scorer.now c.args.steps.now;
  count = ap (λ (b : KeptOf). b.count) c.new-best.ensures;
  ranks = λ few may. ranking_none c.args.scorer.now c.args.rows.now c.args.picks.now c.args.count c.new-best.result.kept (ap (λ (b : KeptOf). b.kept) c.new-best.ensures) may;
}

pub loop-index-preserved : goal.loop-index-preserved
loop-index-preserved g c =
    let inv = c.loop-index.invariant in let now = c.loop-index.scorer in let i = c.loop-index.index-index in let row = c.row-row.result.now in
    let kept = c.loop-index.best.kept in let more = c.offer.new.best.kept in record {
      scored = has_more c.args.scorer.now now c.score_row.new.scorer c.args.steps.now c.loop-index.steps c.score_row.new.steps inv.scored c.score_row.ensures.has;
      count = c.offer.ensures.count ∙ inv.count;
      ranks = λ few may. ranking_more c.args.scorer.now now c.score_row.new.scorer c.args.rows.now c.args.picks.now i 0 c.args.count c.args.steps.now c.loop-index.steps kept more row c.score_row.result
          (inv.ranks few may) few inv.scored c.loop-index-test.true (get_or_from_slice_get c.args.rows.now (get_or c.args.picks.now i 0) row no_row c.row-row.ensures)
          c.score_row.ensures.score c.score_row.ensures.asked
          (subst (λ (n : ℕ). (every : List Scored) → IsBest n every kept → IsBest n (every ++ record { number = row.number; name = row.name; score = c.score_row.result } ∷ []) more) inv.count
          c.in_ok-offer.ensures.best);
    }
