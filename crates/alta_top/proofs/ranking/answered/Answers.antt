use Rattle.std.proofs.Common.{arith}
use Rattle.alta_codec.specs.declared.location.TheConstants.{TOP}
use Rattle.alta_compile.specs.View.{tree}
use Rattle.alta_search.specs.Told.{rows_at}
use Rattle.alta_search.proofs.Paging.{all_picked}
use Rattle.alta_top.proofs.ranking.answered.Goals as goal

pub returns-clause-walks : goal.returns-clause-walks
returns-clause-walks g c =
    let s = c.args.snapshot.now in
    record {
      answer = λ space shows.
          all_picked space (tree c.args.plan.now) s TOP (rows_at s.rows c.in_ok-picked.picked.picks.items) (omega (arith, c.in_ok-picked.ensures.few)) (c.in_ok-picked.ensures.part space shows).answers;
      most = c.picked.ensures.steps.most;
    }
