use Rattle.std.proofs.Common.{arith}
use Rattle.alta_content.proofs.SideBySide.{runs_more, runs_none, runs_whole}
use Rattle.alta_content.proofs.runs.runs_of.Goals as goal

pub whole-init : goal.whole-init
whole-init c = runs_none c.args.rows.now _ _ c.no_runs-runs.ensures.firsts c.no_runs-runs.ensures.ends

pub whole-preserved : goal.whole-preserved
whole-preserved c =
    let runs = c.whole.runs in
    let last = c.last_joined-last in
    runs_more c.args.rows.now c.requires.rising c.whole.at last.result last.ensures.after last.ensures.within last.ensures.joined
    runs.firsts.items runs.ends.items c.whole.invariant last.ensures.parted c.push_run.new.runs.firsts.items c.push_run.new.runs.ends.items c.in_ok-push_run.ensures.firsts c.in_ok-push_run.ensures.ends

pub returns : goal.returns
returns c = runs_whole c.args.rows.now c.whole.at c.whole.runs.firsts.items c.whole.runs.ends.items c.whole.invariant (omega (arith, c.whole-test.false))
