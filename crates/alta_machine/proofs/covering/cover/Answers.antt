use Rattle.std.proofs.Common.{arith}
use Rattle.alta_machine.proofs.Begun.{begun_at, begun_more, begun_whole}
use Rattle.alta_machine.proofs.Made.{all_ranges, cover_covers}
use Rattle.alta_machine.proofs.Once.{same_cover}
use Rattle.alta_machine.proofs.covering.cover.Goals as goal

pub steps-init : goal.steps-init
steps-init c = begun_at _ _ _ _ (omega arith) c.from-next.ensures c.new-ranges.ensures

pub steps-preserved : goal.steps-preserved
steps-preserved c = begun_more _ _ _ _ _ _ _ (omega arith) (omega arith) c.greatest-step.ensures.greatest c.greatest-step.ensures.size c.push.ensures.items c.steps.invariant

pub returns-clause-covers : goal.returns-clause-covers
returns-clause-covers c = begun_whole _ _ _ _ (omega arith) c.steps.invariant

pub returns-clause-value : goal.returns-clause-value
returns-clause-value c = same_cover _ _ c.args.a c.args.b (cover_covers c.args.a c.args.b (omega arith)) (begun_whole _ _ _ _ (omega arith) c.steps.invariant)

pub returns-clause-ranges : goal.returns-clause-ranges
returns-clause-ranges c = all_ranges _ c.args.a c.args.b (omega arith) (begun_whole _ _ _ _ (omega arith) c.steps.invariant)
