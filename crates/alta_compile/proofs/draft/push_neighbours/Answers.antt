use Rattle.std.proofs.Common.{arith}
use Rattle.alta_compile.proofs.Drafts.{neighbours_step, neighbours_end}
use Rattle.alta_compile.proofs.draft.push_neighbours.Goals as goal

pub loop-i-preserved : goal.loop-i-preserved
loop-i-preserved c = (
  omega arith,
  neighbours_step c.args.out.now.items c.loop-i.out.items c.push.new.self.items c.push-in-loop-i.new.self.items c.below.result c.within.result c.args.base
      c.loop-i.i c.args.words.now c.loop-i.invariant.0 c.loop-i-test.true c.loop-i.invariant.1 c.below.ensures c.within.ensures c.in_ok-push.ensures.items
      c.in_ok-push-2.ensures.items,
)

pub returns : goal.returns
returns c =
    neighbours_end c.args.out.now.items c.loop-i.out.items c.args.base c.loop-i.i c.args.words.now c.loop-i.invariant.0 c.loop-i-test.false c.loop-i.invariant.1
