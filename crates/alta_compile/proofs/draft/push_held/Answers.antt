use Rattle.alta_compile.proofs.Drafts.{held_start, held_step}
use Rattle.alta_compile.proofs.draft.push_held.Goals as goal

pub loop-i-init : goal.loop-i-init
loop-i-init c = held_start c.args.out.now.items

pub loop-i-preserved : goal.loop-i-preserved
loop-i-preserved c =
    held_step c.args.out.now.items c.loop-i.out.items c.push.new.self.items c.push-in-loop-i.new.self.items c.within.result c.below.result c.loop-i.i
    c.loop-i.invariant c.within.ensures c.below.ensures c.in_ok-push.ensures.items c.in_ok-push-2.ensures.items
