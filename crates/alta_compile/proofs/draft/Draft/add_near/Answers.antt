use Rattle.std.proofs.Common.{length}
use Rattle.alta_compile.proofs.Drafts.{near_tests, near_bounds}
use Rattle.alta_compile.proofs.draft.Draft.add_near.Goals as goal

pub returns : goal.returns
returns c =
    let self = c.args.self.now in
    record {
      tests = near_tests self.tests.items _ _ _ _ _ _ c.in_ok-push.ensures.items c.in_ok-push-2.ensures.items c.in_ok-copy.ensures c.in_ok-copy-2.ensures;
      bounds = near_bounds self.bounds.items _ _ _ _ _ _ (length self.tests.items) c.args.distance c.args.left.now c.args.right.now c.in_ok-push-3.ensures.items c.in_ok-push-4.ensures.items
          c.len-base.ensures self.tests.ok.0 c.within.ensures c.within-2.ensures;
    }
