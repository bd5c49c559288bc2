use Rattle.std.proofs.Common.{refl}
use Rattle.alta_search.proofs.Orders.{order_again, order_new, used_new}
use Rattle.alta_search.proofs.order.Loading.with.Goals as goal

pub invariant_of-result : goal.invariant_of-result
invariant_of-result c =
    let e = c.into_parts-tests.ensures in
    order_again c.args.self e.order c.into_parts-tests.result.0 c.as_slice.result.now c.into_parts-tests.result.1.items e.tests e.uses c.as_slice.ensures
    c.in-Some.index c.push.new.self.items c.in-Some.ensures.inside c.in_ok-push-in-Some.ensures.items

pub invariant_of-result-in-None : goal.invariant_of-result-in-None
invariant_of-result-in-None c =
    let e = c.into_parts-tests.ensures in
    order_new c.args.self e.order c.into_parts-tests.result.0 c.as_slice.result.now c.into_parts-tests.result.1.items e.tests e.uses c.as_slice.ensures
    c.args.test.now c.in_ok-copy-in-None.field-0 c.len.result c.push-in-None-2.new.self c.push-in-None.new.self.items c.in_ok-copy-in-None.ensures
    (c.in-None.ensures.none refl) c.len.ensures c.in_ok-push-in-None-2.ensures.pushed c.in_ok-push-in-None.ensures.items

pub returns-in_ok-push-in-None-2 : goal.returns-in_ok-push-in-None-2
returns-in_ok-push-in-None-2 c =
    let e = c.into_parts-tests.ensures in
    used_new c.args.self e.order c.into_parts-tests.result.0 c.as_slice.result.now c.into_parts-tests.result.1.items e.tests e.uses c.as_slice.ensures
    c.args.test.now c.in_ok-copy-in-None.field-0 c.len.result c.push-in-None-2.new.self c.push-in-None.new.self.items c.in_ok-copy-in-None.ensures
    (c.in-None.ensures.none refl) c.len.ensures c.in_ok-push-in-None-2.ensures.pushed c.in_ok-push-in-None.ensures.items
