use Rattle.std.proofs.Common.{arith}
use Rattle.alta_level.proofs.BlockRows.{rows_end, rows_more, rows_none}
use Rattle.alta_level.proofs.writing.read_rows.Goals as goal

pub stream-init : goal.stream-init
stream-init c = rows_none c.args.stream.now _ c.requires c.clear.ensures.items

pub stream-preserved : goal.stream-preserved
stream-preserved c =
    rows_more c.args.stream.now (λ i l. omega (arith, c.type_inv.stream i)) c.requires c.stream.rows.items c.stream.at c.stream.before c.stream.invariant c.stream-test.true
    c.in-Ok.span.first c.in-Ok.span.last c.in-Ok.span.count c.in-Ok.span.next c.in-Ok.ensures.read c.push.new.self.items c.in_ok-push-in-Ok.ensures.items

pub returns : goal.returns
returns c = rows_end c.args.stream.now (λ i l. omega (arith, c.type_inv.stream i)) c.requires c.stream.rows.items c.stream.at c.stream.before c.stream.invariant (omega (arith, c.stream-test.false))
