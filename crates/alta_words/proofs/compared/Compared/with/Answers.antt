use Rattle.std.proofs.Common.{arith}
use Rattle.alta_words.proofs.Walk.{walk_more}
use Rattle.alta_words.proofs.compared.Compared.with.Goals as goal

pub returns-clause-read : goal.returns-clause-read
returns-clause-read c =
    walk_more c.args.stream.now c.args.table.now.bytes c.args.table.now.count c.args.self.at c.args.self.last c.args.self.first c.args.self.count c.args.self.blocks c.args.self.same
    c.args.span.now.first c.args.span.now.last c.args.span.now.count c.args.span.now.next c.same_after.result c.first_after.result c.requires.read c.requires.more c.requires.block
    (λ i l. omega (arith, c.type_inv.stream i)) c.first_after.ensures.start c.first_after.ensures.later c.same_after.ensures
