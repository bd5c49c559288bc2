use Rattle.std.proofs.Common.{◌<◌, ◌+◌, arith}
use Rattle.alta_table.proofs.WalkLaws.{next_held, passed}
use Rattle.alta_table.proofs.cursor.TermCursor.next.Goals as goal

pub overflow_add-self-inside : goal.overflow_add-self-inside
overflow_add-self-inside c = let (a, h) = c.self.invariant in omega (arith, h.within, a.held.many, a.held.small)

pub pass-requires-clause-next : goal.pass-requires-clause-next
pass-requires-clause-next c = let (a, h) = c.self.invariant in next_held c.self.inside.parts.now.terms 0 (c.self.inside.row + 1) c.self.inside.walk a.held (omega (arith, c.if-self.true)) h.stands

pub overflow_add-self : goal.overflow_add-self
overflow_add-self c = let (a, h) = c.self.invariant in omega (arith, h.within, a.held.many, a.held.small)

pub invariant_of-self : goal.invariant_of-self
invariant_of-self c =
    let (a, h) = c.self.invariant in
    let lt : c.self.inside.row + 1 < c.self.inside.parts.now.terms.count = omega (arith, c.if-self.true) in
    let (stands, is) = passed c.self.inside.parts.now.terms 0 (c.self.inside.row + 1) c.self.inside.walk c.pass.new.self a.held lt c.pass.ensures.reads c.pass.ensures.left h.stands in
    (a, record { within = omega (arith, lt, a.held.many); stands = stands; row_is = is; short = c.pass.ensures.short })
