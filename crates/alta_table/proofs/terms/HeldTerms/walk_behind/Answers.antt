use Rattle.std.proofs.Common.{◌≡◌, ◌<◌, ◌+◌, ◌*◌, ◌/◌, ℕ, get_or, refl, subst, arith}
use Rattle.alta_table.specs.Marks.{StandsBefore, rows_in}
use Rattle.alta_table.specs.Walks.{behind_of, row_of}
use Rattle.alta_table.proofs.WalkLaws.{next_held, passed}
use Rattle.alta_table.proofs.terms.HeldTerms.walk_behind.Goals as goal

pub pass-requires-clause-next : goal.pass-requires-clause-next
pass-requires-clause-next c =
    next_held c.args.self.now 0 (c.args.row / 16 * 16 + c.loop.counter) c.loop.walk c.requires.held (omega (arith, c.loop-test.true, c.requires.row, c.requires.held.many)) c.loop.invariant.stands

pub loop-preserved : goal.loop-preserved
loop-preserved c =
    let at : ℕ = c.args.row / 16 * 16 + c.loop.counter in
    let lt : at < c.args.self.now.count = omega (arith, c.loop-test.true, c.requires.row, c.requires.held.many) in
    let (stands, is) = passed c.args.self.now 0 at c.loop.walk c.pass.new.self c.requires.held lt c.pass.ensures.reads c.pass.ensures.left c.loop.invariant.stands in
    let next : at + 1 ≡ c.args.row / 16 * 16 + (c.loop.counter + 1) = omega arith in
    record {
      mark_is = refl;
      stands = subst (λ (k : ℕ). StandsBefore c.args.self.now k (behind_of c.pass.new.self) c.pass.new.self.rest.now) next stands;
      short = c.pass.ensures.short;
    }

pub pass-requires-2-clause-next : goal.pass-requires-2-clause-next
pass-requires-2-clause-next c =
    let here : c.args.row / 16 * 16 + c.loop.counter ≡ c.args.row = omega (arith, c.loop-test.false, c.loop.auto.counter-end) in
    next_held c.args.self.now 0 (c.args.row / 16 * 16 + c.loop.counter) c.loop.walk c.requires.held (omega (arith, here, c.requires.row, c.requires.held.many)) c.loop.invariant.stands

pub returns-clause-stands : goal.returns-clause-stands
returns-clause-stands c =
    let at : ℕ = c.args.row / 16 * 16 + c.loop.counter in
    let here : at ≡ c.args.row = omega (arith, c.loop-test.false, c.loop.auto.counter-end) in
    let lt : at < c.args.self.now.count = omega (arith, here, c.requires.row, c.requires.held.many) in
    let (stands, is) = passed c.args.self.now 0 at c.loop.walk c.pass-2.new.self c.requires.held lt c.pass-2.ensures.reads c.pass-2.ensures.left c.loop.invariant.stands in
    subst (λ (k : ℕ). StandsBefore c.args.self.now (k + 1) (behind_of c.pass-2.new.self) c.pass-2.new.self.rest.now) here stands

pub returns-clause-row : goal.returns-clause-row
returns-clause-row c =
    let at : ℕ = c.args.row / 16 * 16 + c.loop.counter in
    let here : at ≡ c.args.row = omega (arith, c.loop-test.false, c.loop.auto.counter-end) in
    let lt : at < c.args.self.now.count = omega (arith, here, c.requires.row, c.requires.held.many) in
    let (stands, is) = passed c.args.self.now 0 at c.loop.walk c.pass-2.new.self c.requires.held lt c.pass-2.ensures.reads c.pass-2.ensures.left c.loop.invariant.stands in
    subst (λ (k : ℕ). row_of c.pass-2.new.self ≡ get_or (rows_in c.args.self.now) k (row_of c.pass-2.new.self)) here is
