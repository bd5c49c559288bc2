use Rattle.std.proofs.Common.{◌≡◌, ℕ, ◌+◌, ◌*◌, ap, arith}
use Rattle.alta_postings.specs.Table.{field_at, last_row}
use Rattle.alta_postings.proofs.Lasts.{lasts_rise, group_is, passed_rows}
use Rattle.alta_postings.proofs.summary.Summary.find.Goals as goal

pub row_from-requires-clause-rising : goal.row_from-requires-clause-rising
row_from-requires-clause-rising c = λ i j h l.
    let s = c.self.inside in lasts_rise s.bytes.now s.count i j c.self.invariant h (omega (arith, c.min-high.ensures, c.requires.some))

pub row_from-requires-clause-there : goal.row_from-requires-clause-there
row_from-requires-clause-there c =
    let s = c.self.inside in
    let e : c.min-high.result ≡ last_row s.count c.group_from-group.result = omega (arith, c.min-high.ensures) in
    omega (
      arith,
      c.group_from-group.ensures.found,
      group_is s.bytes.now s.count c.group_from-group.result c.self.invariant c.group_from-group.ensures.within,
      ap (λ (n : ℕ). field_at s.bytes.now (3 * n + 1)) e,
    )

pub row_from-requires-clause-passed : goal.row_from-requires-clause-passed
row_from-requires-clause-passed c = λ i h.
    let s = c.self.inside in passed_rows s.bytes.now s.count c.group_from-group.result c.args.to i c.self.invariant c.group_from-group.ensures.within c.group_from-group.ensures.before h
