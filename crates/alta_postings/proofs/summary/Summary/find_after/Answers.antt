use Rattle.std.proofs.Common.{◌≡◌, ℕ, ◌+◌, ◌*◌, ap, arith}
use Rattle.alta_postings.specs.Table.{Table, field_at}
use Rattle.alta_postings.proofs.Lasts.{lasts_le}
use Rattle.alta_postings.proofs.summary.Summary.find_after.Goals as goal

pub returns-then-field-to-clause-before : goal.returns-then-field-to-clause-before
returns-then-field-to-clause-before c = λ i l.
    let s = c.self.inside in
    let same = c.self.view_is in
    let last : (k : ℕ) → field_at s.bytes.now (3 * k + 1) ≡ field_at c.args.self.now.bytes (3 * k + 1) = λ k. ap (λ (t : Table). field_at t.bytes (3 * k + 1)) same in
    let rows : s.count ≡ c.args.self.now.count = ap (λ (t : Table). t.count) same in
    omega (arith, c.requires.passed, last i, last c.args.row, lasts_le s.bytes.now s.count i c.args.row c.self.invariant (omega (arith, l)) (omega (arith, c.requires.within, rows)))
