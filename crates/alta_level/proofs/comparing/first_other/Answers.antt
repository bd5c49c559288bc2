use Rattle.std.proofs.Common.{◌≡◌, ⊎_elim, ℕ, subst, arith}
use Rattle.std.proofs.lemmas.Bool.{cases_lt}
use Rattle.alta_words.specs.Fault.{Agrees}
use Rattle.alta_level.proofs.BesideRows.{rows_are}
use Rattle.alta_level.proofs.comparing.first_other.Goals as goal

pub loop-i-preserved : goal.loop-i-preserved
loop-i-preserved c = λ j l.
    ⊎_elim (λ before. c.loop-i.invariant j before)
    (λ g. let e : c.loop-i.i ≡ j = omega arith in
    subst (λ (k : ℕ). Agrees c.args.locations.now c.args.table.now.bytes c.args.table.now.count k) e (c.agrees.ensures.0 c.if-not-agrees.false))
    (cases_lt j c.loop-i.i)

pub returns-clause-same : goal.returns-clause-same
returns-clause-same c = λ _.
    rows_are c.args.locations.now c.args.places.now c.args.table.now.bytes c.args.table.now.count c.loop-i.i c.requires
    (omega (arith, c.loop-i-test.false, c.max-count.ensures, c.rows-2.ensures.count)) (omega (arith, c.loop-i-test.false, c.max-count.ensures)) c.loop-i.invariant
