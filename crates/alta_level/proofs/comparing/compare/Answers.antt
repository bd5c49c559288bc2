use Rattle.std.proofs.Common.{ℕ, List, subst, arith}
use Rattle.alta_level.specs.Decoded.{AreRowsOf, IsFirstOther}
use Rattle.alta_level.proofs.Coded.{posting_coded}
use Rattle.alta_level.proofs.BesideRows.{posting_of, different_of, spells_itself}
use Rattle.alta_level.proofs.comparing.compare.Goals as goal

pub returns-in-None-clause-coded : goal.returns-in-None-clause-coded
returns-in-None-clause-coded c = λ stream s.
    let (b, p) =
    posting_of stream c.args.locations.now c.args.summary.now c.in-Ok.table.count s c.in-Ok.ensures.found.1
    (subst (λ (bs : List ℕ). AreRowsOf c.args.locations.now bs c.in-Ok.table.count) c.in-Ok.ensures.found.0 (c.first_other.ensures.same c.in-None.is)) in
    posting_coded stream c.args.summary.now b p (λ i l. omega (arith, c.type_inv.summary i))

pub returns-in-None-clause-posting : goal.returns-in-None-clause-posting
returns-in-None-clause-posting c = λ stream s.
    posting_of stream c.args.locations.now c.args.summary.now c.in-Ok.table.count s c.in-Ok.ensures.found.1
    (subst (λ (bs : List ℕ). AreRowsOf c.args.locations.now bs c.in-Ok.table.count) c.in-Ok.ensures.found.0 (c.first_other.ensures.same c.in-None.is))

pub returns-in-Some-clause-fault : goal.returns-in-Some-clause-fault
returns-in-Some-clause-fault c = λ stream s.
    different_of stream c.args.locations.now c.args.summary.now c.in-Ok.table.count s c.in-Ok.ensures.found.1 c.in-Some.row
    (subst (λ (bs : List ℕ). IsFirstOther c.args.locations.now bs c.in-Ok.table.count c.in-Some.row) c.in-Ok.ensures.found.0 c.in-Some.ensures.other)

pub returns-in-Err-clause-fault : goal.returns-in-Err-clause-fault
returns-in-Err-clause-fault c = λ stream s. (spells_itself stream c.args.locations.now s, c.in-Err.ensures.first)
