use Rattle.std.proofs.Common.{ℕ, sym, subst, arith}
use Rattle.alta_words.specs.Fault.{AreAllSame}
use Rattle.alta_words.specs.Word.{IsPosting}
use Rattle.alta_words.proofs.Walk.{bounds_are, posting_is, differ_is}
use Rattle.alta_words.proofs.compared.Compared.end.Goals as goal

pub returns-then-are_all_same-clause-posting : goal.returns-then-are_all_same-clause-posting
returns-then-are_all_same-clause-posting c =
    let table = c.args.table.now in
    let s = c.args.self in
    subst (λ (b : ℕ). IsPosting c.args.stream.now table.bytes b) (sym c.rows-rows.ensures.count)
    (posting_is c.args.stream.now table.bytes table.count s.at s.last s.first s.count s.blocks s.same c.requires.read c.requires.end
    (λ i l. omega (arith, c.type_inv.stream i)) c.rows-rows.ensures.table
    (subst (λ (b : ℕ). AreAllSame b s.blocks s.same) c.rows-rows.ensures.count (c.are_all_same.ensures.0 c.if-are_all_same.true)))

pub returns-then-are_all_same-clause-bounds : goal.returns-then-are_all_same-clause-bounds
returns-then-are_all_same-clause-bounds c =
    let table = c.args.table.now in
    let s = c.args.self in
    bounds_are c.args.stream.now table.bytes table.count s.at s.last s.first s.count s.blocks s.same c.requires.read c.requires.end

pub returns-clause-fault : goal.returns-clause-fault
returns-clause-fault c =
    let table = c.args.table.now in
    let s = c.args.self in (
      table.count,
      differ_is c.args.stream.now table.bytes table.count s.at s.last s.first s.count s.blocks s.same c.requires.read c.requires.end
          (λ i l. omega (arith, c.type_inv.stream i)) c.rows-rows.ensures.table
          (λ a. absurd (let t = c.are_all_same.ensures.1 (subst (λ (b : ℕ). AreAllSame b s.blocks s.same) (sym c.rows-rows.ensures.count) a) in cc (t, c.if-are_all_same.false))),
    )
