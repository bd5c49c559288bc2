use Rattle.std.proofs.Common.{⊎_elim, length}
use Rattle.std.specs.Prelude.{sum_by}
use Rattle.alta_solver.proofs.Settling.{fewer_to_test, less_to_move}
use Rattle.alta_solver.proofs.least.settle.Goals as goal

pub settle-smaller : goal.settle-smaller
settle-smaller g c =
    let left = g.R.Reader.left in let n = length c.args.bounds.now in let e = c.in-Some.ensures in
    ⊎_elim
    (λ l. fewer_to_test (sum_by left c.settle.readers) (sum_by left c.try_before.new.readers) n c.settle.at c.in-Some.next e.kept.keeps l)
    (λ l. less_to_move (sum_by left c.settle.readers) (sum_by left c.try_before.new.readers) n c.settle.at c.in-Some.next l e.kept.placed.within)
    e.falls
