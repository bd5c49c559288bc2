use Rattle.std.proofs.Common.{◌+◌, ◌≤◌, [], ◌∷◌, length, subst, arith}
use Rattle.alta_layout.specs.Places.{half_start}
use Rattle.alta_disk.specs.Disk.{Holds}
use Rattle.alta_disk.specs.Writes.{holds_torn}
use Rattle.alta_journal.proofs.HalfLaws.{start_fits}
use Rattle.alta_journal.proofs.Steps.{formatted, byte_written}
use Rattle.alta_journal.proofs.appending.close_half.Goals as goal

pub returns-clause-written : goal.returns-clause-written
returns-clause-written g c = λ told. subst (λ n. Holds (g.D.Disk.state c.args.disk.now).content n (0 ∷ []) (g.D.Disk.state c.write.new.self).content) c.half_start.ensures (c.in_ok-write.ensures.written told)

pub returns-clause-empty : goal.returns-clause-empty
returns-clause-empty g c = λ version told. formatted version (half_start c.args.slot) _ _ (start_fits c.args.slot) (c.requires.size told) (returns-clause-written g c told)

pub returns-clause-closed : goal.returns-clause-closed
returns-clause-closed g c = λ told.
    let start = half_start c.args.slot in
    let old = (g.D.Disk.state c.args.disk.now).content in
    let new = (g.D.Disk.state c.write.new.self).content in
    let holds = returns-clause-written g c told in
    let inside : start + 1 ≤ length old = omega (arith, start_fits c.args.slot, c.requires.size told) in
    let torn = holds_torn old start (0 ∷ []) new (omega arith) holds in
    (omega (arith, torn.no_shorter), λ is_open. absurd (omega (arith, is_open, byte_written start 0 old new (omega arith) holds)))
