use Rattle.std.proofs.Common.{◌∙◌, arith}
use Rattle.alta_rewrite.proofs.WriteLaws.{inside_all, run_more, write_inside, write_more}
use Rattle.alta_rewrite.proofs.putting.write_pieces.Goals as goal

pub write-requires-clause-inside : goal.write-requires-clause-inside
write-requires-clause-inside g c = λ told.
    let (taken, laid) = c.requires.laid told in write_inside taken _ _ c.args.pieces.now laid c.loop-piece.piece-index _ c.loop-piece-test.true _ (c.loop-piece.invariant.wrote told)

pub returns-in_err-write-clause-images : goal.returns-in_err-write-clause-images
returns-in_err-write-clause-images g c =
    run_more _ _ _ _ _ _ c.loop-piece.invariant.images c.write.ensures.images (inside_all c.args.pieces.now c.loop-piece.piece-index _ _ c.loop-piece-test.true c.requires.fits)

pub loop-piece-preserved : goal.loop-piece-preserved
loop-piece-preserved g c = record {
  wrote = λ told.
      let (taken, laid) = c.requires.laid told in
      write_more taken _ _ c.args.pieces.now laid c.loop-piece.piece-index _ c.loop-piece-test.true _ (c.loop-piece.invariant.wrote told)
      (c.requires.fits c.loop-piece.piece-index _ c.loop-piece-test.true).0 _ (c.in_ok-write.ensures.written told);
  images = run_more _ _ _ _ _ _ c.loop-piece.invariant.images c.write.ensures.images (inside_all c.args.pieces.now c.loop-piece.piece-index _ _ c.loop-piece-test.true c.requires.fits);
  costs = record {
    faults = omega (arith, c.loop-piece.invariant.costs.faults, c.write.ensures.charges.costs.faults);
    taken_up = omega (arith, c.loop-piece.invariant.costs.taken_up, c.write.ensures.charges.costs.taken_up);
    taken = omega (arith, c.loop-piece.invariant.costs.taken, c.write.ensures.charges.costs.taken);
    limit = c.write.ensures.charges.costs.limit ∙ c.loop-piece.invariant.costs.limit;
  };
}
