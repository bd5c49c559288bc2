use Rattle.std.proofs.Common.{arith}
use Rattle.std.proofs.lemmas.Bool.{eqb-true}
use Rattle.std.proofs.lemmas.Simd.{length-chunk, get_or-chunk}
use lib.Lanes.{chunk}
use Rattle.alta_postings.proofs.Tally.{gaps_from_mask}
use Rattle.alta_postings.proofs.runs.are_gaps.Goals as goal

pub returns : goal.returns
returns c = λ t i l.
    let here = chunk c.args.at 8 c.args.bytes.now in
    let byte = get_or-chunk c.args.at 8 c.args.bytes.now i 0 l in
    let gap = gaps_from_mask here 8 (length-chunk c.args.at 8 c.args.bytes.now c.requires) (omega arith) (eqb-true _ 0 t) i l in (omega (arith, gap, byte), omega (arith, gap, byte))
