use Rattle.std.proofs.Common.{◌≡◌, ◌+◌, get_or, ap, arith}
use Rattle.std.proofs.lemmas.Bool.{eqb-true}
use Rattle.std.proofs.lemmas.Simd.{length-chunk, get_or-chunk}
use lib.Lanes.{chunk}
use Rattle.alta_postings.proofs.Tally.{lows_from_mask}
use Rattle.alta_postings.proofs.step.are_low.Goals as goal

pub returns : goal.returns
returns c = λ t.
    let here = chunk c.args.at 8 c.args.bytes.now in
    let k : c.args.at + 0 ≡ c.args.at = omega arith in
    let byte = get_or-chunk c.args.at 8 c.args.bytes.now 0 0 (omega arith) in
    let low = lows_from_mask here 8 (length-chunk c.args.at 8 c.args.bytes.now c.requires) (omega arith) (eqb-true _ 0 t) 0 (omega arith) in
    omega (arith, low, byte, ap (λ i. get_or c.args.bytes.now i 0) k)
