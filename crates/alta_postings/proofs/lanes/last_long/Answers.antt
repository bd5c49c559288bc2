use Rattle.std.proofs.Common.{get_or, Fits, w8, ◌∙◌, arith}
use Rattle.std.proofs.lemmas.Simd.{Each1-get_or}
use Rattle.alta_postings.proofs.Tally.{last_bit, bit_is}
use Rattle.alta_postings.proofs.lanes.last_long.Goals as goal

pub returns : goal.returns
returns c =
    let xs = c.args.lanes in
    let byte = Each1-get_or (Fits w8) xs 15 0 (omega (arith, c.fits-lanes.0)) c.fits-lanes.1 in last_bit xs c.fits-lanes.0 ∙ bit_is (get_or xs 15 0) (omega (arith, byte.fits))
