use Rattle.std.proofs.Common.{arith}
use Rattle.alta_postings.specs.Deltas.{decoded_list}
use Rattle.alta_level.proofs.Coded.{posting_coded}
use Rattle.alta_level.proofs.walking.walk_joined.Goals as goal

pub returns-in-Ok-clause-coded : goal.returns-in-Ok-clause-coded
returns-in-Ok-clause-coded c = posting_coded c.args.stream.now c.args.summary.now c.in-Ok.bounds.rows c.in-Ok.ensures.posting (λ i l. omega (arith, c.type_inv.summary i))

pub returns-in-Ok-clause-walks : goal.returns-in-Ok-clause-walks
returns-in-Ok-clause-walks c = record {
  posting = c.in-Ok.ensures.posting;
  bounds = c.in-Ok.ensures.bounds;
  fits = c.are_within.ensures (decoded_list c.args.stream.now) c.in-Ok.ensures.posting.spelled.rising c.in-Ok.ensures.bounds;
  fault = tt;
}
