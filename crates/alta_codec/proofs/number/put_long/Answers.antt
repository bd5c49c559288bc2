use Rattle.std.proofs.Common.{arith}
use Rattle.alta_codec.specs.Numbers.{number_bytes}
use Rattle.alta_codec.proofs.Numerals.{spelled_more, spelled_last, small_step}
use Rattle.alta_codec.proofs.number.put_long.Goals as goal

pub sevens-preserved : goal.sevens-preserved
sevens-preserved c =
    let step = small_step c.sevens.rest c.sevens.left c.sevens-test.true c.sevens.invariant.small in
    record {
      whole = spelled_more c.sevens.out.items _ _ c.sevens.left c.sevens.rest step.0 c.sevens-test.true c.push_reserved.ensures.items c.sevens.invariant.whole;
      room = omega (arith, step.0, c.sevens.invariant.room, c.push_reserved.ensures.len, c.push_reserved.ensures.capacity);
      few = omega (arith, step.0);
      small = step.1;
    }

pub returns : goal.returns
unfolding number_bytes
returns c = spelled_last c.sevens.out.items _ _ c.sevens.left c.sevens.rest c.sevens-test.false c.push_reserved-2.ensures.items c.sevens.invariant.whole
