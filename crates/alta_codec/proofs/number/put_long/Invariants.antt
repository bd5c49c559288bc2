use Rattle.std.proofs.Common.{◌≡◌, ◌+◌, ◌*◌, ◌^◌, ◌<◌, ◌≤◌, ◌++◌}
use Rattle.std.specs.Vec.{vec_len, vec_capacity}
use Rattle.alta_codec.specs.Numbers.{spelling}
use Rattle.alta_codec.proofs.number.put_long.Given as goal

abbrev pub invariant-sevens : goal.invariant-sevens
invariant-sevens l =
    record {
      whole : l.out.items ++ spelling (l.left + 1) l.rest ≡ l.fn.out.items ++ spelling 10 l.n;
      room : vec_len l.out + l.left < vec_capacity l.out;
      few : l.left ≤ 9;
      small : l.rest < 2 * 128 ^ l.left;
    }

abbrev pub decreases-sevens : goal.decreases-sevens
decreases-sevens l = l.rest
