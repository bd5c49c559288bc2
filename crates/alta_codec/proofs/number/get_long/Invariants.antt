use Rattle.std.proofs.Common.{◌≡◌, ◌-◌, ◌*◌, ◌^◌, ◌<◌, ◌≤◌, drop, length}
use Rattle.alta_codec.specs.Numbers.{number_from}
use Rattle.alta_codec.proofs.Numerals.{raised}
use Rattle.alta_codec.proofs.number.get_long.Given as goal

abbrev pub invariant-bytes : goal.invariant-bytes
invariant-bytes l =
    record {
      whole : number_from 9 l.from (drop l.from l.bytes) ≡ raised l.value l.scale (number_from l.left l.at (drop l.at l.bytes));
      within : l.at ≤ length l.bytes;
      low : l.value < l.scale;
      room : l.scale * 128 ^ l.left ≡ 128 ^ 9;
      few : l.left ≤ 9;
    }

abbrev pub decreases-bytes : goal.decreases-bytes
decreases-bytes l = length l.bytes - l.at
