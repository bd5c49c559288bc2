use Rattle.std.proofs.Common.{◌≡◌, ◌+◌, ◌-◌, ◌*◌, ◌^◌, ◌<◌, drop, true}
use Rattle.std.specs.List.{list_all, fold}
use Rattle.std.specs.Char.{is_ascii_digit}
use Rattle.alta_codec.specs.Decimal.{value_of}
use Rattle.alta_codec.proofs.decimal.value.Given as goal

abbrev pub invariant-loop-b : goal.invariant-loop-b
invariant-loop-b l = record {
  same : fold (λ n b. n * 10 + (b - 48)) l.n (drop l.b-index l.digits) ≡ value_of l.digits;
  rest : list_all is_ascii_digit (drop l.b-index l.digits) ≡ true;
  small : l.n < 10 ^ l.b-index;
}
