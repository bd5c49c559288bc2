use Rattle.std.proofs.Common.{◌≡◌, ◌+◌, ◌*◌, ◌^◌, arith}
use Rattle.std.proofs.lemmas.Grind.{pow_more}
use Rattle.alta_machine.proofs.Levels.{even_half, greatest_here}
use Rattle.alta_machine.proofs.level.greatest.Goals as goal

pub levels-preserved : goal.levels-preserved
levels-preserved c =
    let twice : 2 ^ (c.levels.level + 1) ≡ 2 ^ c.levels.level * 2 = pow_more 2 c.levels.level in
    record {
      level = omega arith;
      begins = even_half _ _ _ c.levels.invariant.begins (omega arith);
      ends = omega arith;
      size = omega arith;
    }

pub returns-else-size-room-clause-greatest : goal.returns-else-size-room-clause-greatest
returns-else-size-room-clause-greatest c =
    greatest_here _ _ _ _ c.levels.invariant.level (record { begins = c.levels.invariant.begins; ends = c.levels.invariant.ends }) (λ even room. omega arith)

pub returns-else-prefix-eq0-clause-greatest : goal.returns-else-prefix-eq0-clause-greatest
returns-else-prefix-eq0-clause-greatest c =
    greatest_here _ _ _ _ c.levels.invariant.level (record { begins = c.levels.invariant.begins; ends = c.levels.invariant.ends }) (λ even room. omega arith)
