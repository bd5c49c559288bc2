use Rattle.std.proofs.Common.{refl}
use Rattle.alta_level.proofs.blocks.pass_block.Goals as goal

pub returns-in-Ok : goal.returns-in-Ok
returns-in-Ok c = λ firsts ends. record {
  read = record { read = c.in-Ok.ensures.read; within = tt; passed = tt; held = λ rises. refl };
  fault = tt;
}

pub returns-in-Err : goal.returns-in-Err
returns-in-Err c = λ firsts ends. record { read = tt; fault = c.in-Err.ensures.fault }
