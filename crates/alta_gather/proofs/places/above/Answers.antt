use Rattle.std.proofs.Common.{◌+◌, ℕ, ap}
use Rattle.alta_gather.proofs.Runs.{last_is}
use Rattle.alta_gather.proofs.places.above.Goals as goal

pub returns-in-Some : goal.returns-in-Some
returns-in-Some c = ap (λ (n : ℕ). n + 1) (last_is c.args.lasts.now c.in-Some.last.now c.in-Some.ensures.value)
