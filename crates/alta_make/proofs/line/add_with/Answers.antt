use Rattle.std.proofs.Common.{append_assoc}
use Rattle.alta_make.proofs.line.add_with.Goals as goal

pub returns : goal.returns
returns c = simp append_assoc c.format.ensures.ok
