use Rattle.std.proofs.Common.{take, []}
use Rattle.alta_disk.specs.Images.{IsFilled}
use Rattle.alta_disk.specs.Media.{ranges_after}
use Rattle.alta_disk.proofs.rebuilt.filled.Given as goal

abbrev pub invariant-loop-event : goal.invariant-loop-event
invariant-loop-event l = IsFilled l.byte (ranges_after [] (take l.event-index l.events)) l.content l.image.items
