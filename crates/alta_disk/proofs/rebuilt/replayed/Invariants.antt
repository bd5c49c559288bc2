use Rattle.std.proofs.Common.{◌≡◌, take}
use Rattle.alta_disk.specs.Media.{start, after}
use Rattle.alta_disk.proofs.rebuilt.replayed.Given as goal

abbrev pub invariant-loop-event : goal.invariant-loop-event
invariant-loop-event l = l.content.items ≡ (after (start l.first) (take l.event-index l.events)).content
