use Rattle.std.proofs.Common.{◌∙◌, ◌<◌, length, take, sym, ap, arith}
use Rattle.alta_disk.specs.Media.{Media, start, after}
use Rattle.alta_disk.proofs.Pushed.{after_more, begins_next}
use Rattle.alta_disk.proofs.rebuilt.replayed.Goals as goal

pub replay-requires : goal.replay-requires
replay-requires c =
    let inside : c.loop-event.event-index < length c.args.events.now = omega arith in
    (after (start c.args.first.now) (take c.loop-event.event-index c.args.events.now), c.loop-event.invariant, begins_next (start c.args.first.now) c.args.events.now c.loop-event.event-index c.event-item.result inside c.event-item.is c.requires)

pub loop-event-preserved : goal.loop-event-preserved
loop-event-preserved c =
    let inside : c.loop-event.event-index < length c.args.events.now = omega arith in
    c.in_ok-replay.ensures (after (start c.args.first.now) (take c.loop-event.event-index c.args.events.now)) c.loop-event.invariant
    ∙ sym (ap (λ (m : Media). m.content) (after_more (start c.args.first.now) c.args.events.now c.loop-event.event-index c.event-item.result inside c.event-item.is))
