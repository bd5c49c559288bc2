use Rattle.std.proofs.Common.{◌≡◌, ◌<◌, ℕ, List, [], length, take, sym, subst, arith, rules}
use Rattle.alta_disk.specs.Images.{IsFilled}
use Rattle.alta_disk.specs.Media.{ranges_after}
use Rattle.alta_disk.proofs.FillLaws.{filled_none}
use Rattle.alta_disk.proofs.Pushed.{ranges_more}
use Rattle.alta_disk.proofs.rebuilt.filled.Goals as goal

pub loop-event-init : goal.loop-event-init
loop-event-init c = let copied : c.in_ok-image.image.items ≡ c.args.content.now = search rules in filled_none c.args.byte c.args.content.now c.in_ok-image.image.items copied

pub loop-event-preserved : goal.loop-event-preserved
loop-event-preserved c =
    let inside : c.loop-event.event-index < length c.args.events.now = omega arith in
    subst (λ (ranges : List (ℕ × ℕ)). IsFilled c.args.byte ranges c.args.content.now c.fill_event.new.image.items) (sym (ranges_more c.args.events.now c.loop-event.event-index c.event-item.result inside c.event-item.is))
    (c.fill_event.ensures (ranges_after [] (take c.loop-event.event-index c.args.events.now)) c.args.content.now c.loop-event.invariant)
