use Rattle.alta_rewrite.proofs.BeginLaws.{held_flush, held_merge, held_room, held_step}
use Rattle.alta_rewrite.proofs.laws.what_is_held_may_be_rewritten.Goals as goal

pub returns : goal.returns
returns c = record { flush = held_flush; room = held_room; merge = held_merge; step = held_step }
