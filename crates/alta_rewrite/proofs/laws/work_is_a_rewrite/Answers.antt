use Rattle.alta_rewrite.proofs.JoinedLaws.{flush_is, merge_is, room_is, step_is}
use Rattle.alta_rewrite.proofs.laws.work_is_a_rewrite.Goals as goal

pub returns : goal.returns
returns c = record { flush = flush_is; room = room_is; merge = merge_is; step = step_is }
