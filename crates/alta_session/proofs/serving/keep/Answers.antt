use Rattle.std.proofs.Common.{◌∙◌, arith}
use Rattle.alta_session.proofs.KeepingLaws.{clip_keep}
use Rattle.alta_session.proofs.serving.keep.Goals as goal

pub returns-in-Ok-clause-kept : goal.returns-in-Ok-clause-kept
returns-in-Ok-clause-kept c = c.in-Ok.ensures.items ∙ clip_keep _ c.args.begun.now.items c.args.bytes.now c.requires (omega (arith, c.len.ensures, c.min-room.ensures))
