use Rattle.alta_level.proofs.blocks.read_beside.Goals as goal

pub scan_beside-requires-clause-within : goal.scan_beside-requires-clause-within
scan_beside-requires-clause-within c = c.may_end_in.ensures c.if-may_end_in.true
