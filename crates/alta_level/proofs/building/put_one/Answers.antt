use Rattle.std.proofs.Common.{◌∙◌, append_assoc}
use Rattle.alta_postings.specs.Deltas.{stream_bytes}
use Rattle.alta_level.specs.Coded.{summary_bytes}
use Rattle.alta_level.proofs.building.put_one.Goals as goal

pub returns-clause-streams : goal.returns-clause-streams
returns-clause-streams c = λ locations rising are.
    c.in_ok-size.ensures.bytes locations rising are ∙ append_assoc c.args.streams.now.items (stream_bytes 0 locations) (summary_bytes locations)
