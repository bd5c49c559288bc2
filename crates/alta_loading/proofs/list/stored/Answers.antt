use Rattle.std.proofs.Common.{ap, ◌∙◌}
use Rattle.alta_loading.specs.Lists.{stored_as}
use Rattle.alta_table.specs.Tables.{Tables}
use Rattle.alta_loading.proofs.list.stored.Goals as goal

pub returns : goal.returns
returns c =
    c.listed.ensures ∙ ap (λ (t : Tables). stored_as t c.args.row.now.row c.args.stream.now c.args.summary.now) c.requires.tables
