use Rattle.std.proofs.Common.{◌+◌, ◌≤◌, ap, subst, ◌∙◌}
use Rattle.alta_table.specs.Places.{stream_extent, summary_extent}
use Rattle.alta_table.specs.Tables.{Tables, total_of}
use Rattle.alta_loading.proofs.list.places.Goals as goal

pub returns-clause-stream : goal.returns-clause-stream
returns-clause-stream c =
    c.stream_place.ensures.stream ∙ ap (λ (t : Tables). stream_extent t c.args.row.now.row) c.requires.tables

pub returns-clause-summary : goal.returns-clause-summary
returns-clause-summary c =
    c.stream_place.ensures.summary ∙ ap (λ (t : Tables). summary_extent t c.args.row.now.row) c.requires.tables

pub returns-clause-within : goal.returns-clause-within
returns-clause-within c =
    subst (λ (t : Tables). c.stream_place.result.1.place + c.stream_place.result.1.bytes ≤ t.place + total_of t.documents t.terms) c.requires.tables c.stream_place.ensures.within
