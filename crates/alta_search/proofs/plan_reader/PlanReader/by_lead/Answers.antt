use Rattle.alta_search.specs.Ways.{way_view}
use Rattle.alta_search.specs.declared.plan_reader.Way.TheVariants.{Led}
use Rattle.alta_search.proofs.LeadMoves.{led_from, led_same}
use Rattle.alta_search.proofs.plan_reader.PlanReader.by_lead.Goals as goal

pub returns : goal.returns
returns g c =
    let n = c.new-reader.ensures in
    led_same c.new.result.inner c.args.ends c.args.words.items c.args.negated.items c.args.lead (way_view (Led c.seek_on.new.reader)) c.args.from
    c.args.steps.now c.seek_on.new.steps c.new.ensures.list c.new.ensures.left
    (led_from c.new.result.inner c.args.words.items c.args.negated.items c.args.lead c.new-reader.result c.seek_on.new.reader c.args.from
    c.args.steps.now c.new-reader.new.steps c.seek_on.new.steps n.sound n.same_ends n.same_words n.same_negated n.all n.location n.steps n.leads n.moves c.seek_on.ensures)
