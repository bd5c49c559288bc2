use Rattle.std.proofs.Common.{◌∙◌}
use Rattle.alta_loading.proofs.TermSets.{sorted_once}
use Rattle.alta_loading.proofs.meeting.in_order.Goals as goal

pub returns : goal.returns
returns c =
    c.drop_equal.ensures ∙ sorted_once c.args.terms.items c.sort_terms.new.terms.items c.in_ok-sort_terms.ensures.same c.in_ok-sort_terms.ensures.sorted
