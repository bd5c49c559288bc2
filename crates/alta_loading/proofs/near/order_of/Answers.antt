use Rattle.std.proofs.Common.{sym, ap, ◌∙◌}
use Rattle.alta_loading.specs.Near.{order_to}
use Rattle.alta_loading.proofs.near.order_of.Goals as goal

pub returns : goal.returns
returns c = c.cmp.ensures ∙ sym (ap (order_to c.args.term.now) c.term.ensures)
