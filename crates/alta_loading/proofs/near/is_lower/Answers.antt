use Rattle.std.proofs.Common.{◌≡◌, sym, ◌∙◌}
use Rattle.std.specs.declared.cmp.Ordering.TheVariants.{Less}
use Rattle.alta_loading.proofs.RowNear.{less_is}
use Rattle.alta_loading.proofs.near.is_lower.Goals as goal

pub returns : goal.returns
returns c = λ yes.
    let lower : c.order_of.result ≡ Less = less_is c.order_of.result (sym c.is_lt.ensures ∙ yes) in
    sym c.order_of.ensures ∙ lower
