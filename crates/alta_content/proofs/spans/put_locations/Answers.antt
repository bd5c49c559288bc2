use Rattle.std.proofs.Common.{◌++◌, ap, sym, ◌∙◌}
use Rattle.alta_content.proofs.Searches.{nothing_out}
use Rattle.alta_content.proofs.spans.put_locations.Goals as goal

pub returns-then-is_empty : goal.returns-then-is_empty
returns-then-is_empty c =
    c.in_ok-extend_from_slice.ensures.items
    ∙ ap (λ l. c.args.all.now.items ++ l) (nothing_out (λ x. x) c.args.spans.now c.args.locations.now (sym c.is_empty.ensures ∙ c.if-is_empty.true))
