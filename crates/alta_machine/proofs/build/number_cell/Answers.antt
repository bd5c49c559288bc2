use Rattle.std.proofs.Common.{ℕ, List, ◌∷◌, ◌++◌, ap, ◌∙◌}
use Rattle.alta_machine.specs.Terms.{range_terms}
use Rattle.alta_machine.proofs.Ranges.{cell_is}
use Rattle.alta_machine.proofs.build.number_cell.Goals as goal

pub number-requires : goal.number-requires
number-requires c =
    cell_is c.args.folding c.args.value (c.args.folding ∷ c.put_ranges.new.ranges.items) c.requires
    (ap (λ (ts : List (List ℕ)). c.args.folding ∷ ts)
    (c.in_ok-put_ranges.ensures ∙ ap (λ (ts : List (List ℕ)). ts ++ range_terms c.args.value) c.in_ok-ranges.ensures.items))
