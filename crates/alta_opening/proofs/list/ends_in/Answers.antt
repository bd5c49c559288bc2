use Rattle.std.proofs.Common.{◌∙◌, sym, ap, Ok, List, ℕ, arith}
use Rattle.alta_level.proofs.Faults.{stream_within}
use Rattle.alta_postings.specs.Deltas.{decoded_list}
use Rattle.alta_opening.proofs.ListLaws.{list_spelled}
use Rattle.alta_opening.proofs.list.ends_in.Goals as goal

pub overflow_add-result : goal.overflow_add-result
overflow_add-result c = omega (arith, c.requires, stream_within c.args.bytes.now c.in-Err.fault.place c.in-Err.fault.cause c.in-Err.ensures.first)

pub returns-in_ok-locations-in-Ok-clause-exact : goal.returns-in_ok-locations-in-Ok-clause-exact
returns-in_ok-locations-in-Ok-clause-exact c =
    list_spelled c.args.place c.args.bytes.now c.in-Ok.ensures.found.1
    ∙ ap (λ (l : List ℕ). Ok l) (sym (c.in_ok-locations-in-Ok.ensures ∙ ap decoded_list c.in-Ok.ensures.found.0))
