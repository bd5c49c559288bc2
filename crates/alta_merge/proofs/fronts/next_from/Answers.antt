use Rattle.std.proofs.Common.{◌≡◌, [], get_or, sym, ap, ◌∙◌}
use Rattle.std.proofs.lemmas.List.{get_or_default}
use Rattle.alta_content.specs.Fronts.{front_term}
use Rattle.alta_merge.proofs.Nexts.{first_are}
use Rattle.alta_merge.proofs.fronts.next_from.Goals as goal

pub loop-i-init : goal.loop-i-init
loop-i-init c =
    let parts = c.args.rests.now in
    let first = c.args.first in
    let x = c.index-rests-first.result in
    let e : get_or parts first [] ≡ x = get_or_default parts first [] x c.requires.within ∙ sym c.index-rests-first.is in
    record { next = first_are parts first c.requires; least = c.term_of-least.ensures ∙ ap front_term (sym e) }
