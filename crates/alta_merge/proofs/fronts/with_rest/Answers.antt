use Rattle.std.proofs.Common.{◌≡◌, ◌<◌, [], length, get_or, sym, ap, subst, ◌∙◌}
use Rattle.std.specs.declared.cmp.Ordering.TheVariants.{Less, Greater}
use Rattle.std.proofs.lemmas.List.{get_or_default}
use Rattle.alta_content.specs.Fronts.{front_term}
use Rattle.alta_content.proofs.Order.{cmp}
use Rattle.alta_merge.specs.Fronts.{against, next_term}
use Rattle.alta_merge.proofs.Nexts.{above_are, compared, lower_are}
use Rattle.alta_merge.proofs.fronts.with_rest.Goals as goal

pub returns-in-Greater-clause-next : goal.returns-in-Greater-clause-next
returns-in-Greater-clause-next c =
    let parts = c.args.rests.now in
    let i = c.args.i in
    let first = c.args.next.first in
    let x = c.index-rests-i.result in
    let e : get_or parts i [] ≡ x = get_or_default parts i [] x c.requires.within ∙ sym c.index-rests-i.is in
    let above : cmp (next_term parts first) (next_term parts i) ≡ Greater =
    ap (λ t. cmp t (next_term parts i)) (sym c.requires.least)
    ∙ ap (cmp c.args.least.now) (ap front_term e ∙ sym c.in-Some.ensures.1)
    ∙ sym c.cmp.ensures ∙ c.in-Greater.is in
    lower_are parts i first c.args.next.last c.requires.within (subst (λ p. 0 < length p) (sym e) c.in-Some.ensures.0) c.requires.next above

pub returns-in-Less-clause-next : goal.returns-in-Less-clause-next
returns-in-Less-clause-next c =
    let parts = c.args.rests.now in
    let i = c.args.i in
    let first = c.args.next.first in
    let x = c.index-rests-i.result in
    let e : get_or parts i [] ≡ x = get_or_default parts i [] x c.requires.within ∙ sym c.index-rests-i.is in
    let below : against (next_term parts first) (get_or parts i []) ≡ Less =
    compared (next_term parts first) (get_or parts i []) (subst (λ p. 0 < length p) (sym e) c.in-Some.ensures.0)
    ∙ ap (λ t. cmp t (next_term parts i)) (sym c.requires.least)
    ∙ ap (cmp c.args.least.now) (ap front_term e ∙ sym c.in-Some.ensures.1)
    ∙ sym c.cmp.ensures ∙ c.in-Less.is in
    above_are parts i first c.args.next.last c.requires.next below
