use Rattle.std.proofs.Common.{◌≡◌, ◌+◌, ◌++◌, [], get_or, take, sym, ap, ◌∙◌, arith}
use Rattle.std.specs.Prelude.{flat_map}
use Rattle.std.proofs.lemmas.List.{get_or_default}
use Rattle.alta_content.specs.Fronts.{front_locations, front_term}
use Rattle.alta_merge.specs.Fronts.{front_of, next_term}
use Rattle.alta_merge.proofs.Nexts.{none_behind}
use Rattle.alta_merge.proofs.Takes.{fronts_to, own_fronts}
use Rattle.alta_merge.proofs.fronts.gather_packed.Goals as goal

pub loop-i-init : goal.loop-i-init
loop-i-init c =
    let parts = c.args.rests.now in
    let next = c.args.next.first in
    let within = c.requires.next.within in
    let x = c.index-rests-next.result in
    let y = c.index-rests-next-2.result in
    let e : get_or parts next [] ≡ x = get_or_default parts next [] x within ∙ sym c.index-rests-next.is in
    let f : get_or parts next [] ≡ y = get_or_default parts next [] y within ∙ sym c.index-rests-next-2.is in
    (c.in_ok-put.ensures (front_locations c.index-rests-next.result) c.first_packed.ensures).put
    ∙ ap (λ l. l ++ front_locations x) c.clear.ensures
    ∙ ap front_locations (sym e)
    ∙ own_fronts parts next c.requires.next
    ∙ ap (λ t. flat_map (front_of t) (take (next + 1) parts)) (ap front_term f ∙ sym c.term_of-term.ensures)

pub returns : goal.returns
returns c =
    let parts = c.args.rests.now in
    let next = c.args.next in
    let x = c.index-rests-next-2.result in
    let e : get_or parts next.first [] ≡ x = get_or_default parts next.first [] x c.requires.next.within ∙ sym c.index-rests-next-2.is in
    let term : c.term_of-term.result.now ≡ next_term parts next.first = c.term_of-term.ensures ∙ ap front_term (sym e) in
    let end : c.loop-i.i ≡ next.last + 1 = omega (arith, c.loop-i.auto.i, c.loop-i.auto.i-end, c.loop-i-test.false) in
    c.loop-i.invariant
    ∙ ap (λ n. flat_map (front_of c.term_of-term.result.now) (take n parts)) end
    ∙ ap (λ t. flat_map (front_of t) (take (next.last + 1) parts)) term
    ∙ fronts_to (next_term parts next.first) parts (next.last + 1) (none_behind parts next.first next.last c.requires)
