use Rattle.std.proofs.Common.{◌≡◌, ℕ, ◌+◌, List, [], get_or, take, sym, ap, subst, ◌∙◌, arith}
use Rattle.std.specs.Prelude.{flat_map}
use Rattle.std.proofs.lemmas.List.{get_or_default}
use Rattle.alta_content.specs.Fronts.{front_locations, front_term}
use Rattle.alta_content.specs.Packed.{Appends}
use Rattle.alta_content.specs.TermList.{TermList}
use Rattle.alta_merge.specs.Fronts.{front_of, if_some, next_term}
use Rattle.alta_merge.proofs.Nexts.{none_behind}
use Rattle.alta_merge.proofs.Takes.{fronts_to, own_fronts}
use Rattle.alta_merge.proofs.fronts.put_whole.Goals as goal

-- the list of a part that alone begins with the term has all its locations
pub returns-then-next : goal.returns-then-next
returns-then-next c =
    let parts = c.args.rests.now in
    let next = c.args.next in
    let t = next_term parts next.first in
    let x = c.index-rests-next.result in
    let y = c.index-rests-next-then-next.result in
    let e : get_or parts next.first [] ≡ x = get_or_default parts next.first [] x c.requires.next.within ∙ sym c.index-rests-next.is in
    let f : get_or parts next.first [] ≡ y = get_or_default parts next.first [] y c.requires.next.within ∙ sym c.index-rests-next-then-next.is in
    let term : c.term_of-term.result.now ≡ t = c.term_of-term.ensures ∙ ap front_term (sym e) in
    let one : next.first + 1 ≡ next.last + 1 = omega (arith, c.if-next.true) in
    let locations : front_locations y ≡ flat_map (front_of t) parts =
    ap front_locations (sym f)
    ∙ own_fronts parts next.first c.requires.next
    ∙ ap (λ n. flat_map (front_of t) (take n parts)) one
    ∙ fronts_to t parts (next.last + 1) (none_behind parts next.first next.last c.requires) in
    let build : List ℕ → List ℕ → TermList = λ u xs. record { term = u; locations = xs } in
    subst (λ (l : TermList). Appends (if_some l) c.args.made.now c.put_some_packed.new.made c.put_some_packed.result)
    (ap (λ u. build u (front_locations y)) term ∙ ap (λ xs. build t xs) locations)
    (c.put_some_packed.ensures (front_locations y) c.first_packed.ensures)
