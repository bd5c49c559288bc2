use Rattle.std.proofs.Common.{◌≡◌, ◌∷◌, ◌<◌, length, map, arith, sym, ap, ◌∙◌}
use Rattle.std.proofs.lemmas.List.{length-map}
use Rattle.alta_query.specs.View.{shape}
use Rattle.alta_machine.specs.Plans.{all_of, also, trees_of}
use Rattle.alta_compile.specs.View.{tree}
use Rattle.alta_compile.proofs.Gathered.{others_alone, atoms_and_others, some_items}
use Rattle.alta_compile.proofs.compiling.with_atoms.Goals as goal

pub returns-then-len-members : goal.returns-then-len-members
returns-then-len-members c =
    let items = c.args.others.items in
    let some : 0 < length items = some_items _ _ _ c.is_empty.ensures c.if-is_empty.false c.args.others.ok.0 in
    let same : length items ≡ length c.args.members.now = sym c.args.others.ok.0 ∙ sym c.len.ensures ∙ c.if-len-members.true in
    others_alone (map shape c.args.members.now) (map tree items) c.requires (tree c.all_of.result) (omega (arith, some, length-map items tree))
    (omega (arith, same, length-map items tree, length-map c.args.members.now shape)) c.all_of.ensures

pub returns-in_ok-insert : goal.returns-in_ok-insert
returns-in_ok-insert c =
    let items = c.args.others.items in
    let some : 0 < length items = some_items _ _ _ c.is_empty.ensures c.if-is_empty.false c.args.others.ok.0 in
    let differ : length items ≡ length c.args.members.now → ⊥ = λ e. c.if-len-members.false (c.len.ensures ∙ c.args.others.ok.0 ∙ e) in
    let put : c.insert.new.self.items ≡ c.found-found.result ∷ items = c.in_ok-insert.ensures.items in
    atoms_and_others (map shape c.args.members.now) (map tree items) c.requires (tree c.all_of-else-len-members.result) c.in_ok-plan_atoms-2.field-0
    (omega (arith, some, length-map items tree))
    (λ e. differ (omega (arith, e, length-map items tree, length-map c.args.members.now shape))) c.in_ok-plan_atoms-2.ensures
    (c.all_of-else-len-members.ensures ∙ ap (λ ps. all_of (trees_of (map tree ps))) put ∙ ap (λ t. all_of (also t (trees_of (map tree items)))) c.found-found.ensures)
