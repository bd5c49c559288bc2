use Rattle.std.proofs.Common.{rules, subst, sym, ◌∙◌}
use Rattle.std.specs.Ordering.{nat_cmp}
use Rattle.std.proofs.lemmas.Fn.{always_returns_same}
use Rattle.alta_content.specs.Rows.{IsPlaced, start}
use Rattle.alta_meaning.proofs.NumberLaws.{found_here, none_here}
use Rattle.alta_opening.proofs.Numbered.{others_free, taken_there}
use Rattle.alta_opening.proofs.RowLaws.{all_placed}
use Rattle.alta_opening.proofs.names.is_in_rows.Goals as goal

pub is_named-requires-clause-placed : goal.is_named-requires-clause-placed
is_named-requires-clause-placed c =
    let row = c.index-rows-index.result in
    subst IsPlaced (sym c.index-rows-index.is) (all_placed start c.args.rows.now c.requires.rows c.in-Ok.index row c.in-Ok.ensures.bound)

pub returns-in-Ok : goal.returns-in-Ok
returns-in-Ok c =
    let found = c.in-Ok.ensures in
    let row = c.index-rows-index.result in
    c.is_named.ensures
    ∙ taken_there c.args.deleted.now c.args.name.now c.args.rows.now c.requires.rows c.in-Ok.index row found.bound c.index-rows-index.is c.args.number
    (found_here c.args.number c.args.rows.now c.in-Ok.index row (found.position (λ row. nat_cmp row.number c.args.number) (always_returns_same _ _ _ (λ a r g called. search rules))) c.index-rows-index.is)

pub returns-in-Err : goal.returns-in-Err
returns-in-Err c =
    sym (others_free c.args.deleted.now c.args.name.now c.args.number c.args.rows.now
    (none_here c.args.number start c.args.rows.now c.requires.rows c.in-Err._place
    (c.in-Err.ensures.position (λ row. nat_cmp row.number c.args.number) (always_returns_same _ _ _ (λ a r g called. search rules)))))
