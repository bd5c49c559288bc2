use Rattle.std.proofs.Common.{rules, subst, sym}
use Rattle.std.specs.Prelude.{Contains}
use Rattle.std.specs.Ordering.{nat_cmp}
use Rattle.std.proofs.lemmas.Fn.{always_returns_same}
use Rattle.std.proofs.lemmas.List.Elements.{Contains-get_or}
use Rattle.alta_content.specs.Rows.{start}
use Rattle.alta_meaning.proofs.NumberLaws.{found_here, none_here}
use Rattle.alta_catalog.proofs.finding.row_in.Goals as goal

pub returns-in-Ok-clause-some : goal.returns-in-Ok-clause-some
returns-in-Ok-clause-some c =
    let found = c.in-Ok.ensures in
    let row = c.index-rows-index.result in (
      subst (Contains c.args.rows.now) (sym c.index-rows-index.is) (Contains-get_or c.args.rows.now c.in-Ok.index row found.bound),
      found_here c.args.number c.args.rows.now c.in-Ok.index row (found.position (λ row. nat_cmp row.number c.args.number) (always_returns_same _ _ _ (λ a r g called. search rules))) c.index-rows-index.is,
    )

pub returns-in-Err-clause-none : goal.returns-in-Err-clause-none
returns-in-Err-clause-none c =
    let found = c.in-Err.ensures in
    none_here c.args.number start c.args.rows.now c.requires c.in-Err._place
    (found.position (λ row. nat_cmp row.number c.args.number) (always_returns_same _ _ _ (λ a r g called. search rules)))
