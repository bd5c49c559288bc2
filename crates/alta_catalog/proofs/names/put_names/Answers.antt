use Rattle.std.proofs.Common.{◌≡◌, ◌≤◌, ◌<◌, ◌++◌, ◌∷◌, [], List, get_or, length, map, take, sym, ap, subst, append_assoc, ◌∙◌}
use Rattle.std.proofs.lemmas.List.{append-nil, take_all}
use Rattle.alta_content.specs.declared.document.DocRow.{DocRow}
use Rattle.alta_meaning.specs.Opened.{live_in}
use Rattle.alta_catalog.specs.Names.{name_row}
use Rattle.alta_catalog.specs.declared.lists.NameRow.{NameRow}
use Rattle.alta_catalog.proofs.Naming.{end_at, names_more}
use Rattle.alta_catalog.proofs.names.put_names.Goals as goal

pub loop-i-init : goal.loop-i-init
loop-i-init c = sym (append-nil c.args.names.now.items)

pub put_name-requires : goal.put_name-requires
put_name-requires c =
    end_at c.args.rows.now c.as_slice-row-items.result.now c.ends-ends.result.now c.loop-i.i c.row-item.result c.ends-ends.ensures.value c.as_slice-row-items.ensures c.loop-i-test.true c.row-item.is

pub loop-i-preserved : goal.loop-i-preserved
loop-i-preserved c =
    let gone = c.args.gone.now in
    let rows = c.args.rows.now in
    let i = c.loop-i.i in
    let row = c.row-item.result in
    let inside : i < length rows = subst (λ (rs : List DocRow). i < length rs) c.as_slice-row-items.ensures c.loop-i-test.true in
    let is : row ≡ get_or rows i row = c.row-item.is ∙ ap (λ (rs : List DocRow). get_or rs i row) c.as_slice-row-items.ensures in
    let before = map name_row (live_in gone (take i rows)) in
    let its = map name_row (live_in gone (row ∷ [])) in
    c.in_ok-put_name.ensures
    ∙ ap (λ (names : List NameRow). names ++ its) c.loop-i.invariant
    ∙ append_assoc c.args.names.now.items before its
    ∙ ap (λ (names : List NameRow). c.args.names.now.items ++ names) (names_more gone rows i row inside is)

pub returns : goal.returns
returns c =
    c.loop-i.invariant
    ∙ ap (λ (rows : List DocRow). c.args.names.now.items ++ map name_row (live_in c.args.gone.now rows))
    (take_all c.loop-i.i c.args.rows.now (subst (λ (rs : List DocRow). length rs ≤ c.loop-i.i) c.as_slice-row-items.ensures c.loop-i-test.false))
