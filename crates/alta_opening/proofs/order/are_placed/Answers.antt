use Rattle.std.proofs.Common.{Bool, sym, ap, ◌∙◌}
use Rattle.std.specs.Prelude.{◌&&◌}
use Rattle.alta_content.specs.Rows.{Before, start}
use Rattle.alta_content.specs.declared.document.DocRow.{DocRow}
use Rattle.alta_meaning.specs.Opened.{table_rows}
use Rattle.alta_opening.specs.Rows.{behind_rows, leaves_room, lies_behind}
use Rattle.alta_opening.proofs.RowLaws.{order_tested}
use Rattle.alta_opening.proofs.order.are_placed.Goals as goal

pub returns-then-follows : goal.returns-then-follows
returns-then-follows c = λ levels are last.
    let root = c.args.root.now in
    let rows = c.args.rows.now in
    let row = c.index-rows-0.result in
    c.is_below.ensures ∙ ap (leaves_room root) c.last_of.ensures
    ∙ ap (λ (b : Bool). b && leaves_room root (behind_rows start rows))
    (sym c.if-follows.true ∙ c.follows.ensures ∙ ap (λ (b : Before). lies_behind b row) last ∙ ap (λ (r : DocRow). lies_behind (behind_rows start (table_rows levels)) r) c.index-rows-0.is)
    ∙ sym (order_tested root levels rows row are c.requires.rows c.requires.some)

pub returns-else-follows : goal.returns-else-follows
returns-else-follows c = λ levels are last.
    let root = c.args.root.now in
    let rows = c.args.rows.now in
    let row = c.index-rows-0.result in
    c.if-follows.false
    ∙ ap (λ (b : Bool). b && leaves_room root (behind_rows start rows))
    (sym c.if-follows.false ∙ c.follows.ensures ∙ ap (λ (b : Before). lies_behind b row) last ∙ ap (λ (r : DocRow). lies_behind (behind_rows start (table_rows levels)) r) c.index-rows-0.is)
    ∙ sym (order_tested root levels rows row are c.requires.rows c.requires.some)
