use Rattle.std.proofs.Common.{◌≡◌, ◌+◌, ◌<◌, ◌≤◌, ◌++◌, suc, ℕ, List, length, get_or, take, ap, sym, subst, ◌∙◌, arith}
use Rattle.std.specs.List.{All}
use Rattle.std.proofs.lemmas.List.{length-map, take_all}
use Rattle.alta_content.specs.Cells.{locations_from}
use Rattle.alta_content.specs.declared.document.DocRow.{DocRow}
use Rattle.alta_search.specs.Told.{no_row, rows_at}
use Rattle.alta_dump.specs.Shown.{places_of}
use Rattle.alta_dump.proofs.Places.{before_row, first_of_row, places_more}
use Rattle.alta_dump.proofs.live.places.Goals as goal

pub live-preserved : goal.live-preserved
live-preserved c = λ rise.
    let rows = rows_at c.args.rows.now c.args.live.now in let i = c.live.i in
    let within : i < length rows = omega (arith, c.live-test.true, length-map c.args.live.now (λ (j : ℕ). get_or c.args.rows.now j no_row)) in
    let row = get_or rows i no_row in
    let so_far = c.live.invariant rise in
    let next : suc i ≡ i + 1 = omega arith in
    let added : c.in_ok-places.places ≡ c.live.places ++ locations_from row.first row.cells =
    subst (λ (r : DocRow). 1 ≤ r.first → All (λ p. p < r.first) c.live.places → c.in_ok-places.places ≡ c.live.places ++ locations_from r.first r.cells) c.row_at.ensures.row c.in_ok-places.ensures
    (first_of_row rows i no_row rise within)
    (subst (All (λ p. p < row.first)) (sym so_far) (before_row rows i no_row rise within)) in
    added ∙ ap (λ (xs : List ℕ). xs ++ locations_from row.first row.cells) so_far ∙ sym (places_more rows i no_row within) ∙ ap (λ (n : ℕ). places_of (take n rows)) next

pub returns : goal.returns
returns c = λ rise.
    let rows = rows_at c.args.rows.now c.args.live.now in
    c.live.invariant rise
    ∙ ap places_of (take_all c.live.i rows (omega (arith, c.live-test.false, length-map c.args.live.now (λ (j : ℕ). get_or c.args.rows.now j no_row))))
