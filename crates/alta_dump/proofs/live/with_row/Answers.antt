use Rattle.std.proofs.Common.{◌≡◌, ◌+◌, ◌-◌, ◌++◌, List, ℕ, ap, ◌∙◌, arith}
use Rattle.std.specs.List.{range_with_len}
use Rattle.alta_dump.proofs.Places.{range_is}
use Rattle.alta_dump.proofs.live.with_row.Goals as goal

pub returns : goal.returns
returns c = λ positive below.
    let row = c.args.row.now in
    let count : row.first + row.cells - row.first ≡ row.cells = omega arith in
    c.in_ok-more.ensures positive below
    ∙ ap (λ (n : ℕ). c.args.places ++ range_with_len row.first n) count
    ∙ ap (λ (xs : List ℕ). c.args.places ++ xs) (range_is row.first row.cells)
