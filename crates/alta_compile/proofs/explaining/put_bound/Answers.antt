use Rattle.std.proofs.Common.{◌++◌}
use Rattle.std.specs.Prelude.{codes}
use Rattle.std.specs.Fmt.{decimal}
use Rattle.alta_machine.specs.Explained.{low_letter, high_letter, constant}
use Rattle.alta_compile.proofs.Lines.{two_pieces}
use Rattle.alta_compile.proofs.explaining.put_bound.Goals as goal

pub returns : goal.returns
returns c =
    let b = c.args.bound.now in
    let low = rw (c.low_letter.ensures, c.form.ensures) at c.in_ok-extend_from_slice.ensures.items in
    let i = two_pieces _ _ _ (low_letter b.form) (decimal b.i) low (rw c.i.ensures at c.in_ok-put_number.ensures) in
    let at_most = two_pieces _ _ _ (low_letter b.form ++ decimal b.i) (codes " <= ") i c.in_ok-extend_from_slice-2.ensures.items in
    let high = two_pieces _ _ _ (low_letter b.form ++ decimal b.i ++ codes " <= ") (high_letter b.form) at_most (rw (c.high_letter.ensures, c.form-2.ensures) at c.in_ok-extend_from_slice-3.ensures.items) in
    let j = two_pieces _ _ _ (low_letter b.form ++ decimal b.i ++ codes " <= " ++ high_letter b.form) (decimal b.j) high (rw c.j.ensures at c.in_ok-put_number-2.ensures) in
    let number = two_pieces _ _ _ (low_letter b.form ++ decimal b.i ++ codes " <= " ++ high_letter b.form ++ decimal b.j) (constant b.plus b.minus) j
    (rw (c.plus.ensures.value, c.minus.ensures.value) at c.in_ok-put_constant.ensures) in
    two_pieces _ _ _ (low_letter b.form ++ decimal b.i ++ codes " <= " ++ high_letter b.form ++ decimal b.j ++ constant b.plus b.minus) (codes "\n") number c.in_ok-extend_from_slice-4.ensures.items
