use Rattle.std.proofs.Common.{◌≡◌, ◌-◌, ℕ, List, Ok, length, take, drop, refl, sym, ap, subst, ◌∙◌, arith}
use Rattle.std.proofs.lemmas.List.{length-drop, take_all}
use Rattle.alta_format.specs.Format.{read, part}
use Rattle.alta_table.specs.Marks.{rows_found}
use Rattle.alta_table.specs.Terms.{terms_format}
use Rattle.alta_table.proofs.WalkLaws.{held_is}
use Rattle.alta_table.proofs.terms.read_terms.Goals as goal

pub returns-clause-held : goal.returns-clause-held
returns-clause-held c =
    let from = c.args.from in
    let bytes : List ℕ = c.deref.result.now in
    let rows : List ℕ = take (length bytes - from) (drop from bytes) in
    let same : drop from c.args.tables.items ≡ rows =
    ap (drop from) (sym c.deref.ensures.value) ∙ sym (take_all (length bytes - from) (drop from bytes) (omega (arith, length-drop from bytes))) in
    held_is _ c.args.count c.args.room c.in_ok-marks.left rows c.read_marks.ensures.fits (omega (arith, c.ranges.count.fits)) refl refl (c.behind-bytes.ensures ∙ same)
    c.in_ok-marks.ensures.reads c.in_ok-marks.ensures.marked

pub returns-clause-exact : goal.returns-clause-exact
returns-clause-exact c =
    let from = c.args.from in
    let bytes : List ℕ = c.deref.result.now in
    let rows : List ℕ = take (length bytes - from) (drop from bytes) in
    let format = terms_format c.args.count c.args.room in
    let same : drop from c.args.tables.items ≡ rows =
    ap (drop from) (sym c.deref.ensures.value) ∙ sym (take_all (length bytes - from) (drop from bytes) (omega (arith, length-drop from bytes))) in
    subst (λ (b : List ℕ). part format (drop from c.args.tables.items) c.args.place ≡ Ok (rows_found (read format b), c.in_ok-marks.left)) (sym (c.behind-bytes.ensures ∙ same))
    (subst (λ (b : List ℕ). part format b c.args.place ≡ Ok (rows_found (read format rows), c.in_ok-marks.left)) (sym same) c.in_ok-marks.ensures.exact)
