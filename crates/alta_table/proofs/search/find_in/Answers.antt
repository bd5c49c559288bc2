use Rattle.std.proofs.Common.{◌<◌, ◌∙◌, length, sym, ap, arith}
use Rattle.std.proofs.lemmas.List.{get_or_default}
use Rattle.alta_content.proofs.Order.{same_term}
use Rattle.alta_table.specs.declared.term.TermRow.{TermRow}
use Rattle.alta_table.specs.Marks.{rows_in}
use Rattle.alta_table.specs.Walks.{row_of}
use Rattle.alta_table.proofs.SearchLaws.{absent_in, differs, found_in}
use Rattle.alta_table.proofs.search.find_in.Goals as goal

pub returns-then-row-terms-clause-row : goal.returns-then-row-terms-clause-row
returns-then-row-terms-clause-row c =
    absent_in (rows_in c.args.terms.now) c.args.term.now c.point-row.result.0 c.requires.stand c.point-row.ensures.point (λ d lt same. absurd (omega (arith, lt, c.if-row-terms.true, c.requires.many)))

pub returns-then-eq-clause-row : goal.returns-then-eq-clause-row
returns-then-eq-clause-row c =
    let lt : c.point-row.result.0 < length (rows_in c.args.terms.now) = omega (arith, c.if-row-terms.false, c.requires.many) in
    found_in (rows_in c.args.terms.now) c.args.term.now c.point-row.result.0 (row_of c.point-row.result.1) lt (c.point-row.ensures.passed lt).row_is
    (sym c.term.ensures ∙ same_term c.term.result.now c.args.term.now (sym c.eq.ensures ∙ c.if-eq.true))

pub returns-else-eq-clause-row : goal.returns-else-eq-clause-row
returns-else-eq-clause-row c =
    absent_in (rows_in c.args.terms.now) c.args.term.now c.point-row.result.0 c.requires.stand c.point-row.ensures.point
    (λ d lt same. differs c.term.result.now c.args.term.now (sym c.eq.ensures ∙ c.if-eq.false)
    (c.term.ensures ∙ ap (λ (r : TermRow). r.term) ((c.point-row.ensures.passed lt).row_is ∙ get_or_default (rows_in c.args.terms.now) c.point-row.result.0 (row_of c.point-row.result.1) d lt) ∙ same))

pub returns-then-eq-clause-passed : goal.returns-then-eq-clause-passed
returns-then-eq-clause-passed c = c.point-row.ensures.passed (omega (arith, c.if-row-terms.false, c.requires.many))
