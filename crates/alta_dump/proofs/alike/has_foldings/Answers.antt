use Rattle.std.proofs.Common.{ℕ, List, get_or, [], sym, ap, subst, ◌∙◌}
use Rattle.std.specs.Prelude.{not}
use Rattle.alta_machine.specs.DumpLines.{are_same}
use Rattle.alta_machine.specs.Plain.{of_kind}
use Rattle.alta_dump.specs.Seen.{AreFoldings, terms_of}
use Rattle.alta_dump.proofs.Folds.{none_folded, one_folded, two_folded}
use Rattle.alta_gather.specs.declared.held.Held.{Held}
use Rattle.alta_machine.specs.Cells.{cell_holds}
use Rattle.alta_machine.specs.declared.kinds.TheConstants.{WORD}
use Rattle.alta_dump.proofs.alike.has_foldings.Goals as goal

pub returns-in-Never : goal.returns-in-Never
returns-in-Never c = λ seen are.
    let cell = c.args.cell.now in
    let none = subst (λ (h : Held). AreFoldings (terms_of c.args.terms.now) h (of_kind WORD seen)) (sym c.unpack.ensures ∙ c.in-Never.is) are in
    ap not c.begins.ensures ∙ none_folded WORD cell ∙ ap (are_same (of_kind WORD cell)) (sym none)

pub returns-in-Once : goal.returns-in-Once
returns-in-Once c = λ seen are.
    let cell = c.args.cell.now in
    let one = subst (λ (h : Held). AreFoldings (terms_of c.args.terms.now) h (of_kind WORD seen)) (sym c.unpack.ensures ∙ c.in-Once.is) are in
    c.holds.ensures ∙ ap (λ (term : List ℕ). cell_holds term cell) c.term_at.ensures
    ∙ one_folded (get_or (terms_of c.args.terms.now) c.in-Once.index []) c.args.cell.now seen c.requires one.1

pub returns-in-Often : goal.returns-in-Often
returns-in-Often c = λ seen are.
    two_folded (of_kind WORD c.args.cell.now) (of_kind WORD seen) c.requires (subst (λ (h : Held). AreFoldings (terms_of c.args.terms.now) h (of_kind WORD seen)) (sym c.unpack.ensures ∙ c.in-Often.is) are)
