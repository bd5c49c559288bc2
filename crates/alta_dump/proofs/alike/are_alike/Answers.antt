use Rattle.std.proofs.Common.{◌≡◌, ◌<◌, List, ℕ, [], true, false, length, get_or, ap, sym, subst, ◌∙◌, arith}
use Rattle.alta_machine.specs.DumpLines.{is_alike, are_alike}
use Rattle.alta_machine.specs.Plain.{ends_title, of_kind}
use Rattle.alta_machine.specs.declared.kinds.TheConstants.{WORD}
use Rattle.alta_gather.specs.declared.held.Held.{Held}
use Rattle.alta_dump.specs.Seen.{AreFoldings, is_held, terms_of}
use Rattle.alta_dump.proofs.Cellwise.{folded_long, not_as_many, folded_at, same_at, last_is, alike_next, alike_none}
use Rattle.alta_dump.proofs.alike.are_alike.Goals as goal

pub returns-then-again-words : goal.returns-then-again-words
returns-then-again-words c = λ seen fine are.
    not_as_many c.args.again.now seen (λ e. omega (arith, e, folded_long (terms_of c.args.terms.now) c.args.words.now seen are.folded, c.if-again-words.true))

pub returns-then-not-is_alike : goal.returns-then-not-is_alike
returns-then-not-is_alike c = λ seen fine are.
    let again = c.args.again.now in let i = c.cells.i in
    let long = folded_long (terms_of c.args.terms.now) c.args.words.now seen are.folded in
    let below : i < length c.args.words.now = omega (arith, c.cells-test.true, c.if-again-words.false) in
    let in_titles : i < length c.args.titles.now = omega (arith, below, c.requires.titles) in
    let in_seen : i < length seen = omega (arith, below, long) in
    let in_again : i < length again = omega (arith, c.cells-test.true) in
    let here =
    c.if-not-is_alike.ensures (get_or seen i []) (subst (λ (h : Held). AreFoldings (terms_of c.args.terms.now) h (of_kind WORD (get_or seen i []))) (sym c.index-words-i.is) (folded_at (terms_of c.args.terms.now) c.args.words.now seen i _ below are.folded))
    (ap is_held c.index-titles-i.is ∙ same_at is_held ends_title c.args.titles.now seen i _ in_titles are.title_ends) (last_is c.is_last-last.result c.args.again.now seen i (omega (arith, long, c.if-again-words.false)) in_seen c.is_last-last.ensures are.document_end) in
    alike_none again seen i c.index-again-i.result (are_alike again seen) in_again in_seen (subst (λ (x : List (List ℕ)). false ≡ is_alike x (get_or seen i [])) c.index-again-i.is here) (c.cells.invariant seen fine are)

pub cells-preserved : goal.cells-preserved
cells-preserved c = λ seen fine are.
    let again = c.args.again.now in let i = c.cells.i in
    let long = folded_long (terms_of c.args.terms.now) c.args.words.now seen are.folded in
    let below : i < length c.args.words.now = omega (arith, c.cells-test.true, c.if-again-words.false) in
    let in_titles : i < length c.args.titles.now = omega (arith, below, c.requires.titles) in
    let in_seen : i < length seen = omega (arith, below, long) in
    let in_again : i < length again = omega (arith, c.cells-test.true) in
    let here =
    c.if-not-is_alike.ensures (get_or seen i []) (subst (λ (h : Held). AreFoldings (terms_of c.args.terms.now) h (of_kind WORD (get_or seen i []))) (sym c.index-words-i.is) (folded_at (terms_of c.args.terms.now) c.args.words.now seen i _ below are.folded))
    (ap is_held c.index-titles-i.is ∙ same_at is_held ends_title c.args.titles.now seen i _ in_titles are.title_ends) (last_is c.is_last-last.result c.args.again.now seen i (omega (arith, long, c.if-again-words.false)) in_seen c.is_last-last.ensures are.document_end) in
    alike_next again seen i c.index-again-i.result (are_alike again seen) in_again in_seen (subst (λ (x : List (List ℕ)). true ≡ is_alike x (get_or seen i [])) c.index-again-i.is here) (c.cells.invariant seen fine are)
