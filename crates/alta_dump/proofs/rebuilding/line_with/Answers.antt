use Rattle.std.proofs.Common.{◌≡◌, ◌<◌, ◌≤◌, ℕ, List, true, length, sym, ap, subst, ◌∙◌}
use Rattle.std.specs.Prelude.{Some}
use Rattle.std.proofs.lemmas.Bool.{ltb-false, ltb-true}
use Rattle.alta_codec.specs.Name.{IsName}
use Rattle.alta_codec.specs.Bytes.{has_byte}
use Rattle.alta_machine.specs.DumpLines.{add_line, are_alike, cells_again}
use Rattle.alta_machine.specs.declared.line.TheConstants.{LINE_LIMIT}
use Rattle.alta_dump.specs.Seen.{terms_of}
use Rattle.alta_dump.proofs.Rebuilt.{again_is, fine_words, line_is, line_short, none_alike, none_long, none_tab, some_line}
use Rattle.alta_dump.proofs.rebuilding.line_with.Goals as goal

pub returns-then-has_tab-clause-line : goal.returns-then-has_tab-clause-line
returns-then-has_tab-clause-line c = λ d from title body.
    none_tab d (ap (has_byte 9) (sym title) ∙ sym c.if-has_tab.ensures)

pub returns-then-not-again-clause-line : goal.returns-then-not-again-clause-line
returns-then-not-again-clause-line c = λ d from title body.
    let terms = terms_of c.args.terms.now in
    let is = c.in_ok-again.ensures d.cells (subst IsName from.is from.named) (fine_words terms c.args.words.now d.cells from.seen.folded from.plain) from.seen in
    none_alike d (ap (λ (cells : List (List (List ℕ))). are_alike cells d.cells) (sym (again_is d c.args.name.now c.args.title.now c.args.body.now from.is title body)) ∙ sym is ∙ c.if-not-again.true)

pub returns-then-is_long-clause-line : goal.returns-then-is_long-clause-line
returns-then-is_long-clause-line c = λ d from title body.
    let long = line_short d c.args.name.now c.args.title.now c.args.body.now from.is title body c.deref.result.now (c.deref.ensures ∙ c.in_ok-line.ensures) in
    none_long d (subst (λ (n : ℕ). LINE_LIMIT < n) long (ltb-true LINE_LIMIT (length c.deref.result.now) (sym c.if-is_long.ensures)))

pub returns-clause-line : goal.returns-clause-line
returns-clause-line c = λ d from title body.
    let terms = terms_of c.args.terms.now in
    let is = c.in_ok-again.ensures d.cells (subst IsName from.is from.named) (fine_words terms c.args.words.now d.cells from.seen.folded from.plain) from.seen in
    let alike : are_alike (cells_again d) d.cells ≡ true =
    ap (λ (cells : List (List (List ℕ))). are_alike cells d.cells) (sym (again_is d c.args.name.now c.args.title.now c.args.body.now from.is title body)) ∙ sym is ∙ c.if-not-again.false in
    let long = line_short d c.args.name.now c.args.title.now c.args.body.now from.is title body c.deref.result.now (c.deref.ensures ∙ c.in_ok-line.ensures) in
    let short : length (add_line d) ≤ LINE_LIMIT = subst (λ (n : ℕ). n ≤ LINE_LIMIT) long (ltb-false LINE_LIMIT (length c.deref.result.now) (sym c.if-is_long.ensures)) in
    ap Some (c.in_ok-line.ensures ∙ line_is d c.args.name.now c.args.title.now c.args.body.now from.is title body)
    ∙ some_line d from.plain alike (ap (has_byte 9) (sym title) ∙ sym c.if-has_tab.ensures) short
