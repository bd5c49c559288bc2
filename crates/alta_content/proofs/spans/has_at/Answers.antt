use Rattle.std.proofs.Common.{◌≡◌, ◌<◌, ◌≤◌, ℕ, length, get_or, sym, ap, ◌∙◌, arith}
use Rattle.std.specs.Prelude.{nat_le}
use Rattle.std.proofs.lemmas.Bool.{ltb-true, ltb-false}
use Rattle.alta_content.specs.declared.spans.Span.{Span}
use Rattle.alta_content.proofs.Walks.{has_there, has_none}
use Rattle.alta_content.proofs.spans.has_at.Goals as goal

pub returns-in-Some : goal.returns-in-Some
returns-in-Some c =
    let spans = c.args.spans.now in
    let i = c.args.at in
    let d = c.in-Some.span.now in
    let l : i < length spans = ltb-true i (length spans) (sym c.in-Some.ensures.lookup.0) in
    let at : get_or spans i d ≡ d = sym c.in-Some.ensures.lookup.1 in
    ap (λ (s : Span). nat_le s.first c.args.location) (sym at) ∙ has_there spans i c.args.location d c.requires.rising l c.requires.before (c.requires.found l)

pub returns-in-None : goal.returns-in-None
returns-in-None c =
    let l : length c.args.spans.now ≤ c.args.at = ltb-false c.args.at (length c.args.spans.now) (sym c.in-None.ensures.lookup.0) in
    has_none c.args.spans.now c.args.location (λ (k : ℕ) m. c.requires.before k (omega (arith, l, m)))
