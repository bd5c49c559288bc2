use Rattle.std.proofs.Common.{◌≡◌, length, ◌∙◌, arith, rules}
use Rattle.std.proofs.lemmas.Bool.{leb-true, le-leb}
use Rattle.alta_cursors.proofs.CursorAnswers.{same_length}
use Rattle.alta_cursors.proofs.cursors.Cursors.is_full.Goals as goal

pub returns-clause-answers : goal.returns-clause-answers
returns-clause-answers c = λ all h.
    let here : c.len.result ≡ length c.args.self.now = search rules in
    let same : c.len.result ≡ length all = here ∙ same_length c.args.self.now all h in
    (λ yes. let l = leb-true 64 c.len.result yes in omega (arith, l, same), λ l. le-leb 64 c.len.result (omega (arith, l, same)))
