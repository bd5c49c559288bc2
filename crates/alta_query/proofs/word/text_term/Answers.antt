use Rattle.std.proofs.Common.{◌≡◌, ◌∷◌, List, ℕ, sym, subst}
use Rattle.std.specs.Str.{IsUtf8}
use Rattle.std.proofs.lemmas.Result.{IfOk-weaker}
use Rattle.alta_query.proofs.Texts.{term_text}
use Rattle.alta_query.proofs.word.text_term.Goals as goal

pub returns-clause-text : goal.returns-clause-text
returns-clause-text c =
    IfOk-weaker c.term.result (λ (t : List ℕ). t ≡ c.args.kind ∷ c.as_bytes.result.now) IsUtf8
    (λ (t : List ℕ) is. subst IsUtf8 (sym is) (term_text c.args.kind c.as_bytes.result.now c.requires.ascii c.as_bytes.ensures.utf8)) c.term.ensures
