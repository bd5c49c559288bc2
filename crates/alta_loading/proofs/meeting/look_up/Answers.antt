use Rattle.std.proofs.Common.{◌≡◌, ℕ, true, false, List, [], ◌∷◌, ◌++◌, sym, ap, ◌∙◌, rules}
use Rattle.alta_loading.specs.Met.{all_terms, is_among}
use Rattle.alta_loading.proofs.TermSets.{none_met, one_met}
use Rattle.alta_loading.proofs.meeting.look_up.Goals as goal

pub returns-then-not-is_there : goal.returns-then-not-is_there
returns-then-not-is_there c =
    let all = all_terms c.args.levels.now c.args.newest.now.content in
    let none : c.is_there.result ≡ false = search rules in
    c.new.ensures.items ∙ none_met c.args.term.now all (sym (c.is_there.ensures ∙ ap (λ (t : List ℕ). is_among t all) c.as_slice.ensures) ∙ none)

pub returns : goal.returns
returns c =
    let all = all_terms c.args.levels.now c.args.newest.now.content in
    let some : c.is_there.result ≡ true = search rules in
    c.in_ok-push.ensures.items ∙ ap (λ (xs : List (List ℕ)). xs ++ c.in_ok-copy.field-0 ∷ []) c.in_ok-terms.ensures.items
    ∙ ap (λ (t : List ℕ). t ∷ []) c.in_ok-copy.ensures
    ∙ one_met c.args.term.now all (sym (c.is_there.ensures ∙ ap (λ (t : List ℕ). is_among t all) c.as_slice.ensures) ∙ some)
