use Rattle.std.proofs.Common.{◌≡◌, ℕ, Bool, true, false, ◌||◌, List, take, drop, sym, ap, ◌∙◌}
use Rattle.std.specs.List.{list_any}
use Rattle.std.specs.Str.{bytes_eq}
use Rattle.std.proofs.lemmas.List.Folds.{list_any-append}
use Rattle.alta_machine.specs.LineFaults.{is_verb, verbs}
use Rattle.alta_model.proofs.line.is_verb.Goals as goal

-- whether a word is one of these verbs
abbrev is_of : List (List ℕ) → List ℕ → Bool
is_of of word = list_any (λ verb. bytes_eq word verb) of

parts : (word : List ℕ) → is_verb word ≡ (is_of (take 6 verbs) word || (is_of (take 3 (drop 6 verbs)) word || is_of (drop 9 verbs) word))
unfolding is_verb
parts word =
    list_any-append (λ verb. bytes_eq word verb) (take 6 verbs) (drop 6 verbs)
    ∙ ap (λ b. is_of (take 6 verbs) word || b) (list_any-append (λ verb. bytes_eq word verb) (take 3 (drop 6 verbs)) (drop 9 verbs))

behind : (word : List ℕ) (a : Bool) → is_of (take 6 verbs) word ≡ a → is_verb word ≡ (a || (is_of (take 3 (drop 6 verbs)) word || is_of (drop 9 verbs) word))
behind word a e = parts word ∙ ap (λ b. b || (is_of (take 3 (drop 6 verbs)) word || is_of (drop 9 verbs) word)) e

last : (word : List ℕ) (a : Bool) → is_of (take 6 verbs) word ≡ false → is_of (take 3 (drop 6 verbs)) word ≡ a → is_verb word ≡ (a || is_of (drop 9 verbs) word)
last word a e f = behind word false e ∙ ap (λ b. b || is_of (drop 9 verbs) word) f

pub returns-then-asks_by_text : goal.returns-then-asks_by_text
returns-then-asks_by_text c = sym (behind c.args.word.now true (sym c.asks_by_text.ensures ∙ c.if-asks_by_text.true))

pub returns-then-asks_by_number : goal.returns-then-asks_by_number
returns-then-asks_by_number c =
    sym (last c.args.word.now true (sym c.asks_by_text.ensures ∙ c.if-asks_by_text.false) (sym c.asks_by_number.ensures ∙ c.if-asks_by_number.true))

pub returns : goal.returns
returns c =
    c.works.ensures ∙ sym (last c.args.word.now false (sym c.asks_by_text.ensures ∙ c.if-asks_by_text.false) (sym c.asks_by_number.ensures ∙ c.if-asks_by_number.false))
