use Rattle.std.proofs.Common.{◌≡◌, ℕ, true, List, [], ◌∷◌, codes, ap, sym, ◌∙◌, rules}
use Rattle.std.specs.Str.{bytes_eq}
use Rattle.alta_codec.specs.Decimal.{count_in}
use Rattle.std.proofs.lemmas.Slice.Eq.{bytes_eq-Decides}
use Rattle.alta_session.proofs.ScriptLaws.{two_words, asks_size, asks_none}
use Rattle.alta_session.proofs.demo.demo_size.Goals as goal

same_bytes : (xs ys : List ℕ) → bytes_eq xs ys ≡ true → xs ≡ ys
same_bytes xs ys h = search (rules, bytes_eq-Decides xs ys)

pub returns-then-eq-clause-asked : goal.returns-then-eq-clause-asked
returns-then-eq-clause-asked c =
    let word : List ℕ = c.word-item.result in
    let text : List ℕ = c.size-item.result in
    let yes : c.eq.result ≡ true = search rules in
    let demo : word ≡ codes "demo" = sym c.as_str.ensures ∙ same_bytes c.as_str.result.now (codes "demo") (sym c.eq.ensures ∙ yes) in
    let are = two_words c.args.words.now word text c.in-len2.len_at_least c.in-len2.len_below c.word-item.is c.size-item.is in
    asks_size c.args.words.now text c.read_count.result (are ∙ ap (λ (w : List ℕ). w ∷ text ∷ []) demo) (c.read_count.ensures.count ∙ ap (λ (t : List ℕ). count_in 6 100000 t) (c.as_bytes.ensures.value ∙ c.as_str-then-eq.ensures))

pub returns-then-eq-clause-other : goal.returns-then-eq-clause-other
returns-then-eq-clause-other c =
    let word : List ℕ = c.word-item.result in
    let text : List ℕ = c.size-item.result in
    let yes : c.eq.result ≡ true = search rules in
    let demo : word ≡ codes "demo" = sym c.as_str.ensures ∙ same_bytes c.as_str.result.now (codes "demo") (sym c.eq.ensures ∙ yes) in
    let are = two_words c.args.words.now word text c.in-len2.len_at_least c.in-len2.len_below c.word-item.is c.size-item.is in
    asks_none c.args.words.now text c.read_count.result (are ∙ ap (λ (w : List ℕ). w ∷ text ∷ []) demo) (c.read_count.ensures.count ∙ ap (λ (t : List ℕ). count_in 6 100000 t) (c.as_bytes.ensures.value ∙ c.as_str-then-eq.ensures))
