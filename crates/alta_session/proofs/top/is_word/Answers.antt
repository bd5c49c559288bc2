use Rattle.std.proofs.Common.{◌≡◌, ℕ, ◌<◌, ◌≤◌, true, List, [], ◌∷◌, length, get_or, ap, sym, ◌∙◌, rules, arith}
use Rattle.std.specs.Str.{bytes_eq}
use Rattle.std.proofs.lemmas.Slice.Eq.{bytes_eq-Decides}
use Rattle.alta_session.proofs.top.is_word.Goals as goal

one_word : (words : List (List ℕ)) (word : List ℕ) → 1 ≤ length words → length words < 2 → word ≡ get_or words 0 word → words ≡ word ∷ []
one_word [] word least most is = absurd (omega arith)
one_word (x ∷ []) word least most is = ap (λ (w : List ℕ). w ∷ []) (sym is)
one_word (x ∷ y ∷ words) word least most is = absurd (omega arith)

same_bytes : (xs ys : List ℕ) → bytes_eq xs ys ≡ true → xs ≡ ys
same_bytes xs ys h = search (rules, bytes_eq-Decides xs ys)

same_test : (xs ys : List ℕ) → xs ≡ ys → bytes_eq xs ys ≡ true
same_test xs ys h = search (rules, bytes_eq-Decides xs ys)

abbrev head_or : List ℕ → List (List ℕ) → List ℕ
head_or word [] = word
head_or word (x ∷ words) = x

pub returns-in-len1 : goal.returns-in-len1
returns-in-len1 c =
    let word : List ℕ = c.only-item.result in
    let words : c.args.words.now ≡ word ∷ [] = one_word c.args.words.now word c.in-len1.len_at_least c.in-len1.len_below c.only-item.is in
    let test : c.eq.result ≡ bytes_eq word c.args.word.now = c.eq.ensures ∙ ap (λ (w : List ℕ). bytes_eq w c.args.word.now) c.as_str.ensures in (
      λ is. words ∙ ap (λ (w : List ℕ). w ∷ []) (same_bytes word c.args.word.now (sym test ∙ search (rules, is))),
      λ is. let same : word ≡ c.args.word.now = ap (λ (l : List (List ℕ)). head_or [] l) (sym words ∙ is) in let yes : c.eq.result ≡ true = test ∙ same_test word c.args.word.now same in search (rules, yes),
    )
