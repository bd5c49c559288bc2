-- Words in quotes are cut off as they were written.
use Rattle.std.proofs.Common.{◌≡◌, ℕ, ◌+◌, ◌<◌, List, [], ◌∷◌, ◌++◌, length, refl, ap, ◌∙◌, arith, Bool, true, false, ◌&&◌}
use Rattle.std.specs.Prelude.{not}
use Rattle.std.specs.List.{list_all, position_or_len}
use Rattle.std.proofs.lemmas.List.{append_assoc, length-append}
use Rattle.std.proofs.Math.Seq.{take-append_seam}
use Rattle.std.proofs.lemmas.Bool.{lt-ltb}
use Rattle.alta_machine.specs.Words.{has_words, tests_of}
use Rattle.alta_machine.specs.Shape.{words}
use Rattle.alta_machine.specs.Token.{operand}
use Rattle.alta_machine.specs.Spots.{is_quote, first_token, first_len, words_token, quoted_token, quoted_len, is_quoted_title}
use Rattle.alta_machine.specs.Spelling.{spelled}
use Rattle.alta_query.proofs.Reread.{Spells}

abbrev pub no_quote : List ℕ → Bool
no_quote text = list_all (λ b. not (is_quote b)) text

pub both : (a b : Bool) → (a && b) ≡ true → (a ≡ true) × (b ≡ true)
both true b h = (refl, h)
both false b h = absurd (cc)

quote_at : (text rest : List ℕ) → no_quote text ≡ true → position_or_len is_quote (text ++ 34 ∷ rest) ≡ length text
quote_at [] rest h = refl
quote_at (b ∷ bs) rest h =
    let k = both (not (is_quote b)) (no_quote bs) h in
    rw (k.0, quote_at bs rest k.1) (omega arith)

within : (text rest : List ℕ) → length text < length (text ++ 34 ∷ rest)
within text rest = omega (arith, length-append text (34 ∷ rest))

quoted_is : (title : Bool) (text rest : List ℕ) → no_quote text ≡ true → has_words text ≡ true → quoted_token title (text ++ 34 ∷ rest) ≡ operand (words title text (tests_of text))
unfolding quoted_token words_token
quoted_is title text rest h k =
    rw (quote_at text rest h, lt-ltb (length text) (length (text ++ 34 ∷ rest)) (within text rest), take-append_seam text (34 ∷ rest), k) refl

quoted_long : (text rest : List ℕ) → no_quote text ≡ true → quoted_len (text ++ 34 ∷ rest) ≡ length text + 1
unfolding quoted_len
quoted_long text rest h =
    rw (quote_at text rest h, lt-ltb (length text) (length (text ++ 34 ∷ rest)) (within text rest)) refl

words_first : (title : Bool) (text rest : List ℕ) → no_quote text ≡ true → has_words text ≡ true → first_token (spelled (operand (words title text (tests_of text))) ++ rest) ≡ operand (words title text (tests_of text))
unfolding is_quoted_title
words_first false text rest h k = ap (quoted_token false) (append_assoc text (34 ∷ []) rest) ∙ quoted_is false text rest h k
words_first true text rest h k = ap (quoted_token true) (append_assoc text (34 ∷ []) rest) ∙ quoted_is true text rest h k

words_long : (title : Bool) (text rest : List ℕ) → no_quote text ≡ true → first_len (spelled (operand (words title text (tests_of text))) ++ rest) ≡ length (spelled (operand (words title text (tests_of text))))
unfolding is_quoted_title
words_long false text rest h =
    ap (λ x. 1 + quoted_len x) (append_assoc text (34 ∷ []) rest) ∙ ap (λ n. 1 + n) (quoted_long text rest h) ∙ omega (arith, length-append text (34 ∷ []))
words_long true text rest h =
    ap (λ x. 7 + quoted_len x) (append_assoc text (34 ∷ []) rest) ∙ ap (λ n. 7 + n) (quoted_long text rest h) ∙ omega (arith, length-append text (34 ∷ []))

pub words_spell : (title : Bool) (text : List ℕ) → no_quote text ≡ true → has_words text ≡ true → Spells (spelled (operand (words title text (tests_of text)))) (operand (words title text (tests_of text)))
words_spell false text h k =
    record { head = 34; tail = text ++ 34 ∷ []; is_cons = refl; solid = refl; token = λ rest _. words_first false text rest h k; len = λ rest _. words_long false text rest h }
words_spell true text h k =
    record { head = 116; tail = 105 ∷ 116 ∷ 108 ∷ 101 ∷ 58 ∷ 34 ∷ (text ++ 34 ∷ []); is_cons = refl; solid = refl; token = λ rest _. words_first true text rest h k; len = λ rest _. words_long true text rest h }
