-- A query that a UTF-8 text is read as asks for UTF-8 terms: from the tokens of the text to the query.
use Rattle.std.proofs.Common.{◌≡◌, ℕ, zero, suc, ◌+◌, ◌-◌, ◌<◌, List, [], ◌∷◌, ◌++◌, length, take, drop, Bool, true, false, ◌||◌, cond, Option, Some, None, refl, sym, subst, arith}
use Rattle.std.specs.Prelude.{◌==◌, nat_lt, nat_le, nat_eq, not, codes}
use Rattle.std.specs.List.{All, list_all, prefix_len, position_or_len, before_first, take_while, starts_with, ends_with}
use Rattle.std.specs.Str.{IsUtf8, IsCharBoundary, bytes_eq}
use Rattle.std.proofs.lemmas.Bool.{ltb-true, eqb-true}
use Rattle.std.proofs.lemmas.List.Elements.{All-nil, All-cons, All-head, All-tail, All-push}
use Rattle.std.proofs.lemmas.List.Sums.{prefix_len-le-length}
use Rattle.std.proofs.lemmas.Str.{IsUtf8-drop, IsUtf8-take, IsUtf8-nil, IsCharBoundary-end, IsCharBoundary-from_rest}
use Rattle.alta_codec.specs.Decimal.{is_count, value_of}
use Rattle.alta_codec.specs.Name.{is_name}
use Rattle.alta_machine.specs.Numbers.{number_in}
use Rattle.alta_machine.specs.Grammar.{IsUnary, alone, two_sides, behind_not, in_parens, IsAnd, first_unary, beside_and, behind_and, IsOr, first_and, behind_or, ReadsQuery}
use Rattle.alta_machine.specs.Patterns.{phrase_pattern, test_of}
use Rattle.alta_machine.specs.Shape.{Lone, words, prefix, name, value, lone, Side, Shape, all_of}
use Rattle.alta_machine.specs.Spots.{is_blank, is_solid, is_quote, is_run, words_token, prefix_token, plain_token, name_token, near_token, is_undotted, ordered, value_token, run_token, quoted_token, quoted_len, is_quoted_title, first_token, first_len, spots_from, spots}
use Rattle.alta_query.specs.Texts.{HasTextTerm, AsksForText, HasTextTerms}
use Rattle.alta_machine.specs.Token.{Token, open_paren, close_paren, and_word, or_word, not_word, near_word, operand, faulty, side_of, at, tokens_of}
use Rattle.alta_machine.specs.Words.{has_words, tests_of, is_stem, stem_test}
use Rattle.alta_machine.specs.declared.cause.Cause.TheVariants as cause
use Rattle.alta_text.specs.Words.{folded_of}
use Rattle.alta_query.proofs.Cuts.{run_boundary, solid_boundary, quote_boundary, quote_past, head_boundary, star_boundary, first_boundary}
use Rattle.alta_query.proofs.Places.{blank_low}
use Rattle.alta_query.proofs.Quoted.{both}
use Rattle.alta_query.proofs.TextWords.{if_has, tests_text, word_term_text}
use Rattle.alta_query.proofs.Texts.{all_of_text, any_of_text, name_text, prefix_text, term_text, titled_text, two_tests}

-- an operand asks for text
abbrev IsTextToken : Token → Type 0
IsTextToken open_paren = Unit {0}
IsTextToken close_paren = Unit {0}
IsTextToken and_word = Unit {0}
IsTextToken or_word = Unit {0}
IsTextToken not_word = Unit {0}
IsTextToken (near_word k) = Unit {0}
IsTextToken (operand a) = AsksForText (lone a)
IsTextToken (faulty c) = Unit {0}

-- ---- from the tokens to the query

front : (xs ys : List Token) → All IsTextToken (xs ++ ys) → All IsTextToken xs
front [] ys h = All-nil IsTextToken
front (x ∷ xs) ys h = All-cons IsTextToken x xs (All-head IsTextToken x (xs ++ ys) h) (front xs ys (All-tail IsTextToken x (xs ++ ys) h))

back : (xs ys : List Token) → All IsTextToken (xs ++ ys) → All IsTextToken ys
back [] ys h = h
back (x ∷ xs) ys h = back xs ys (All-tail IsTextToken x (xs ++ ys) h)

side_text : (a : Lone) (s : Side) → side_of a ≡ Some s → AsksForText (lone a) → HasTextTerm (test_of s)
side_text (words true text tests) s e h = absurd (cc)
side_text (words false text []) s e h = absurd (cc)
side_text (words false text (test ∷ [])) s e h = let k : HasTextTerm test = All-head HasTextTerm test [] h in grind (arith, k, e)
side_text (words false text (test ∷ next ∷ tests)) s e h = absurd (cc)
side_text (prefix true text test) s e h = absurd (cc)
side_text (prefix false text test) s e h = let k : HasTextTerm test = All-head HasTextTerm test [] h in grind (arith, k, e)
side_text (name text) s e h = absurd (cc)
side_text (value low high) s e h = absurd (cc)

mutual
  unary_text : {d : ℕ} {ts : List Token} {q : Shape} → IsUnary d ts q → All IsTextToken ts → HasTextTerms q
  unary_text (alone {a = a}) h = All-head IsTextToken (operand a) [] h
  unary_text (two_sides {a = a} {b = b} {l = l} {r = r} {k = k} left right) h =
      let behind = All-tail IsTextToken (near_word k) (operand b ∷ []) (All-tail IsTextToken (operand a) (near_word k ∷ operand b ∷ []) h) in
      two_tests (test_of l) (test_of r) (side_text a l left (All-head IsTextToken (operand a) (near_word k ∷ operand b ∷ []) h))
      (side_text b r right (All-head IsTextToken (operand b) [] behind))
  unary_text (behind_not {ts = ts} x) h = unary_text x (All-tail IsTextToken not_word ts h)
  unary_text (in_parens {ts = ts} {qs = qs} x) h =
      any_of_text qs (or_text x (front ts (close_paren ∷ []) (All-tail IsTextToken open_paren (ts ++ close_paren ∷ []) h)))

  and_text : {d : ℕ} {ts : List Token} {qs : List Shape} → IsAnd d ts qs → All IsTextToken ts → All HasTextTerms qs
  and_text (first_unary {q = q} x) h = All-cons HasTextTerms q [] (unary_text x h) (All-nil HasTextTerms)
  and_text (beside_and {ts = ts} {us = us} {qs = qs} {q = q} x y) h = All-push HasTextTerms qs q (and_text x (front ts us h)) (unary_text y (back ts us h))
  and_text (behind_and {ts = ts} {us = us} {qs = qs} {q = q} x y) h =
      All-push HasTextTerms qs q (and_text x (front ts (and_word ∷ us) h)) (unary_text y (All-tail IsTextToken and_word us (back ts (and_word ∷ us) h)))

  or_text : {d : ℕ} {ts : List Token} {qs : List Shape} → IsOr d ts qs → All IsTextToken ts → All HasTextTerms qs
  or_text (first_and {rs = rs} x) h = All-cons HasTextTerms (all_of rs) [] (all_of_text rs (and_text x h)) (All-nil HasTextTerms)
  or_text (behind_or {ts = ts} {us = us} {qs = qs} {rs = rs} x y) h =
      All-push HasTextTerms qs (all_of rs) (or_text x (front ts (or_word ∷ us) h)) (all_of_text rs (and_text y (All-tail IsTextToken or_word us (back ts (or_word ∷ us) h))))

-- ---- from the text to the tokens

words_token_text : (title : Bool) (text : List ℕ) → IsUtf8 text → IsTextToken (words_token title text)
unfolding words_token
words_token_text title text u =
    if_has IsTextToken (has_words text) (operand (words title text (tests_of text))) (faulty cause.Word)
    (λ some. titled_text title (phrase_pattern (tests_of text)) (tests_text text u)) (λ none. tt)

prefix_token_text : (title : Bool) (stem : List ℕ) → IsUtf8 stem → IsTextToken (prefix_token title stem)
unfolding prefix_token
prefix_token_text title stem u =
    if_has IsTextToken (is_stem stem) (operand (prefix title stem (stem_test stem))) (faulty cause.Prefix)
    (λ is. prefix_text title stem (stem_test stem) (word_term_text stem (folded_of stem) u)) (λ is_none. tt)

plain_token_text : (title : Bool) (text : List ℕ) → IsUtf8 text → IsTextToken (plain_token title text)
unfolding plain_token
plain_token_text title text u =
    if_has IsTextToken (ends_with nat_eq text (codes "*")) (prefix_token title (take (length text - 1) text)) (words_token title text)
    (λ starred. prefix_token_text title (take (length text - 1) text) (IsUtf8-take text (length text - 1) u (star_boundary text (ends_with nat_eq text (codes "*")) refl starred)))
    (λ plain. words_token_text title text u)

name_token_text : (text : List ℕ) → IsUtf8 text → IsTextToken (name_token text)
unfolding name_token
name_token_text text u = if_has IsTextToken (is_name text) (operand (name text)) (faulty cause.Name) (λ is. name_text text u) (λ is_none. tt)

near_token_text : (digits : List ℕ) → IsTextToken (near_token digits)
unfolding near_token
near_token_text digits = if_has IsTextToken (is_count 4 1000 digits) (near_word (value_of digits)) (faulty cause.Near) (λ is. tt) (λ is_none. tt)

ordered_text : (low high : Option ℕ) → IsTextToken (ordered low high)
ordered_text None high = tt
ordered_text (Some low) None = tt
ordered_text (Some low) (Some high) = if_has IsTextToken (nat_le low high) (operand (value low high)) (faulty cause.Value) (λ le. All-nil HasTextTerm) (λ greater. tt)

value_token_text : (text : List ℕ) → IsTextToken (value_token text)
unfolding value_token
value_token_text text =
    let rest = drop (prefix_len is_undotted text) text in
    if_has IsTextToken (starts_with nat_eq rest (codes "..")) (ordered (number_in (take_while is_undotted text)) (number_in (drop 2 rest))) (faulty cause.Value)
    (λ dots. ordered_text (number_in (take_while is_undotted text)) (number_in (drop 2 rest))) (λ none. tt)

ascii_text : (bs : List ℕ) → list_all (λ b. nat_lt b 128) bs ≡ true → IsUtf8 bs
ascii_text [] h = IsUtf8-nil
ascii_text (b ∷ bs) h =
    let k = both (nat_lt b 128) (list_all (λ c. nat_lt c 128) bs) h in term_text b bs (ltb-true b 128 k.0) (ascii_text bs k.1)

title_text : IsUtf8 (codes "title:")
title_text = ascii_text (codes "title:") refl

name_head_text : IsUtf8 (codes "name:")
name_head_text = ascii_text (codes "name:") refl

quoted_head_text : IsUtf8 (codes "title:\"")
quoted_head_text = ascii_text (codes "title:\"") refl

run_token_text : (text : List ℕ) → IsUtf8 text → IsTextToken (run_token text)
unfolding run_token
run_token_text text u =
    if_has IsTextToken (bytes_eq text (codes "AND")) and_word _ (λ is. tt) (λ no_and.
    if_has IsTextToken (bytes_eq text (codes "OR")) or_word _ (λ is. tt) (λ no_or.
    if_has IsTextToken (bytes_eq text (codes "NOT")) not_word _ (λ is. tt) (λ no_not.
    if_has IsTextToken (starts_with nat_eq text (codes "NEAR/")) (near_token (drop 5 text)) _ (λ is. near_token_text (drop 5 text)) (λ no_near.
    if_has IsTextToken (starts_with nat_eq text (codes "value:")) (value_token (drop 6 text)) _ (λ is. value_token_text (drop 6 text)) (λ no_value.
    if_has IsTextToken (starts_with nat_eq text (codes "title:")) (plain_token true (drop 6 text)) (plain_token false text)
    (λ titled. plain_token_text true (drop 6 text) (IsUtf8-drop text 6 u (head_boundary text (codes "title:") (starts_with nat_eq text (codes "title:")) u title_text refl titled)))
    (λ plain. plain_token_text false text u))))))

quoted_token_text : (title : Bool) (rest : List ℕ) → IsUtf8 rest → IsTextToken (quoted_token title rest)
unfolding quoted_token
quoted_token_text title rest u =
    if_has IsTextToken (nat_lt (position_or_len is_quote rest) (length rest)) (words_token title (before_first is_quote rest)) (faulty cause.Quote)
    (λ closed. words_token_text title (before_first is_quote rest)
    (IsUtf8-take rest (position_or_len is_quote rest) u (quote_boundary rest (position_or_len is_quote rest) refl (prefix_len-le-length (λ b. not (is_quote b)) rest))))
    (λ unclosed. tt)

-- behind a head with which a text begins
behind_head : (text head : List ℕ) → IsUtf8 text → IsUtf8 head → starts_with nat_eq text head ≡ true → IsCharBoundary text (length head) × IsUtf8 (drop (length head) text)
behind_head text head u v begins =
    let cut = head_boundary text head (starts_with nat_eq text head) u v refl begins in (cut, IsUtf8-drop text (length head) u cut)

-- behind a first byte that is ASCII
behind_first : (b : ℕ) (bs : List ℕ) → IsUtf8 (b ∷ bs) → b < 128 → IsCharBoundary (b ∷ bs) 1 × IsUtf8 bs
behind_first b bs u low = let cut = first_boundary (b ∷ bs) b u (omega arith) refl low in (cut, IsUtf8-drop (b ∷ bs) 1 u cut)

is_low : (b n : ℕ) → n < 128 → (b == n) ≡ true → b < 128
is_low b n low e = omega (arith, eqb-true b n e)

quoted_title : (text : List ℕ) → is_quoted_title text ≡ true → starts_with nat_eq text (codes "title:\"") ≡ true
unfolding is_quoted_title
quoted_title text h = h

first_text : (b : ℕ) (bs : List ℕ) → IsUtf8 (b ∷ bs) → IsTextToken (first_token (b ∷ bs))
first_text b bs u =
    if_has IsTextToken (b == 40) open_paren _ (λ is. tt) (λ no_open.
    if_has IsTextToken (b == 41) close_paren _ (λ is. tt) (λ no_close.
    if_has IsTextToken (is_quote b) (quoted_token false bs) _ (λ is. quoted_token_text false bs (behind_first b bs u (is_low b 34 (omega arith) is)).1) (λ no_quote.
    if_has IsTextToken (starts_with nat_eq (b ∷ bs) (codes "name:")) (name_token (take_while is_solid (drop 5 (b ∷ bs)))) _
    (λ named. let rest = (behind_head (b ∷ bs) (codes "name:") u name_head_text named).1 in
    name_token_text (take_while is_solid (drop 5 (b ∷ bs)))
    (IsUtf8-take (drop 5 (b ∷ bs)) (prefix_len is_solid (drop 5 (b ∷ bs))) rest (solid_boundary (drop 5 (b ∷ bs)) (prefix_len is_solid (drop 5 (b ∷ bs))) refl (prefix_len-le-length is_solid (drop 5 (b ∷ bs))))))
    (λ no_name.
    if_has IsTextToken (is_quoted_title (b ∷ bs)) (quoted_token true (drop 7 (b ∷ bs))) (run_token (take_while is_run (b ∷ bs)))
    (λ titled. quoted_token_text true (drop 7 (b ∷ bs)) (behind_head (b ∷ bs) (codes "title:\"") u quoted_head_text (quoted_title (b ∷ bs) titled)).1)
    (λ run. run_token_text (take_while is_run (b ∷ bs))
    (IsUtf8-take (b ∷ bs) (prefix_len is_run (b ∷ bs)) u (run_boundary (b ∷ bs) (prefix_len is_run (b ∷ bs)) refl (prefix_len-le-length is_run (b ∷ bs)))))))))

quoted_cut : (rest : List ℕ) → IsUtf8 rest → IsCharBoundary rest (quoted_len rest)
unfolding quoted_len
quoted_cut rest u =
    if_has (IsCharBoundary rest) (nat_lt (position_or_len is_quote rest) (length rest)) (position_or_len is_quote rest + 1) (length rest)
    (λ closed. quote_past rest (position_or_len is_quote rest) u refl (ltb-true (position_or_len is_quote rest) (length rest) closed))
    (λ unclosed. IsCharBoundary-end rest)

either_low : (b : ℕ) → (b == 40 || b == 41) ≡ true → b < 128
either_low b h = grind (arith, h, eqb-true b 40, eqb-true b 41)

-- behind the first token a character begins
first_cut : (b : ℕ) (bs : List ℕ) → IsUtf8 (b ∷ bs) → IsCharBoundary (b ∷ bs) (first_len (b ∷ bs))
first_cut b bs u =
    if_has (IsCharBoundary (b ∷ bs)) (b == 40 || b == 41) 1 _ (λ is. (behind_first b bs u (either_low b is)).0) (λ no_paren.
    if_has (IsCharBoundary (b ∷ bs)) (is_quote b) (1 + quoted_len bs) _
    (λ is. IsCharBoundary-from_rest (b ∷ bs) 1 (quoted_len bs) (omega arith) (quoted_cut bs (behind_first b bs u (is_low b 34 (omega arith) is)).1)) (λ no_quote.
    if_has (IsCharBoundary (b ∷ bs)) (starts_with nat_eq (b ∷ bs) (codes "name:")) (5 + prefix_len is_solid (drop 5 (b ∷ bs))) _
    (λ named. let behind = behind_head (b ∷ bs) (codes "name:") u name_head_text named in
    IsCharBoundary-from_rest (b ∷ bs) 5 (prefix_len is_solid (drop 5 (b ∷ bs))) behind.0.0
    (solid_boundary (drop 5 (b ∷ bs)) (prefix_len is_solid (drop 5 (b ∷ bs))) refl (prefix_len-le-length is_solid (drop 5 (b ∷ bs)))))
    (λ no_name.
    if_has (IsCharBoundary (b ∷ bs)) (is_quoted_title (b ∷ bs)) (7 + quoted_len (drop 7 (b ∷ bs))) (prefix_len is_run (b ∷ bs))
    (λ titled. let behind = behind_head (b ∷ bs) (codes "title:\"") u quoted_head_text (quoted_title (b ∷ bs) titled) in
    IsCharBoundary-from_rest (b ∷ bs) 7 (quoted_len (drop 7 (b ∷ bs))) behind.0.0 (quoted_cut (drop 7 (b ∷ bs)) behind.1))
    (λ run. run_boundary (b ∷ bs) (prefix_len is_run (b ∷ bs)) refl (prefix_len-le-length is_run (b ∷ bs))))))

runs_on : (blank left right quote : Bool) → blank ≡ false → (left || right) ≡ false → quote ≡ false → not (((blank || left) || right) || quote) ≡ true
runs_on true left right quote a b c = absurd (cc)
runs_on false true right quote a b c = absurd (cc)
runs_on false false true quote a b c = absurd (cc)
runs_on false false false true a b c = absurd (cc)
runs_on false false false false a b c = refl

some_run : (b : ℕ) (bs : List ℕ) → is_run b ≡ true → 0 < prefix_len is_run (b ∷ bs)
some_run b bs runs = subst (λ t. 0 < cond t (1 + prefix_len is_run bs) 0) (sym runs) (omega arith)

-- a token takes some bytes
first_some : (b : ℕ) (bs : List ℕ) → is_blank b ≡ false → 0 < first_len (b ∷ bs)
first_some b bs solid =
    if_has (λ n. 0 < n) (b == 40 || b == 41) 1 _ (λ is. omega arith) (λ no_paren.
    if_has (λ n. 0 < n) (is_quote b) (1 + quoted_len bs) _ (λ is. omega arith) (λ no_quote.
    if_has (λ n. 0 < n) (starts_with nat_eq (b ∷ bs) (codes "name:")) (5 + prefix_len is_solid (drop 5 (b ∷ bs))) _ (λ named. omega arith) (λ no_name.
    if_has (λ n. 0 < n) (is_quoted_title (b ∷ bs)) (7 + quoted_len (drop 7 (b ∷ bs))) (prefix_len is_run (b ∷ bs)) (λ titled. omega arith)
    (λ run. some_run b bs (runs_on (is_blank b) (b == 40) (b == 41) (is_quote b) solid no_paren no_quote)))))

behind_some : (n b : ℕ) (bs : List ℕ) → 0 < n → IsUtf8 (drop n (b ∷ bs)) → IsUtf8 (drop (n - 1) bs)
behind_some zero b bs some u = absurd (omega arith)
behind_some (suc n) b bs some u = let e : n ≡ suc n - 1 = omega arith in subst (λ m. IsUtf8 (drop m bs)) e u

tokens_text : (p k : ℕ) (bs : List ℕ) → IsUtf8 (drop k bs) → All IsTextToken (tokens_of (spots_from p k bs))
tokens_text p k [] u = All-nil IsTextToken
tokens_text p (suc k) (b ∷ bs) u = tokens_text (p + 1) k bs u
tokens_text p zero (b ∷ bs) u =
    if_has (λ ts. All IsTextToken (tokens_of ts)) (is_blank b) (spots_from (p + 1) 0 bs) (at p (first_token (b ∷ bs)) ∷ spots_from (p + 1) (first_len (b ∷ bs) - 1) bs)
    (λ blank. tokens_text (p + 1) 0 bs (behind_first b bs u (blank_low b blank)).1)
    (λ solid. All-cons IsTextToken (first_token (b ∷ bs)) (tokens_of (spots_from (p + 1) (first_len (b ∷ bs) - 1) bs)) (first_text b bs u)
    (tokens_text (p + 1) (first_len (b ∷ bs) - 1) bs
    (behind_some (first_len (b ∷ bs)) b bs (first_some b bs solid) (IsUtf8-drop (b ∷ bs) (first_len (b ∷ bs)) u (first_cut b bs u)))))

pub read_text : (text : List ℕ) (q : Shape) → IsUtf8 text → ReadsQuery (tokens_of (spots text)) q → HasTextTerms q
unfolding spots
read_text text q u reads = subst HasTextTerms (sym reads.is_any) (any_of_text reads.members (or_text reads.spelled (tokens_text 0 0 text u)))
