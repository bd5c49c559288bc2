-- Each test of a query that is read asks for a word, as folded or as written, for a name, or for the end of a title.
use Rattle.std.proofs.Common.{◌≡◌, ℕ, zero, suc, ◌+◌, ◌-◌, List, [], ◌∷◌, ◌++◌, length, take, drop, map, Bool, true, false, Option, Some, None, refl, sym, subst, inl, inr}
use Rattle.std.specs.Prelude.{◌⊎◌, ◌==◌, nat_lt, nat_le, nat_eq, codes, if◌then◌else◌}
use Rattle.std.specs.List.{All, position_or_len, before_first, prefix_len, take_while, starts_with, ends_with}
use Rattle.std.specs.Str.{bytes_eq}
use Rattle.std.proofs.lemmas.List.Elements.{All-nil, All-cons, All-head, All-tail, All-push}
use Rattle.alta_codec.specs.Decimal.{is_count, value_of}
use Rattle.alta_codec.specs.Name.{is_name}
use Rattle.alta_machine.specs.declared.kinds.TheConstants.{WORD, WRITTEN, NAME, TITLE_END}
use Rattle.alta_machine.specs.Grammar.{IsUnary, alone, two_sides, behind_not, in_parens, IsAnd, first_unary, beside_and, behind_and, IsOr, first_and, behind_or, ReadsQuery}
use Rattle.alta_machine.specs.Patterns.{Pattern, lone_numbers, lone_pattern, phrase_pattern, range_test, titled, title_end, test_of}
use Rattle.alta_machine.specs.Covers.{cover_of}
use Rattle.alta_machine.specs.Numbers.{number_in}
use Rattle.alta_machine.specs.Terms.{term_bytes}
use Rattle.alta_machine.specs.declared.range.Range.{Range}
use Rattle.alta_machine.specs.Shape.{Lone, words, prefix, name, value, Side, Shape, shapes_of, all_of, any_of}
use Rattle.alta_machine.specs.Spots.{is_blank, is_solid, is_quote, is_run, words_token, prefix_token, plain_token, name_token, near_token, is_undotted, ordered, value_token, run_token, quoted_token, is_quoted_title, first_token, first_len, spots_from, spots}
use Rattle.alta_machine.specs.Token.{Token, open_paren, close_paren, and_word, or_word, not_word, near_word, operand, faulty, side_of, at, tokens_of}
use Rattle.alta_machine.specs.Words.{has_words, tests_of, is_stem, stem_test, word_term, word_test, name_test}
use Rattle.alta_machine.specs.declared.cause.Cause.TheVariants as cause
use Rattle.alta_machine.specs.declared.test.Test.{Test}
use Rattle.alta_machine.specs.declared.test.Test.TheVariants.{Is, Begins}
use Rattle.alta_text.specs.Words.{words_of, folded_of}
use Rattle.alta_dump.specs.Asked.{HasTests, HaveTests, tests_among}

-- what the test asks for
abbrev pub IsAsked : Test → Type 0
IsAsked (Is []) = ⊥
IsAsked (Is (kind ∷ rest)) = ((kind ≡ WORD) ⊎ (kind ≡ WRITTEN)) ⊎ ((kind ≡ NAME) ⊎ ((kind ≡ TITLE_END) × (rest ≡ [])))
IsAsked (Begins []) = ⊥
IsAsked (Begins (kind ∷ rest)) = (kind ≡ WORD) ⊎ (kind ≡ WRITTEN)

abbrev IsAskedToken : Token → Type 0
IsAskedToken open_paren = Unit {0}
IsAskedToken close_paren = Unit {0}
IsAskedToken and_word = Unit {0}
IsAskedToken or_word = Unit {0}
IsAskedToken not_word = Unit {0}
IsAskedToken (near_word k) = Unit {0}
IsAskedToken (operand a) = All IsAsked (tests_among (lone_pattern a).tests (lone_numbers a))
IsAskedToken (faulty c) = Unit {0}

-- ---- from the tokens to the query

shapes_asked : (qs : List Shape) → All (HasTests IsAsked) qs → HaveTests IsAsked (shapes_of qs)
shapes_asked [] h = tt
shapes_asked (q ∷ qs) h = (All-head (HasTests IsAsked) q qs h, shapes_asked qs (All-tail (HasTests IsAsked) q qs h))

all_of_asked : (qs : List Shape) → All (HasTests IsAsked) qs → HasTests IsAsked (all_of qs)
all_of_asked [] h = tt
all_of_asked (q ∷ []) h = All-head (HasTests IsAsked) q [] h
all_of_asked (q ∷ r ∷ qs) h = shapes_asked (q ∷ r ∷ qs) h

any_of_asked : (qs : List Shape) → All (HasTests IsAsked) qs → HasTests IsAsked (any_of qs)
any_of_asked [] h = tt
any_of_asked (q ∷ []) h = All-head (HasTests IsAsked) q [] h
any_of_asked (q ∷ r ∷ qs) h = shapes_asked (q ∷ r ∷ qs) h

front : (xs ys : List Token) → All IsAskedToken (xs ++ ys) → All IsAskedToken xs
front [] ys h = All-nil IsAskedToken
front (x ∷ xs) ys h = All-cons IsAskedToken x xs (All-head IsAskedToken x (xs ++ ys) h) (front xs ys (All-tail IsAskedToken x (xs ++ ys) h))

back : (xs ys : List Token) → All IsAskedToken (xs ++ ys) → All IsAskedToken ys
back [] ys h = h
back (x ∷ xs) ys h = back xs ys (All-tail IsAskedToken x (xs ++ ys) h)

some_is : (s t : Side) → Some s ≡ Some t → s ≡ t
some_is s t e = cc e

side_asked : (a : Lone) (s : Side) → side_of a ≡ Some s → All IsAsked (tests_among (lone_pattern a).tests (lone_numbers a)) → IsAsked (test_of s)
side_asked (words true text tests) s e h = absurd (cc e)
side_asked (words false text []) s e h = absurd (cc e)
side_asked (words false text (test ∷ [])) s e h = subst (λ (t : Side). IsAsked (test_of t)) (some_is _ s e) (All-head IsAsked test [] h)
side_asked (words false text (test ∷ next ∷ tests)) s e h = absurd (cc e)
side_asked (prefix true text test) s e h = absurd (cc e)
side_asked (prefix false text test) s e h = subst (λ (t : Side). IsAsked (test_of t)) (some_is _ s e) (All-head IsAsked test [] h)
side_asked (name text) s e h = absurd (cc e)
side_asked (value low high) s e h = absurd (cc e)

mutual
  unary_asked : {d : ℕ} {ts : List Token} {q : Shape} → IsUnary d ts q → All IsAskedToken ts → HasTests IsAsked q
  unary_asked (alone {a = a}) h = All-head IsAskedToken (operand a) [] h
  unary_asked (two_sides {a = a} {b = b} {l = l} {r = r} {k = k} left right) h =
      let behind = All-tail IsAskedToken (near_word k) (operand b ∷ []) (All-tail IsAskedToken (operand a) (near_word k ∷ operand b ∷ []) h) in
      All-cons IsAsked (test_of l) (test_of r ∷ []) (side_asked a l left (All-head IsAskedToken (operand a) (near_word k ∷ operand b ∷ []) h))
      (All-cons IsAsked (test_of r) [] (side_asked b r right (All-head IsAskedToken (operand b) [] behind)) (All-nil IsAsked))
  unary_asked (behind_not {ts = ts} x) h = unary_asked x (All-tail IsAskedToken not_word ts h)
  unary_asked (in_parens {ts = ts} {qs = qs} x) h =
      any_of_asked qs (or_asked x (front ts (close_paren ∷ []) (All-tail IsAskedToken open_paren (ts ++ close_paren ∷ []) h)))

  and_asked : {d : ℕ} {ts : List Token} {qs : List Shape} → IsAnd d ts qs → All IsAskedToken ts → All (HasTests IsAsked) qs
  and_asked (first_unary {q = q} x) h = All-cons (HasTests IsAsked) q [] (unary_asked x h) (All-nil (HasTests IsAsked))
  and_asked (beside_and {ts = ts} {us = us} {qs = qs} {q = q} x y) h = All-push (HasTests IsAsked) qs q (and_asked x (front ts us h)) (unary_asked y (back ts us h))
  and_asked (behind_and {ts = ts} {us = us} {qs = qs} {q = q} x y) h =
      All-push (HasTests IsAsked) qs q (and_asked x (front ts (and_word ∷ us) h)) (unary_asked y (All-tail IsAskedToken and_word us (back ts (and_word ∷ us) h)))

  or_asked : {d : ℕ} {ts : List Token} {qs : List Shape} → IsOr d ts qs → All IsAskedToken ts → All (HasTests IsAsked) qs
  or_asked (first_and {rs = rs} x) h = All-cons (HasTests IsAsked) (all_of rs) [] (all_of_asked rs (and_asked x h)) (All-nil (HasTests IsAsked))
  or_asked (behind_or {ts = ts} {us = us} {qs = qs} {rs = rs} x y) h =
      All-push (HasTests IsAsked) qs (all_of rs) (or_asked x (front ts (or_word ∷ us) h)) (all_of_asked rs (and_asked y (All-tail IsAskedToken or_word us (back ts (or_word ∷ us) h))))

-- ---- from the text to the tokens

either : {X : Type 0} (P : X → Type 0) (c : Bool) (x y : X) → P x → P y → P (if c then x else y)
either P true x y first second = first
either P false x y first second = second

word_asked : (word : List ℕ × List ℕ) → IsAsked (word_test word)
unfolding word_term
word_asked (written, folded) = either (λ (term : List ℕ). IsAsked (Is term)) (bytes_eq written folded) (WORD ∷ folded) (WRITTEN ∷ written) (inl (inl refl)) (inl (inr refl))

stem_asked : (stem : List ℕ) → IsAsked (stem_test stem)
unfolding word_term
stem_asked stem = either (λ (term : List ℕ). IsAsked (Begins term)) (bytes_eq stem (folded_of stem)) (WORD ∷ folded_of stem) (WRITTEN ∷ stem) (inl refl) (inr refl)

each_asked : (ws : List (List ℕ × List ℕ)) → All IsAsked (map word_test ws)
each_asked [] = All-nil IsAsked
each_asked (w ∷ ws) = All-cons IsAsked (word_test w) (map word_test ws) (word_asked w) (each_asked ws)

tests_asked : (text : List ℕ) → All IsAsked (tests_of text)
unfolding tests_of
tests_asked text = each_asked (words_of text)

one_asked : (t : Test) → IsAsked t → All IsAsked (t ∷ [])
one_asked t h = All-cons IsAsked t [] h (All-nil IsAsked)

titled_asked : (title : Bool) (p : Pattern) → All IsAsked p.tests → All IsAsked (titled title p).tests
titled_asked true p h = All-push IsAsked p.tests title_end h (inr (inr (refl, refl)))
titled_asked false p h = h

words_token_asked : (title : Bool) (text : List ℕ) → IsAskedToken (words_token title text)
unfolding words_token
words_token_asked title text =
    either IsAskedToken (has_words text) (operand (words title text (tests_of text))) (faulty cause.Word) (titled_asked title (phrase_pattern (tests_of text)) (tests_asked text)) tt

prefix_token_asked : (title : Bool) (stem : List ℕ) → IsAskedToken (prefix_token title stem)
unfolding prefix_token
prefix_token_asked title stem =
    either IsAskedToken (is_stem stem) (operand (prefix title stem (stem_test stem))) (faulty cause.Prefix)
    (titled_asked title (phrase_pattern (stem_test stem ∷ [])) (one_asked (stem_test stem) (stem_asked stem))) tt

plain_token_asked : (title : Bool) (text : List ℕ) → IsAskedToken (plain_token title text)
unfolding plain_token
plain_token_asked title text =
    either IsAskedToken (ends_with nat_eq text (codes "*")) (prefix_token title (take (length text - 1) text)) (words_token title text)
    (prefix_token_asked title (take (length text - 1) text)) (words_token_asked title text)

name_token_asked : (text : List ℕ) → IsAskedToken (name_token text)
unfolding name_token
name_token_asked text = either IsAskedToken (is_name text) (operand (name text)) (faulty cause.Name) (one_asked (name_test text) (inr (inl refl))) tt

near_token_asked : (digits : List ℕ) → IsAskedToken (near_token digits)
unfolding near_token
near_token_asked digits = either IsAskedToken (is_count 4 1000 digits) (near_word (value_of digits)) (faulty cause.Near) tt tt

range_asked : (range : Range) → IsAsked (range_test range)
unfolding term_bytes
range_asked range = inl (inr refl)

ranges_asked : (ranges : List Range) → All IsAsked (map range_test ranges)
ranges_asked [] = All-nil IsAsked
ranges_asked (range ∷ ranges) = All-cons IsAsked (range_test range) (map range_test ranges) (range_asked range) (ranges_asked ranges)

ordered_asked : (low high : Option ℕ) → IsAskedToken (ordered low high)
ordered_asked None high = tt
ordered_asked (Some low) None = tt
ordered_asked (Some low) (Some high) = either IsAskedToken (nat_le low high) (operand (value low high)) (faulty cause.Value) (ranges_asked (cover_of low high)) tt

value_token_asked : (text : List ℕ) → IsAskedToken (value_token text)
unfolding value_token
value_token_asked text =
    let low = take_while is_undotted text in let rest = drop (prefix_len is_undotted text) text in
    either IsAskedToken (starts_with nat_eq rest (codes "..")) (ordered (number_in low) (number_in (drop 2 rest))) (faulty cause.Value)
    (ordered_asked (number_in low) (number_in (drop 2 rest))) tt

run_token_asked : (text : List ℕ) → IsAskedToken (run_token text)
unfolding run_token
run_token_asked text =
    either IsAskedToken (bytes_eq text (codes "AND")) and_word _ tt (
    either IsAskedToken (bytes_eq text (codes "OR")) or_word _ tt (
    either IsAskedToken (bytes_eq text (codes "NOT")) not_word _ tt (
    either IsAskedToken (starts_with nat_eq text (codes "NEAR/")) (near_token (drop 5 text)) _ (near_token_asked (drop 5 text)) (
    either IsAskedToken (starts_with nat_eq text (codes "value:")) (value_token (drop 6 text)) _ (value_token_asked (drop 6 text)) (
    either IsAskedToken (starts_with nat_eq text (codes "title:")) (plain_token true (drop 6 text)) (plain_token false text)
    (plain_token_asked true (drop 6 text)) (plain_token_asked false text))))))

quoted_token_asked : (title : Bool) (rest : List ℕ) → IsAskedToken (quoted_token title rest)
unfolding quoted_token
quoted_token_asked title rest =
    either IsAskedToken (nat_lt (position_or_len is_quote rest) (length rest)) (words_token title (before_first is_quote rest)) (faulty cause.Quote)
    (words_token_asked title (before_first is_quote rest)) tt

first_asked : (b : ℕ) (bs : List ℕ) → IsAskedToken (first_token (b ∷ bs))
first_asked b bs =
    either IsAskedToken (b == 40) open_paren _ tt (
    either IsAskedToken (b == 41) close_paren _ tt (
    either IsAskedToken (is_quote b) (quoted_token false bs) _ (quoted_token_asked false bs) (
    either IsAskedToken (starts_with nat_eq (b ∷ bs) (codes "name:")) (name_token (take_while is_solid (drop 5 (b ∷ bs)))) _ (name_token_asked (take_while is_solid (drop 5 (b ∷ bs)))) (
    either IsAskedToken (is_quoted_title (b ∷ bs)) (quoted_token true (drop 7 (b ∷ bs))) (run_token (take_while is_run (b ∷ bs)))
    (quoted_token_asked true (drop 7 (b ∷ bs))) (run_token_asked (take_while is_run (b ∷ bs)))))))

tokens_asked : (p k : ℕ) (bs : List ℕ) → All IsAskedToken (tokens_of (spots_from p k bs))
tokens_asked p k [] = All-nil IsAskedToken
tokens_asked p (suc k) (b ∷ bs) = tokens_asked (p + 1) k bs
tokens_asked p zero (b ∷ bs) =
    either (λ ts. All IsAskedToken (tokens_of ts)) (is_blank b) (spots_from (p + 1) 0 bs) (at p (first_token (b ∷ bs)) ∷ spots_from (p + 1) (first_len (b ∷ bs) - 1) bs)
    (tokens_asked (p + 1) 0 bs)
    (All-cons IsAskedToken (first_token (b ∷ bs)) (tokens_of (spots_from (p + 1) (first_len (b ∷ bs) - 1) bs)) (first_asked b bs) (tokens_asked (p + 1) (first_len (b ∷ bs) - 1) bs))

pub read_asked : (text : List ℕ) (q : Shape) → ReadsQuery (tokens_of (spots text)) q → HasTests IsAsked q
unfolding spots
read_asked text q reads = subst (HasTests IsAsked) (sym reads.is_any) (any_of_asked reads.members (or_asked reads.spelled (tokens_asked 0 0 text)))
