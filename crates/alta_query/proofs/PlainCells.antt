-- A query without values does not see the terms of ranges.
use Rattle.std.proofs.Common.{◌≡◌, ⊎_elim, inl, inr, ℕ, zero, suc, ◌+◌, ◌-◌, ◌/◌, ◌^◌, ◌≤◌, ◌<◌, Bool, true, false, ◌||◌, if◌then◌else◌, List, [], ◌∷◌, ◌++◌, length, get_or, map, take, drop, Option, Some, None, arith, refl, sym, ap, ◌∙◌, subst}
use Rattle.std.specs.List.{All, prefix_len, take_while, starts_with, ends_with}
use Rattle.std.specs.Prelude.{◌↔◌, MatchOption, nat_eq, nat_le, nat_lt, codes}
use Rattle.std.specs.Str.{IsUtf8, bytes_eq, chars}
use Rattle.std.proofs.lemmas.Bool.{false≢true}
use Rattle.std.proofs.lemmas.Bool.Decides.{nat_tests}
use Rattle.std.proofs.lemmas.List.Elements.{All-nil, All-cons, All-append, All-head, All-tail, All-map}
use Rattle.std.proofs.lemmas.Slice.Eq.{bytes_eq-Decides}
use Rattle.std.proofs.lemmas.Str.{IsUtf8-past_char, encode_ascii}
use Rattle.std.specs.Int.{w32, to_be_bytes}
use Rattle.alta_codec.specs.Decimal.{is_count, value_of}
use Rattle.alta_machine.specs.Cells.{cells_of, numbered, word_cell}
use Rattle.alta_machine.specs.declared.kinds.TheConstants.{WORD, WRITTEN, TITLE_END, DOCUMENT_END}
use Rattle.alta_machine.specs.Matches.{AllMatch, AnyMatches, Matches}
use Rattle.alta_machine.specs.Patterns.{AreMet, AtomMatches, IsMet, Pattern, Satisfies, SatisfiesOne, lone_pattern, meets, numbers_in, pattern_of, phrase_pattern, test_of, title_end, titled, value_patterns}
use Rattle.alta_machine.specs.Shape.{Side, word, stem, Lone, words, prefix, name, value, Atom, lone, near, Shape, Shapes, atom, all, any, negated, none, more}
use Rattle.alta_machine.specs.Spelling.{spelled}
use Rattle.alta_machine.specs.Spots.{is_undotted, near_token, ordered, plain_token, prefix_token, run_token, value_token, words_token}
use Rattle.alta_query.specs.Texts.{AsksForText, HasTextTerm, HasTextTerms, HaveTextTerms}
use Rattle.alta_machine.specs.Token.{Token, open_paren, close_paren, and_word, or_word, not_word, near_word, operand, faulty}
use Rattle.alta_query.specs.Values.{HasNoValue, HaveNoValue, SeesNoRanges, plain_cell, plain_cells_of}
use Rattle.alta_machine.specs.Words.{has_words, is_only, is_stem, name_test, stem_test, tests_of, word_term, word_test}
use Rattle.alta_machine.specs.declared.cause.Cause.TheVariants as cause
use Rattle.alta_machine.specs.declared.test.Test.{Test}
use Rattle.alta_machine.specs.declared.test.Test.TheVariants.{Is, Begins}
use Rattle.alta_query.proofs.Fine.{AreFineShapes, IsFineAtom, IsFineLone, IsFineShape, IsFineSide, read_fine}
use Rattle.alta_query.proofs.Quoted.{both}
use Rattle.alta_query.proofs.TextTokens.{read_text}
use Rattle.alta_query.proofs.TextWords.{if_has}
use Rattle.alta_machine.specs.Numbers.{number_in}
use Rattle.alta_machine.specs.Terms.{range_terms, term_bytes, terms_from}
use Rattle.alta_machine.proofs.TermLaws.{are_apart, text_low}
use Rattle.alta_text.specs.Words.{folded_of, words_of}

abbrev Cells : Type 0
Cells = List (List (List ℕ))

-- ---- the stem of a prefix

-- a prefix has a stem, and its test
abbrev IsStemToken : Token → Type 0
IsStemToken open_paren = Unit {0}
IsStemToken close_paren = Unit {0}
IsStemToken and_word = Unit {0}
IsStemToken or_word = Unit {0}
IsStemToken not_word = Unit {0}
IsStemToken (near_word k) = Unit {0}
IsStemToken (operand (words title text tests)) = Unit {0}
IsStemToken (operand (prefix title front test)) = (is_stem front ≡ true) × (test ≡ stem_test front)
IsStemToken (operand (name text)) = Unit {0}
IsStemToken (operand (value low high)) = Unit {0}
IsStemToken (faulty c) = Unit {0}

prefix_stem : (title : Bool) (front : List ℕ) → IsStemToken (prefix_token title front)
unfolding prefix_token
prefix_stem title front = if_has IsStemToken (is_stem front) (operand (prefix title front (stem_test front))) (faulty cause.Prefix) (λ e. (e, refl)) (λ e. tt)

words_stem : (title : Bool) (text : List ℕ) → IsStemToken (words_token title text)
unfolding words_token
words_stem title text = if_has IsStemToken (has_words text) (operand (words title text (tests_of text))) (faulty cause.Word) (λ e. tt) (λ e. tt)

plain_stem : (title : Bool) (text : List ℕ) → IsStemToken (plain_token title text)
unfolding plain_token
plain_stem title text =
    if_has IsStemToken (ends_with nat_eq text (codes "*")) (prefix_token title (take (length text - 1) text)) (words_token title text)
    (λ e. prefix_stem title (take (length text - 1) text)) (λ e. words_stem title text)

near_stem : (digits : List ℕ) → IsStemToken (near_token digits)
unfolding near_token
near_stem digits = if_has IsStemToken (is_count 4 1000 digits) (near_word (value_of digits)) (faulty cause.Near) (λ e. tt) (λ e. tt)

ordered_stem : (low high : Option ℕ) → IsStemToken (ordered low high)
ordered_stem None high = tt
ordered_stem (Some low) None = tt
ordered_stem (Some low) (Some high) = if_has IsStemToken (nat_le low high) (operand (value low high)) (faulty cause.Value) (λ e. tt) (λ e. tt)

value_stem : (text : List ℕ) → IsStemToken (value_token text)
unfolding value_token
value_stem text =
    let rest = drop (prefix_len is_undotted text) text in
    if_has IsStemToken (starts_with nat_eq rest (codes "..")) (ordered (number_in (take_while is_undotted text)) (number_in (drop 2 rest))) (faulty cause.Value)
    (λ e. ordered_stem (number_in (take_while is_undotted text)) (number_in (drop 2 rest))) (λ e. tt)

run_stem : (text : List ℕ) → IsStemToken (run_token text)
unfolding run_token
run_stem text =
    if_has IsStemToken (bytes_eq text (codes "AND")) and_word _ (λ e. tt) (λ e.
    if_has IsStemToken (bytes_eq text (codes "OR")) or_word _ (λ e. tt) (λ e.
    if_has IsStemToken (bytes_eq text (codes "NOT")) not_word _ (λ e. tt) (λ e.
    if_has IsStemToken (starts_with nat_eq text (codes "NEAR/")) (near_token (drop 5 text)) _ (λ e. near_stem (drop 5 text)) (λ e.
    if_has IsStemToken (starts_with nat_eq text (codes "value:")) (value_token (drop 6 text)) _ (λ e. value_stem (drop 6 text)) (λ e.
    if_has IsStemToken (starts_with nat_eq text (codes "title:")) (plain_token true (drop 6 text)) (plain_token false text)
    (λ e. plain_stem true (drop 6 text)) (λ e. plain_stem false text))))))

-- ---- tests that no range meets

-- what the test of a prefix begins with is more than a kind
abbrev IsLong : Test → Type 0
IsLong (Is term) = Unit {0}
IsLong (Begins start) = 2 ≤ length start

-- no term of a range meets the test
abbrev PassesRanges : Test → Type 0
PassesRanges test = (level quotient : ℕ) → meets test (term_bytes level quotient ∷ []) ≡ false

not_true : (b : Bool) → (b ≡ true → ⊥) → (b || false) ≡ false
not_true true h = absurd (h refl)
not_true false h = refl

nat_is : (m n : ℕ) → nat_eq m n ≡ true → m ≡ n
nat_is m n h = grind (arith, nat_tests)

no_front : (a b : ℕ) (start : List ℕ) → IsUtf8 (a ∷ b ∷ start) → a ≡ 88 → b ≡ 255 → ⊥
no_front a b start u kind mark =
    let v : IsUtf8 (b ∷ start) = IsUtf8-past_char (a ∷ b ∷ start) (b ∷ start) a u (ap (λ (bytes : List ℕ). bytes ++ b ∷ start) (sym (encode_ascii a (omega arith)))) in
    let low : b < 255 = text_low (b ∷ start) v in
    omega arith

is_passes : (term : List ℕ) → IsUtf8 term → PassesRanges (Is term)
is_passes term u level quotient =
    not_true (bytes_eq (term_bytes level quotient) term)
    (λ e. are_apart.no_text level quotient (subst IsUtf8 (sym ((bytes_eq-Decides (term_bytes level quotient) term).0 e)) u))

begins_passes : (start : List ℕ) → IsUtf8 start → 2 ≤ length start → PassesRanges (Begins start)
unfolding term_bytes
begins_passes [] u long level quotient = absurd (omega arith)
begins_passes (a ∷ []) u long level quotient = absurd (omega arith)
begins_passes (a ∷ b ∷ start) u long level quotient =
    not_true (starts_with nat_eq (88 ∷ 255 ∷ level ∷ to_be_bytes w32 quotient) (a ∷ b ∷ start))
    (λ e.
    let kind = both (nat_eq a 88) (starts_with nat_eq (255 ∷ level ∷ to_be_bytes w32 quotient) (b ∷ start)) e in
    let mark = both (nat_eq b 255) (starts_with nat_eq (level ∷ to_be_bytes w32 quotient) start) kind.1 in
    no_front a b start u (nat_is a 88 kind.0) (nat_is b 255 mark.0))

test_passes : (test : Test) → HasTextTerm test → IsLong test → PassesRanges test
test_passes (Is term) text long = is_passes term text
test_passes (Begins start) text long = begins_passes start text long

-- ---- the tests of atoms

stem_some : (front : List ℕ) → nat_le 2 (length (chars front)) ≡ true → 1 ≤ length front
unfolding chars
stem_some [] h = absurd (false≢true h)
stem_some (b ∷ bs) h = omega arith

long_stem : (front : List ℕ) → is_stem front ≡ true → IsLong (stem_test front)
unfolding is_stem word_term
long_stem front h =
    let some = stem_some front (both (is_only (words_of front) front) (nat_le 2 (length (chars front))) h).1 in
    if_has (λ start. 2 ≤ length start) (bytes_eq front (folded_of front)) (WORD ∷ folded_of front) (WRITTEN ∷ front)
    (λ same. let e : length front ≡ length (folded_of front) = ap (λ (w : List ℕ). length w) ((bytes_eq-Decides front (folded_of front)).0 same) in omega (arith, some, e))
    (λ other. omega (arith, some))

words_long : (text : List ℕ) (tests : List Test) → tests ≡ tests_of text → All IsLong tests
unfolding tests_of
words_long text tests e = subst (All IsLong) (sym e) (All-map IsLong word_test (words_of text) (λ k d l. tt))

prefix_long : (title : Bool) (front : List ℕ) (test : Test) → IsFineLone (prefix title front test) → IsLong test
prefix_long title front test f =
    let is : IsStemToken (operand (prefix title front test)) = subst IsStemToken f.3 (run_stem (spelled (operand (prefix title front test)))) in
    subst IsLong (sym is.1) (long_stem front is.0)

titled_long : (title : Bool) (p : Pattern) → All IsLong p.tests → All IsLong (titled title p).tests
titled_long true p h = All-append IsLong p.tests (title_end ∷ []) h (All-cons IsLong title_end [] tt (All-nil IsLong))
titled_long false p h = h

lone_long : (a : Lone) → IsFineLone a → All IsLong (lone_pattern a).tests
lone_long (words title text tests) f = titled_long title (phrase_pattern tests) (words_long text tests f.2)
lone_long (prefix title front test) f = titled_long title (phrase_pattern (test ∷ [])) (All-cons IsLong test [] (prefix_long title front test f) (All-nil IsLong))
lone_long (name text) f = All-cons IsLong (name_test text) [] tt (All-nil IsLong)
lone_long (value low high) f = All-nil IsLong

side_long : (s : Side) → IsFineSide s → IsLong (test_of s)
side_long (word text test) f = All-head IsLong test [] (words_long text (test ∷ []) f.2)
side_long (stem text test) f = prefix_long false text test f

atom_long : (a : Atom) → IsFineAtom a → All IsLong (pattern_of a).tests
atom_long (lone a) f = lone_long a f
atom_long (near l k r) f = All-cons IsLong (test_of l) (test_of r ∷ []) (side_long l f.0) (All-cons IsLong (test_of r) [] (side_long r f.3) (All-nil IsLong))

atom_passes : (a : Atom) → IsFineAtom a → AsksForText a → All PassesRanges (pattern_of a).tests
atom_passes a f text = λ k d l. test_passes (get_or (pattern_of a).tests k d) (text k d l) (atom_long a f k d l)

-- ---- cells with the terms of ranges and without

none_more : (a b : Bool) → (a || false) ≡ false → b ≡ false → (a || b) ≡ false
none_more true b h k = absurd (false≢true (sym h))
none_more false b h k = k

ranges_passed : (test : Test) → PassesRanges test → (n level number : ℕ) → meets test (terms_from number level n) ≡ false
unfolding terms_from
ranges_passed (Is term) passes zero level number = refl
ranges_passed (Is term) passes (suc n) level number =
    none_more (bytes_eq (term_bytes level (number / 2 ^ level)) term) (meets (Is term) (terms_from number (level + 1) n)) (passes level (number / 2 ^ level)) (ranges_passed (Is term) passes n (level + 1) number)
ranges_passed (Begins start) passes zero level number = refl
ranges_passed (Begins start) passes (suc n) level number =
    none_more (starts_with nat_eq (term_bytes level (number / 2 ^ level)) start) (meets (Begins start) (terms_from number (level + 1) n)) (passes level (number / 2 ^ level)) (ranges_passed (Begins start) passes n (level + 1) number)

number_passed : (test : Test) → PassesRanges test → (folding : List ℕ) (number : Option ℕ) → meets test (folding ∷ numbered number) ≡ meets test (folding ∷ [])
unfolding range_terms
number_passed (Is term) passes folding None = refl
number_passed (Is term) passes folding (Some number) = ap (λ (b : Bool). bytes_eq folding term || b) (ranges_passed (Is term) passes 33 0 number)
number_passed (Begins start) passes folding None = refl
number_passed (Begins start) passes folding (Some number) = ap (λ (b : Bool). starts_with nat_eq folding start || b) (ranges_passed (Begins start) passes 33 0 number)

cell_alike : (test : Test) → PassesRanges test → (long same : Bool) (folding spelling : List ℕ) (number : Option ℕ)
    → meets test (if long then [] else (if same then folding ∷ numbered number else folding ∷ spelling ∷ [])) ≡ meets test (if long then [] else (if same then folding ∷ [] else folding ∷ spelling ∷ []))
cell_alike test passes true same folding spelling number = refl
cell_alike test passes false true folding spelling number = number_passed test passes folding number
cell_alike test passes false false folding spelling number = refl

word_alike : (test : Test) → PassesRanges test → (w : List ℕ × List ℕ) → meets test (word_cell w) ≡ meets test (plain_cell w)
word_alike test passes w =
    cell_alike test passes (nat_lt 128 (length w.0) || nat_lt 128 (length w.1)) (bytes_eq w.0 w.1) (WORD ∷ w.1) (WRITTEN ∷ w.0) (number_in w.0)

-- the same places meet the test
abbrev Alike : Test → Cells → Cells → Type 0
Alike test [] [] = Unit {0}
Alike test [] (d ∷ ds) = ⊥
Alike test (c ∷ cs) [] = ⊥
Alike test (c ∷ cs) (d ∷ ds) = (meets test c ≡ meets test d) × Alike test cs ds

alike_back : (test : Test) (cs ds : Cells) → Alike test cs ds → Alike test ds cs
alike_back test [] [] h = tt
alike_back test [] (d ∷ ds) h = absurd h
alike_back test (c ∷ cs) [] h = absurd h
alike_back test (c ∷ cs) (d ∷ ds) h = (sym h.0, alike_back test cs ds h.1)

words_alike : (test : Test) → PassesRanges test → (ws : List (List ℕ × List ℕ)) → Alike test (map word_cell ws) (map plain_cell ws)
words_alike test passes [] = tt
words_alike test passes (w ∷ ws) = (word_alike test passes w, words_alike test passes ws)

alike_append : (test : Test) (cs ds es fs : Cells) → Alike test cs ds → Alike test es fs → Alike test (cs ++ es) (ds ++ fs)
alike_append test [] [] es fs h k = k
alike_append test [] (d ∷ ds) es fs h k = absurd h
alike_append test (c ∷ cs) [] es fs h k = absurd h
alike_append test (c ∷ cs) (d ∷ ds) es fs h k = (h.0, alike_append test cs ds es fs h.1 k)

document_alike : (test : Test) → PassesRanges test → (called title body : List ℕ) → Alike test (cells_of called title body) (plain_cells_of called title body)
document_alike test passes called title body =
    let front : Cells = map word_cell (words_of title) in
    let plain_front : Cells = map plain_cell (words_of title) in
    let back : Cells = ((TITLE_END ∷ []) ∷ []) ∷ map word_cell (words_of body) in
    let plain_back : Cells = ((TITLE_END ∷ []) ∷ []) ∷ map plain_cell (words_of body) in
    let end : Cells = ((DOCUMENT_END ∷ []) ∷ []) ∷ [] in (
      refl,
      alike_append test (front ++ back) (plain_front ++ plain_back) end end
          (alike_append test front plain_front back plain_back (words_alike test passes (words_of title)) (refl, words_alike test passes (words_of body))) (refl, tt),
    )

met_too : (test : Test) (cs ds : Cells) → Alike test cs ds → (k : ℕ) → IsMet cs test k → IsMet ds test k
met_too test [] [] h k m = m
met_too test [] (d ∷ ds) h k m = absurd h
met_too test (c ∷ cs) [] h k m = absurd h
met_too test (c ∷ cs) (d ∷ ds) h zero m = (omega arith, sym h.0 ∙ m.1)
met_too test (c ∷ cs) (d ∷ ds) h (suc k) m = let r = met_too test cs ds h.1 k (omega (arith, m.0), m.1) in (omega (arith, r.0), r.1)

are_met_too : (tests : List Test) (cs ds : Cells) → All (λ test. Alike test cs ds) tests → (places : List ℕ) → AreMet cs tests places → AreMet ds tests places
are_met_too [] cs ds h [] m = m
are_met_too [] cs ds h (k ∷ places) m = absurd m
are_met_too (t ∷ tests) cs ds h [] m = absurd m
are_met_too (t ∷ tests) cs ds h (k ∷ places) m =
    (met_too t cs ds (All-head (λ test. Alike test cs ds) t tests h) k m.0, are_met_too tests cs ds (All-tail (λ test. Alike test cs ds) t tests h) places m.1)

satisfied_too : (p : Pattern) (cs ds : Cells) → All (λ test. Alike test cs ds) p.tests → Satisfies cs p → Satisfies ds p
satisfied_too p cs ds h (places, answer) = (places, record { met = are_met_too p.tests cs ds h places answer.met; kept = answer.kept })

-- ---- the law

of_none : (o : Option (ℕ × ℕ)) → o ≡ None → (A B : Type 0) (F G : ℕ × ℕ → Type 0) → A ↔ B → MatchOption o A F ↔ MatchOption o B G
of_none None e A B F G same = same
of_none (Some numbers) e A B F G same = absurd (cc)

module _ (called title body : List ℕ) where
  abbrev whole : Cells
  whole = cells_of called title body

  abbrev plain : Cells
  plain = plain_cells_of called title body

  atom_same : (a : Atom) → IsFineAtom a → AsksForText a → numbers_in a ≡ None → AtomMatches whole a ↔ AtomMatches plain a
  atom_same a f text no_value =
      let passes = atom_passes a f text in
      let there : All (λ test. Alike test whole plain) (pattern_of a).tests = λ k d l. document_alike (get_or (pattern_of a).tests k d) (passes k d l) called title body in
      let back : All (λ test. Alike test plain whole) (pattern_of a).tests = λ k d l. alike_back (get_or (pattern_of a).tests k d) whole plain (there k d l) in
      of_none (numbers_in a) no_value (Satisfies whole (pattern_of a)) (Satisfies plain (pattern_of a)) (λ numbers. SatisfiesOne whole (value_patterns numbers.0 numbers.1)) (λ numbers. SatisfiesOne plain (value_patterns numbers.0 numbers.1))
      (satisfied_too (pattern_of a) whole plain there, satisfied_too (pattern_of a) plain whole back)

  mutual
    query_same : (q : Shape) → IsFineShape q → HasTextTerms q → HasNoValue q → Matches whole q ↔ Matches plain q
    query_same (atom a) f text v = atom_same a f text v
    query_same (all qs) f text v = all_same qs f text v
    query_same (any qs) f text v = any_same qs f text v
    query_same (negated q) f text v = let same = query_same q f text v in (λ h m. h (same.1 m), λ h m. h (same.0 m))

    all_same : (qs : Shapes) → AreFineShapes qs → HaveTextTerms qs → HaveNoValue qs → AllMatch whole qs ↔ AllMatch plain qs
    all_same none f text v = (λ h. h, λ h. h)
    all_same (more q qs) f text v =
        let here = query_same q f.0 text.0 v.0 in let rest = all_same qs f.1 text.1 v.1 in
        (λ (h, k). (here.0 h, rest.0 k), λ (h, k). (here.1 h, rest.1 k))

    any_same : (qs : Shapes) → AreFineShapes qs → HaveTextTerms qs → HaveNoValue qs → AnyMatches whole qs ↔ AnyMatches plain qs
    any_same none f text v = (λ h. h, λ h. h)
    any_same (more q qs) f text v =
        let here = query_same q f.0 text.0 v.0 in let rest = any_same qs f.1 text.1 v.1 in
        (λ h. ⊎_elim (λ l. inl (here.0 l)) (λ r. inr (rest.0 r)) h, λ h. ⊎_elim (λ l. inl (here.1 l)) (λ r. inr (rest.1 r)) h)

pub sees_no_ranges : SeesNoRanges
sees_no_ranges q called title body (text, u, reads) v =
    query_same called title body q (read_fine text q reads) (read_text text q u reads) v
