-- A value matches exactly the documents that have a number from the lowest to the highest.
use Rattle.std.proofs.Common.{◌≡◌, ◌⊎◌, ⊎_elim, inl, inr, ℕ, zero, suc, ◌+◌, ◌/◌, ◌^◌, ◌≤◌, ◌<◌, Bool, true, false, ◌||◌, if◌then◌else◌, List, [], ◌∷◌, ◌++◌, length, get_or, map, Option, Some, None, arith, refl, sym, ap, ◌∙◌, subst}
use Rattle.std.specs.Char.{is_ascii_digit, to_ascii_lowercase}
use Rattle.std.specs.Fmt.{decimal}
use Rattle.std.specs.List.{All, Any, list_all, list_any}
use Rattle.std.specs.Prelude.{nat_lt}
use Rattle.std.specs.Str.{IsUtf8, bytes_eq}
use Rattle.std.proofs.lemmas.Bool.{false≢true, or_cases}
use Rattle.std.proofs.lemmas.Bool.Decides.{nat_tests}
use Rattle.std.proofs.lemmas.Fmt.{length-decimal-le}
use Rattle.std.proofs.lemmas.List.Elements.{All-nil, All-cons, All-append, All-head, All-tail}
use Rattle.std.proofs.lemmas.List.Folds.{list_any-append, list_any_at, Any-from_list_any, list_any-from_Any}
use Rattle.std.proofs.lemmas.Slice.Eq.{bytes_eq-Decides}
use Rattle.std.proofs.lemmas.Str.Ascii.{IsAscii-from_all, lowercase_is}
use Rattle.alta_machine.specs.Cells.{cell_holds, cells_of, numbered, word_cell}
use Rattle.alta_machine.specs.declared.kinds.TheConstants.{WORD, WRITTEN, NAME, START, TITLE_END, DOCUMENT_END}
use Rattle.alta_machine.specs.Patterns.{IsKept, Satisfies, SatisfiesOne, range_pattern}
use Rattle.alta_query.specs.Values.{IsValue, FindsNumbers}
use Rattle.alta_query.proofs.Quoted.{both}
use Rattle.alta_query.proofs.TextWords.{words_text}
use Rattle.alta_query.proofs.Unquoted.{digits_of}
use Rattle.alta_machine.specs.Covers.{cover_of}
use Rattle.alta_machine.specs.RangeLaws.{IsOnce}
use Rattle.alta_machine.specs.Numbers.{number_in}
use Rattle.alta_machine.specs.Terms.{Shares, term_bytes, terms_from, range_terms}
use Rattle.alta_machine.specs.declared.range.Range.{Range}
use Rattle.alta_machine.proofs.Made.{cover_covers}
use Rattle.alta_machine.proofs.Numerals.{are_read}
use Rattle.alta_machine.proofs.Once.{is_cover}
use Rattle.alta_machine.proofs.TermLaws.{text_low}
use Rattle.alta_text.specs.Words.{folded_of}
use Rattle.alta_text.proofs.Foldings.{folded_of-ascii}
use Rattle.unicode_segmentation.specs.Word.{words}

abbrev Cells : Type 0
Cells = List (List (List ℕ))

or_first : (a b : Bool) → a ≡ true → (a || b) ≡ true
or_first true b h = refl
or_first false b h = absurd (false≢true h)

or_second : (a b : Bool) → b ≡ true → (a || b) ≡ true
or_second true b h = refl
or_second false b h = h

or_false : (b : Bool) → (b || false) ≡ b
or_false true = refl
or_false false = refl

-- ---- the pattern of a range

any_place : (p : List (List ℕ) → Bool) (cells : Cells) → list_any p cells ≡ true → (k : ℕ) × (k < length cells) × (p (get_or cells k []) ≡ true)
any_place p [] h = absurd (false≢true h)
any_place p (c ∷ cells) h = split (or_cases (p c) (list_any p cells) h) (any_place p cells)
  where
    split : (p c ≡ true) ⊎ (list_any p cells ≡ true) → (list_any p cells ≡ true → (k : ℕ) × (k < length cells) × (p (get_or cells k []) ≡ true))
        → (k : ℕ) × (k < length (c ∷ cells)) × (p (get_or (c ∷ cells) k []) ≡ true)
    split (inl here) on = (0, omega arith, here)
    split (inr later) on = let k = on later in (suc k.0, omega (arith, k.1), k.2)

any_satisfies : (cells : Cells) (r : Range) → list_any (cell_holds (term_bytes r.level r.prefix)) cells ≡ true → Satisfies cells (range_pattern r)
any_satisfies cells r h =
    let k = any_place (cell_holds (term_bytes r.level r.prefix)) cells h in
    (k.0 ∷ [], record { met = ((k.1, k.2), tt); kept = All-nil (IsKept (k.0 ∷ [])) })

satisfies_any : (cells : Cells) (r : Range) → Satisfies cells (range_pattern r) → list_any (cell_holds (term_bytes r.level r.prefix)) cells ≡ true
satisfies_any cells r ([], answer) = absurd answer.met
satisfies_any cells r (place ∷ places, answer) = list_any_at (cell_holds (term_bytes r.level r.prefix)) cells place [] answer.met.0.0 answer.met.0.1

-- ---- the terms of a number

any_level : (n level value : ℕ) (term : List ℕ) → list_any (λ held. bytes_eq held term) (terms_from value level n) ≡ true
    → (j : ℕ) × (j < level + n) × (term_bytes j (value / 2 ^ j) ≡ term)
unfolding terms_from
any_level zero level value term h = absurd (false≢true h)
any_level (suc n) level value term h =
    split (or_cases (bytes_eq (term_bytes level (value / 2 ^ level)) term) (list_any (λ held. bytes_eq held term) (terms_from value (level + 1) n)) h) (any_level n (level + 1) value term)
  where
    split : (bytes_eq (term_bytes level (value / 2 ^ level)) term ≡ true) ⊎ (list_any (λ held. bytes_eq held term) (terms_from value (level + 1) n) ≡ true)
        → (list_any (λ held. bytes_eq held term) (terms_from value (level + 1) n) ≡ true → (j : ℕ) × (j < level + 1 + n) × (term_bytes j (value / 2 ^ j) ≡ term))
        → (j : ℕ) × (j < level + suc n) × (term_bytes j (value / 2 ^ j) ≡ term)
    split (inl here) on = (level, omega arith, (bytes_eq-Decides (term_bytes level (value / 2 ^ level)) term).0 here)
    split (inr later) on = let k = on later in (k.0, omega (arith, k.1), k.2)

level_any : (n level gap value : ℕ) (term : List ℕ) → gap < n → term_bytes (level + gap) (value / 2 ^ (level + gap)) ≡ term
    → list_any (λ held. bytes_eq held term) (terms_from value level n) ≡ true
unfolding terms_from
level_any zero level gap value term below is = absurd (omega arith)
level_any (suc n) level zero value term below is =
    let e : level + 0 ≡ level = omega arith in
    or_first (bytes_eq (term_bytes level (value / 2 ^ level)) term) (list_any (λ held. bytes_eq held term) (terms_from value (level + 1) n))
    ((bytes_eq-Decides (term_bytes level (value / 2 ^ level)) term).1 (subst (λ (j : ℕ). term_bytes j (value / 2 ^ j) ≡ term) e is))
level_any (suc n) level (suc gap) value term below is =
    let e : level + suc gap ≡ level + 1 + gap = omega arith in
    or_second (bytes_eq (term_bytes level (value / 2 ^ level)) term) (list_any (λ held. bytes_eq held term) (terms_from value (level + 1) n))
    (level_any n (level + 1) gap value term (omega arith) (subst (λ (j : ℕ). term_bytes j (value / 2 ^ j) ≡ term) e is))

terms_share : (r : Range) (value : ℕ) → list_any (λ held. bytes_eq held (term_bytes r.level r.prefix)) (range_terms value) ≡ true → Shares r value
unfolding range_terms
terms_share r value h =
    let k = any_level 33 0 value (term_bytes r.level r.prefix) h in
    record { level = k.0; low = omega (arith, k.1); same = k.2 }

share_terms : (r : Range) (value : ℕ) → Shares r value → list_any (λ held. bytes_eq held (term_bytes r.level r.prefix)) (range_terms value) ≡ true
unfolding range_terms
share_terms r value shares =
    let e : shares.level ≡ 0 + shares.level = omega arith in
    level_any 33 0 shares.level value (term_bytes r.level r.prefix) (omega (arith, shares.low)) (subst (λ (j : ℕ). term_bytes j (value / 2 ^ j) ≡ term_bytes r.level r.prefix) e shares.same)

-- ---- the cell of a word

-- a cell of a word that has a range's term is that of a number
held_number : (written folded : List ℕ) → IsUtf8 written → (level prefix : ℕ) (long same : Bool) (number : Option ℕ)
    → cell_holds (term_bytes level prefix) (if long then [] else (if same then (WORD ∷ folded) ∷ numbered number else (WORD ∷ folded) ∷ (WRITTEN ∷ written) ∷ [])) ≡ true
    → (value : ℕ) × (number ≡ Some value) × (list_any (λ held. bytes_eq held (term_bytes level prefix)) (range_terms value) ≡ true)
unfolding term_bytes
held_number written folded u level prefix true same number h = absurd (false≢true h)
held_number written folded u level prefix false true None h = absurd (false≢true h)
held_number written folded u level prefix false true (Some value) h = (value, refl, h)
held_number written folded u level prefix false false number h =
    ⊎_elim
    (λ e. let is : written ≡ _ = (bytes_eq-Decides written _).0 e in
    let low : get_or written 0 0 < 255 = text_low written u in
    let first : get_or written 0 0 ≡ 255 = ap (λ (bytes : List ℕ). get_or bytes 0 0) is in
    absurd (omega arith))
    (λ e. absurd (false≢true e))
    (or_cases (bytes_eq written _) false h)

-- ---- a number's spelling

digit_low : (b : ℕ) → is_ascii_digit b ≡ true → b < 65
digit_low b h = grind (arith, nat_tests)

digits_ascii : (ds : List ℕ) → list_all is_ascii_digit ds ≡ true → All (λ b. b < 128) ds
digits_ascii [] h = All-nil (λ b. b < 128)
digits_ascii (d ∷ ds) h =
    let k = both (is_ascii_digit d) (list_all is_ascii_digit ds) h in let low : d < 65 = digit_low d k.0 in
    All-cons (λ b. b < 128) d ds (omega arith) (digits_ascii ds k.1)

digits_lower : (ds : List ℕ) → list_all is_ascii_digit ds ≡ true → map to_ascii_lowercase ds ≡ ds
digits_lower [] h = refl
digits_lower (d ∷ ds) h =
    let k = both (is_ascii_digit d) (list_all is_ascii_digit ds) h in
    ap (λ c. c ∷ map to_ascii_lowercase ds) ((lowercase_is d).1 (digit_low d k.0)) ∙ ap (λ cs. d ∷ cs) (digits_lower ds k.1)

digits_folded : (ds : List ℕ) → list_all is_ascii_digit ds ≡ true → folded_of ds ≡ ds
digits_folded ds h = sym (folded_of-ascii ds (IsAscii-from_all ds (digits_ascii ds h))) ∙ digits_lower ds h

-- the word is spelled in at most ten digits, which fold to themselves
record IsNumber (written : List ℕ) (value : ℕ) : Type 0 where
  short : length written ≤ 10
  same : folded_of written ≡ written
  small : value < 2 ^ 32

is_number : (written : List ℕ) (value : ℕ) → number_in written ≡ Some value → IsNumber written value
is_number written value is =
    let read = (are_read written value).0 is in
    let small : value < 2 ^ 32 = read.1 in
    subst (λ (w : List ℕ). IsNumber w value) read.0 (record {
      short = length-decimal-le 10 value (omega arith) (omega arith) (omega arith);
      same = digits_folded (decimal value) (digits_of value small);
      small = small;
    })

not_long : (n : ℕ) → n ≤ 10 → nat_lt 128 n ≡ false
not_long n h = grind (arith, nat_tests)

cell_chosen : (a b c : Bool) (xs ys zs : List (List ℕ)) → a ≡ false → b ≡ false → c ≡ true → (if a || b then xs else (if c then ys else zs)) ≡ ys
cell_chosen true b c xs ys zs h k l = absurd (false≢true (sym h))
cell_chosen false true c xs ys zs h k l = absurd (false≢true (sym k))
cell_chosen false false true xs ys zs h k l = refl
cell_chosen false false false xs ys zs h k l = absurd (false≢true l)

number_cell : (written : List ℕ) (value : ℕ) → number_in written ≡ Some value → word_cell (written, folded_of written) ≡ (WORD ∷ folded_of written) ∷ range_terms value
number_cell written value is =
    let number = is_number written value is in
    cell_chosen (nat_lt 128 (length written)) (nat_lt 128 (length (folded_of written))) (bytes_eq written (folded_of written)) [] ((WORD ∷ folded_of written) ∷ numbered (number_in written)) _
    (not_long (length written) number.short)
    (not_long (length (folded_of written)) (omega (arith, number.short, ap (λ (w : List ℕ). length w) number.same)))
    ((bytes_eq-Decides written (folded_of written)).1 (sym number.same))
    ∙ ap (λ o. (WORD ∷ folded_of written) ∷ numbered o) is

-- the cell of a number has the terms that the number shares
number_held : (written : List ℕ) (value : ℕ) (r : Range) → number_in written ≡ Some value → Shares r value
    → cell_holds (term_bytes r.level r.prefix) (word_cell (written, folded_of written)) ≡ true
number_held written value r is shares =
    ap (cell_holds (term_bytes r.level r.prefix)) (number_cell written value is)
    ∙ or_second (bytes_eq (WORD ∷ folded_of written) (term_bytes r.level r.prefix)) (list_any (λ held. bytes_eq held (term_bytes r.level r.prefix)) (range_terms value)) (share_terms r value shares)

-- ---- the cells of a document

-- whether the cell of a word has the term
has_term : List ℕ → List ℕ → Bool
has_term term written = cell_holds term (word_cell (written, folded_of written))

-- the words with their foldings
abbrev pairs : List (List ℕ) → List (List ℕ × List ℕ)
pairs ws = map {B = List ℕ × List ℕ} (λ (written : List ℕ). (written, folded_of written)) ws

any_mapped : (term : List ℕ) (ws : List (List ℕ)) → list_any (cell_holds term) (map word_cell (pairs ws)) ≡ list_any (has_term term) ws
unfolding has_term
any_mapped term [] = refl
any_mapped term (w ∷ ws) = ap (λ (b : Bool). cell_holds term (word_cell (w, folded_of w)) || b) (any_mapped term ws)

marks_have_none : (level prefix : ℕ) (name : List ℕ) (front back : Cells)
    → list_any (cell_holds (term_bytes level prefix)) (((NAME ∷ name) ∷ (START ∷ []) ∷ []) ∷ front ++ ((TITLE_END ∷ []) ∷ []) ∷ back ++ ((DOCUMENT_END ∷ []) ∷ []) ∷ [])
    ≡ (list_any (cell_holds (term_bytes level prefix)) front || list_any (cell_holds (term_bytes level prefix)) back)
unfolding term_bytes
marks_have_none level prefix name front back =
    list_any-append (cell_holds (term_bytes level prefix)) (((NAME ∷ name) ∷ (START ∷ []) ∷ []) ∷ front ++ ((TITLE_END ∷ []) ∷ []) ∷ back) (((DOCUMENT_END ∷ []) ∷ []) ∷ [])
    ∙ or_false _
    ∙ list_any-append (cell_holds (term_bytes level prefix)) (((NAME ∷ name) ∷ (START ∷ []) ∷ []) ∷ front) (((TITLE_END ∷ []) ∷ []) ∷ back)

cells_have : (level prefix : ℕ) (name title body : List ℕ)
    → list_any (cell_holds (term_bytes level prefix)) (cells_of name title body) ≡ list_any (has_term (term_bytes level prefix)) (words title ++ words body)
cells_have level prefix name title body =
    let term = term_bytes level prefix in
    marks_have_none level prefix name (map word_cell (pairs (words title))) (map word_cell (pairs (words body)))
    ∙ ap (λ (b : Bool). b || list_any (cell_holds term) (map word_cell (pairs (words body)))) (any_mapped term (words title))
    ∙ ap (λ (b : Bool). list_any (has_term term) (words title) || b) (any_mapped term (words body))
    ∙ sym (list_any-append (has_term term) (words title) (words body))

-- ---- the law

module _ (name title body : List ℕ) (low high : ℕ) (utf8 : All IsUtf8 (words title ++ words body)) where
  abbrev Found : Type 0
  Found = Any (IsValue low high) (words title ++ words body)

  -- a range of a cover that the cells satisfy
  one_found : (r : Range) → ((value : ℕ) → value < 2 ^ 32 → Shares r value → (low ≤ value) × (value ≤ high)) → Satisfies (cells_of name title body) (range_pattern r) → Found
  unfolding has_term
  one_found r within s =
      let any = sym (cells_have r.level r.prefix name title body) ∙ satisfies_any (cells_of name title body) r s in
      let (k, word, below, is, holds) = Any-from_list_any (has_term (term_bytes r.level r.prefix)) (words title ++ words body) any in
      let u : IsUtf8 word = subst IsUtf8 is (utf8 k word below) in
      let (value, spelled, shared) = held_number word (folded_of word) u r.level r.prefix (nat_lt 128 (length word) || nat_lt 128 (length (folded_of word))) (bytes_eq word (folded_of word)) (number_in word) holds in
      let number = is_number word value spelled in
      let between = within value number.small (terms_share r value shared) in
      (k, word, below, is, record { number = value; spelled = spelled; short = omega (arith, number.short); from = between.0; to = between.1 })

  some_found : (ranges : List Range) → ((value : ℕ) → value < 2 ^ 32 → All (λ range. Shares range value → (low ≤ value) × (value ≤ high)) ranges)
      → SatisfiesOne (cells_of name title body) (map range_pattern ranges) → Found
  some_found [] within h = absurd h
  some_found (r ∷ ranges) within (inl here) = one_found r (λ value small. All-head (λ range. Shares range value → (low ≤ value) × (value ≤ high)) r ranges (within value small)) here
  some_found (r ∷ ranges) within (inr later) = some_found ranges (λ value small. All-tail (λ range. Shares range value → (low ≤ value) × (value ≤ high)) r ranges (within value small)) later

  found_one : (k : ℕ) (word : List ℕ) (value : ℕ) (r : Range) → k < length (words title ++ words body) → get_or (words title ++ words body) k word ≡ word → number_in word ≡ Some value
      → Shares r value → Satisfies (cells_of name title body) (range_pattern r)
  unfolding has_term
  found_one k word value r below is spelled shares =
      any_satisfies (cells_of name title body) r
      (cells_have r.level r.prefix name title body
      ∙ list_any-from_Any (has_term (term_bytes r.level r.prefix)) (words title ++ words body) (k, word, below, is, number_held word value r spelled shares))

  found_some : (ranges : List Range) (value : ℕ) → IsOnce value ranges → ((r : Range) → Shares r value → Satisfies (cells_of name title body) (range_pattern r))
      → SatisfiesOne (cells_of name title body) (map range_pattern ranges)
  found_some [] value once f = absurd once
  found_some (r ∷ ranges) value (inl here) f = inl (f r here.0)
  found_some (r ∷ ranges) value (inr later) f = inr (found_some ranges value later.1 f)

pub finds_numbers : FindsNumbers
finds_numbers name title body low high u v small =
    let utf8 : All IsUtf8 (words title ++ words body) = All-append IsUtf8 (words title) (words body) (words_text title u) (words_text body v) in
    let cover = is_cover low high (cover_of low high) small (cover_covers low high small) in (
      λ h. some_found name title body low high utf8 (cover_of low high) cover.within h,
      λ (k, word, below, is, number). found_some name title body low high utf8 (cover_of low high) number.number
          (cover.once number.number number.from number.to)
          (λ r shares. found_one name title body low high utf8 k word number.number r below is number.spelled shares),
    )
