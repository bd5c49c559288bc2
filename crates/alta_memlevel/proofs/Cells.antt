-- The cells of a document: their terms rise, keep the rules of terms, and only the last one has the term of the end.
use Rattle.std.proofs.Common.{◌≡◌, ⊎_elim, ℕ, ◌+◌, ◌-◌, ◌≤◌, false, ◌||◌, cond, IsTrue, List, [], ◌∷◌, ◌++◌, length, map, get_or, refl, sym, ap, subst, ◌∙◌, arith, append_assoc, length-append, lit≤, Option}
use Rattle.std.specs.Prelude.{nat_lt, if◌then◌else◌, slice_index, IsUtf8}
use Rattle.std.specs.Int.{w32, to_be_bytes}
use Rattle.std.specs.List.{All, AllByRecursion}
use Rattle.std.specs.List.Sorted.{IsStrictlySortedBy}
use Rattle.std.specs.Str.{bytes_eq}
use Rattle.std.proofs.lemmas.Bool.{cases_Bool, or_parts, ltb-false}
use Rattle.std.proofs.lemmas.List.{length-map}
use Rattle.std.proofs.lemmas.List.Elements.{All-append, All-cons, All-head, All-map, All-push, All-tail}
use Rattle.unicode_segmentation.specs.Segments.{has_alphanumeric}
use Rattle.unicode_segmentation.specs.Word.{is_word_break, word_bounds, words}
use Rattle.unicode_segmentation.proofs.SegmentsLemmas.{length-filter-le, length-segments}
use Rattle.alta_codec.specs.Name.{IsName}
use Rattle.alta_codec.specs.Order.{Precedes}
use Rattle.alta_content.specs.Lists.{end_term, is_kind}
use Rattle.alta_text.specs.Words.{folded_of, words_of}
use Rattle.alta_memlevel.specs.Added.{places_of}
use Rattle.alta_machine.specs.Cells.{cell_holds, cells_of, numbered, word_cell}
use Rattle.alta_machine.proofs.Ranges.{numbered_all, numbered_none, numbered_sorted}
use Rattle.alta_machine.specs.Numbers.{number_in}
use Rattle.alta_content.proofs.Order.{Sorted}

-- a term of a level: not empty, of a kind, and at most 129 bytes
abbrev pub IsTerm : List ℕ → Type 0
IsTerm t = Precedes [] t × IsTrue (is_kind (slice_index t 0)) × (length t ≤ 129)

-- a cell of terms that rise
pub record IsGood (cell : List (List ℕ)) : Type 0 where
  pub sorted : Sorted cell
  pub terms : AllByRecursion IsTerm cell

-- ---- the cell of a word

-- what holds of no term, of the folding with the range terms of a number or of none, and of the folding and the spelling, holds of
-- a word's cell
word_case : (P : List (List ℕ) → Type 0) (w : List ℕ × List ℕ) → P []
    → (length w.0 ≤ 128 → length w.1 ≤ 128 → P ((87 ∷ w.1) ∷ numbered (number_in w.0)))
    → (length w.0 ≤ 128 → length w.1 ≤ 128 → P ((87 ∷ w.1) ∷ (88 ∷ w.0) ∷ []))
    → P (word_cell w)
word_case P w none one two =
    let long = nat_lt 128 (length w.0) || nat_lt 128 (length w.1) in
    let same = bytes_eq w.0 w.1 in
    ⊎_elim
    (λ y. subst (λ b. P (if b then [] else (if same then (87 ∷ w.1) ∷ numbered (number_in w.0) else (87 ∷ w.1) ∷ (88 ∷ w.0) ∷ []))) (sym y) none)
    (λ n.
    let p = or_parts (nat_lt 128 (length w.0)) (nat_lt 128 (length w.1)) n in
    let a : length w.0 ≤ 128 = omega (arith, ltb-false 128 (length w.0) p.0) in
    let b : length w.1 ≤ 128 = omega (arith, ltb-false 128 (length w.1) p.1) in
    subst (λ b. P (if b then [] else (if same then (87 ∷ w.1) ∷ numbered (number_in w.0) else (87 ∷ w.1) ∷ (88 ∷ w.0) ∷ []))) (sym n)
    (⊎_elim
    (λ e. subst (λ b. P (if b then (87 ∷ w.1) ∷ numbered (number_in w.0) else (87 ∷ w.1) ∷ (88 ∷ w.0) ∷ [])) (sym e) (one a b))
    (λ e. subst (λ b. P (if b then (87 ∷ w.1) ∷ numbered (number_in w.0) else (87 ∷ w.1) ∷ (88 ∷ w.0) ∷ [])) (sym e) (two a b))
    (cases_Bool same)))
    (cases_Bool long)

-- cells of one term, of two that rise, and of none
none_good : IsGood []
unfolding IsStrictlySortedBy
none_good = record { sorted = tt; terms = tt }

one_good : (t : List ℕ) → IsTerm t → IsGood (t ∷ [])
unfolding IsStrictlySortedBy
one_good t h = record { sorted = (tt, tt); terms = (h, tt) }

two_good : (t u : List ℕ) → IsTerm t → IsTerm u → Precedes t u → IsGood (t ∷ u ∷ [])
unfolding IsStrictlySortedBy
two_good t u h k p = record { sorted = ((p, tt), (tt, tt)); terms = (h, (k, tt)) }

-- a range's term
range_good : (level prefix : ℕ) → IsTerm (88 ∷ 255 ∷ level ∷ to_be_bytes w32 prefix)
range_good level prefix = (refl, refl, lit≤ tt)

folding_good : (folded : List ℕ) (number : Option ℕ) → length folded ≤ 128 → IsGood ((87 ∷ folded) ∷ numbered number)
folding_good folded number short =
    record { sorted = numbered_sorted folded number; terms = ((refl, refl, omega (arith, short)), numbered_all IsTerm range_good number) }

word_good : (w : List ℕ × List ℕ) → IsGood (word_cell w)
word_good w =
    word_case IsGood w none_good
    (λ a b. folding_good w.1 (number_in w.0) b)
    (λ a b. two_good (87 ∷ w.1) (88 ∷ w.0) (refl, refl, omega (arith, b)) (refl, refl, omega (arith, a)) refl)

words_good : (ws : List (List ℕ × List ℕ)) → All IsGood (map word_cell ws)
words_good ws = All-map IsGood word_cell ws (λ k d l. word_good (get_or ws k d))

-- ---- all cells

abbrev pub before_end : List ℕ → List ℕ → List ℕ → List (List (List ℕ))
before_end name title body = ((78 ∷ name) ∷ (83 ∷ []) ∷ []) ∷ map word_cell (words_of title) ++ ((84 ∷ []) ∷ []) ∷ map word_cell (words_of body)

abbrev pub end_cell : List (List ℕ)
end_cell = (68 ∷ []) ∷ []

pub cells_good : (name title body : List ℕ) → IsName name → All IsGood (cells_of name title body)
cells_good name title body n =
    let name_term : IsTerm (78 ∷ name) = (refl, refl, omega (arith, n.1)) in
    let name_cell = (78 ∷ name) ∷ (83 ∷ []) ∷ [] in
    let title_cells = map word_cell (words_of title) in
    let title_end = (84 ∷ []) ∷ [] in
    let body_cells = map word_cell (words_of body) in
    All-push IsGood (before_end name title body) end_cell
    (All-append IsGood (name_cell ∷ title_cells) (title_end ∷ body_cells)
    (All-cons IsGood name_cell title_cells (two_good (78 ∷ name) (83 ∷ []) name_term (refl, refl, lit≤ tt) refl) (words_good (words_of title)))
    (All-cons IsGood title_end body_cells (one_good (84 ∷ []) (refl, refl, lit≤ tt)) (words_good (words_of body))))
    (one_good (68 ∷ []) (refl, refl, lit≤ tt))

-- ---- how many

pub cells_long : (name title body : List ℕ) → length (cells_of name title body) ≡ 3 + length (words_of title) + length (words_of body)
cells_long name title body =
    let first = ((78 ∷ name) ∷ (83 ∷ []) ∷ []) ∷ map word_cell (words_of title) in
    let second = ((84 ∷ []) ∷ []) ∷ map word_cell (words_of body) in
    omega (arith, length-append (first ++ second) (end_cell ∷ []), length-append first second, length-map (words_of title) word_cell, length-map (words_of body) word_cell)

-- a text has no more words than bytes
few_words : (text : List ℕ) → IsUtf8 text → length (words_of text) ≤ length text
few_words text u =
    omega (arith, length-map {B = List ℕ × List ℕ} (words text) (λ (written : List ℕ). (written, folded_of written)), length-filter-le has_alphanumeric (word_bounds text), length-segments is_word_break text u)

pub cells_few : (name title body : List ℕ) → IsUtf8 title → IsUtf8 body → length (cells_of name title body) ≤ length title + length body + 3
cells_few name title body t b = omega (arith, cells_long name title body, few_words title t, few_words body b)

-- ---- the end

places_none : (first : ℕ) (t : List ℕ) (cells : List (List (List ℕ))) → All (λ c. cell_holds t c ≡ false) cells → places_of first t cells ≡ []
places_none first t [] h = refl
places_none first t (c ∷ cs) h =
    let P : List (List ℕ) → Type 0 = λ c. cell_holds t c ≡ false in
    ap (λ b. cond b (first ∷ []) [] ++ places_of (first + 1) t cs) (All-head P c cs h) ∙ places_none (first + 1) t cs (All-tail P c cs h)

places_append : (first : ℕ) (t : List ℕ) (xs ys : List (List (List ℕ))) → places_of first t (xs ++ ys) ≡ places_of first t xs ++ places_of (first + length xs) t ys
places_append first t [] ys = ap (λ n. places_of n t ys) (omega arith)
places_append first t (c ∷ cs) ys =
    let own = cond (cell_holds t c) (first ∷ []) [] in
    let later = places_of (first + 1) t cs in
    let same : first + 1 + length cs ≡ first + length (c ∷ cs) = omega arith in
    ap (λ l. own ++ l) (places_append (first + 1) t cs ys ∙ ap (λ n. later ++ places_of n t ys) same)
    ∙ sym (append_assoc own later (places_of (first + length (c ∷ cs)) t ys))

abbrev NoEnd : List (List ℕ) → Type 0
NoEnd cell = cell_holds end_term cell ≡ false

range_no_end : (level prefix : ℕ) → bytes_eq (88 ∷ 255 ∷ level ∷ to_be_bytes w32 prefix) end_term ≡ false
range_no_end level prefix = refl

words_no_end : (ws : List (List ℕ × List ℕ)) → All NoEnd (map word_cell ws)
words_no_end ws = All-map NoEnd word_cell ws (λ k d l. word_case NoEnd (get_or ws k d) refl (λ a b. numbered_none (λ held. bytes_eq held end_term) range_no_end (number_in (get_or ws k d).0)) (λ a b. refl))

no_end : (name title body : List ℕ) → All NoEnd (before_end name title body)
no_end name title body =
    let name_cell = (78 ∷ name) ∷ (83 ∷ []) ∷ [] in
    let title_end = (84 ∷ []) ∷ [] in
    All-append NoEnd (name_cell ∷ map word_cell (words_of title)) (title_end ∷ map word_cell (words_of body))
    (All-cons NoEnd name_cell (map word_cell (words_of title)) refl (words_no_end (words_of title)))
    (All-cons NoEnd title_end (map word_cell (words_of body)) refl (words_no_end (words_of body)))

-- the term of the end stands in the last cell alone
pub end_places : (first : ℕ) (name title body : List ℕ) → places_of first end_term (cells_of name title body) ≡ (first + length (cells_of name title body) - 1) ∷ []
end_places first name title body =
    let front = before_end name title body in
    places_append first end_term front (end_cell ∷ [])
    ∙ ap (λ l. l ++ places_of (first + length front) end_term (end_cell ∷ [])) (places_none first end_term front (no_end name title body))
    ∙ ap (λ n. n ∷ []) (omega (arith, length-append front (end_cell ∷ [])))
