-- The folded words of a cell, compared with those that were seen.
use Rattle.std.proofs.Common.{◌≡◌, ℕ, ◌≤◌, List, [], ◌∷◌, ◌++◌, length, map, Bool, true, false, refl, sym, ap, subst, ◌∙◌, arith}
use Rattle.std.specs.Prelude.{◌&&◌, ◌||◌, not, nat_eq, nat_lt, if◌then◌else◌, Option}
use Rattle.std.specs.List.{All, list_any, starts_with}
use Rattle.std.specs.Str.{bytes_eq}
use Rattle.std.proofs.lemmas.Bool.{and_from, eqb-true, eq-eqb, false≢true, or_left}
use Rattle.std.proofs.lemmas.List.Elements.{All-nil, All-cons, All-head, All-append, filter_passes}
use Rattle.alta_machine.specs.Cells.{cell_holds, cell_begins, numbered, word_cell, cells_of}
use Rattle.alta_machine.specs.declared.kinds.TheConstants.{WORD, WRITTEN, NAME, START, TITLE_END, DOCUMENT_END, WORD_LIMIT}
use Rattle.alta_machine.proofs.Ranges.{numbered_all}
use Rattle.alta_machine.specs.Numbers.{number_in}
use Rattle.alta_text.specs.Words.{words_of}
use Rattle.alta_machine.specs.DumpLines.{are_same}
use Rattle.alta_machine.specs.Plain.{is_kind, of_kind}
use Rattle.alta_dump.specs.Seen.{HasFewFoldings}
use Rattle.alta_dump.proofs.OfKind.{holds_among, begins_among, none_of_kind}

-- ---- the cells of a line

either : {X : Type 0} (P : X → Type 0) (c : Bool) (x y : X) → P x → P y → P (if c then x else y)
either P true x y first second = first
either P false x y first second = second

-- the range terms of a number are of another kind
folding_is_one : (folded : List ℕ) (number : Option ℕ) → HasFewFoldings ((WORD ∷ folded) ∷ numbered number)
folding_is_one folded number =
    let none : of_kind WORD (numbered number) ≡ [] = none_of_kind WORD (numbered number) (numbered_all (λ term. is_kind WORD term ≡ false) (λ level prefix. refl) number) in
    omega (arith, ap length none)

word_has_few : (word : List ℕ × List ℕ) → HasFewFoldings (word_cell word)
word_has_few (written, folded) =
    either HasFewFoldings (nat_lt WORD_LIMIT (length written) || nat_lt WORD_LIMIT (length folded)) [] _ (omega arith)
    (either HasFewFoldings (bytes_eq written folded) ((WORD ∷ folded) ∷ numbered (number_in written)) ((WORD ∷ folded) ∷ (WRITTEN ∷ written) ∷ []) (folding_is_one folded (number_in written)) (omega arith))

words_have_few : (words : List (List ℕ × List ℕ)) → All HasFewFoldings (map word_cell words)
words_have_few [] = All-nil HasFewFoldings
words_have_few (word ∷ words) = All-cons HasFewFoldings (word_cell word) (map word_cell words) (word_has_few word) (words_have_few words)

pub cells_have_few : (name title body : List ℕ) → All HasFewFoldings (cells_of name title body)
cells_have_few name title body =
    All-append HasFewFoldings (((NAME ∷ name) ∷ (START ∷ []) ∷ []) ∷ map word_cell (words_of title) ++ ((TITLE_END ∷ []) ∷ []) ∷ map word_cell (words_of body)) (((DOCUMENT_END ∷ []) ∷ []) ∷ [])
    (All-append HasFewFoldings (((NAME ∷ name) ∷ (START ∷ []) ∷ []) ∷ map word_cell (words_of title)) (((TITLE_END ∷ []) ∷ []) ∷ map word_cell (words_of body))
    (All-cons HasFewFoldings ((NAME ∷ name) ∷ (START ∷ []) ∷ []) (map word_cell (words_of title)) (omega arith) (words_have_few (words_of title)))
    (All-cons HasFewFoldings ((TITLE_END ∷ []) ∷ []) (map word_cell (words_of body)) (omega arith) (words_have_few (words_of body))))
    (All-cons HasFewFoldings ((DOCUMENT_END ∷ []) ∷ []) [] (omega arith) (All-nil HasFewFoldings))

-- ---- a cell that has none, or one

pub begins_kind : (kind : ℕ) (term : List ℕ) → is_kind kind term ≡ true → starts_with nat_eq term (kind ∷ []) ≡ true
begins_kind kind [] is = absurd (false≢true is)
begins_kind kind (byte ∷ rest) is = and_from (nat_eq kind byte) true (eq-eqb kind byte (sym (eqb-true byte kind is))) refl

none_begin : (kind : ℕ) (foldings : List (List ℕ)) → All (λ term. is_kind kind term ≡ true) foldings
    → not (list_any (λ held. starts_with nat_eq held (kind ∷ [])) foldings) ≡ are_same foldings []
none_begin kind [] all = refl
none_begin kind (term ∷ terms) all =
    ap not (or_left (starts_with nat_eq term (kind ∷ [])) (list_any (λ held. starts_with nat_eq held (kind ∷ [])) terms) (begins_kind kind term (All-head (λ t. is_kind kind t ≡ true) term terms all)))

pub none_folded : (kind : ℕ) (cell : List (List ℕ)) → not (cell_begins (kind ∷ []) cell) ≡ are_same (of_kind kind cell) []
none_folded kind cell = ap not (begins_among kind [] cell) ∙ none_begin kind (of_kind kind cell) (filter_passes (is_kind kind) cell)

one_same : (term : List ℕ) (foldings : List (List ℕ)) → length foldings ≤ 1 → list_any (λ held. bytes_eq held term) foldings ≡ are_same foldings (term ∷ [])
one_same term [] few = refl
one_same term (only ∷ []) few = both (bytes_eq only term)
  where
    both : (b : Bool) → (b || false) ≡ (b && true)
    both true = refl
    both false = refl
one_same term (first ∷ next ∷ more) few = absurd (omega (arith, few))

holds_one : (kind : ℕ) (term : List ℕ) (cell : List (List ℕ)) → is_kind kind term ≡ true → length (of_kind kind cell) ≤ 1 → cell_holds term cell ≡ are_same (of_kind kind cell) (term ∷ [])
holds_one kind [] cell is few = absurd (false≢true is)
holds_one kind (byte ∷ rest) cell is few =
    subst (λ (k : ℕ). cell_holds (k ∷ rest) cell ≡ are_same (of_kind kind cell) ((k ∷ rest) ∷ [])) (sym (eqb-true byte kind is))
    (holds_among kind rest cell ∙ one_same (kind ∷ rest) (of_kind kind cell) few)

first_is : (kind : ℕ) (term : List ℕ) (cell : List (List ℕ)) → of_kind kind cell ≡ term ∷ [] → is_kind kind term ≡ true
first_is kind term cell e =
    All-head (λ t. is_kind kind t ≡ true) term [] (subst (All (λ t. is_kind kind t ≡ true)) e (filter_passes (is_kind kind) cell))

pub one_folded : (term : List ℕ) (cell seen : List (List ℕ)) → HasFewFoldings cell → of_kind WORD seen ≡ term ∷ [] → cell_holds term cell ≡ are_same (of_kind WORD cell) (of_kind WORD seen)
one_folded term cell seen few e = holds_one WORD term cell (first_is WORD term seen e) few ∙ ap (are_same (of_kind WORD cell)) (sym e)

pub two_folded : (foldings seen : List (List ℕ)) → length foldings ≤ 1 → 2 ≤ length seen → false ≡ are_same foldings seen
two_folded foldings [] few many = absurd (omega (arith, many))
two_folded [] (s ∷ seen) few many = refl
two_folded (f ∷ []) (s ∷ []) few many = absurd (omega (arith, many))
two_folded (f ∷ []) (s ∷ t ∷ seen) few many = sym (no (bytes_eq f s))
  where
    no : (b : Bool) → (b && false) ≡ false
    no true = refl
    no false = refl
two_folded (f ∷ g ∷ foldings) (s ∷ seen) few many = absurd (omega (arith, few))
