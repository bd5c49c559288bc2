-- A document that was added has its own name as the only name among its terms.
use Rattle.std.proofs.Common.{◌≡◌, ℕ, zero, suc, List, [], ◌∷◌, ◌++◌, get_or, drop, map, Bool, true, false, refl, sym, ◌∙◌}
use Rattle.std.specs.Prelude.{◌||◌, nat_lt, length, if◌then◌else◌, Option}
use Rattle.std.specs.List.{All}
use Rattle.std.specs.Str.{bytes_eq}
use Rattle.std.proofs.lemmas.List.Elements.{All-nil, All-cons, All-head, All-tail, All-append}
use Rattle.alta_machine.specs.Cells.{numbered, word_cell, cells_of}
use Rattle.alta_machine.specs.declared.kinds.TheConstants.{WORD, WRITTEN, NAME, TITLE_END, DOCUMENT_END, WORD_LIMIT}
use Rattle.alta_machine.proofs.Ranges.{numbered_all}
use Rattle.alta_machine.specs.Numbers.{number_in}
use Rattle.alta_text.specs.Words.{words_of}
use Rattle.alta_dump.specs.Names.{HasItsName}
use Rattle.alta_machine.specs.Plain.{is_kind, of_kind}
use Rattle.alta_dump.proofs.OfKind.{none_of_kind}

abbrev NoName : List (List ℕ) → Type 0
NoName cell = of_kind NAME cell ≡ []

either : {X : Type 0} (P : X → Type 0) (c : Bool) (x y : X) → P x → P y → P (if c then x else y)
either P true x y first second = first
either P false x y first second = second

folding_has_none : (folded : List ℕ) (number : Option ℕ) → NoName ((WORD ∷ folded) ∷ numbered number)
folding_has_none folded number = none_of_kind NAME (numbered number) (numbered_all (λ term. is_kind NAME term ≡ false) (λ level prefix. refl) number)

word_has_none : (word : List ℕ × List ℕ) → NoName (word_cell word)
word_has_none (written, folded) =
    either NoName (nat_lt WORD_LIMIT (length written) || nat_lt WORD_LIMIT (length folded)) [] _ refl
    (either NoName (bytes_eq written folded) ((WORD ∷ folded) ∷ numbered (number_in written)) ((WORD ∷ folded) ∷ (WRITTEN ∷ written) ∷ []) (folding_has_none folded (number_in written)) refl)

words_have_none : (words : List (List ℕ × List ℕ)) → All NoName (map word_cell words)
words_have_none [] = All-nil NoName
words_have_none (word ∷ words) = All-cons NoName (word_cell word) (map word_cell words) (word_has_none word) (words_have_none words)

pub added_has_its_name : (number : ℕ) (name title body : List ℕ) → HasItsName (record { number = number; name = name; cells = cells_of name title body })
added_has_its_name number name title body = record {
  first = refl;
  others =
      All-append NoName (map word_cell (words_of title) ++ ((TITLE_END ∷ []) ∷ []) ∷ map word_cell (words_of body)) (((DOCUMENT_END ∷ []) ∷ []) ∷ [])
      (All-append NoName (map word_cell (words_of title)) (((TITLE_END ∷ []) ∷ []) ∷ map word_cell (words_of body)) (words_have_none (words_of title))
      (All-cons NoName ((TITLE_END ∷ []) ∷ []) (map word_cell (words_of body)) refl (words_have_none (words_of body))))
      (All-cons NoName ((DOCUMENT_END ∷ []) ∷ []) [] refl (All-nil NoName));
}

none_at : (cells : List (List (List ℕ))) → All NoName cells → (place : ℕ) → NoName (get_or cells place [])
none_at [] none place = refl
none_at (cell ∷ cells) none zero = All-head NoName cell cells none
none_at (cell ∷ cells) none (suc place) = none_at cells (All-tail NoName cell cells none) place

-- the names at a place
abbrev names_at : List ℕ → ℕ → List (List ℕ)
names_at name zero = (NAME ∷ name) ∷ []
names_at name (suc place) = []

are_names : (name : List ℕ) (cells : List (List (List ℕ))) → of_kind NAME (get_or cells 0 []) ≡ (NAME ∷ name) ∷ [] → All NoName (drop 1 cells)
    → (place : ℕ) → of_kind NAME (get_or cells place []) ≡ names_at name place
are_names name cells first others zero = first
are_names name [] first others (suc place) = refl
are_names name (cell ∷ cells) first others (suc place) = none_at cells others place

-- cells of two documents of one name that have it alone
pub same_names : (name : List ℕ) (xs ys : List (List (List ℕ))) → of_kind NAME (get_or xs 0 []) ≡ (NAME ∷ name) ∷ [] → All NoName (drop 1 xs)
    → of_kind NAME (get_or ys 0 []) ≡ (NAME ∷ name) ∷ [] → All NoName (drop 1 ys) → (place : ℕ) → of_kind NAME (get_or xs place []) ≡ of_kind NAME (get_or ys place [])
same_names name xs ys a b c d place = are_names name xs a b place ∙ sym (are_names name ys c d place)
