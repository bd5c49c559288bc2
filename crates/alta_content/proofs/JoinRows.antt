-- Joins worked out on small contents.
use Rattle.std.proofs.Common.{◌≡◌, ℕ, List, [], ◌∷◌, refl}
use Rattle.alta_content.specs.declared.document.DocRow.{DocRow}
use Rattle.alta_content.specs.declared.content.Content.{Content}
use Rattle.alta_content.specs.TermList.{TermList}
use Rattle.alta_content.specs.Joining.{joined, joined_in, terms_in}

abbrev end_term : List ℕ
end_term = 68 ∷ []

-- words of one letter
abbrev word : ℕ → List ℕ
word letter = 87 ∷ letter ∷ []

abbrev list_of : List ℕ → List ℕ → TermList
list_of term locations = record { term = term; locations = locations }

-- documents of two cells, the second of which is the end
abbrev row : ℕ → ℕ → DocRow
row number first = record { number = number; first = first; cells = 2; name = number ∷ [] }

-- the document numbered 1 at 1 and 2, with the word x; 2 at 3 and 4, with the words x and y at one place; and 4 at 7 and 8, with the word a
abbrev one : Content
one = record { documents = row 1 1 ∷ []; lists = list_of end_term (2 ∷ []) ∷ list_of (word 120) (1 ∷ []) ∷ [] }

abbrev two : Content
two = record { documents = row 2 3 ∷ []; lists = list_of end_term (4 ∷ []) ∷ list_of (word 120) (3 ∷ []) ∷ list_of (word 121) (3 ∷ []) ∷ [] }

abbrev four : Content
four = record { documents = row 4 7 ∷ []; lists = list_of end_term (8 ∷ []) ∷ list_of (word 97) (7 ∷ []) ∷ [] }

abbrev none : Content
none = record { documents = []; lists = [] }

-- a join has the rows and the locations of both
join_of_live : joined one two []
    ≡ record {
      documents = row 1 1 ∷ row 2 3 ∷ [];
      lists = list_of end_term (2 ∷ 4 ∷ []) ∷ list_of (word 120) (1 ∷ 3 ∷ []) ∷ list_of (word 121) (3 ∷ []) ∷ [];
    }
join_of_live = refl

-- terms of a later content stand in their place
join_of_three : joined_in (one ∷ two ∷ four ∷ []) (4 ∷ [])
    ≡ record {
      documents = row 1 1 ∷ row 4 7 ∷ [];
      lists = list_of end_term (2 ∷ 8 ∷ []) ∷ list_of (word 97) (7 ∷ []) ∷ list_of (word 120) (1 ∷ []) ∷ [];
    }
join_of_three = refl

-- a row that is dead is dropped with its locations, and so is a term that keeps none, which still counts as one to merge
join_without_second : joined one two (9 ∷ 4 ∷ []) ≡ one
join_without_second = refl

terms_of_both : terms_in (one ∷ two ∷ []) ≡ end_term ∷ word 120 ∷ word 121 ∷ []
terms_of_both = refl

join_without_first : joined one two (2 ∷ []) ≡ two
join_without_first = refl

-- where no row is left there is no term
join_of_dead : joined one two (2 ∷ 4 ∷ []) ≡ none
join_of_dead = refl

-- an empty content adds nothing
join_of_empty : joined none two [] ≡ two
join_of_empty = refl
