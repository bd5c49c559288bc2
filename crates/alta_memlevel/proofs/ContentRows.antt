-- Contents of small documents, worked out.
use Rattle.std.proofs.Common.{◌≡◌, ℕ, List, [], ◌∷◌, length, refl}
use Rattle.alta_content.specs.declared.content.Content.{Content}
use Rattle.alta_content.specs.TermList.{TermList}
use Rattle.alta_memlevel.specs.Added.{Added, live_of}
use Rattle.alta_content.specs.Cells.{cell_at}
use Rattle.alta_content.specs.Joining.{joined_in}
use Rattle.alta_memlevel.specs.Documents.{content_of}

abbrev end_term : List ℕ
end_term = 68 ∷ []

-- words of one letter
abbrev word : ℕ → List ℕ
word letter = 87 ∷ letter ∷ []

abbrev list_of : List ℕ → List ℕ → TermList
list_of term locations = record { term = term; locations = locations }

abbrev added_at : ℕ → ℕ → List ℕ → List (List (List ℕ)) → Added
added_at number location name cells = record {
  row = record { number = number; first = location; cells = length cells; name = name };
  cells = cells;
}

-- the document numbered 1 at 1 to 3: x, then x and y at one place, and the end; and 3 at 7 and 8: a word that is too long, and the end
abbrev first : Added
first = added_at 1 1 (97 ∷ []) ((word 120 ∷ []) ∷ (word 120 ∷ word 121 ∷ []) ∷ (end_term ∷ []) ∷ [])

abbrev second : Added
second = added_at 3 7 (98 ∷ []) ([] ∷ (end_term ∷ []) ∷ [])

abbrev both : Content
both = content_of (first ∷ second ∷ [])

-- each term once, in order, with all its locations; the row of the second stands behind a gap
lists_of_both : both.lists ≡ list_of end_term (3 ∷ 8 ∷ []) ∷ list_of (word 120) (1 ∷ 2 ∷ []) ∷ list_of (word 121) (2 ∷ []) ∷ []
lists_of_both = refl

rows_of_both : both.documents ≡ first.row ∷ second.row ∷ []
rows_of_both = refl

-- a cell with two terms, one with none, and none at the gap
two_terms_back : cell_at both.lists 2 ≡ word 120 ∷ word 121 ∷ []
two_terms_back = refl

no_terms_back : cell_at both.lists 7 ≡ []
no_terms_back = refl

-- the first is left out
left_out : content_of (live_of (3 ∷ []) (first ∷ second ∷ [])) ≡ joined_in (both ∷ []) (3 ∷ [])
left_out = refl

lists_left : (content_of (live_of (3 ∷ []) (first ∷ second ∷ []))).lists ≡ list_of end_term (8 ∷ []) ∷ []
lists_left = refl
