-- What walks over the lists saw of the cells of a document, and the words that it makes.
use Rattle.std.specs.Prelude.{◌≡◌, ℕ, ◌+◌, ◌<◌, ◌≤◌, Bool, true, false, nat_eq, List, [], ◌∷◌, length, get_or, map}
use Rattle.std.specs.List.{join_with_byte, position_or_len}
use Rattle.std.specs.Str.{is_utf8}
use Rattle.alta_codec.specs.Name.{IsName}
use Rattle.alta_content.specs.Cells.{locations_from}
use Rattle.alta_gather.specs.declared.held.Held.{Held}
use Rattle.alta_gather.specs.declared.held.Held.TheVariants.{Never, Once, Often}
use Rattle.alta_memlevel.specs.Added.{Added}
use Rattle.alta_machine.specs.declared.document.Document.{Document}
use Rattle.alta_machine.specs.declared.kinds.TheConstants.{WORD}
use Rattle.alta_search.specs.declared.lists.TermLists.{TermLists}
use Rattle.alta_machine.specs.DumpLines.{too_long}
use Rattle.alta_machine.specs.Plain.{of_kind, rest_of, ends_title, ends_document, is_plain}

-- the terms, each with an index
abbrev pub terms_of : List TermLists → List (List ℕ)
terms_of terms = map (λ (t : TermLists). t.term) terms

-- a list has the place
abbrev pub is_held : Held → Bool
is_held Never = false
is_held (Once index) = true
is_held Often = true

-- the folded words of a cell, where the list of each term has the term's index
abbrev pub AreFoldings : List (List ℕ) → Held → List (List ℕ) → Type 0
AreFoldings terms Never foldings = foldings ≡ []
AreFoldings terms (Once index) foldings = (index < length terms) × (foldings ≡ get_or terms index [] ∷ [])
AreFoldings terms Often foldings = 2 ≤ length foldings

abbrev pub AreFolded : List (List ℕ) → List Held → List (List (List ℕ)) → Type 0
AreFolded terms [] [] = Unit {0}
AreFolded terms [] (cell ∷ cells) = ⊥
AreFolded terms (held ∷ words) [] = ⊥
AreFolded terms (held ∷ words) (cell ∷ cells) = AreFoldings terms held (of_kind WORD cell) × AreFolded terms words cells

-- exactly the last of these cells ends a document
abbrev pub EndAtLast : List (List (List ℕ)) → Type 0
EndAtLast cells = (place : ℕ) → place < length cells → ends_document (get_or cells place [])
    ≡ nat_eq (place + 1) (length cells)

-- These are the cells: their folded words, and where titles end; the document ends at the last.
pub record AreSeen (terms : List (List ℕ)) (words titles : List Held) (cells : List (List (List ℕ))) : Type 0 where
  pub folded : AreFolded terms words cells
  pub title_ends : map is_held titles ≡ map ends_title cells
  pub document_end : EndAtLast cells

-- the word of a cell that was seen so
abbrev pub word_at : List (List ℕ) → Held → List ℕ
word_at terms Never = too_long
word_at terms (Once index) = rest_of (get_or terms index [])
word_at terms Often = []

-- it is one word at most, and text
abbrev pub is_word : List (List ℕ) → Held → Bool
is_word terms Never = true
is_word terms (Once index) = is_utf8 (rest_of (get_or terms index []))
is_word terms Often = false

-- the words of cells, with a space between each two
abbrev pub text_seen : List (List ℕ) → List Held → List ℕ
text_seen terms words = join_with_byte 32 (map (word_at terms) words)

-- the title ends at this place first, neither at the first cell nor at the last
pub record IsTitlePlace (place : ℕ) (cells : List (List (List ℕ))) : Type 0 where
  pub position : position_or_len ends_title cells ≡ place
  pub behind_first : 0 < place
  pub before_last : place + 1 < length cells

-- the cell has one folded word at most
abbrev pub HasFewFoldings : List (List ℕ) → Type 0
HasFewFoldings cell = length (of_kind WORD cell) ≤ 1

-- the document is plain and of this name, and its cells were seen so
pub record IsRebuiltFrom (terms : List (List ℕ)) (own : List ℕ) (words titles : List Held) (d : Document) : Type 0 where
  pub is : d.name ≡ own
  pub named : IsName d.name
  pub seen : AreSeen terms words titles d.cells
  pub plain : is_plain d.cells ≡ true

-- The document has a name, and these functions tell what was seen at the places of its cells.
pub record IsRowSeen (terms : List (List ℕ)) (words titles : ℕ → Held) (a : Added) : Type 0 where
  pub named : IsName a.row.name
  pub seen : AreSeen terms (map words (locations_from a.row.first a.row.cells))
      (map titles (locations_from a.row.first a.row.cells)) a.cells
