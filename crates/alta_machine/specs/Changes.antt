-- What commands do to a state.
use Rattle.std.specs.Prelude.{ℕ, ◌+◌, ◌-◌, ◌==◌, Bool, not, ◌&&◌, List, [], ◌∷◌, ◌++◌, length, Option, option_map}
use Rattle.std.specs.List.{list_any, find, filter, sum_by}
use Rattle.std.specs.Str.{bytes_eq}
use Rattle.alta_machine.specs.Cells.{cells_of}
use Rattle.alta_machine.specs.declared.document.Document.{Document}
use Rattle.alta_machine.specs.declared.document.State.{State}

-- a live document has this name
abbrev pub has_name : List ℕ → State → Bool
has_name name s = list_any (λ (d : Document). bytes_eq name d.name) s.documents

-- one of these documents has this number
abbrev pub has_number_in : ℕ → List Document → Bool
has_number_in number documents = list_any (λ (d : Document). d.number == number) documents

-- a live document has this number
abbrev pub has_number : ℕ → State → Bool
has_number number s = has_number_in number s.documents

-- a live document has this name and this number
abbrev pub has_named : List ℕ → ℕ → State → Bool
has_named name number s = list_any (λ (d : Document). bytes_eq name d.name && d.number == number) s.documents

-- the number of the live document with this name
abbrev pub number_of : List ℕ → State → Option ℕ
number_of name s = option_map (λ (d : Document). d.number) (find (λ (d : Document). bytes_eq name d.name) s.documents)

-- the words of a document: a cell each, beside those of the name, the title's end and the document's end
abbrev pub word_count : Document → ℕ
word_count document = length document.cells - 3

-- the words of all live documents
abbrev pub words_in : State → ℕ
words_in s = sum_by word_count s.documents

-- one document more, with the next number
abbrev pub with_added : List ℕ → List ℕ → List ℕ → State → State
with_added name title body s = record {
  next = s.next + 1;
  documents = s.documents ++ record { number = s.next; name = name; cells = cells_of name title body } ∷ [];
}

-- the document with this name is left out
abbrev pub with_deleted : List ℕ → State → State
with_deleted name s = record {
  next = s.next;
  documents = filter (λ (d : Document). not (bytes_eq name d.name)) s.documents;
}

-- the document with this name is left out, and then one more is added under the name
abbrev pub with_replaced : List ℕ → List ℕ → List ℕ → State → State
with_replaced name title body s = with_added name title body (with_deleted name s)

-- the document with this number is left out
abbrev pub without : ℕ → State → State
without number s = record {
  next = s.next;
  documents = filter (λ (d : Document). not (d.number == number)) s.documents;
}
