-- The line that adds a document's words again.
use Rattle.std.specs.Prelude.{◌≡◌, ℕ, ◌-◌, ◌≤◌, Bool, true, false, not, ◌&&◌, nat_le, if◌then◌else◌, List, [], ◌∷◌, length, map, take, drop, replicate, Option, Some, None}
use Rattle.std.specs.List.{before_first, after_first, join_with_byte}
use Rattle.std.specs.Str.{bytes_eq}
use Rattle.alta_codec.specs.Bytes.{has_byte}
use Rattle.alta_machine.specs.Cells.{cells_of}
use Rattle.alta_machine.specs.declared.document.Document.{Document}
use Rattle.alta_machine.specs.declared.kinds.TheConstants.{WORD}
use Rattle.alta_machine.specs.Command.{adds, spelled}
use Rattle.alta_machine.specs.Plain.{of_kind, rest_of, ends_title, ends_document, IsPlain, is_plain}
use Rattle.alta_machine.specs.declared.line.TheConstants.{LINE_LIMIT}

-- a word that is too long for a cell
abbrev pub too_long : List ℕ
too_long = replicate 129 120

-- the first of the folded words, and one that is too long where there is none
abbrev pub word_among : List (List ℕ) → List ℕ
word_among [] = too_long
word_among (term ∷ terms) = rest_of term

abbrev pub word_in : List (List ℕ) → List ℕ
word_in cell = word_among (of_kind WORD cell)

-- the words of cells, with a space between each two
abbrev pub text_of : List (List (List ℕ)) → List ℕ
text_of cells = join_with_byte 32 (map word_in cells)

-- the cells behind the first, up to the one that ends the title
abbrev pub title_cells : List (List (List ℕ)) → List (List (List ℕ))
title_cells cells = before_first ends_title (drop 1 cells)

-- the cells behind the one that ends the title, without the last
abbrev pub body_cells : List (List (List ℕ)) → List (List (List ℕ))
body_cells cells = let behind = after_first ends_title cells in take (length behind - 1) behind

unfoldable pub title_text : List (List (List ℕ)) → List ℕ
title_text cells = text_of (title_cells cells)

unfoldable pub body_text : List (List (List ℕ)) → List ℕ
body_text cells = text_of (body_cells cells)

-- the cells that the document has once its line was added
abbrev pub cells_again : Document → List (List (List ℕ))
cells_again d = cells_of d.name (title_text d.cells) (body_text d.cells)

-- the command that adds its name, title and body
unfoldable pub add_line : Document → List ℕ
add_line d = spelled (adds d.name (title_text d.cells) (body_text d.cells))

-- the line adds this document again: its words, and where its title ends and where it does
pub record IsLineOf (d : Document) (line : List ℕ) : Type 0 where
  pub spells : line ≡ add_line d
  pub plain : IsPlain d.cells
  pub as_many : length (cells_again d) ≡ length d.cells
  pub words : map (of_kind WORD) (cells_again d) ≡ map (of_kind WORD) d.cells
  pub title_ends : map ends_title (cells_again d) ≡ map ends_title d.cells
  pub document_ends : map ends_document (cells_again d) ≡ map ends_document d.cells
  pub title_is_a_field : has_byte 9 (title_text d.cells) ≡ false
  pub short : length line ≤ LINE_LIMIT

-- ---- the same as tests

abbrev pub are_same : List (List ℕ) → List (List ℕ) → Bool
are_same [] [] = true
are_same [] (y ∷ ys) = false
are_same (x ∷ xs) [] = false
are_same (x ∷ xs) (y ∷ ys) = bytes_eq x y && are_same xs ys

-- both are true, or both false
abbrev pub agree : Bool → Bool → Bool
agree true b = b
agree false b = not b

-- two cells have the same folded words, and both or neither end a title, and a document
abbrev pub is_alike : List (List ℕ) → List (List ℕ) → Bool
is_alike a b = are_same (of_kind WORD a) (of_kind WORD b)
    && (agree (ends_title a) (ends_title b) && agree (ends_document a) (ends_document b))

abbrev pub are_alike : List (List (List ℕ)) → List (List (List ℕ)) → Bool
are_alike [] [] = true
are_alike [] (b ∷ bs) = false
are_alike (a ∷ others) [] = false
are_alike (a ∷ others) (b ∷ bs) = is_alike a b && are_alike others bs

unfoldable pub has_line : Document → Bool
has_line d =
    is_plain d.cells && (are_alike (cells_again d) d.cells
    && (not (has_byte 9 (title_text d.cells)) && nat_le (length (add_line d)) LINE_LIMIT))

-- the line that adds the document again, if there is one
unfoldable pub line_of : Document → Option (List ℕ)
line_of d = if has_line d then Some (add_line d) else None
