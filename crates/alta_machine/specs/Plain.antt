-- Plain documents: those whose words can stand in one title and one body.
use Rattle.std.specs.Prelude.{◌≡◌, ℕ, ◌-◌, ◌≤◌, Bool, false, not, ◌&&◌, ◌==◌, nat_le, List, [], ◌∷◌, length, get_or, filter, count_by}
use Rattle.std.specs.List.{All, list_all}
use Rattle.std.specs.Str.{IsUtf8, is_utf8}
use Rattle.alta_machine.specs.Cells.{cell_holds}
use Rattle.alta_machine.specs.declared.kinds.TheConstants.{WORD, TITLE_END, DOCUMENT_END}

-- the term is of this kind: its first byte
abbrev pub is_kind : ℕ → List ℕ → Bool
is_kind kind [] = false
is_kind kind (byte ∷ rest) = byte == kind

-- the terms of this kind among those of a cell
abbrev pub of_kind : ℕ → List (List ℕ) → List (List ℕ)
of_kind kind cell = filter (is_kind kind) cell

-- what follows the kind
abbrev pub rest_of : List ℕ → List ℕ
rest_of [] = []
rest_of (kind ∷ rest) = rest

abbrev pub ends_title : List (List ℕ) → Bool
ends_title cell = cell_holds (TITLE_END ∷ []) cell

abbrev pub ends_document : List (List ℕ) → Bool
ends_document cell = cell_holds (DOCUMENT_END ∷ []) cell

-- the cell has at most one folded word, and that is text
abbrev pub HasOneWord : List (List ℕ) → Type 0
HasOneWord cell = (length (of_kind WORD cell) ≤ 1) × All (λ term. IsUtf8 (rest_of term)) (of_kind WORD cell)

-- One cell ends the title, neither the first cell nor the last, and each cell has at most one folded word, which is text.
pub record IsPlain (cells : List (List (List ℕ))) : Type 0 where
  pub one_end : count_by ends_title cells ≡ 1
  pub not_first : ends_title (get_or cells 0 []) ≡ false
  pub not_last : ends_title (get_or cells (length cells - 1) []) ≡ false
  pub words : All HasOneWord cells

-- the same as tests
abbrev pub has_one_word : List (List ℕ) → Bool
has_one_word cell = nat_le (length (of_kind WORD cell)) 1
    && list_all (λ term. is_utf8 (rest_of term)) (of_kind WORD cell)

unfoldable pub is_plain : List (List (List ℕ)) → Bool
is_plain cells =
    count_by ends_title cells == 1 && (not (ends_title (get_or cells 0 []))
    && (not (ends_title (get_or cells (length cells - 1) [])) && list_all has_one_word cells))
