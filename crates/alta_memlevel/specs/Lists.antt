-- The terms with their locations, as the level keeps them.
use Rattle.std.specs.Prelude.{◌≡◌, ℕ, ◌+◌, ◌<◌, Bool, List, [], ◌∷◌, ◌++◌, cond, Vec, length, take, map}
use Rattle.std.specs.Borrow.{Bor}
use Rattle.std.specs.Map.{keys_of, values_of}
use Rattle.std.specs.Str.{bytes_eq}
use Rattle.std.specs.List.{All, IsDistinct}
use Rattle.alta_content.specs.Joining.{in_order}
use Rattle.alta_content.specs.TermList.{TermList}
use Rattle.alta_machine.specs.Cells.{cell_holds}
use Rattle.std.specs.declared.alloc.Global.{Global}

-- a term's bytes, and a list of locations, as they are kept
abbrev pub Numbers : Type 0
Numbers = Vec ℕ Global

-- what the level keeps: terms with their lists, in any order
abbrev pub Entries : Type 0
Entries = List (Numbers × Numbers)

-- the locations beside the term's bytes: none where the term has no entry
abbrev pub list_in : Entries → List ℕ → List ℕ
list_in [] term = []
list_in (e ∷ es) term = cond (bytes_eq term e.0.items) e.1.items (list_in es term)

-- the terms, as they are kept
abbrev pub keys_in : Entries → List (List ℕ)
keys_in es = map (λ e. e.0.items) es

-- these terms with their locations
abbrev pub lists_at : Entries → List (List ℕ) → List TermList
lists_at es terms = map (λ term. record { term = term; locations = list_in es term }) terms

-- the terms in collating order with their locations, as a content has them
abbrev pub term_lists : Entries → List TermList
term_lists es = lists_at es (in_order (keys_in es))

-- the bytes that slices show
abbrev pub bytes_in : List (Bor (List ℕ)) → List (List ℕ)
bytes_in slices = map (λ (s : Bor (List ℕ)). s.now) slices

-- whether two terms are the same
abbrev pub same_key : Numbers → Numbers → Bool
same_key x y = bytes_eq x.items y.items

-- no term stands twice, and each has a location
pub record IsIndex (es : Entries) : Type 0 where
  pub apart : IsDistinct same_key (keys_of es)
  pub none_empty : All (λ xs. 0 < length xs.items) (values_of es)

-- each term has these locations more, and the lists are an index again
pub record Adds (old new : Entries) (more : List ℕ → List ℕ) : Type 0 where
  pub index : IsIndex new
  pub added : (other : List ℕ) → list_in new other ≡ list_in old other ++ more other

-- lists that have the location at the terms of the cell before the index, and no more than others had, have it at the term of the index too
abbrev pub AddsAt : List (List ℕ) → ℕ → ℕ → Entries → Entries → Type 0
AddsAt cell i location es fs =
    (base other : List ℕ) → list_in es other ≡ base ++ cond (cell_holds other (take i cell)) (location ∷ []) []
    → list_in fs other ≡ base ++ cond (cell_holds other (take (i + 1) cell)) (location ∷ []) []
