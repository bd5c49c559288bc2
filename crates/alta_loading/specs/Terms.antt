-- The lists of a term, those of levels and that of the newest documents behind them.
use Rattle.std.specs.Prelude.{◌≡◌, ℕ, List, [], ◌∷◌, ◌++◌, length, map, flat_map}
use Rattle.alta_content.specs.Lists.{locations_of}
use Rattle.alta_content.specs.declared.content.Content.{Content}
use Rattle.alta_loading.specs.Loads.{KeepRows, Load, list_at, loads_from, number_of}
use Rattle.alta_search.specs.Lists.{TermKey}
use Rattle.alta_table.specs.Tables.{Tables}

-- a list that is not empty, or none
abbrev pub if_some : List ℕ → List (List ℕ)
if_some [] = []
if_some (x ∷ xs) = (x ∷ xs) ∷ []

-- its number, or none
abbrev pub number_if_some : ℕ → List ℕ → List ℕ
number_if_some number [] = []
number_if_some number (x ∷ xs) = number ∷ []

-- the term, and the numbers of the levels that have it; the newest documents are numbered behind the levels
abbrev pub term_key : List Tables → Content → List ℕ → TermKey
term_key levels newest term = record {
  term = term;
  levels = map number_of (loads_from 0 levels term)
      ++ number_if_some (length levels) (locations_of newest.lists term);
}

-- its lists, as they stand on the image and in the newest documents
abbrev pub lists_of_term : List Tables → Content → List ℕ → List ℕ → List (List ℕ)
lists_of_term levels newest image term = map (list_at image) (loads_from 0 levels term)
    ++ if_some (locations_of newest.lists term)

-- These are the lists of the term, and each of a level keeps what its row and its documents say, whatever the disk tells.
pub record KeepTerm (levels : List Tables) (newest : Content) (term : List ℕ) (lists : List (List ℕ)) : Type 0 where
  pub coded : List (List ℕ)
  pub kept : KeepRows (loads_from 0 levels term) coded
  pub lists_are : lists ≡ coded ++ if_some (locations_of newest.lists term)

-- ---- several terms

-- the lists of terms in levels, in the order of loading: of each term those of its levels, the oldest first
abbrev pub loads_of : List Tables → List (List ℕ) → List Load
loads_of levels terms = flat_map (loads_from 0 levels) terms

-- the same of each of these terms
abbrev pub KeepTerms : List Tables → Content → List (List ℕ) → List (List (List ℕ)) → Type 0
KeepTerms levels newest [] [] = Unit {0}
KeepTerms levels newest [] (list ∷ lists) = ⊥
KeepTerms levels newest (term ∷ terms) [] = ⊥
KeepTerms levels newest (term ∷ terms) (list ∷ lists) = KeepTerm levels newest term list
    × KeepTerms levels newest terms lists
