-- The first of a content's lists.
use Rattle.std.specs.Prelude.{ℕ, List, [], ◌∷◌}
use Rattle.alta_content.specs.TermList.{TermList}

-- the term of the first list, none where there is no list
abbrev pub front_term : List TermList → List ℕ
front_term [] = []
front_term (l ∷ ls) = l.term

-- the locations of the first list, none where there is no list
abbrev pub front_locations : List TermList → List ℕ
front_locations [] = []
front_locations (l ∷ ls) = l.locations
