-- A phrase at a place, step by step. No public clause cites it.
use Rattle.std.specs.Prelude.{ℕ, Bool, true, false, ◌&&◌, ◌||◌, List, [], ◌∷◌}
use Rattle.alta_machine.specs.Patterns.{meets}
use Rattle.alta_machine.specs.declared.test.Test.{Test}

-- the first cells meet the tests
abbrev pub fits : List Test → List (List (List ℕ)) → Bool
fits [] cells = true
fits (test ∷ tests) [] = false
fits (test ∷ tests) (cell ∷ cells) = meets test cell && fits tests cells

-- the cells from some place on do
abbrev pub has_phrase : List Test → List (List (List ℕ)) → Bool
has_phrase tests [] = fits tests []
has_phrase tests (cell ∷ cells) = fits tests (cell ∷ cells) || has_phrase tests cells
