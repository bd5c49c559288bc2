-- Whether cells match a query, by trying every place, and which of some documents do.
use Rattle.std.specs.Prelude.{ℕ, ◌+◌, Bool, true, false, not, ◌&&◌, ◌||◌, nat_le, List, [], ◌∷◌, ◌++◌, length, get_or, Option, Some, None}
use Rattle.std.specs.List.{list_all, list_any, filter, range_with_len}
use Rattle.alta_machine.specs.declared.document.Document.{Document}
use Rattle.alta_machine.specs.Patterns.{Bound, Pattern, meets, pattern_of, numbers_in, value_patterns}
use Rattle.alta_machine.specs.Shape.{Shape, Shapes, atom, all, any, negated, none, more}
use Rattle.alta_machine.specs.declared.test.Test.{Test}

abbrev pub is_kept : List ℕ → Bound → Bool
is_kept places bound = nat_le (get_or places bound.first 0 + bound.behind) (get_or places bound.second 0 + bound.ahead)

-- behind these places there is one for each test, whose cell meets it, so that all of them keep the bounds
abbrev pub is_answered : List (List (List ℕ)) → List Bound → List ℕ → List Test → Bool
is_answered cells bounds places [] = list_all (is_kept places) bounds
is_answered cells bounds places (test ∷ tests) =
    list_any (λ place. meets test (get_or cells place []) && is_answered cells bounds (places ++ place ∷ []) tests)
    (range_with_len 0 (length cells))

-- some places answer the pattern
abbrev pub is_satisfied : List (List (List ℕ)) → Pattern → Bool
is_satisfied cells pattern = is_answered cells pattern.bounds [] pattern.tests

-- one of the patterns of a value, and the pattern of an atom that has none
abbrev pub is_value_match : List (List (List ℕ)) → Pattern → Option (ℕ × ℕ) → Bool
is_value_match cells pattern None = is_satisfied cells pattern
is_value_match cells pattern (Some numbers) = list_any (is_satisfied cells) (value_patterns numbers.0 numbers.1)

abbrev mutual
  pub is_match : List (List (List ℕ)) → Shape → Bool
  is_match cells (atom a) = is_value_match cells (pattern_of a) (numbers_in a)
  is_match cells (all qs) = all_match cells qs
  is_match cells (any qs) = any_matches cells qs
  is_match cells (negated q) = not (is_match cells q)

  pub all_match : List (List (List ℕ)) → Shapes → Bool
  all_match cells none = true
  all_match cells (more q qs) = is_match cells q && all_match cells qs

  pub any_matches : List (List (List ℕ)) → Shapes → Bool
  any_matches cells none = false
  any_matches cells (more q qs) = is_match cells q || any_matches cells qs

-- those of the documents that match, in order
abbrev pub answers : List Document → Shape → List Document
answers documents q = filter (λ (d : Document). is_match d.cells q) documents
