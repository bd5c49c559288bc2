-- The terms that begin with a prefix.
use Rattle.std.specs.Prelude.{◌≡◌, ◌||◌, if◌then◌else◌, ℕ, ◌<◌, ◌≤◌, Bool, List, length, nat_eq, slice_get, Some, IsTrue}
use Rattle.std.specs.List.{starts_with}
use Rattle.std.specs.Cmp.Lexicographic.{slice_cmp}
use Rattle.std.specs.Ordering.{is_lt, nat_cmp}

abbrev pub StartsWith : List ℕ → List ℕ → Type 0
StartsWith prefix term = IsTrue (starts_with nat_eq term prefix)

-- the terms from one row to before another are those that begin with the prefix; the two are equal where none does
pub record IsPrefixRange (terms : List (List ℕ)) (prefix : List ℕ) (first behind : ℕ) : Type 0 where
  pub ordered : first ≤ behind
  pub within : behind ≤ length terms
  pub inside : (i : ℕ) → (term : List ℕ) → slice_get terms i ≡ Some term → first ≤ i → i < behind
      → StartsWith prefix term
  pub only : (i : ℕ) → (term : List ℕ) → slice_get terms i ≡ Some term → StartsWith prefix term
      → (first ≤ i) × (i < behind)

-- the term stands before a prefix or, where those count too, begins with it
abbrev pub stands_by : List ℕ → Bool → List ℕ → Bool
stands_by prefix begun term = if begun then (is_lt (slice_cmp nat_cmp term prefix) || starts_with nat_eq term prefix)
    else is_lt (slice_cmp nat_cmp term prefix)
