-- The ends of the documents that have each word of a conjunction and none of its negated words.
use Rattle.std.specs.Prelude.{ℕ, ◌+◌, ◌<◌, ◌≤◌, Bool, true, ◌&&◌, not, nat_le, List, [], ◌∷◌, All, Any, Contains}
use Rattle.std.specs.List.{filter}
use Rattle.alta_codec.specs.Rising.{first_from, pred_of}
use Rattle.alta_compound.specs.Union.{union_of}

-- the list has an element above `low` and at most at `high`
abbrev pub HasWithin : ℕ → ℕ → List ℕ → Type 0
HasWithin low high xs = (x : ℕ) × Contains xs x × (low < x) × (x ≤ high)

-- The document of the end has a location of each word and none of a negated word: its locations are those above the end
-- before, up to its own.
pub record IsAnswer (ends : List ℕ) (words negated : List (List ℕ)) (end : ℕ) : Type 0 where
  pub is_end : Contains ends end
  pub each : All (λ w. HasWithin (pred_of ends end) end w) words
  pub none : All (λ w. HasWithin (pred_of ends end) end w → ⊥) negated

-- whether the list has such an element, below TOP
abbrev pub has_within : ℕ → ℕ → List ℕ → Bool
has_within low high xs = nat_le (first_from xs (low + 1)) high

unfoldable pub each_within : ℕ → ℕ → List (List ℕ) → Bool
each_within low high [] = true
each_within low high (w ∷ ws) = has_within low high w && each_within low high ws

unfoldable pub none_within : ℕ → ℕ → List (List ℕ) → Bool
none_within low high [] = true
none_within low high (w ∷ ws) = not (has_within low high w) && none_within low high ws

abbrev pub is_answer : List ℕ → List (List ℕ) → List (List ℕ) → ℕ → Bool
is_answer ends words negated end = each_within (pred_of ends end) end words
    && none_within (pred_of ends end) end negated

-- the ends of the documents that have each word and none of the negated words, in order
unfoldable pub ends_having : List ℕ → List (List ℕ) → List (List ℕ) → List ℕ
ends_having ends words negated = filter (is_answer ends words negated) ends

-- The document of the end has a location of one of the words.
pub record HasAny (ends : List ℕ) (words : List (List ℕ)) (end : ℕ) : Type 0 where
  pub is_end : Contains ends end
  pub some : Any (HasWithin (pred_of ends end) end) words

-- the ends of the documents that have one of the words, in order
abbrev pub ends_with_any : List ℕ → List (List ℕ) → List ℕ
ends_with_any ends words = ends_having ends (union_of words ∷ []) []
