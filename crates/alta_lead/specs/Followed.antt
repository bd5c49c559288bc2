-- The ends of the documents in which a word stands before another.
use Rattle.std.specs.Prelude.{ℕ, ◌+◌, ◌<◌, ◌≤◌, Bool, ◌&&◌, nat_lt, nat_le, List, Contains}
use Rattle.std.specs.List.{filter}
use Rattle.alta_codec.specs.Rising.{first_from, pred_of}

-- The document of the end has a location of the first word, and one of the second behind it.
pub record IsFollowed (ends first second : List ℕ) (end : ℕ) : Type 0 where
  pub is_end : Contains ends end
  pub place : ℕ
  pub there : Contains first place
  pub inside : pred_of ends end < place
  pub next : ℕ
  pub behind : Contains second next
  pub later : place < next
  pub within : next ≤ end

-- where the first word stands first in the document, TOP or behind its end where it has none there
abbrev pub first_in : List ℕ → List ℕ → ℕ → ℕ
first_in ends word end = first_from word (pred_of ends end + 1)

abbrev pub is_followed : List ℕ → List ℕ → List ℕ → ℕ → Bool
is_followed ends first second end = nat_lt (first_in ends first end) end
    && nat_le (first_from second (first_in ends first end + 1)) end

-- the ends of the documents in which the first word stands before the second, in order
unfoldable pub ends_followed : List ℕ → List ℕ → List ℕ → List ℕ
ends_followed ends first second = filter (is_followed ends first second) ends
