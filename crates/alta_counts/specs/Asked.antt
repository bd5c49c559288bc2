-- Two questions that one walk over some words answers.
use Rattle.std.specs.Prelude.{Bool, true, false, ℕ, List, [], slice_index_or}
use Rattle.alta_lead.specs.Followed.{ends_followed}
use Rattle.alta_lead.specs.Having.{ends_with_any}

-- the ends of the documents that have the first of two words before the second, or one of the words
abbrev pub ends_asked : Bool → List ℕ → List (List ℕ) → List ℕ
ends_asked true ends words = ends_followed ends (slice_index_or words 0 []) (slice_index_or words 1 [])
ends_asked false ends words = ends_with_any ends words
