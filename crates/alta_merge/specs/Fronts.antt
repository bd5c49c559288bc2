-- The lists that come next, each the first of a part.
use Rattle.std.specs.Prelude.{◌≡◌, ℕ, ◌<◌, ◌≤◌, nat_lt, Bool, true, false, cond, List, [], ◌∷◌, length, map, drop, slice_index_or}
use Rattle.std.specs.Cmp.Lexicographic.{slice_cmp}
use Rattle.std.specs.List.{All, flat_map}
use Rattle.std.specs.Ordering.{nat_cmp, is_le}
use Rattle.std.specs.declared.cmp.Ordering.{Ordering}
use Rattle.std.specs.declared.cmp.Ordering.TheVariants.{Less}
use Rattle.std.specs.Str.{bytes_eq}
use Rattle.alta_content.specs.TermList.{TermList}
use Rattle.alta_content.specs.Fronts.{front_locations, front_term}
use Rattle.alta_content.specs.Lists.{TermsRise}
use Rattle.alta_content.specs.Spans.{SpansRise, outside_of}
use Rattle.alta_content.specs.declared.spans.Span.{Span}

-- how the term stands to that of the first list; before it where there is none
abbrev pub against : List ℕ → List TermList → Ordering
against term [] = Less
against term (l ∷ ls) = slice_cmp nat_cmp term l.term

-- whether the first list is the term's
abbrev pub begins : List ℕ → List TermList → Bool
begins term [] = false
begins term (l ∷ ls) = bytes_eq term l.term

-- the locations of the first list if it is the term's
abbrev pub front_of : List ℕ → List TermList → List ℕ
front_of term lists = cond (begins term lists) (front_locations lists) []

-- what is left once the first list is taken if it is the term's
abbrev pub behind : List ℕ → List TermList → List TermList
behind term lists = cond (begins term lists) (drop 1 lists) lists

-- the term that comes next, with which the part at the place begins
abbrev pub next_term : List (List TermList) → ℕ → List ℕ
next_term parts next = front_term (slice_index_or parts next [])

-- none of the first so many parts has a list left
abbrev pub NoneLeft : List (List TermList) → ℕ → Type 0
NoneLeft parts n = (k : ℕ) → k < n → slice_index_or parts k [] ≡ []

-- of the first so many parts, the one at the place is the first that begins with the least term
pub record IsNext (parts : List (List TermList)) (n : ℕ) (next : ℕ) : Type 0 where
  pub within : next < n
  pub some : 0 < length (slice_index_or parts next [])
  pub lowest : (k : ℕ) → k < n → is_le (against (next_term parts next) (slice_index_or parts k [])) ≡ true
  pub first : (k : ℕ) → k < next → against (next_term parts next) (slice_index_or parts k []) ≡ Less

-- a part has a list left, and none before it has
pub record IsFirstLeft (parts : List (List TermList)) (i : ℕ) : Type 0 where
  pub within : i < length parts
  pub some : 0 < length (slice_index_or parts i [])
  pub none : NoneLeft parts i

-- of the first so many parts, those at the two places are the first and the last that begin with the least term
pub record AreNext (parts : List (List TermList)) (n first last : ℕ) : Type 0 where
  pub next : IsNext parts n first
  pub from : first ≤ last
  pub within : last < n
  pub after : (k : ℕ) → last < k → k < n → begins (next_term parts first) (slice_index_or parts k []) ≡ false

-- the next term, with its locations in all parts
abbrev pub whole_list : List (List TermList) → ℕ → TermList
whole_list parts next = record {
  term = next_term parts next;
  locations = flat_map
      (front_of (next_term parts next)) parts;
}

-- the next term, with its locations outside of the spans
abbrev pub next_list : List Span → List (List TermList) → ℕ → TermList
next_list spans parts next = record {
  term = next_term parts next;
  locations = outside_of spans (flat_map (front_of (next_term parts next)) parts);
}

-- the list if it has a location
abbrev pub if_some : TermList → List TermList
if_some list = cond (nat_lt 0 (length list.locations)) (list ∷ []) []

-- what is left once the next term is taken
abbrev pub behind_next : List (List TermList) → ℕ → List (List TermList)
behind_next parts next = map (behind (next_term parts next)) parts

-- spans rise, and the terms of each part
pub record AreSorted (spans : List Span) (parts : List (List TermList)) : Type 0 where
  pub spans_rise : SpansRise spans
  pub terms_rise : All TermsRise parts
