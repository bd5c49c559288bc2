-- Lists of several levels, one behind the other, cut at a place where a level ends.
use Rattle.std.specs.Prelude.{◌≡◌, ℕ, suc, ◌+◌, ◌*◌, ◌<◌, ◌≤◌, Bool, true, ◌&&◌, cond, nat_lt, nat_le, List, [], ◌∷◌, map, take, drop, length, slice_index, slice_index_or, sum_by, Contains, Option, Some, None, Result, IfOk}
use Rattle.std.specs.List.{concat, filter}
use Rattle.alta_codec.specs.declared.location.TheConstants.{TOP}
use Rattle.alta_codec.specs.Rising.{pred_of}
use Rattle.alta_compile.specs.Space.{Placed, ends_of, list_of}
use Rattle.alta_compile.specs.declared.asked.Conjunction.{Conjunction}
use Rattle.alta_lead.specs.Having.{ends_having}
use Rattle.alta_counts.specs.Live.{count_live}
use Rattle.alta_counts.specs.Walking.{ends_for}
use Rattle.alta_search.specs.Lists.{lists_at}
use Rattle.alta_search.specs.View.{View, Shows}
use Rattle.alta_search.specs.Walked.{AreSearchSteps}
use Rattle.alta_counts.specs.declared.walk.Asking.{Asking}
use Rattle.alta_counts.specs.declared.walk.Asking.TheVariants.{Led, Walked}
use Rattle.alta_search.specs.declared.lists.TestLists.{TestLists}

abbrev pub is_inside : ℕ → ℕ → ℕ → Bool
is_inside low high x = nat_lt low x && nat_le x high

-- the elements above one place and up to another
abbrev pub window : ℕ → ℕ → List ℕ → List ℕ
window low high xs = filter (is_inside low high) xs

-- how many of the lists, from the first on, have nothing above the place
unfoldable pub cut_at : ℕ → List (List ℕ) → ℕ
cut_at place [] = 0
cut_at place (l ∷ ls) = cond (nat_le (pred_of l TOP) place) (suc (cut_at place ls)) 0

-- the lists behind those up to one place, up to another
abbrev pub between : ℕ → ℕ → List (List ℕ) → List (List ℕ)
between low high lists = drop (cut_at low lists) (take (cut_at high lists) lists)

-- no list goes over the place: the others lie above it
abbrev pub IsCleft : ℕ → List (List ℕ) → Type 0
IsCleft place lists = (z : ℕ) → Contains (concat (drop (cut_at place lists) lists)) z → place < z

-- ---- the lists of a test that has one term at most, by the index of the test

abbrev pub levels_of : List TestLists → ℕ → List (List ℕ)
levels_of tests u = slice_index_or (lists_at tests u) 0 []

-- its locations, and those above one place and up to another
abbrev pub whole_at : List TestLists → ℕ → List ℕ
whole_at tests u = concat (levels_of tests u)

abbrev pub part_at : List TestLists → ℕ → ℕ → ℕ → List ℕ
part_at tests low high u = concat (between low high (levels_of tests u))

-- whether it has a list there
abbrev pub has_lists : List TestLists → ℕ → ℕ → ℕ → Bool
has_lists tests low high u = nat_lt 0 (length (between low high (levels_of tests u)))

-- the ends of the documents that have each word and none of the negated words
abbrev pub having_all : List TestLists → ℕ → List ℕ → List ℕ → List ℕ
having_all tests ends words negated = ends_having (whole_at tests ends) (map (whole_at tests) words)
    (map (whole_at tests) negated)

-- ---- what is asked of the words of a document

-- by the indexes of the tests
abbrev pub ends_at : List TestLists → Asking → ℕ → List ℕ → List ℕ → List ℕ
ends_at tests asking ends words negated =
    ends_for asking (whole_at tests ends) (map (whole_at tests) words) (map (whole_at tests) negated)

-- it can be asked of these words: only a conjunction has negated words
abbrev pub CanAsk : Asking → List ℕ → List ℕ → Type 0
CanAsk (Led lead) words negated = lead < length words
CanAsk (Walked followed) words negated = (negated ≡ []) × (followed ≡ true → length words ≡ 2)

-- how many locations the word has that leads, where one does
abbrev pub leading_size : List TestLists → Asking → List ℕ → Option ℕ
leading_size tests (Led lead) words = Some (length (whole_at tests (slice_index words lead)))
leading_size tests (Walked followed) words = None

-- ---- the steps up to a place

-- how many lists of some tests stand up to the place, by the lists of each test, and how many locations these have
abbrev pub passed_lists : (ℕ → List (List ℕ)) → List ℕ → ℕ → ℕ
passed_lists lists uses place = sum_by (λ u. cut_at place (lists u)) uses

abbrev pub passed_size : (ℕ → List (List ℕ)) → List ℕ → ℕ → ℕ
passed_size lists uses place = sum_by (λ u. length (concat (take (cut_at place (lists u)) (lists u)))) uses

-- Between two places the steps are at most a step a list and one a location; where a word leads, for each list four and twice its
-- locations.
pub record AreWindowSteps (lists : ℕ → List (List ℕ)) (uses : List ℕ) (leading : Option ℕ)
    (low high before after : ℕ) : Type 0 where
  pub steps : after + passed_lists lists uses low + passed_size lists uses low
      ≤ before + passed_lists lists uses high + passed_size lists uses high
  pub moves : (n : ℕ) → leading ≡ Some n → after + passed_lists lists uses low * (2 * n + 4)
      ≤ before + passed_lists lists uses high * (2 * n + 4)

-- Where memory was there, these are as many as a conjunction finds over a snapshot that were not deleted.
pub record CountsConjunction {E : Type 0} (c : Conjunction) (v : View) (before after : ℕ)
    (result : Result ℕ E) : Type 0 where
  pub count : IfOk result (λ n. (space : List Placed) → Shows space v
      → n ≡ count_live (ends_having (ends_of space) (map (list_of space) c.words)
      (map (list_of space) c.negated)) v.gone 0)
  pub steps : AreSearchSteps (Some c) v before after
