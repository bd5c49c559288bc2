-- A reader of the ends of a conjunction, which its rarest word leads.
use Rattle.std.specs.Prelude.{◌≡◌, ◌⊎◌, ℕ, ◌+◌, ◌*◌, ◌<◌, ◌≤◌, IsTrue, List, [], ◌∷◌, ◌++◌, map, length, slice_index_or, sum_by, All, Contains, Option, Some}
use Rattle.std.specs.List.{concat}
use Rattle.alta_codec.specs.Rising.{pred_of, first_from, count_from}
use Rattle.alta_compile.specs.Space.{Placed, IsSpace, ends_of, list_of}
use Rattle.alta_machine.specs.Plans as plan
use Rattle.alta_compile.specs.Listing.{plan_list}
use Rattle.alta_compile.specs.declared.asked.Conjunction.{Conjunction}
use Rattle.alta_docread.specs.Tree.{IsAhead}
use Rattle.alta_lead.specs.Having.{ends_having}
use Rattle.alta_lead.specs.Moves.{AreAhead, left_of}
use Rattle.alta_lead.specs.View.{chains_of, IsSoundLead}
use Rattle.alta_lead.specs.declared.reader.LeadReader.{LeadReader}
use Rattle.alta_search.specs.Conjoined.{conjoined_tests}
use Rattle.alta_search.specs.Lists.{test_list, count_locations}
use Rattle.alta_search.specs.Met.{IsExact}
use Rattle.alta_search.specs.Plans.{tests_of, lists, locations, locations_below}
use Rattle.alta_search.specs.View.{View, Shows}
use Rattle.alta_search.specs.Walks.{PlanView, IsReading}
use Rattle.alta_search.specs.Words.{IsSoundSingle, single_list, single_place, single_left}
use Rattle.alta_search.specs.declared.single_reader.SingleReader.{SingleReader}

-- every third
abbrev pub thirds : {X : Type 0} → List X → List X
thirds [] = []
thirds (a ∷ []) = []
thirds (a ∷ b ∷ []) = []
thirds (a ∷ b ∷ c ∷ xs) = c ∷ thirds xs

-- how many lists these are, with the ends
abbrev pub readers_of : List (List ℕ) → List (List ℕ) → ℕ
readers_of words negated = 1 + sum_by (λ (l : List ℕ). 1) words + sum_by (λ (l : List ℕ). 1) negated

-- how many moves of each together are left, where each has two for each location of the leading word from a document on
abbrev pub moves_left : List ℕ → List (List ℕ) → List (List ℕ) → ℕ → ℕ → ℕ
moves_left ends words negated lead at =
    2 * count_from (slice_index_or words lead []) (pred_of ends at + 1) * readers_of words negated

-- what a leading reader keeps, and how many moves are left of it
abbrev pub IsSoundLed : LeadReader SingleReader → Type 0
IsSoundLed r = IsSoundLead IsSoundSingle single_list single_place r

abbrev pub led_moves : LeadReader SingleReader → ℕ
led_moves r = moves_left (single_list r.ends.inner) (map single_list r.words.items)
    (map single_list r.negated.items) r.lead r.at

-- The readers of these lists stand at an answer, or before it: none has passed an element from there on.
pub record AreAtAnswer (ends : List ℕ) (words negated : List (List ℕ)) (at end : ℕ)
    (places others : List ℕ) : Type 0 where
  pub answer : Contains (ends_having ends words negated) at
  pub ends_ahead : IsAhead at ends end
  pub words_ahead : AreAhead at words places
  pub negated_ahead : AreAhead at negated others

-- From an answer on, the steps are at most what is left of the readers, and so many moves of each as it has left.
pub record AreFewSteps (ends : List ℕ) (words negated : List (List ℕ)) (lead at left before after : ℕ) : Type 0 where
  pub steps : after ≤ before + left
  pub moves : after ≤ before + moves_left ends words negated lead at

-- the reader went to the first end at or above `to`, or stayed where it stood there
pub record IsSought (old new : LeadReader SingleReader) (to before after : ℕ) : Type 0 where
  pub sound : IsSoundLed new
  pub list : ends_having (single_list new.ends.inner) (map single_list new.words.items)
      (map single_list new.negated.items)
      ≡ ends_having (single_list old.ends.inner) (map single_list old.words.items) (map single_list old.negated.items)
  pub all : single_list new.ends.inner ++ concat (map single_list new.words.items)
      ++ concat (map single_list new.negated.items)
      ≡ single_list old.ends.inner ++ concat (map single_list old.words.items)
      ++ concat (map single_list old.negated.items)
  pub goes : old.at < to → new.at ≡ first_from
      (ends_having (single_list old.ends.inner) (map single_list old.words.items)
      (map single_list old.negated.items)) to
  pub stays : to ≤ old.at → new.at ≡ old.at
  pub steps : after + left_of single_left (chains_of new) ≤ before + left_of single_left (chains_of old)
  pub moves : after + led_moves new ≤ before + led_moves old

-- a reader that a word leads was made, and stands at the first end from a place on
pub record IsLedFrom (ends : SingleReader) (words negated : List SingleReader) (lead : ℕ) (new : PlanView)
    (from before after : ℕ) : Type 0 where
  pub stands : IsReading new
  pub list : new.list ≡ ends_having (single_list ends) (map single_list words) (map single_list negated)
  pub all : new.all ≡ single_list ends ++ concat (map single_list words) ++ concat (map single_list negated)
  pub one : IsTrue new.one
  pub steps : after + new.left ≤ before + (single_left ends + sum_by single_left words + sum_by single_left negated)
  pub place : new.place ≡ first_from new.list from
  pub moves : after + new.moves ≤ before + (2 * length (slice_index_or (map single_list words) lead []) + 2)
      * readers_of (map single_list words) (map single_list negated)

-- the ends and each word have locations, and so many moves were made and are left: the lists, and for each reader two and twice
-- the locations of any word
pub record AreFewMoves (ends : List (List (List ℕ))) (words negated : List (List (List (List ℕ))))
    (before left : ℕ) : Type 0 where
  pub some_ends : 0 < count_locations ends
  pub some_words : All (λ word. 0 < count_locations word) words
  pub each : All (λ word. left ≤ before + lists (ends ∷ words ++ negated)
      + (2 * count_locations word + 2) * (1 + length words + length negated)) words

-- a reader over the lists of these tests was made, which the word with the fewest locations leads; no move is made where there
-- is nothing to find
pub record IsLeadOf (ends : List (List (List ℕ))) (words negated : List (List (List (List ℕ)))) (new : PlanView)
    (from before after : ℕ) : Type 0 where
  pub stands : IsReading new
  pub list : new.list ≡ ends_having (test_list ends) (map test_list words) (map test_list negated)
  pub one : IsTrue new.one
  pub place : new.place ≡ first_from new.list from
  pub steps : after + new.left ≤ before + lists (ends ∷ words ++ negated) + locations (ends ∷ words ++ negated)
  pub lazy : (place : ℕ) → after + new.left ≤ before + lists (ends ∷ words ++ negated)
      + locations_below place (ends ∷ words ++ negated) + count_from new.all place
  pub moves : (after + new.moves ≤ before) ⊎ AreFewMoves ends words negated before (after + new.moves)

-- a reader over a snapshot of the tests of a conjunction was made, which the word with the fewest locations leads: its moves are
-- for each list at most four and twice the locations of any word
pub record IsLedOver (c : Conjunction) (v : View) (new : PlanView) (from before after : ℕ) : Type 0 where
  pub stands : IsReading new
  pub reads : (space : List Placed) → Shows space v
      → new.list ≡ ends_having (ends_of space) (map (list_of space) c.words) (map (list_of space) c.negated)
  pub one : IsTrue new.one
  pub place : new.place ≡ first_from new.list from
  pub steps : after + new.left ≤ before + locations v.cuts + lists v.cuts
  pub lazy : (place : ℕ) → after + new.left ≤ before + lists v.cuts + locations_below place v.cuts
      + count_from new.all place
  pub moves : (space : List Placed) → Shows space v
      → All (λ word. after + new.moves ≤ before + lists v.cuts * (2 * length (list_of space word) + 4)) c.words

-- where there is a conjunction, the steps are for each list at most four and twice the locations of any of its words
abbrev pub AreByRarest : Option Conjunction → View → ℕ → ℕ → Type 0
AreByRarest found v before after = (space : List Placed) (c : Conjunction) → Shows space v → found ≡ Some c
    → All (λ word. after ≤ before + lists v.cuts * (2 * length (list_of space word) + 4)) c.words

-- The plan finds the documents that have each word of the conjunction and none of its negated words; each of its tests asks for
-- one term.
pub record IsConjunction (p : plan.Tree) (c : Conjunction) : Type 0 where
  pub tests : tests_of p ≡ conjoined_tests c
  pub exact : All IsExact (tests_of p)
  pub some : 0 < length c.words
  pub finds : (space : List Placed) → IsSpace space → plan_list space p
      ≡ ends_having (ends_of space) (map (list_of space) c.words) (map (list_of space) c.negated)
