-- A walk over a reader of the ends and readers of the words, by what is asked of the words.
use Rattle.std.specs.Prelude.{◌≡◌, ℕ, ◌+◌, ◌<◌, ◌≤◌, Bool, true, List, [], map, length}
use Rattle.alta_codec.specs.Rising.{first_from}
use Rattle.alta_lead.specs.Having.{ends_having}
use Rattle.alta_counts.specs.Asked.{ends_asked}
use Rattle.alta_counts.specs.Live.{count_live}
use Rattle.alta_counts.specs.declared.walk.Asking.{Asking}
use Rattle.alta_counts.specs.declared.walk.Asking.TheVariants.{Led, Walked}
use Rattle.alta_search.specs.Leads.{AreAtAnswer, AreFewSteps}

-- the ends of the documents of which it is so
abbrev pub ends_for : Asking → List ℕ → List (List ℕ) → List (List ℕ) → List ℕ
ends_for (Led lead) ends words negated = ends_having ends words negated
ends_for (Walked followed) ends words negated = ends_asked followed ends words

-- a word leads
abbrev pub IsLed : Asking → Type 0
IsLed (Led lead) = Unit {0}
IsLed (Walked followed) = ⊥

-- no reader of these lists was moved; there is no negated word, and there are two words where the one has to come first
pub record AreUnmoved (followed : Bool) (ends : List ℕ) (words negated : List (List ℕ)) (at end : ℕ)
    (places : List ℕ) : Type 0 where
  pub start : at ≡ 0
  pub none : negated ≡ []
  pub pair : followed ≡ true → length words ≡ 2
  pub end_is : end ≡ first_from ends 0
  pub places_are : places ≡ map (λ l. first_from l 0) words

-- the readers of these lists stand where a walk begins: at an answer where a word leads, else at their first locations
abbrev pub CanWalk : Asking → List ℕ → List (List ℕ) → List (List ℕ) → ℕ → ℕ → List ℕ → List ℕ → Type 0
CanWalk (Led lead) ends words negated at end places others =
    (lead < length words) × AreAtAnswer ends words negated at end places others
CanWalk (Walked followed) ends words negated at end places others =
    AreUnmoved followed ends words negated at end places

-- the steps of a walk: at most what is left of the readers, and where a word leads so many moves of each as it has left
abbrev pub AreWalkSteps : Asking → List ℕ → List (List ℕ) → List (List ℕ) → ℕ → ℕ → ℕ → ℕ → Type 0
AreWalkSteps (Led lead) ends words negated at left before after =
    AreFewSteps ends words negated lead at left before after
AreWalkSteps (Walked followed) ends words negated at left before after = after ≤ before + left

-- What was counted is how many documents are found from a place on that were not deleted.
pub record Tallies (asking : Asking) (ends : List ℕ) (words negated : List (List ℕ)) (at : ℕ) (gone : List ℕ)
    (left before after : ℕ) (Counts : (ℕ → Type 0) → Type 0) : Type 0 where
  pub count : Counts (λ n. n ≡ count_live (ends_for asking ends words negated) gone at)
  pub steps : AreWalkSteps asking ends words negated at left before after
