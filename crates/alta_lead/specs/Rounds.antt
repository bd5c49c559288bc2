-- The rounds of a move to the next document of a conjunction.
use Rattle.std.specs.Prelude.{◌≡◌, ◌⊎◌, ℕ, ◌+◌, ◌*◌, ◌<◌, ◌≤◌, Bool, List, [], map, length, slice_index_or, Contains}
use Rattle.std.specs.Bool.{OnTrue, OnFalse}
use Rattle.alta_codec.specs.declared.location.TheConstants.{TOP}
use Rattle.alta_codec.specs.Rising.{IsPlace, pred_of, first_from}
use Rattle.alta_lead.specs.Moves.{AreAhead, Chains, left_of, list_of, rest_of, IsUnpassed, IsMoved, AreMoved, AllMoved}

-- What was found of the document that ends there: it is one of the list, or a word has no location before `next`, or a
-- negated word has one in it and `next` is behind it.
pub record IsTold (words negated : List (List ℕ)) (start end next : ℕ) : Type 0 where
  pub later : end ≤ next
  pub each : next ≡ end → (k : ℕ) → k < length words → first_from (slice_index_or words k []) start ≤ end
  pub none : next ≡ end → (k : ℕ) → k < length negated → end < first_from (slice_index_or negated k []) start
  pub other : end < next → ((k : ℕ) × (k < length words) × (next ≡ first_from (slice_index_or words k []) start))
      ⊎ ((next ≡ end + 1) × ((k : ℕ) × (k < length negated) × (first_from (slice_index_or negated k []) start ≤ end)))

module _ {R : Type 0} (Sound : R → Type 0) (list all : R → List ℕ) (location left cost : R → ℕ) where
  -- The ends stand at the end of the first document from `to` on in which the leading word has a location, here `at`, or
  -- at TOP.
  pub record IsLed (lead : ℕ) (ends ends' : R) (words words' : List R) (to end before after : ℕ) : Type 0 where
    pub of_ends : ℕ
    pub of_words : ℕ
    pub ends_moved : IsMoved Sound list all left cost 2 ends ends' of_ends
    pub words_moved : AreMoved Sound list all left cost 1 words words' of_words
    pub steps : after ≤ before + of_ends + of_words
    pub falls : location ends < to → left ends' < left ends
    pub place : location ends' ≡ end
    pub later : to ≤ end
    pub standing : IsPlace (list ends) end
    pub top : end ≤ TOP
    pub ahead : end < TOP → AreAhead (pred_of (list ends) to + 1) (map list words) (map location words')
    pub at : ℕ
    pub first : at ≡ first_from (slice_index_or (map list words) lead []) (pred_of (list ends) to + 1)
    pub here : end ≡ first_from (list ends) at

  -- One round from `to` on: `next` is the first place of the list from there on, or no place of the list from there on
  -- is below it and the leading word has fewer elements from it on.
  pub record IsRound (lead : ℕ) (old new : Chains R) (to next : ℕ) (found : Bool) (before after : ℕ) : Type 0 where
    pub moved : AllMoved Sound list all left cost 2 old new before after
    pub falls : location old.ends < to → left_of left new < left_of left old
    pub later : to ≤ next
    pub top : next ≤ TOP
    pub least : (z : ℕ) → Contains (list_of list old) z → to ≤ z → next ≤ z
    pub rest : rest_of list old lead next ≤ rest_of list old lead to
    pub standing : OnTrue found (IsPlace (list_of list old) next)
    pub unpassed : OnTrue found (next < TOP → IsUnpassed list location new next)
    pub further : OnFalse found (rest_of list old lead next < rest_of list old lead to)
    pub ready : OnFalse found (IsUnpassed list location new (pred_of (list old.ends) next + 1))

  -- The readers went on to the first place of the list at or above `to`.
  pub record IsGone (lead : ℕ) (old new : Chains R) (to next before after : ℕ) : Type 0 where
    pub rounds : ℕ
    pub moved : AllMoved Sound list all left cost (2 * rounds) old new before after
    pub bounded : rounds + rest_of list old lead next ≤ 1 + rest_of list old lead to
    pub falls : location old.ends < to → left_of left new < left_of left old
    pub place : next ≡ first_from (list_of list old) to
    pub unpassed : next < TOP → IsUnpassed list location new next
