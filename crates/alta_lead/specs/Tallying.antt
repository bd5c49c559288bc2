-- The documents of a list one behind the other, to which readers lead.
use Rattle.std.specs.Prelude.{ℕ, ◌+◌, ◌<◌, ◌≤◌, Bool, List, map, Contains}
use Rattle.std.specs.Bool.{OnTrue, OnFalse}
use Rattle.alta_codec.specs.declared.location.TheConstants.{TOP}
use Rattle.alta_codec.specs.Rising.{IsPlace, count_from}
use Rattle.alta_docread.specs.Tree.{IsAhead}
use Rattle.alta_lead.specs.Moves.{AreAhead, IsMoved, AreMoved}

module _ {E R : Type 0} (EndSound : E → Type 0) (end_list end_all : E → List ℕ) (end_location end_left end_cost : E → ℕ)
    (Sound : R → Type 0) (list all : R → List ℕ) (location left cost : R → ℕ) where
  -- The readers of these lists went on to the first document from `from` on in which the leading list has a location. It ends
  -- there, or there is none and that is TOP; and its end is found in the list `having` or not, which has none before it.
  pub record IsLedTo (lead having of_ends : List ℕ) (of_words of_negated : List (List ℕ)) (ends ends' : E)
      (words words' negated negated' : List R)
      (from end : ℕ) (found : Bool) (before after : ℕ) : Type 0 where
    pub by_ends : ℕ
    pub by_words : ℕ
    pub by_negated : ℕ
    pub ends_moved : IsMoved EndSound end_list end_all end_left end_cost 1 ends ends' by_ends
    pub words_moved : AreMoved Sound list all left cost 2 words words' by_words
    pub negated_moved : AreMoved Sound list all left cost 1 negated negated' by_negated
    pub steps : after ≤ before + by_ends + by_words + by_negated
    pub later : from ≤ end
    pub standing : IsPlace of_ends end
    pub top : end ≤ TOP
    pub least : (z : ℕ) → Contains having z → from ≤ z → end ≤ z
    pub some : OnTrue found (end < TOP → Contains having end)
    pub none : OnFalse found (end < TOP → Contains having end → ⊥)
    pub rest : end < TOP → count_from lead (end + 1) < count_from lead from
    pub ends_ahead : end < TOP → IsAhead (end + 1) of_ends (end_location ends')
    pub words_ahead : end < TOP → AreAhead (end + 1) of_words (map location words')
    pub negated_ahead : end < TOP → AreAhead (end + 1) of_negated (map location negated')
