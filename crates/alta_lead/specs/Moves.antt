-- What moves do to the readers of a conjunction.
use Rattle.std.specs.Prelude.{◌≡◌, ℕ, ◌+◌, ◌*◌, ◌<◌, ◌≤◌, List, [], map, length, slice_index, slice_index_or, All, sum_by}
use Rattle.alta_codec.specs.Rising.{pred_of, count_from}
use Rattle.alta_docread.specs.Tree.{IsAhead}
use Rattle.alta_lead.specs.Having.{ends_having}

-- no reader has passed an element of its list from the place on
abbrev pub AreAhead : ℕ → List (List ℕ) → List ℕ → Type 0
AreAhead from lists places = (k : ℕ) → k < length lists
    → IsAhead from (slice_index_or lists k []) (slice_index places k)

-- the readers of a conjunction: of the ends, of the words and of the negated words
pub record Chains (R : Type 0) : Type 0 where
  pub ends : R
  pub words : List R
  pub negated : List R

-- what is left of all readers
abbrev pub left_of : {R : Type 0} → (R → ℕ) → Chains R → ℕ
left_of left c = left c.ends + sum_by left c.words + sum_by left c.negated

module _ {R : Type 0} (list : R → List ℕ) where
  -- the list of a conjunction
  abbrev pub list_of : Chains R → List ℕ
  list_of c = ends_having (list c.ends) (map list c.words) (map list c.negated)

  -- how many elements the list of one word has in the document of a place and behind it
  abbrev pub rest_of : Chains R → ℕ → ℕ → ℕ
  rest_of c lead place = count_from (slice_index_or (map list c.words) lead []) (pred_of (list c.ends) place + 1)

  -- what one move of each reader costs, where a move costs this by the list that is read
  abbrev pub cost_of : (List ℕ → ℕ) → Chains R → ℕ
  cost_of of c = of (list c.ends) + sum_by of (map list c.words) + sum_by of (map list c.negated)

  -- no reader has passed an element of its list from the place on
  pub record IsUnpassed (location : R → ℕ) (c : Chains R) (from : ℕ) : Type 0 where
    pub ends : IsAhead from (list c.ends) (location c.ends)
    pub words : AreAhead from (map list c.words) (map location c.words)
    pub negated : AreAhead from (map list c.negated) (map location c.negated)

  -- Each reader is left `more` moves of the `most` that it had: whatever a move of a reader costs by the list that it
  -- reads, the steps and the costs of `more` moves of each are at most the costs of `most` moves of each. Nothing is said of
  -- readers that can cost more and more over the same list, as unions of ever more empty lists do.
  abbrev pub MovesEach : (R → ℕ) → Chains R → ℕ → ℕ → ℕ → ℕ → Type 0
  MovesEach cost c most more before after =
      (of : List ℕ → ℕ) → ((r : R) → cost r ≤ of (list r)) → after + more * cost_of of c ≤ before + most * cost_of of c

module _ {R : Type 0} (Sound : R → Type 0) (list all : R → List ℕ) (left cost : R → ℕ) where
  -- One reader went on: it reads what it read, what is left of it fell by at least the steps, and it moved at most `most`
  -- times.
  pub record IsMoved (most : ℕ) (old new : R) (spent : ℕ) : Type 0 where
    pub sound : Sound new
    pub same_list : list new ≡ list old
    pub same_all : all new ≡ all old
    pub steps : spent + left new ≤ left old
    pub each : (of : List ℕ → ℕ) → ((r : R) → cost r ≤ of (list r)) → spent ≤ most * of (list old)

  -- several readers went on, and each moved at most `most` times
  pub record AreMoved (most : ℕ) (old new : List R) (spent : ℕ) : Type 0 where
    pub sound : All Sound new
    pub lists : map list new ≡ map list old
    pub alls : map all new ≡ map all old
    pub steps : spent + sum_by left new ≤ sum_by left old
    pub each : (of : List ℕ → ℕ) → ((r : R) → cost r ≤ of (list r)) → spent ≤ most * sum_by of (map list old)

  -- all readers of a conjunction went on, and each moved at most `most` times
  pub record AllMoved (most : ℕ) (old new : Chains R) (before after : ℕ) : Type 0 where
    pub of_ends : ℕ
    pub of_words : ℕ
    pub of_negated : ℕ
    pub ends : IsMoved most old.ends new.ends of_ends
    pub words : AreMoved most old.words new.words of_words
    pub negated : AreMoved most old.negated new.negated of_negated
    pub steps : after ≤ before + of_ends + of_words + of_negated

-- The steps are at most so many moves of each reader, by what one move of each costs: whatever a move of a reader of the ends and of
-- any other costs by the list that it reads.
abbrev pub CostsAtMost : {E R : Type 0} → (E → List ℕ) → (E → ℕ) → (R → List ℕ) → (R → ℕ) → ℕ
    → ((List ℕ → ℕ) → ℕ) → ℕ → ℕ → Type 0
CostsAtMost {E = E} {R = R} ends_list ends_cost list cost moves each before after =
    (of : List ℕ → ℕ) → ((e : E) → ends_cost e ≤ of (ends_list e)) → ((r : R) → cost r ≤ of (list r))
    → after ≤ before + moves * each of
