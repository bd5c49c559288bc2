-- The readers of a conjunction.
use Rattle.std.specs.Prelude.{◌≡◌, ℕ, ◌+◌, ◌*◌, ◌<◌, ◌≤◌, List, ◌++◌, map, length, All}
use Rattle.std.specs.List.{concat}
use Rattle.alta_codec.specs.declared.location.TheConstants.{TOP}
use Rattle.alta_codec.specs.Rising.{IsRising, IsPlace, first_from}
use Rattle.alta_lead.specs.Moves.{Chains, left_of, list_of, rest_of, IsUnpassed, MovesEach}
use Rattle.alta_lead.specs.declared.reader.LeadReader.{LeadReader}

abbrev pub chains_of : {R : Type 0} → LeadReader R → Chains R
chains_of r = record { ends = r.ends.inner; words = r.words.items; negated = r.negated.items }

-- What a reader of a conjunction keeps: it stands at an end of its list or at TOP, and below TOP no reader has passed an
-- element from there on.
pub record IsSoundLead {R : Type 0} (Sound : R → Type 0) (list : R → List ℕ) (location : R → ℕ)
    (r : LeadReader R) : Type 0 where
  pub ends : Sound r.ends.inner
  pub words : All Sound r.words.items
  pub negated : All Sound r.negated.items
  pub lead : r.lead < length r.words.items
  pub rising : IsRising (list r.ends.inner)
  pub stands : IsPlace (list_of list (chains_of r)) r.at
  pub unpassed : r.at < TOP → IsUnpassed list location (chains_of r) r.at

-- the reader reads what it read, by the same leading word
pub record IsSame {R : Type 0} (list : R → List ℕ) (old new : LeadReader R) : Type 0 where
  pub lead : new.lead ≡ old.lead
  pub ends : list new.ends.inner ≡ list old.ends.inner
  pub words : map list new.words.items ≡ map list old.words.items
  pub negated : map list new.negated.items ≡ map list old.negated.items

-- all elements of all readers
abbrev pub all_of : {R : Type 0} → (R → List ℕ) → Chains R → List ℕ
all_of all c = all c.ends ++ concat (map all c.words) ++ concat (map all c.negated)

-- The reader went on to the first place of its list at or above `to`. Each of its readers moved at most twice for each
-- element of the leading word that is behind it now and was not before.
pub record IsOn {R : Type 0} (Sound : R → Type 0) (list all : R → List ℕ) (location left cost : R → ℕ)
    (old new : LeadReader R) (to before after : ℕ) : Type 0 where
  pub sound : IsSoundLead Sound list location new
  pub same : IsSame list old new
  pub same_list : list_of list (chains_of new) ≡ list_of list (chains_of old)
  pub same_all : all_of all (chains_of new) ≡ all_of all (chains_of old)
  pub place : new.at ≡ first_from (list_of list (chains_of old)) to
  pub falls : left_of left (chains_of new) < left_of left (chains_of old)
  pub steps : after + left_of left (chains_of new) ≤ before + left_of left (chains_of old)
  pub moves : MovesEach list cost (chains_of old) (2 * rest_of list (chains_of old) old.lead old.at)
      (2 * rest_of list (chains_of old) old.lead new.at) before after
