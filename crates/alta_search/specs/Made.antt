-- Readers of lists and trees of readers that were made, with the steps that this took.
use Rattle.std.specs.Prelude.{◌≡◌, ℕ, ◌+◌, ◌≤◌, List, Result, IfOk}
use Rattle.alta_codec.specs.Rising.{count_from}
use Rattle.alta_docread.specs.Tree as read
use Rattle.alta_machine.specs.Plans.{Tree}
use Rattle.alta_search.specs.Plans.{lists}
use Rattle.alta_search.specs.Readers.{ArePlanted}
use Rattle.alta_words.specs.Leaf.{leaf_list, leaf_place}
use Rattle.alta_words.specs.declared.leaf.Leaf.{Leaf}

-- what is left of a reader of one list
abbrev pub leaf_left : Leaf → ℕ
leaf_left r = count_from (leaf_list r) (leaf_place r)

-- a sound reader of a list was made, which stands so, by one step
pub record IsMadeReader {R : Type 0} (before after : ℕ) (r : R) (IsSound IsSo : R → Type 0) : Type 0 where
  pub sound : IsSound r
  pub start : IsSo r
  pub steps : after ≡ before + 1

-- Where memory was there, sound readers of so many lists were made, which stand so, by a step a list; else by no more.
pub record MakesReaders {A E : Type 0} (n before after : ℕ) (result : Result A E)
    (IsSound IsSo : A → Type 0) : Type 0 where
  pub sound : IfOk result IsSound
  pub start : IfOk result IsSo
  pub exact : IfOk result (λ _. after ≡ before + n)
  pub most : after ≤ before + n

-- Where memory was there, the trees of these plans were made of the first of these lists; a step was added for each at most.
pub record Plants {A E : Type 0} (cuts : List (List (List (List ℕ)))) (plans : List Tree) (before after : ℕ)
    (result : Result A E) (rest : A → List (List (List (List ℕ)))) (trees : A → List read.Tree) : Type 0 where
  pub planted : IfOk result (λ r. ArePlanted cuts (rest r) plans (trees r) before after)
  pub most : after ≤ before + lists cuts
