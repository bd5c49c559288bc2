-- What reading on does to a reader.
use Rattle.std.specs.Prelude.{◌≡◌, ℕ, ◌+◌, ◌≤◌, List, All, map, sum_by}
use Rattle.alta_rank.specs.Scoring.{Scoring, left_of}

-- A sound reader reads what it read, and is such as is said. What is left of it fell at least by the steps.
pub record ReadsOn {R : Type 0} (Sound : R → Type 0) (list : R → List ℕ) (left : R → ℕ) (Is : R → Type 0) (old new : R)
    (before after : ℕ) : Type 0 where
  pub sound : Sound new
  pub same_list : list new ≡ list old
  pub is : Is new
  pub steps : after + left new ≤ before + left old

-- The same of several readers.
pub record ReadOn {R : Type 0} (Sound : R → Type 0) (list : R → List ℕ) (left : R → ℕ) (old new : List R)
    (before after : ℕ) : Type 0 where
  pub sound : All Sound new
  pub lists : map list new ≡ map list old
  pub steps : after + sum_by left new ≤ before + sum_by left old

-- A scorer reads what it read, and was asked nothing more. What is left of it fell at least by the steps.
pub record LooksOn {R : Type 0} (list : R → List ℕ) (left : R → ℕ) (old new : Scoring R)
    (before after : ℕ) : Type 0 where
  pub uses : new.uses ≡ old.uses
  pub lists : map list new.readers ≡ map list old.readers
  pub titles : list new.titles ≡ list old.titles
  pub asked : new.asked ≡ old.asked
  pub steps : after + left_of left new ≤ before + left_of left old
