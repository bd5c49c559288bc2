-- What a scorer is: a reader of the list of each use, one of the places where titles end, and the last end asked.
use Rattle.std.specs.Prelude.{◌≡◌, ℕ, ◌+◌, ◌≤◌, List, length, All, sum_by}
use Rattle.alta_codec.specs.Rising.{pred_of}
use Rattle.alta_machine.specs.declared.usage.Use.{Use}

pub record Scoring (R : Type 0) : Type 0 where
  pub readers : List R
  pub uses : List Use
  pub titles : R
  pub asked : ℕ

-- No reader has passed a location above the last end asked.
pub record IsScoring {R : Type 0} (sound : R → Type 0) (list : R → List ℕ) (location : R → ℕ)
    (s : Scoring R) : Type 0 where
  pub sound_readers : All sound s.readers
  pub sound_titles : sound s.titles
  pub paired : length s.uses ≡ length s.readers
  pub behind : All (λ r. pred_of (list r) (location r) ≤ s.asked) s.readers
  pub titles_behind : pred_of (list s.titles) (location s.titles) ≤ s.asked

-- what is left of all its readers
abbrev pub left_of : {R : Type 0} → (R → ℕ) → Scoring R → ℕ
left_of left s = sum_by left s.readers + left s.titles
