-- The first damage among levels, and what a call that reads them tells.
use Rattle.std.specs.Prelude.{◌⊎◌, ℕ, List, [], ◌∷◌, Result, IfOk}
use Rattle.alta_content.specs.declared.content.Content.{Content}
use Rattle.alta_meaning.specs.Opened.{bytes_at, extent_of}
use Rattle.alta_disk.specs.Answers.{IfDamaged, IsDamaged, IsFound}
use Rattle.alta_joins.specs.Contents.{AreSegmentsOn, IsSegmentOn}
use Rattle.alta_disk.specs.declared.fault.LoadFault.{LoadFault}
use Rattle.alta_level.specs.Damage.{IsSegmentFault}
use Rattle.alta_table.specs.Tables.{Tables}

-- the segment of the level on an image has its first damage at a place
abbrev pub IsDamageOn : List ℕ → Tables → ℕ → Type 0
IsDamageOn image level place = IsSegmentFault (bytes_at (extent_of level) image) level.place place

-- the first damage of the first level that has one: each level before it is the segment of a content
abbrev pub IsFirstDamage : List ℕ → List Tables → ℕ → Type 0
IsFirstDamage image [] place = ⊥
IsFirstDamage image (level ∷ levels) place = IsDamageOn image level place
    ⊎ (((content : Content) × IsSegmentOn image level content) × IsFirstDamage image levels place)

-- Unless the disk failed or memory ran out, the call answered the contents of these levels where each has one, and else the first damage.
pub record Tells {X : Type 0} (view : X → List Content) (image : List ℕ) (levels : List Tables)
    (result : Result X LoadFault) : Type 0 where
  pub segments : IfOk result (λ x. AreSegmentsOn image levels (view x))
  pub only : (contents : List Content) → AreSegmentsOn image levels contents → IsFound view result contents
  pub first : IfDamaged result (IsFirstDamage image levels)
  pub damaged : (place : ℕ) → IsFirstDamage image levels place → IsDamaged result place

-- Unless the disk failed or memory ran out, the call answered damage exactly where one of these levels is damaged: the first.
pub record FindsDamage {X : Type 0} (image : List ℕ) (levels : List Tables) (result : Result X LoadFault) : Type 0 where
  pub undamaged : (contents : List Content) → AreSegmentsOn image levels contents → IfDamaged result (λ place. ⊥)
  pub first : IfDamaged result (IsFirstDamage image levels)
  pub damaged : (place : ℕ) → IsFirstDamage image levels place → IsDamaged result place
