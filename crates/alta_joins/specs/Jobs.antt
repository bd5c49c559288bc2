-- A join that goes on in memory, and the job of a store that it is.
use Rattle.std.specs.Prelude.{◌≡◌, ◌<◌, true, ℕ, ◌+◌, List, [], ◌∷◌, ◌++◌, drop, length}
use Rattle.std.specs.List.{All}
use Rattle.alta_content.specs.Parts.{MayJoin}
use Rattle.alta_content.specs.Rows.{ends_among}
use Rattle.alta_content.specs.declared.content.Content.{Content}
use Rattle.alta_content.specs.declared.document.DocRow.{DocRow}
use Rattle.alta_meaning.specs.Work.{Job, whole_of}
use Rattle.alta_joins.specs.Contents.{AreSegmentsOn, IsContentOf}
use Rattle.alta_merge.specs.Merging.{Merging}
use Rattle.alta_table.specs.Tables.{Tables}
use Rattle.alta_content.specs.Joining.{terms_in}

-- The join is that of the job: it comes to the job's whole content, and of the terms of both levels those are left that are not
-- merged.
pub record IsMerging (merging : Merging) (job : Job) : Type 0 where
  pub whole : merging.whole ≡ whole_of job
  pub left : merging.left ≡ drop job.merged (terms_in (job.older ∷ job.newer ∷ []))

-- a job of which no term is merged
abbrev pub begun_job : Content → Content → List ℕ → Job
begun_job older newer dead = record { older = older; newer = newer; dead = dead; merged = 0 }

-- the job, with so many terms more merged
abbrev pub moved_by : Job → ℕ → Job
moved_by job n = record { older = job.older; newer = job.newer; dead = job.dead; merged = job.merged + n }

-- ---- over the two oldest levels

-- what was dead as a join began is gone, among these rows
abbrev pub DeadAreGone : (dead gone : List ℕ) → List DocRow → Type 0
DeadAreGone dead gone rows = All (λ (row : DocRow). ends_among dead row ≡ true → ends_among gone row ≡ true) rows

-- A join goes on over the two oldest of these levels, which have its contents. A term is left, and what was dead as it began is
-- gone.
pub record IsJoining (levels : List Tables) (gone : List ℕ) (merging : Merging) : Type 0 where
  pub job : Job
  pub is : IsMerging merging job
  pub older : Tables
  pub newer : Tables
  pub more : List Tables
  pub oldest : levels ≡ older ∷ newer ∷ more
  pub contents : IsContentOf older job.older × IsContentOf newer job.newer
  pub may : MayJoin (job.older ∷ job.newer ∷ [])
  pub left : job.merged < length (terms_in (job.older ∷ job.newer ∷ []))
  pub dead : DeadAreGone job.dead gone (job.older.documents ++ job.newer.documents)

-- its contents are those of the segments on an image
abbrev pub AreJoinedOn : (image : List ℕ) {levels : List Tables} {gone : List ℕ} {merging : Merging}
    → IsJoining levels gone merging → Type 0
AreJoinedOn image joining = AreSegmentsOn image (joining.older ∷ joining.newer ∷ [])
    (joining.job.older ∷ joining.job.newer ∷ [])

-- it begins: no term is merged, and what is gone is dead
abbrev pub IsBegun : {levels : List Tables} {gone : List ℕ} {merging : Merging} → IsJoining levels gone merging → Type 0
IsBegun {gone = gone} joining = (joining.job.dead ≡ gone) × (joining.job.merged ≡ 0)
