-- What is opened is spaced.
use Rattle.std.proofs.Common.{ℕ, ◌≤◌, List}
use Rattle.alta_codec.specs.Bytes.{AreBytes}
use Rattle.alta_meaning.proofs.SpacedLaws.{rows_spaced}
use Rattle.alta_meaning.specs.Holding.{IsSpaced}
use Rattle.alta_meaning.specs.Levels.{Level}
use Rattle.alta_meaning.specs.Opened.{Opened, IsOpened}
use Rattle.alta_meaning.specs.Standing.{view_of}
use Rattle.alta_meaning.specs.Work.{newest}
use Rattle.alta_memlevel.specs.Added.{IsSpace}
use Rattle.alta_root.proofs.Frames.{counts_sound}
use Rattle.alta_rewrite.specs.Rewrites.{HaveRows}
use Rattle.alta_rewrite.proofs.OpenedLaws.{opened_documents, opened_known, rows_by}

pub opened_spaced : (o : Opened) (there : List Level) (image : List ℕ) → IsOpened o image → AreBytes image → HaveRows o there → IsSpace (newest (view_of o there)) → IsSpaced (view_of o there) × (1 ≤ o.root.next_location)
opened_spaced o there image is fits have space = (
  rows_spaced o there image is.named (opened_documents o image is fits) (rows_by o.levels there have.rows) (opened_known o there have) space,
  (counts_sound o.slot o.root image is.counts).location.0,
)
