use Rattle.std.proofs.Common.{◌≢◌, ℕ, ◌<◌, get_or}
use Rattle.alta_cursors.specs.declared.cursors.OpenCursor.{OpenCursor}
use Rattle.alta_cursors.proofs.cursors.place_of.Given as goal

abbrev pub invariant-loop-place : goal.invariant-loop-place
invariant-loop-place l = (k : ℕ) (d : OpenCursor) → k < l.place → (get_or l.cursors k d).number ≢ l.number
