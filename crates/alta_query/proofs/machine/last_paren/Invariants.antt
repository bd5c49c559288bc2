use Rattle.std.proofs.Common.{◌≡◌, ℕ, vec_len}
use Rattle.alta_machine.specs.Shape.{Shape}
use Rattle.alta_machine.specs.Parser.{close}
use Rattle.alta_query.specs.Kept.{frames_of}
use Rattle.alta_query.proofs.machine.last_paren.Given as goal

abbrev pub invariant-loop-frame : goal.invariant-loop-frame
invariant-loop-frame l = (q : Shape) (n : ℕ) → close q (frames_of l.initial.frames.items) n ≡ close q (frames_of l.frames.items) n

abbrev pub decreases-loop-frame : goal.decreases-loop-frame
decreases-loop-frame l = vec_len l.frames
