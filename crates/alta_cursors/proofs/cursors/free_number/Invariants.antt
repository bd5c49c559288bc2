use Rattle.std.proofs.Common.{◌≡◌, ◌+◌, ◌-◌, map, length}
use Rattle.alta_machine.specs.OpenAnswers.{first_free}
use Rattle.alta_cursors.specs.Open.{cursor_number}
use Rattle.alta_cursors.proofs.cursors.free_number.Given as goal

abbrev pub invariant-loop-tried : goal.invariant-loop-tried
invariant-loop-tried l =
    first_free (length l.cursors - l.tried) (l.tried + 1) (map cursor_number l.cursors) ≡ first_free (length l.cursors) 1 (map cursor_number l.cursors)
