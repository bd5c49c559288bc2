-- What a call on cursors did.
use Rattle.std.specs.Prelude.{ℕ, List, Result, IfOk, IfErr, OnOk, ◌≡◌}
use Rattle.alta_cursors.specs.Open.{AreOpen}
use Rattle.alta_cursors.specs.declared.cursors.OpenCursor.{OpenCursor}
use Rattle.alta_store.specs.declared.fault.StoreFault.{StoreFault}
use Rattle.alta_store.specs.declared.fault.StoreFault.TheVariants.{Memory}
use Rattle.alta_machine.specs.Cursors.{Turn}
use Rattle.alta_machine.specs.Machine.{IsRefusal}
use Rattle.alta_machine.specs.OpenAnswers.{OpenAnswers}

-- A call came to this turn: with its reply, and these cursors are open.
pub record Turns (turn : Turn) (cursors : List OpenCursor) (result : Result (List ℕ) StoreFault) : Type 0 where
  pub reply : IfOk result (λ reply. reply ≡ turn.1)
  pub open_now : OnOk result (AreOpen cursors turn.0)

-- A call on cursors alone comes to a turn of what is open. It fails for want of memory alone, and where it refuses, the cursors are as they were.
pub record TurnsCursors (turn : List OpenAnswers → Turn) (cursors cursors_now : List OpenCursor)
    (result : Result (List ℕ) StoreFault) : Type 0 where
  pub turned : (all : List OpenAnswers) → AreOpen cursors all → Turns (turn all) cursors_now result
  pub memory : IfErr result (λ e. e ≡ Memory)
  pub refused : IfOk result (λ reply. IsRefusal reply → cursors_now ≡ cursors)
