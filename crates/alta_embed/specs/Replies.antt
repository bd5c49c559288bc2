-- What the abstract machine replies to bytes of input.
use Rattle.std.specs.Prelude.{List, ℕ}
use Rattle.std.specs.List.{concat}
use Rattle.alta_console.specs.Lines.{lines_of}
use Rattle.alta_machine.specs.Machine.{started_at, replies}
use Rattle.alta_machine.specs.declared.document.State.{State}

-- its replies to their lines from this state on, joined
abbrev pub replies_to : State → List ℕ → List ℕ
replies_to s lines = concat (replies (started_at s) (lines_of lines))
