-- What is kept of a run, in one word.
use Rattle.std.specs.Prelude.{ℕ, ◌≤◌, List, length, take}
use Rattle.std.specs.List.{concat}
use Rattle.alta_console.specs.Replies.{IsPrefix}
use Rattle.alta_machine.specs.Machine.{Machine, machine_after, replies}
use Rattle.alta_machine.specs.declared.document.State.{State}

-- The image has this of the state after some of the lines, in order from the first. Each line is among them whose reply begins what was
-- given, behind the replies to the lines before it.
pub record HoldsAnswered (Has : State → List ℕ → Type 0) (start : Machine) (lines : List (List ℕ))
    (given image : List ℕ) : Type 0 where
  pub reached : ℕ
  pub within : reached ≤ length lines
  pub has : Has (machine_after start (take reached lines)).state image
  pub answered : (n : ℕ) → n ≤ length lines → IsPrefix (concat (take n (replies start lines))) given → n ≤ reached
