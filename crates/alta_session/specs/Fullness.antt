-- The first line whose work finds no place.
use Rattle.std.specs.Prelude.{◌≡◌, ◌⊎◌, ℕ, ◌+◌, ◌<◌, List, length, take, Ok, Err}
use Rattle.std.specs.List.{concat}
use Rattle.alta_disk.specs.Disk.{DiskState}
use Rattle.alta_meaning.specs.Holding.{Holding}
use Rattle.alta_machine.specs.Machine.{Machine, replies}
use Rattle.alta_session.specs.Tasks.{worked_lines}
use Rattle.alta_session.specs.declared.status.Status.{Status}
use Rattle.alta_session.specs.declared.status.Status.TheVariants.{DiskFault, GiveFault, Memory, Full}
use Rattle.alta_store.specs.Calls.{IsNarrow}

-- The work of the first `answered` lines finds its places, and that of the next line needs `need` bytes where the greatest gap has `gap`.
pub record Overflows (limit : ℕ) (held : Holding) (start : Machine) (lines : List (List ℕ))
    (answered need gap : ℕ) : Type 0 where
  pub within : answered < length lines
  pub now : Holding
  pub done : worked_lines limit start held (take answered lines) ≡ Ok now
  pub wanting : worked_lines limit start held (take (answered + 1) lines) ≡ Err (record { need = need; gap = gap })

-- It ended with `Full` only where a line's work found no place. The lines before were answered, and no more was given.
abbrev pub IsFullOnly : ℕ → Holding → Machine → List (List ℕ) → List ℕ → Status → Type 0
IsFullOnly limit held start lines given status =
    (need gap : ℕ) → status ≡ Full need gap
    → (answered : ℕ) × Overflows limit held start lines answered need gap
    × (given ≡ concat (take answered (replies start lines)))

-- want of memory, or a fault of the disk or of giving, which is counted
abbrev pub IsInterrupted : Status → Type 0
IsInterrupted status = (status ≡ Memory) ⊎ ((status ≡ DiskFault) ⊎ (status ≡ GiveFault))

-- It ended with `Full` exactly where a line's work found no place, or it was interrupted before.
pub record IsFullExactly (limit : ℕ) (held : Holding) (start : Machine) (lines : List (List ℕ)) (given : List ℕ)
    (status : Status) : Type 0 where
  pub only : IsFullOnly limit held start lines given status
  pub always : (answered need gap : ℕ) → Overflows limit held start lines answered need gap
      → (status ≡ Full need gap) ⊎ IsInterrupted status

-- On this disk a place is wanting: a switch of its root, by a flush, a step or a merge, has to write `need` bytes, and the greatest gap
-- that it finds then has `gap`.
abbrev pub IsFull : DiskState → ℕ → ℕ → Type 0
IsFull disk need gap = IsNarrow disk.limit disk.content need gap
