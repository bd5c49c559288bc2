-- What a console in memory stands for, and what its calls do to it beside that.
use Rattle.std.specs.Prelude.{◌≡◌, ℕ, List, drop, Contains}
use Rattle.alta_console.specs.declared.event.Event.{Event}
use Rattle.alta_console.specs.declared.memory.MemoryConsole.{MemoryConsole}
use Rattle.alta_console.specs.Sizes.{one_more}

-- the events so far
abbrev pub transcript : MemoryConsole → List Event
transcript m = m.events.items

-- the input still to come
abbrev pub input_left : MemoryConsole → List ℕ
input_left m = drop m.at m.input.items

-- the listed sizes of the pieces still to come
abbrev pub sizes_left : MemoryConsole → List ℕ
sizes_left m = drop m.turn m.pieces.items

-- the numbers of the calls that fail
abbrev pub failing : MemoryConsole → List ℕ
failing m = m.fail.items

-- the number of the next call
abbrev pub next_call : MemoryConsole → ℕ
next_call m = m.number

-- how many takes failed, up to the last value of a u64
abbrev pub failed_takes : MemoryConsole → ℕ
failed_takes m = m.take_faults

-- how many gives failed, up to the last value of a u64
abbrev pub failed_gives : MemoryConsole → ℕ
failed_gives m = m.give_faults

-- how many calls failed for want of memory, up to the last value of a u64
abbrev pub times_starved : MemoryConsole → ℕ
times_starved m = m.starved

-- the next call is one that fails
abbrev pub IsListed : MemoryConsole → Type 0
IsListed m = Contains (failing m) (next_call m)

-- A call was counted, and which calls fail stands as before.
pub record CountsCall (old new : MemoryConsole) : Type 0 where
  pub number : next_call new ≡ one_more (next_call old)
  pub failing : failing new ≡ failing old

-- A call left what was told, what is still to come and in what pieces.
pub record SameContent (old new : MemoryConsole) : Type 0 where
  pub events : transcript new ≡ transcript old
  pub input : input_left new ≡ input_left old
  pub sizes : sizes_left new ≡ sizes_left old
