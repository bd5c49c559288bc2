-- What a disk in memory is at one moment, and what its calls do to it.
use Rattle.std.specs.Prelude.{◌≡◌, ◌⊎◌, ◌↔◌, ℕ, ◌+◌, ◌-◌, ◌^◌, min, Bool, ◌==◌, List, length, Result, IsErr, OnOk, OnErr, IsTrue}
use Rattle.std.specs.List.{list_any}
use Rattle.alta_codec.specs.Faults.{Rose, CountsErrors}
use Rattle.alta_disk.specs.Calls.{Charges}
use Rattle.alta_disk.specs.Disk.{DiskState, Passes, IsLawful}
use Rattle.alta_disk.specs.Media.{Media, start, after, state_of}
use Rattle.alta_disk.specs.MediaLaws.{media_lawful}
use Rattle.alta_disk.specs.Images.{Pends, Tears, Firms, Stays}
use Rattle.alta_disk.specs.declared.memory.MemoryDisk.{MemoryDisk}

-- content, firm bytes, and the ranges written since the last sync
abbrev pub media_of : MemoryDisk → Media
media_of m = after (start m.written.first.items) m.written.events.items

abbrev pub memory_state : MemoryDisk → DiskState
memory_state m = state_of m.written.first.items m.written.events.items m.faults m.taken m.limit

pub memory_lawful : (m : MemoryDisk) → IsLawful (Unit {0}) (memory_state m)
memory_lawful m = media_lawful m.written.first.items m.written.events.items m.faults m.taken m.limit _ _
    m.written.kept m.fits

-- the number of the next call, from 1
abbrev pub next_call : MemoryDisk → ℕ
next_call m = min (m.calls + 1) (2 ^ 64 - 1)

-- the numbers of the calls that are to fail
abbrev pub failing_calls : MemoryDisk → List ℕ
failing_calls m = m.fail.items

-- the next call is one of those that are to fail
abbrev pub will_fail : MemoryDisk → Bool
will_fail m = list_any (λ n. n == next_call m) m.fail.items

-- the call was counted, and the numbers of those that are to fail stay
abbrev pub Counts : MemoryDisk → MemoryDisk → Type 0
Counts old new = (new.calls ≡ next_call old) × (new.fail.items ≡ old.fail.items)

-- there was no memory to keep what the call was to do, so it did nothing, and that was counted
pub record LacksMemory (old new : MemoryDisk) : Type 0 where
  pub stays : Stays (media_of old) (media_of new)
  pub counted : Rose old.unrecorded new.unrecorded

-- each image goes by a step, and exactly the errors are counted
pub record IsMemoryCall {T E : Type 0} (bytes : ℕ) (step : List ℕ → List ℕ → Type 0) (old new : MemoryDisk)
    (result : Result T E) : Type 0 where
  pub images : Passes step (memory_state old) (memory_state new)
  pub charges : Charges bytes (memory_state old) (memory_state new) result
  pub faults : CountsErrors (memory_state old).faults (memory_state new).faults result

-- exactly what a read or a question for the length leaves
pub record IsMemoryRead {T E : Type 0} (old new : MemoryDisk) (result : Result T E) : Type 0 where
  pub counts : Counts old new
  pub refused : IsErr result ↔ IsTrue (will_fail old)
  pub stays : Stays (media_of old) (media_of new)

-- exactly what a write leaves
pub record IsMemoryWrite {T E : Type 0} (at : ℕ) (bytes : List ℕ) (old new : MemoryDisk)
    (result : Result T E) : Type 0 where
  pub counts : Counts old new
  pub refused : IsTrue (will_fail old) → IsErr result
  pub done : OnOk result (Pends at (length bytes) (media_of old) (media_of new))
  pub failed : OnErr result ((IsTrue (will_fail old) × Tears at (length bytes) (media_of old) (media_of new))
      ⊎ LacksMemory old new)

-- exactly what a sync leaves
pub record IsMemorySync {T E : Type 0} (old new : MemoryDisk) (result : Result T E) : Type 0 where
  pub counts : Counts old new
  pub refused : IsTrue (will_fail old) → IsErr result
  pub done : OnOk result (Firms (media_of old) (media_of new))
  pub failed : OnErr result ((IsTrue (will_fail old) × Stays (media_of old) (media_of new)) ⊎ LacksMemory old new)
