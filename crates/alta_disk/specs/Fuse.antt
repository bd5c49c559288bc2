-- The disk inside a fuse, and what a call that the fuse fails leaves of it.
use Rattle.std.specs.Prelude.{◌≡◌, ◌⊎◌, ℕ, ◌-◌, ◌<◌, List, length, Result, IsErr}
use Rattle.alta_disk.specs.Images.{Tears, Stays}
use Rattle.alta_disk.specs.Memory.{media_of, LacksMemory, IsMemoryRead, IsMemoryWrite, IsMemorySync}
use Rattle.alta_disk.specs.declared.memory.MemoryDisk.{MemoryDisk}
use Rattle.alta_disk.specs.declared.fuse.FuseDisk.{FuseDisk}

abbrev pub fuse_inner : FuseDisk → MemoryDisk
fuse_inner d = d.inner

-- how many calls still pass
abbrev pub calls_left : FuseDisk → ℕ
calls_left d = d.left

-- each call that passes uses up one
abbrev pub UsesOne : FuseDisk → FuseDisk → Type 0
UsesOne old new = calls_left new ≡ calls_left old - 1

-- a read or a question for the length: passed on while calls are left, else failed with nothing changed
pub record IsFuseRead {T E : Type 0} (old new : FuseDisk) (result : Result T E) : Type 0 where
  pub uses : UsesOne old new
  pub passes : 0 < calls_left old → IsMemoryRead (fuse_inner old) (fuse_inner new) result
  pub blows : calls_left old ≡ 0 → IsErr result × Stays (media_of (fuse_inner old)) (media_of (fuse_inner new))

-- a write: passed on while calls are left, else failed with its range left pending
pub record IsFuseWrite {T E : Type 0} (at : ℕ) (bytes : List ℕ) (old new : FuseDisk)
    (result : Result T E) : Type 0 where
  pub uses : UsesOne old new
  pub passes : 0 < calls_left old → IsMemoryWrite at bytes (fuse_inner old) (fuse_inner new) result
  pub blows : calls_left old ≡ 0
      → IsErr result × (Tears at (length bytes) (media_of (fuse_inner old)) (media_of (fuse_inner new))
      ⊎ LacksMemory (fuse_inner old) (fuse_inner new))

-- a sync: passed on while calls are left, else failed with nothing changed
pub record IsFuseSync {T E : Type 0} (old new : FuseDisk) (result : Result T E) : Type 0 where
  pub uses : UsesOne old new
  pub passes : 0 < calls_left old → IsMemorySync (fuse_inner old) (fuse_inner new) result
  pub blows : calls_left old ≡ 0 → IsErr result × Stays (media_of (fuse_inner old)) (media_of (fuse_inner new))
