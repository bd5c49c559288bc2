-- A disk without documents: zeros over the head, and the fields of the first slot.
use Rattle.std.specs.Prelude.{◌≡◌, ℕ, ◌≤◌, ◌-◌, List, ◌∷◌, ◌++◌, length, take, drop, replicate, Result, OnOk}
use Rattle.std.specs.List.{All}
use Rattle.alta_layout.specs.declared.places.TheConstants.{GATE_OPEN, HEAD_BYTES}
use Rattle.alta_codec.specs.Faults.{HasCause}
use Rattle.alta_disk.specs.Disk.{DiskState}
use Rattle.alta_meaning.specs.Switching.{empty_root}
use Rattle.alta_root.specs.Root.{fields_of}

-- these bytes are zero
abbrev pub AreZero : List ℕ → Type 0
AreZero bytes = All (λ b. b ≡ 0) bytes

-- a disk's first n bytes are zero
pub record IsClear (n : ℕ) (image : List ℕ) : Type 0 where
  pub long : n ≤ length image
  pub zeros : AreZero (take n image)

-- A call that clears a disk: once it is done, its first n bytes are zero, and those behind the head are as they were. It reads nothing, and
-- an error has a cause.
pub record Clears {T E : Type 0} (tells : Type 0) (n : ℕ) (before after : DiskState)
    (result : Result T E) : Type 0 where
  pub clear : tells → OnOk result (IsClear n after.content)
  pub behind : tells → OnOk result (drop HEAD_BYTES after.content ≡ drop HEAD_BYTES before.content)
  pub cause : HasCause before.faults after.faults result
  pub taken : after.taken ≡ before.taken
  pub same_limit : after.limit ≡ before.limit

-- the head of a disk without documents: an open gate and the fields of a root without documents, and zeros to the end of the journal
unfoldable pub empty_head : List ℕ
empty_head = GATE_OPEN ∷ fields_of empty_root ++ replicate (HEAD_BYTES - 40) 0
