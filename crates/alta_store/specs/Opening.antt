-- What a call that opens an index does, in one word.
use Rattle.std.specs.Prelude.{◌≡◌, ◌⊎◌, ◌+◌, ◌≤◌, ℕ, Result, Err, OnOk, IfErr}
use Rattle.alta_layout.specs.declared.places.TheConstants.{HALF_BYTES, HEAD_BYTES}
use Rattle.alta_layout.specs.declared.slot.Slot.{Slot}
use Rattle.alta_codec.specs.Faults.{Rose}
use Rattle.alta_disk.specs.Disk.{DiskState, Passes, Same}
use Rattle.alta_meaning.specs.Broken.{IsBrokenAt}
use Rattle.alta_meaning.specs.Opened.{IsOpened, Opened}
use Rattle.alta_opening.specs.Costs.{named_bytes}
use Rattle.alta_root.specs.Slots.{Counts, HasNoRoot}
use Rattle.alta_root.specs.declared.root.Root.{Root}
use Rattle.alta_store.specs.Answers.{AnswersFault, IsOutside}
use Rattle.alta_store.specs.declared.fault.StoreFault.{StoreFault}
use Rattle.alta_store.specs.declared.fault.StoreFault.TheVariants.{Damaged, Disk, NoRoot}

-- It answers as the content says, whatever value it gives where the content is opened; it writes nothing, and reads no more than
-- both slots, what the root that counts names, and its half of the journal.
pub record Opens {T : Type 0} (tells : Type 0) (before after : DiskState) (result : Result T StoreFault) : Type 0 where
  -- content that is opened is so here, and else `NoRoot` and `Damaged` come exactly where it is so; an outside cause comes first
  pub opened : (o : Opened) → tells → IsOpened o before.content → IfErr result IsOutside
  pub no_root : tells → result ≡ Err NoRoot → HasNoRoot before.content
  pub rooted : tells → HasNoRoot before.content → AnswersFault result NoRoot
  pub damaged : (place : ℕ) → tells → result ≡ Err (Damaged place) → IsBrokenAt before.content place
  pub undamaged : (place : ℕ) → tells → IsBrokenAt before.content place → AnswersFault result (Damaged place)
  pub only : IfErr result (λ e. IsOutside e ⊎ ((e ≡ NoRoot) ⊎ ((place : ℕ) × (e ≡ Damaged place))))
  pub cause : result ≡ Err Disk → Rose before.faults after.faults
  -- the disk may be long enough then
  pub limit : OnOk result (HEAD_BYTES ≤ after.limit)
  -- the disk holds what it held, and each image is one of those before
  pub content : tells → after.content ≡ before.content
  pub images : Passes Same before after
  pub faults : before.faults ≤ after.faults
  pub read : tells → (slot : Slot) → (root : Root) → Counts slot root before.content
      → after.taken ≤ before.taken + (592 + named_bytes root before.content + HALF_BYTES)
  pub same_limit : after.limit ≡ before.limit
