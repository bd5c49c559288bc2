-- What a root names lies on the disk, and what opening answers of it.
use Rattle.std.proofs.Common.{◌≡◌, ⊎_elim, ℕ, ◌≤◌, List, [], ◌∷◌, ◌++◌, length, ap, subst, Result, Err, arith}
use Rattle.std.specs.List.{All}
use Rattle.std.proofs.lemmas.List.Elements.{All-nil, All-cons}
use Rattle.alta_layout.specs.declared.slot.Slot.{Slot}
use Rattle.alta_codec.specs.declared.extent.Extent.{Extent}
use Rattle.alta_root.specs.Root.{AreExtents}
use Rattle.alta_root.specs.Slots.{Counts}
use Rattle.alta_root.specs.declared.places.TheConstants.{LEVEL_BYTES}
use Rattle.alta_root.specs.declared.root.Root.{Root}
use Rattle.alta_root.proofs.Frames.{counts_sound}
use Rattle.alta_opening.specs.Steps.{Fails, LiesWithin}
use Rattle.alta_disk.specs.declared.fault.LoadFault.{LoadFault}
use Rattle.alta_disk.specs.declared.fault.LoadFault.TheVariants as faults

-- the deletion list lies on the disk
pub list_within : (root : Root) (image : List ℕ) (limit : ℕ) → (slot : Slot) × Counts slot root image → length image ≤ limit → LiesWithin root.deletions (length image) limit
list_within root image limit (slot, counts) fits =
    ⊎_elim
    (λ none. let p = ap (λ (e : Extent). e.place) none in let b = ap (λ (e : Extent). e.bytes) none in (omega (arith, p, b), omega (arith, p, b)))
    (λ list. (list.inside, omega (arith, list.inside, fits)))
    (counts_sound slot root image counts).deletions

-- what opening asks of the extent of a level
abbrev pub IsFit : ℕ → ℕ → Extent → Type 0
IsFit size limit extent = (LEVEL_BYTES ≤ extent.bytes) × LiesWithin extent size limit

extents_fit : (size limit : ℕ) (before extents : List Extent) → AreExtents size before extents → size ≤ limit → All (IsFit size limit) extents
extents_fit size limit before [] are fits = All-nil (IsFit size limit)
extents_fit size limit before (extent ∷ extents) are fits =
    All-cons (IsFit size limit) extent extents (are.0.long, (are.0.inside, omega (arith, are.0.inside, fits))) (extents_fit size limit (before ++ extent ∷ []) extents are.1 fits)

-- and so do the levels
pub levels_within : (root : Root) (image : List ℕ) (limit : ℕ) → (slot : Slot) × Counts slot root image → length image ≤ limit → All (IsFit (length image) limit) root.levels.items
levels_within root image limit (slot, counts) fits = extents_fit (length image) limit (root.deletions ∷ []) root.levels.items (counts_sound slot root image counts).levels fits

-- an answer of damage is what was found
pub fault_found : {Y : Type 0} (fault : LoadFault) (found : Result Y ℕ) (place : ℕ) → Fails fault found → fault ≡ faults.Damaged place → found ≡ Err place
fault_found fault found place fails is = subst (λ (f : LoadFault). Fails f found) is fails
