-- What reading the slots answers.
use Rattle.std.proofs.Common.{◌≡◌, ◌⊎◌, inl, inr, ℕ, List, refl, sym, subst, true, false, ◌↔◌}
use Rattle.std.specs.Prelude.{Result, Ok, Err}
use Rattle.std.proofs.lemmas.Bool.{false≢true}
use Rattle.alta_layout.specs.declared.slot.Slot.{Slot}
use Rattle.alta_meaning.specs.Broken.{IsBrokenAt, in_slots}
use Rattle.alta_meaning.proofs.OneReading.{broken_rooted}
use Rattle.alta_root.specs.Slots.{Counts, HasNoRoot, Shows}
use Rattle.alta_root.specs.declared.fault.RootFault.{RootFault}
use Rattle.alta_root.specs.declared.fault.RootFault.TheVariants as faults
use Rattle.alta_root.specs.declared.root.Root.{Root}
use Rattle.alta_root.specs.declared.root.Roots.{Roots}
use Rattle.alta_root.proofs.SlotLaws.{one_answer}

-- where a root counts there is one
pub counts_rooted : (slot : Slot) (root : Root) (image : List ℕ) → Counts slot root image → HasNoRoot image → ⊥
counts_rooted slot root image counts none =
    absurd (not_so (one_answer image (Ok (record { slot = slot; root = root })) (Err faults.NoRoot) counts none))
  where
    not_so : ◌≡◌ {A = Result Roots RootFault} (Ok (record { slot = slot; root = root })) (Err faults.NoRoot) → ⊥
    not_so e = absurd cc

abbrev Reads : RootFault → List ℕ → Type 0
Reads fault image = ◌≡◌ {A = Result Roots RootFault} (Err fault) (Err faults.Disk) ⊎ Shows image (Err fault)

-- no root is answered where there is none
pub shown_none : (image : List ℕ) (fault : RootFault) → fault ≡ faults.NoRoot → Reads fault image → HasNoRoot image
shown_none image fault is (inl failed) = absurd (not_failed fault is failed)
  where
    not_failed : (fault : RootFault) → fault ≡ faults.NoRoot → ◌≡◌ {A = Result Roots RootFault} (Err fault) (Err faults.Disk) → ⊥
    not_failed fault is failed = absurd cc
shown_none image fault is (inr shows) = subst (λ (f : RootFault). Shows image (Err f)) is shows

-- damage of the slots comes first
pub shown_broken : (image : List ℕ) (fault : RootFault) (place : ℕ) → fault ≡ faults.Damaged place → Reads fault image → IsBrokenAt image place
shown_broken image fault place is (inl failed) = absurd (not_failed fault is failed)
  where
    not_failed : (fault : RootFault) → fault ≡ faults.Damaged place → ◌≡◌ {A = Result Roots RootFault} (Err fault) (Err faults.Disk) → ⊥
    not_failed fault is failed = absurd cc
shown_broken image fault place is (inr shows) = in_slots place (subst (λ (f : RootFault). Shows image (Err f)) is shows)

-- where damage of the slots is answered there is a root
pub damaged_rooted : (image : List ℕ) (fault : RootFault) (place : ℕ) → fault ≡ faults.Damaged place → Reads fault image → HasNoRoot image → ⊥
damaged_rooted image fault place is reads none = broken_rooted image place (shown_broken image fault place is reads) none

-- the answers of a test for a root
pub is_there : (image : List ℕ) → (HasNoRoot image → ⊥) → ((true ≡ true) ↔ (HasNoRoot image → ⊥)) × ((true ≡ false) ↔ HasNoRoot image)
is_there image rooted = ((λ e. rooted, λ r. refl), (λ e. absurd (false≢true (sym e)), λ none. absurd (rooted none)))

pub is_none : (image : List ℕ) → HasNoRoot image → ((false ≡ true) ↔ (HasNoRoot image → ⊥)) × ((false ≡ false) ↔ HasNoRoot image)
is_none image none = ((λ e. absurd (false≢true e), λ r. absurd (r none)), (λ e. none, λ n. refl))
