-- What a root spares, and what a switch of the root leaves.
use Rattle.std.proofs.Common.{◌≡◌, ◌⊎◌, ⊎_elim, inl, inr, ℕ, ◌+◌, ◌≤◌, List, [], ◌∷◌, ◌++◌, length, sym, ap, subst, arith}
use Rattle.std.specs.List.{All}
use Rattle.std.proofs.lemmas.List.Elements.{All-nil, All-cons, All-head, All-tail}
use Rattle.alta_layout.specs.declared.places.TheConstants.{HALF_BYTES, HEAD_BYTES}
use Rattle.alta_layout.specs.Places.{half_start, other, slot_start}
use Rattle.alta_layout.specs.declared.slot.Slot.{Slot}
use Rattle.alta_layout.specs.declared.slot.Slot.TheVariants.{A, B}
use Rattle.alta_codec.specs.declared.extent.Extent.{Extent}
use Rattle.alta_disk.specs.Parts.{Apart, Clear, Touches}
use Rattle.alta_machine.specs.declared.document.State.{State}
use Rattle.alta_root.specs.Gaps.{IsGap, taken_by}
use Rattle.alta_root.specs.Root.{extents_of, no_extent, IsExtent, AreExtents, IsSound}
use Rattle.alta_root.specs.Slots.{Counts}
use Rattle.alta_root.specs.Switches.{MayFollow, slot_range, Switches, Switched}
use Rattle.alta_root.specs.declared.root.Root.{Root}
use Rattle.alta_root.specs.declared.root.Roots.{Roots}
use Rattle.alta_root.proofs.Frames.{counts_sound}
use Rattle.alta_root.proofs.SlotLaws.{one_counts}
use Rattle.alta_root.proofs.SwitchLaws.{slot_low}
use Rattle.alta_meaning.specs.Opened.{Opened, IsNamed, IsOpened}
use Rattle.alta_meaning.specs.Standing.{Means, StandsFor}
use Rattle.alta_meaning.specs.Switching.{Spares, SparesSlots, MayOpen, MayStand}
use Rattle.alta_meaning.proofs.Untouched.{named_on, means_on}

-- ---- the head is spared by what lies behind it, and the extents by what lies in the head

pub journal_within : (slot : Slot) → (8192 ≤ half_start slot) × (half_start slot + HALF_BYTES ≤ HEAD_BYTES)
journal_within A = (omega arith, omega arith)
journal_within B = (omega arith, omega arith)

halves_apart : (slot : Slot) → Apart (half_start slot) HALF_BYTES (half_start (other slot)) HALF_BYTES
halves_apart A = inl (omega arith)
halves_apart B = inr (omega arith)

-- an extent meets nothing of the head
abbrev IsBehind : Extent → Type 0
IsBehind e = (at n : ℕ) → at + n ≤ HEAD_BYTES → Apart e.place e.bytes at n

none_behind : (e : Extent) → e ≡ no_extent → IsBehind e
none_behind e is at n below = let none : e.place + e.bytes ≡ 0 = ap (λ (e : Extent). e.place + e.bytes) is in inl (omega (arith, none))

extent_behind : (least size : ℕ) (before : List Extent) (e : Extent) → IsExtent least size before e → IsBehind e
extent_behind least size before e is at n below = inr (omega (arith, is.behind, below))

levels_behind : (size : ℕ) (before levels : List Extent) → AreExtents size before levels → All IsBehind levels
levels_behind size before [] are = All-nil IsBehind
levels_behind size before (e ∷ es) are = All-cons IsBehind e es (extent_behind 32 size before e are.0) (levels_behind size (before ++ e ∷ []) es are.1)

extents_behind : (size : ℕ) (root : Root) → IsSound size root → All IsBehind (extents_of root)
extents_behind size root sound =
    All-cons IsBehind root.deletions root.levels.items (⊎_elim (λ none. none_behind root.deletions none) (λ extent. extent_behind 1 size [] root.deletions extent) sound.deletions)
    (levels_behind size (root.deletions ∷ []) root.levels.items sound.levels)

abbrev pub IsClear : ℕ → ℕ → Extent → Type 0
IsClear at n e = Clear e.place e.bytes ((at, n) ∷ [])

all_clear : (at n : ℕ) (extents : List Extent) → at + n ≤ HEAD_BYTES → All IsBehind extents → All (IsClear at n) extents
all_clear at n [] below behind = All-nil (IsClear at n)
all_clear at n (e ∷ es) below behind = All-cons (IsClear at n) e es (All-head IsBehind e es behind at n below, tt) (all_clear at n es below (All-tail IsBehind e es behind))

pub extents_clear : (at n size : ℕ) (root : Root) → at + n ≤ HEAD_BYTES → IsSound size root → All (IsClear at n) (extents_of root)
extents_clear at n size root below sound = all_clear at n (extents_of root) below (extents_behind size root sound)

-- ---- what is spared

-- a slot spares the half and the extents of each root
pub slot_spares : (touched slot : Slot) (root : Root) (size : ℕ) → IsSound size root → Spares (slot_range touched) slot root
slot_spares touched slot root size sound =
    let low : slot_start touched + 4096 ≤ 8192 = slot_low touched in
    let half = journal_within slot in
    record {
      half = (inr (omega (arith, low, half.0)), tt);
      extents = all_clear (slot_start touched) 4096 (extents_of root) (omega (arith, low)) (extents_behind size root sound);
    }

-- bytes at the start of the half that a root does not use spare it
pub half_spares : (n : ℕ) (slot : Slot) (root : Root) (size : ℕ) → n ≤ HALF_BYTES → IsSound size root → Spares ((half_start (other slot), n) ∷ []) slot root
half_spares n slot root size few sound =
    let half = journal_within (other slot) in
    record {
      half = (⊎_elim (λ before. inl before) (λ behind. inr (omega (arith, behind, few))) (halves_apart slot), tt);
      extents = all_clear (half_start (other slot)) n (extents_of root) (omega (arith, half.1, few)) (extents_behind size root sound);
    }

pub half_spares_slots : (n : ℕ) (slot : Slot) → SparesSlots ((half_start slot, n) ∷ [])
half_spares_slots n slot = let half = journal_within slot in (inl (omega (arith, half.0)), tt)

-- a gap beside the extents of a root spares it
gap_clear : (at n : ℕ) (extents more : List Extent) → All (λ (e : Extent). Apart at n e.place e.bytes) (extents ++ more) → All (IsClear at n) extents
gap_clear at n [] more apart = All-nil (IsClear at n)
gap_clear at n (e ∷ es) more apart =
    All-cons (IsClear at n) e es (⊎_elim (λ before. inr before) (λ behind. inl behind) (All-head (λ (e : Extent). Apart at n e.place e.bytes) e (es ++ more) apart), tt)
    (gap_clear at n es more (All-tail (λ (e : Extent). Apart at n e.place e.bytes) e (es ++ more) apart))

pub gap_spares : (slot : Slot) (root : Root) (extra : List Extent) (bytes limit at : ℕ) → IsGap (taken_by root extra) bytes limit at → Spares ((at, bytes) ∷ []) slot root
gap_spares slot root extra bytes limit at gap =
    let half = journal_within slot in
    record { half = (inl (omega (arith, half.1, gap.behind)), tt); extents = gap_clear at bytes (extents_of root) extra gap.apart }

pub gap_spares_slots : (extents : List Extent) (bytes limit at : ℕ) → IsGap extents bytes limit at → SparesSlots ((at, bytes) ∷ [])
gap_spares_slots extents bytes limit at gap = (inl (omega (arith, gap.behind)), tt)

-- ---- a switch

-- the root that counts is the one that the other may follow
same_counting : (slot coming : Slot) (root : Root) (next : Root) (image : List ℕ) → Counts slot root image → MayFollow coming next image → (slot ≡ other coming) × Counts (other coming) root image
same_counting slot coming root next image counts follows =
    let same : slot ≡ other coming = ap (λ (r : Roots). r.slot) (one_counts image slot (other coming) root follows.earlier counts follows.counts) in
    (same, subst (λ (s : Slot). Counts s root image) same counts)

module _ (coming : Opened) (old new : List ℕ) (follows : MayFollow coming.slot coming.root old) where
  touched : Touches (slot_range coming.slot) old new → (o : Opened) → Counts o.slot o.root old → IsNamed o old → IsNamed o new
  touched touches o counts named = named_on (slot_range coming.slot) o old new named touches (slot_spares coming.slot o.slot o.root (length old) (counts_sound o.slot o.root old counts))

  coming_named : Touches (slot_range coming.slot) old new → IsNamed coming old → IsNamed coming new
  coming_named touches named = named_on (slot_range coming.slot) coming old new named touches (slot_spares coming.slot coming.slot coming.root (length old) follows.sound)

  coming_means : (s : State) → Touches (slot_range coming.slot) old new → Means s coming old → Means s coming new
  coming_means s touches means = means_on (slot_range coming.slot) s coming old new means touches (slot_spares coming.slot coming.slot coming.root (length old) follows.sound)

  -- the root of before counts, or the one to come
  either_counts : (slot : Slot) (root : Root) → Counts slot root old → Switches coming.slot coming.root old new → Counts slot root new ⊎ Counts coming.slot coming.root new
  either_counts slot root counts switches =
      let same = same_counting slot coming.slot root coming.root old counts follows in
      ⊎_elim (λ before. inl (subst (λ (s : Slot). Counts s root new) (sym same.0) before)) (λ later. inr later) (switches.counts root same.1)

-- while a root is switched, an image is opened as before, or as the root to come says
pub opened_switching : (o coming : Opened) (old new : List ℕ) → IsOpened o old → MayOpen coming old → Switches coming.slot coming.root old new → IsOpened o new ⊎ IsOpened coming new
opened_switching o coming old new opened may switches =
    ⊎_elim (λ before. inl (record { counts = before; named = touched coming old new may.follows switches.touches o opened.counts opened.named }))
    (λ later. inr (record { counts = later; named = coming_named coming old new may.follows switches.touches may.named }))
    (either_counts coming old new may.follows o.slot o.root opened.counts switches)

pub opened_switched : (coming : Opened) (old new : List ℕ) → MayOpen coming old → Switched coming.slot coming.root old new → IsOpened coming new
opened_switched coming old new may switched = record { counts = switched.counts; named = coming_named coming old new may.follows switched.touches may.named }

-- and it stands for the state of before, or for that of the root to come
pub stands_switching : (s t : State) (coming : Opened) (old new : List ℕ) → StandsFor s old → MayStand t coming old → Switches coming.slot coming.root old new → StandsFor s new ⊎ StandsFor t new
stands_switching s t coming old new stands may switches =
    let o = stands.opened in
    ⊎_elim (λ before. inl (record {
      opened = o;
      counts = before;
      means = means_on (slot_range coming.slot) s o old new stands.means switches.touches (slot_spares coming.slot o.slot o.root (length old) (counts_sound o.slot o.root old stands.counts));
    }))
    (λ later. inr (record { opened = coming; counts = later; means = coming_means coming old new may.follows t switches.touches may.means }))
    (either_counts coming old new may.follows o.slot o.root stands.counts switches)

pub stands_switched : (t : State) (coming : Opened) (old new : List ℕ) → MayStand t coming old → Switched coming.slot coming.root old new → StandsFor t new
stands_switched t coming old new may switched = record { opened = coming; counts = switched.counts; means = coming_means coming old new may.follows t switched.touches may.means }
