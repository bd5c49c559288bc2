-- The images while a root is put, and what they mean.
use Rattle.std.proofs.Common.{◌≡◌, inl, inr, ⊎_elim, ℕ, List, length, get_or, Result, Ok, Err, sym, ap, subst, ◌∙◌, arith}
use Rattle.std.specs.Prelude.{OnOk}
use Rattle.alta_layout.specs.declared.places.TheConstants.{SLOT_BYTES, SLOTS_BYTES}
use Rattle.alta_layout.specs.Places.{other, slot_start}
use Rattle.alta_layout.specs.declared.slot.Slot.{Slot}
use Rattle.alta_disk.specs.Disk.{After, DiskState, Each, Only, Passes, LeavesOnly, IsLawful}
use Rattle.alta_disk.specs.Parts.{Touches}
use Rattle.alta_disk.proofs.Moments.{leaves_from, passes_first, passes_then}
use Rattle.alta_disk.proofs.PartLaws.{touches_as, touches_then}
use Rattle.alta_meaning.proofs.HeldLaws.{held_switched}
use Rattle.alta_meaning.proofs.SpacedLaws.{written_stands}
use Rattle.alta_meaning.proofs.SwitchLaws.{opened_switched, opened_switching, slot_spares, stands_switched, stands_switching}
use Rattle.alta_meaning.proofs.Untouched.{clear_inside, counts_on, means_on, named_on}
use Rattle.alta_meaning.specs.Holding.{Holding, IsHeld}
use Rattle.alta_meaning.specs.Levels.{Level}
use Rattle.alta_meaning.specs.Opened.{Opened, IsOpened}
use Rattle.alta_meaning.specs.Standing.{StandsFor, StandsForEither, view_of}
use Rattle.alta_meaning.specs.Switching.{MayOpen, MayStand, Spares, SparesSlots}
use Rattle.alta_meaning.specs.Views.{state_of}
use Rattle.alta_machine.specs.declared.document.State.{State}
use Rattle.alta_root.proofs.Frames.{counts_sound}
use Rattle.alta_root.proofs.SlotLaws.{one_counts}
use Rattle.alta_root.proofs.SwitchLaws.{slot_low}
use Rattle.alta_root.specs.Places.{gate_of}
use Rattle.alta_root.specs.Slots.{Counts}
use Rattle.alta_root.specs.Switches.{HasGateAs, KeepsRoot, MayFollow, Switched, Switches, Switching, slot_range}
use Rattle.alta_root.specs.declared.root.Root.{Root}
use Rattle.alta_root.specs.declared.root.Roots.{Roots}
use Rattle.alta_rewrite.proofs.PutLaws.{earlier_spared, put_follows, slots_spared, spares_both}
use Rattle.alta_rewrite.specs.Brings.{Brings, IsOpenedEither, Names}
use Rattle.alta_rewrite.specs.Puts.{ranges_before, ranges_put, MayPut, Prepares, Puts, Putting}
use Rattle.alta_rewrite.specs.declared.piece.Piece.{Piece}

-- what follows once a call is done
pub done_as : {T E : Type 0} (r : Result T E) (P Q : Type 0) → (P → Q) → OnOk r P → OnOk r Q
done_as (Ok x) P Q follows done = follows done
done_as (Err e) P Q follows done = tt

-- ---- one image

module _ (slot : Slot) (root : Root) (pieces : List Piece) (limit : ℕ) (old : List ℕ) (may : MayPut slot root pieces limit old) where
  -- what is written spares each root that counts
  pub spared : (at : Slot) (counting : Root) → Counts at counting old → Spares (ranges_before slot pieces) at counting
  spared at counting counts =
      let same = one_counts old at (other slot) counting may.earlier counts may.counts in
      subst (λ (r : Roots). Spares (ranges_before slot pieces) r.slot r.root) (sym same) (earlier_spared slot root pieces limit old may)

  -- and so does the slot beside it
  spared_all : (at : Slot) (counting : Root) → Counts at counting old → Spares (ranges_put slot pieces) at counting
  spared_all at counting counts =
      spares_both (slot_start slot, SLOT_BYTES) (ranges_before slot pieces) at counting (slot_spares slot at counting (length old) (counts_sound at counting old counts)) (spared at counting counts)

  -- the root that counted counts
  counts_prepared : (at : Slot) (counting : Root) (new : List ℕ) → Counts at counting old → Prepares slot pieces old new → Counts at counting new
  counts_prepared at counting new counts prepares =
      let same : at ≡ other slot = ap (λ (r : Roots). r.slot) (one_counts old at (other slot) counting may.earlier counts may.counts) in
      subst (λ (s : Slot). Counts s counting new) (sym same) (prepares.counts counting (subst (λ (s : Slot). Counts s counting old) same counts))

  -- pieces and gate in part leave the gates of both slots
  touches_prepare : (new : List ℕ) → Touches (ranges_before slot pieces) old new → Prepares slot pieces old new
  touches_prepare new touches = record {
    touches = touches_as (ranges_before slot pieces) (ranges_put slot pieces) old new touches (λ a m clear. clear.1);
    counts = λ earlier counts. counts_on (other slot) earlier (ranges_before slot pieces) old new counts touches (slots_spared slot root pieces limit old may);
  }

  -- and the slot in part behind that
  pub keeps_prepare : (middle new : List ℕ) → Touches (ranges_before slot pieces) old middle → KeepsRoot slot middle new → Prepares slot pieces old new
  keeps_prepare middle new touches keeps =
      let prepares = touches_prepare middle touches in
      record {
        touches = touches_then (ranges_put slot pieces) old middle new prepares.touches (touches_as (slot_range slot) (ranges_put slot pieces) middle new keeps.touches (λ a m clear. (clear.0, tt)));
        counts = λ earlier counts. keeps.counts earlier (prepares.counts earlier counts);
      }

  opened_prepared : (o : Opened) (new : List ℕ) → IsOpened o old → Prepares slot pieces old new → IsOpened o new
  opened_prepared o new opened prepares = record {
    counts = counts_prepared o.slot o.root new opened.counts prepares;
    named = named_on (ranges_put slot pieces) o old new opened.named prepares.touches (spared_all o.slot o.root opened.counts);
  }

  state_prepared : (s : State) (new : List ℕ) → StandsFor s old → Prepares slot pieces old new → StandsFor s new
  state_prepared s new stands prepares = record {
    opened = stands.opened;
    counts = counts_prepared stands.opened.slot stands.opened.root new stands.counts prepares;
    means = means_on (ranges_put slot pieces) s stands.opened old new stands.means prepares.touches (spared_all stands.opened.slot stands.opened.root stands.counts);
  }

  opened_stays : (o : Opened) (new : List ℕ) → IsOpened o old → Touches (ranges_before slot pieces) old new → IsOpened o new
  opened_stays o new opened touches = opened_prepared o new opened (touches_prepare new touches)

  state_stays : (s : State) (new : List ℕ) → StandsFor s old → Touches (ranges_before slot pieces) old new → StandsFor s new
  state_stays s new stands touches = state_prepared s new stands (touches_prepare new touches)

  pub follows_as : (coming : Opened) → coming.slot ≡ slot → coming.root ≡ root → (middle : List ℕ) → Puts slot pieces old middle → MayFollow coming.slot coming.root middle
  follows_as coming slot_is root_is middle puts =
      subst (λ (s : Slot). MayFollow s coming.root middle) (sym slot_is) (subst (λ (r : Root). MayFollow slot r middle) (sym root_is) (put_follows slot root pieces limit old may middle puts))

  switches_as : (coming : Opened) → coming.slot ≡ slot → coming.root ≡ root → (middle new : List ℕ) → Switches slot root middle new → Switches coming.slot coming.root middle new
  switches_as coming slot_is root_is middle new switches =
      subst (λ (s : Slot). Switches s coming.root middle new) (sym slot_is) (subst (λ (r : Root). Switches slot r middle new) (sym root_is) switches)

  switched_as : (coming : Opened) → coming.slot ≡ slot → coming.root ≡ root → (middle new : List ℕ) → Switched slot root middle new → Switched coming.slot coming.root middle new
  switched_as coming slot_is root_is middle new switched =
      subst (λ (s : Slot). Switched s coming.root middle new) (sym slot_is) (subst (λ (r : Root). Switched slot r middle new) (sym root_is) switched)

  may_open : (coming : Opened) → Names slot root pieces coming old → (middle : List ℕ) → Puts slot pieces old middle → MayOpen coming middle
  may_open coming names middle puts = record { follows = follows_as coming names.slot_is names.root_is middle puts; named = names.named middle puts }

  may_stand : (coming : Opened) (levels : List Level) (t : State) → Brings slot root pieces coming levels t old → (middle : List ℕ) → Puts slot pieces old middle → MayStand t coming middle
  may_stand coming levels t brings middle puts = written_stands t coming levels middle (brings.written middle puts) brings.state_is brings.ordered

  opened_putting : (o coming : Opened) → IsOpened o old → Names slot root pieces coming old → (new : List ℕ) → Putting slot root pieces old new → IsOpenedEither o coming new
  opened_putting o coming opened names new putting =
      ⊎_elim (λ prepares. inl (opened_prepared o new opened prepares))
      (λ (middle, puts, switches).
      opened_switching o coming middle new (opened_stays o middle opened puts.touches) (may_open coming names middle puts) (switches_as coming names.slot_is names.root_is middle new switches)) putting

  stands_putting : (s t : State) (coming : Opened) (levels : List Level) → StandsFor s old → Brings slot root pieces coming levels t old → (new : List ℕ) → Putting slot root pieces old new → StandsForEither s t new
  stands_putting s t coming levels stands brings new putting =
      ⊎_elim (λ prepares. inl (state_prepared s new stands prepares))
      (λ (middle, puts, switches).
      stands_switching s t coming middle new (state_stays s middle stands puts.touches) (may_stand coming levels t brings middle puts) (switches_as coming brings.slot_is brings.root_is middle new switches)) putting

  module _ (middle new : List ℕ) (puts : Puts slot pieces old middle) (switched : Switched slot root middle new) where
    pub opened_put : (coming : Opened) → Names slot root pieces coming old → IsOpened coming new
    opened_put coming names = opened_switched coming middle new (may_open coming names middle puts) (switched_as coming names.slot_is names.root_is middle new switched)

    pub stands_put : (t : State) (coming : Opened) (levels : List Level) → Brings slot root pieces coming levels t old → StandsFor t new
    stands_put t coming levels brings = stands_switched t coming middle new (may_stand coming levels t brings middle puts) (switched_as coming brings.slot_is brings.root_is middle new switched)

    pub held_put : (then : Holding) (coming : Opened) → Brings slot root pieces coming then.view.levels (state_of then.view) old → then.view ≡ view_of coming then.view.levels → then.list ≡ coming.root.deletions
        → IsHeld then new
    held_put then coming brings view_is list_is =
        held_switched then coming middle new (brings.written middle puts) brings.ordered (switched_as coming brings.slot_is brings.root_is middle new switched) view_is list_is

-- ---- a run

-- what spares the slots leaves the gate of each
same_gate : (slot : Slot) (ranges : List (ℕ × ℕ)) (old new : List ℕ) → SparesSlots ranges → Touches ranges old new → gate_of slot new ≡ gate_of slot old
same_gate slot ranges old new spares touches = ap (λ (l : List ℕ). get_or l 0 0) (touches.parts (slot_start slot) 1 (clear_inside 0 SLOTS_BYTES (slot_start slot) 1 ranges (omega arith) (omega (arith, slot_low slot)) spares))

module _ (tells : Type 0) (slot : Slot) (root : Root) (pieces : List Piece) (a : DiskState) (lawful : IsLawful tells a) (only : Only a.content a.images) (may : tells → MayPut slot root pieces a.limit a.content) where
  module _ (b : DiskState) (putting : Passes (Touches (ranges_before slot pieces)) a b) where
    -- what each image now was made of
    from_content : (z : List ℕ) → b.images z → tells × Touches (ranges_before slot pieces) a.content z
    from_content z here =
        let (y, before, touches) = putting.now z here in
        (lawful.told y before, subst (λ (l : List ℕ). Touches (ranges_before slot pieces) l z) (only y before) touches)

    pub run_first : Passes (Putting slot root pieces) a b
    run_first = passes_first tells a lawful only b (Touches (ranges_before slot pieces)) (Putting slot root pieces) putting (λ told z touches. inl (touches_prepare slot root pieces a.limit a.content (may told) z touches))

    -- what is pending leaves the slot's gate
    pub run_pending : (tells → Puts slot pieces a.content b.content) → Each b.images (HasGateAs slot b.content)
    run_pending puts z here =
        let (told, touches) = from_content z here in
        let spares = slots_spared slot root pieces a.limit a.content (may told) in
        same_gate slot (ranges_before slot pieces) a.content z spares touches ∙ sym (same_gate slot (ranges_before slot pieces) a.content b.content spares (puts told).touches)

    pub run_all : (c : DiskState) → (tells → Puts slot pieces a.content b.content) → Passes (Switching slot root b.content) b c → Passes (Putting slot root pieces) a c
    run_all c puts switching = passes_then a b c (Putting slot root pieces) (Switching slot root b.content) (Putting slot root pieces) run_first switching (λ z here. here) from_switch
      where
        from_switch : (z : List ℕ) → After b.images (Switching slot root b.content) z → After a.images (Putting slot root pieces) z
        from_switch z (x, now, moved) =
            let (told, touches) = from_content x now in (
              a.content,
              lawful.present told,
              ⊎_elim (λ keeps. inl (keeps_prepare slot root pieces a.limit a.content (may told) x z touches keeps))
                  (λ (same, switches). inr (b.content, puts told, subst (λ (l : List ℕ). Switches slot root l z) same switches)) moved,
            )

  module _ (b : DiskState) (run : Passes (Putting slot root pieces) a b) where
    pub leaves_opened : (o coming : Opened) → (tells → IsOpened o a.content) → (tells → Names slot root pieces coming a.content) → LeavesOnly (IsOpenedEither o coming) a b
    leaves_opened o coming opened names =
        leaves_from tells a lawful only (IsOpenedEither o coming) (λ told. inl (opened told)) b (Putting slot root pieces) run
        (λ told z step. opened_putting slot root pieces a.limit a.content (may told) o coming (opened told) (names told) z step)

    pub leaves_stands : (s t : State) (coming : Opened) (levels : List Level) → (tells → StandsFor s a.content) → (tells → Brings slot root pieces coming levels t a.content) → LeavesOnly (StandsForEither s t) a b
    leaves_stands s t coming levels stands brings =
        leaves_from tells a lawful only (StandsForEither s t) (λ told. inl (stands told)) b (Putting slot root pieces) run
        (λ told z step. stands_putting slot root pieces a.limit a.content (may told) s t coming levels (stands told) (brings told) z step)
