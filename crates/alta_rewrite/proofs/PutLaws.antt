-- What is put before a switch, and what it leaves as it is.
use Rattle.std.proofs.Common.{◌≡◌, inr, ℕ, ◌+◌, ◌≤◌, List, [], ◌∷◌, ◌++◌, length, sym, subst, ◌∙◌, arith}
use Rattle.std.specs.List.{All}
use Rattle.std.proofs.lemmas.List.Elements.{All-cons, All-nil, All-weaker}
use Rattle.alta_layout.specs.declared.places.TheConstants.{GATE_CLOSED, HEAD_BYTES}
use Rattle.alta_layout.specs.Places.{half_start, other}
use Rattle.alta_layout.specs.declared.slot.Slot.{Slot}
use Rattle.alta_codec.specs.Bytes.{AreBytes}
use Rattle.alta_codec.specs.declared.extent.Extent.{Extent}
use Rattle.alta_disk.specs.Disk.{DiskState, Holds, Passes, Torn}
use Rattle.alta_disk.specs.Parts.{Touches}
use Rattle.alta_disk.specs.Writes.{length-holds}
use Rattle.alta_disk.proofs.Moments.{passes_as}
use Rattle.alta_disk.proofs.PartLaws.{touches_as, touches_then, touches_written}
use Rattle.alta_meaning.proofs.KnownLaws.{all_both}
use Rattle.alta_meaning.proofs.SwitchLaws.{gap_spares, gap_spares_slots, half_spares, half_spares_slots, journal_within}
use Rattle.alta_meaning.proofs.Untouched.{counts_on}
use Rattle.alta_meaning.specs.Switching.{Spares, SparesSlots}
use Rattle.alta_journal.specs.Journal.{EndsAt}
use Rattle.alta_root.proofs.Frames.{counts_sound}
use Rattle.alta_root.proofs.SwitchLaws.{other_twice}
use Rattle.alta_root.specs.Root.{IsSound, extents_of}
use Rattle.alta_root.specs.Switches.{MayFollow}
use Rattle.alta_root.specs.declared.root.Root.{Root}
use Rattle.alta_rewrite.proofs.WriteLaws.{run_more}
use Rattle.alta_rewrite.specs.Puts.{extents_in, ranges_before, ranges_in, AreLaid, HasPiece, MayPut, Puts, Writes}
use Rattle.alta_rewrite.specs.declared.piece.Piece.{Piece}

-- ---- pieces lie behind the head

abbrev pub IsBehind : Piece → Type 0
IsBehind piece = HEAD_BYTES ≤ piece.extent.place

pub laid_behind : (taken : List Extent) (limit size : ℕ) (before pieces : List Piece) → AreLaid taken limit size before pieces → All IsBehind pieces
laid_behind taken limit size before [] laid = All-nil IsBehind
laid_behind taken limit size before (p ∷ ps) laid = All-cons IsBehind p ps laid.0.gap.behind (laid_behind taken limit size (before ++ p ∷ []) ps laid.1)

-- ---- the gate is closed behind the pieces

pub touches_before : (slot : Slot) (pieces : List Piece) (old new : List ℕ) → Touches (ranges_in pieces) old new → Touches (ranges_before slot pieces) old new
touches_before slot pieces old new touches = touches_as (ranges_in pieces) (ranges_before slot pieces) old new touches (λ a m clear. clear.1)

-- the writes of pieces, and then of the gate
pub run_put : (a b c : DiskState) (slot : Slot) (pieces : List Piece) → Passes (Touches (ranges_in pieces)) a b → Passes (Torn (half_start slot) 1) b c
    → Passes (Touches (ranges_before slot pieces)) a c
run_put a b c slot pieces so_far next =
    run_more a b c (ranges_before slot pieces) (half_start slot) 1
    (passes_as a b (Touches (ranges_in pieces)) (Touches (ranges_before slot pieces)) so_far (λ z (y, here, touches). (y, here, touches_before slot pieces y z touches)))
    next (λ x m clear. clear.0)

module _ (slot : Slot) (taken : List Extent) (limit : ℕ) (pieces : List Piece) (old : List ℕ) (whole : HEAD_BYTES ≤ length old) (laid : AreLaid taken limit (length old) [] pieces)
    (now : List ℕ) (wrote : Writes pieces old now) where
  inside : half_start slot + 1 ≤ length now
  inside = let half = journal_within slot in omega (arith, half.1, whole, wrote.touches.no_shorter)

  module _ (then : List ℕ) (closed : Holds now (half_start slot) (GATE_CLOSED ∷ []) then) where
    gate_only : Touches ((half_start slot, 1) ∷ []) now then
    gate_only = touches_written (half_start slot) (GATE_CLOSED ∷ []) now then (omega (arith, inside)) closed

    stays : (p : Piece) → HasPiece now p × IsBehind p → HasPiece then p
    stays p (had, behind) =
        let half = journal_within slot in
        gate_only.parts p.extent.place p.extent.bytes (inr (omega (arith, half.1, behind)), tt) ∙ had

    pub puts_closed : ((version : ℕ) → EndsAt version (half_start slot) (half_start slot) [] then) → AreBytes then → Puts slot pieces old then
    puts_closed empty bytes = record {
      touches =
          touches_then (ranges_before slot pieces) old now then (touches_before slot pieces old now wrote.touches)
          (touches_as ((half_start slot, 1) ∷ []) (ranges_before slot pieces) now then gate_only (λ a m clear. (clear.0, tt)));
      size =
          let long = length-holds now (half_start slot) (GATE_CLOSED ∷ []) then (omega (arith, inside)) closed in
          let same : length then ≡ length now = omega (arith, long, inside) in same ∙ wrote.size;
      there = All-weaker (λ (p : Piece). HasPiece now p × IsBehind p) (HasPiece then) stays pieces (all_both (HasPiece now) IsBehind pieces wrote.there (laid_behind taken limit (length old) [] pieces laid));
      journal = empty;
      bytes = bytes;
    }

-- ---- what is spared

none_spares : (slot : Slot) (root : Root) → Spares [] slot root
none_spares slot root = record { half = tt; extents = λ k d lt. tt }

pub spares_both : (range : ℕ × ℕ) (ranges : List (ℕ × ℕ)) (slot : Slot) (root : Root) → Spares (range ∷ []) slot root → Spares ranges slot root → Spares (range ∷ ranges) slot root
spares_both range ranges slot root one more = record {
  half = (one.half.0, more.half);
  extents = λ k d lt. ((one.extents k d lt).0, more.extents k d lt);
}

spares_laid : (slot : Slot) (root : Root) (limit size : ℕ) (before pieces : List Piece) → AreLaid (extents_of root) limit size before pieces → Spares (ranges_in pieces) slot root
spares_laid slot root limit size before [] laid = none_spares slot root
spares_laid slot root limit size before (p ∷ ps) laid =
    spares_both (p.extent.place, p.extent.bytes) (ranges_in ps) slot root (gap_spares slot root (extents_in before) p.extent.bytes limit p.extent.place laid.0.gap)
    (spares_laid slot root limit size (before ++ p ∷ []) ps laid.1)

slots_laid : (taken : List Extent) (limit size : ℕ) (before pieces : List Piece) → AreLaid taken limit size before pieces → SparesSlots (ranges_in pieces)
slots_laid taken limit size before [] laid = tt
slots_laid taken limit size before (p ∷ ps) laid =
    ((gap_spares_slots (taken ++ extents_in before) p.extent.bytes limit p.extent.place laid.0.gap).0, slots_laid taken limit size (before ++ p ∷ []) ps laid.1)

module _ (slot : Slot) (root : Root) (pieces : List Piece) (limit : ℕ) (old : List ℕ) (may : MayPut slot root pieces limit old) where
  pub slots_spared : SparesSlots (ranges_before slot pieces)
  slots_spared = ((half_spares_slots 1 slot).0, slots_laid (extents_of may.earlier) limit (length old) [] pieces may.laid)

  -- what is written spares the root that counts
  pub earlier_spared : Spares (ranges_before slot pieces) (other slot) may.earlier
  earlier_spared =
      spares_both (half_start slot, 1) (ranges_in pieces) (other slot) may.earlier
      (subst (λ (s : Slot). Spares ((half_start s, 1) ∷ []) (other slot) may.earlier) (other_twice slot)
      (half_spares 1 (other slot) may.earlier (length old) (omega arith) (counts_sound (other slot) may.earlier old may.counts)))
      (spares_laid (other slot) may.earlier limit (length old) [] pieces may.laid)

  -- behind what is put the root may follow
  pub put_follows : (middle : List ℕ) → Puts slot pieces old middle → MayFollow slot root middle
  put_follows middle puts = record {
    earlier = may.earlier;
    counts = counts_on (other slot) may.earlier (ranges_before slot pieces) old middle may.counts puts.touches slots_spared;
    next = may.next;
    sound = subst (λ (n : ℕ). IsSound n root) (sym puts.size) may.sound;
    version_is = may.version;
  }
