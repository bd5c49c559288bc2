-- What is put on a disk before its root is switched: pieces, and a closed gate.
use Rattle.std.specs.Prelude.{◌≡◌, ◌⊎◌, ◌≤◌, ◌+◌, ℕ, List, [], ◌∷◌, ◌++◌, length, map}
use Rattle.std.specs.List.{All}
use Rattle.alta_layout.specs.Places.{half_start, other}
use Rattle.alta_layout.specs.declared.slot.Slot.{Slot}
use Rattle.alta_codec.specs.Bytes.{AreBytes}
use Rattle.alta_codec.specs.declared.extent.Extent.{Extent}
use Rattle.alta_disk.specs.Images.{end_of}
use Rattle.alta_disk.specs.Parts.{Touches}
use Rattle.alta_meaning.specs.Opened.{bytes_at}
use Rattle.alta_journal.specs.Journal.{EndsAt}
use Rattle.alta_root.specs.Gaps.{IsGap}
use Rattle.alta_root.specs.Root.{IsSound, extents_of, next_sequence}
use Rattle.alta_root.specs.Slots.{Counts}
use Rattle.alta_root.specs.Switches.{Switches, slot_range}
use Rattle.alta_root.specs.declared.places.TheConstants.{VERSION}
use Rattle.alta_root.specs.declared.root.Root.{Root}
use Rattle.alta_rewrite.specs.declared.piece.Piece.{Piece}

abbrev pub extents_in : List Piece → List Extent
extents_in pieces = map (λ (p : Piece). p.extent) pieces

abbrev pub ranges_in : List Piece → List (ℕ × ℕ)
ranges_in pieces = map (λ (p : Piece). (p.extent.place, p.extent.bytes)) pieces

-- what is written before a root in this slot counts: the first gate of its half of the journal, and the pieces
abbrev pub ranges_before : Slot → List Piece → List (ℕ × ℕ)
ranges_before slot pieces = (half_start slot, 1) ∷ ranges_in pieces

-- ---- where pieces may be put

-- the bytes of a piece fill its extent, which ends at the limit or before
abbrev pub Fills : ℕ → Piece → Type 0
Fills limit piece = (length piece.bytes.now ≡ piece.extent.bytes) × (piece.extent.place + piece.extent.bytes ≤ limit)

-- Behind others a piece has a gap beside them and what is taken, which begins no further than content of this size and they reach.
pub record IsLaid (taken : List Extent) (limit size : ℕ) (before : List Piece) (piece : Piece) : Type 0 where
  pub gap : IsGap (taken ++ extents_in before) piece.extent.bytes limit piece.extent.place
  pub reached : piece.extent.place ≤ end_of size (ranges_in before)

-- each piece has one behind those before it
abbrev pub AreLaid : List Extent → ℕ → ℕ → List Piece → List Piece → Type 0
AreLaid taken limit size before [] = Unit {0}
AreLaid taken limit size before (piece ∷ pieces) = IsLaid taken limit size before piece
    × AreLaid taken limit size (before ++ piece ∷ []) pieces

-- The other slot counts, the root comes just behind its root, with the last version, and keeps the rules once the pieces are there, and these have gaps
-- beside what its root names.
pub record MayPut (slot : Slot) (root : Root) (pieces : List Piece) (limit : ℕ) (image : List ℕ) : Type 0 where
  pub earlier : Root
  pub counts : Counts (other slot) earlier image
  pub version : root.version ≡ VERSION
  pub next : root.sequence ≡ next_sequence earlier.sequence
  pub sound : IsSound (end_of (length image) (ranges_in pieces)) root
  pub laid : AreLaid (extents_of earlier) limit (length image) [] pieces

-- ---- what is put

-- the piece stands at its extent
abbrev pub HasPiece : List ℕ → Piece → Type 0
HasPiece image piece = bytes_at piece.extent image ≡ piece.bytes.now

-- Pieces were written, and nothing else.
pub record Writes (pieces : List Piece) (old new : List ℕ) : Type 0 where
  pub touches : Touches (ranges_in pieces) old new
  pub size : length new ≡ end_of (length old) (ranges_in pieces)
  pub there : All (HasPiece new) pieces

-- Pieces were written, the half of the journal that a root in this slot uses begins with a closed gate, and nothing else has
-- changed.
pub record Puts (slot : Slot) (pieces : List Piece) (old new : List ℕ) : Type 0 where
  pub touches : Touches (ranges_before slot pieces) old new
  pub size : length new ≡ end_of (length old) (ranges_in pieces)
  pub there : All (HasPiece new) pieces
  pub journal : (version : ℕ) → EndsAt version (half_start slot) (half_start slot) [] new
  pub bytes : AreBytes new

-- what is written while a root in this slot is put
abbrev pub ranges_put : Slot → List Piece → List (ℕ × ℕ)
ranges_put slot pieces = slot_range slot ++ ranges_before slot pieces

-- Outside the pieces, the gate of the half, and the slot nothing has changed, and each root that counted in the other slot counts.
pub record Prepares (slot : Slot) (pieces : List Piece) (old new : List ℕ) : Type 0 where
  pub touches : Touches (ranges_put slot pieces) old new
  pub counts : (earlier : Root) → Counts (other slot) earlier old → Counts (other slot) earlier new

-- What a stop may leave while a root is put: pieces, gate and slot in part, where no other root counts yet; or else all of the
-- pieces with the gate, and a switch of the root in part.
abbrev pub Putting : Slot → Root → List Piece → List ℕ → List ℕ → Type 0
Putting slot root pieces old new = Prepares slot pieces old new
    ⊎ ((middle : List ℕ) × Puts slot pieces old middle × Switches slot root middle new)
