-- Where what a root to come names has its bytes from.
use Rattle.std.specs.Prelude.{◌≡◌, ◌⊎◌, ◌≤◌, ◌+◌, ◌-◌, ◌*◌, Contains, List, [], ℕ, length, map}
use Rattle.std.specs.List.{All}
use Rattle.alta_layout.specs.Places.{half_start}
use Rattle.alta_layout.specs.declared.slot.Slot.{Slot}
use Rattle.alta_codec.specs.declared.extent.Extent.{Extent}
use Rattle.alta_meaning.specs.Levels.{Level}
use Rattle.alta_meaning.specs.Opened.{Opened, bytes_at}
use Rattle.alta_meaning.specs.Standing.{tables_by}
use Rattle.alta_meaning.specs.Working.{AllApart}
use Rattle.alta_level.specs.Segments.{IsSegment}
use Rattle.alta_postings.specs.Deltas.{Spells}
use Rattle.alta_root.specs.Root.{extents_of, next_sequence, no_extent}
use Rattle.alta_root.specs.declared.places.TheConstants.{DOCUMENT_CELLS, LAST_NEXT, LEVEL_BYTES, VERSION}
use Rattle.alta_root.specs.declared.root.Root.{Root}
use Rattle.alta_rewrite.specs.Puts.{extents_in}
use Rattle.alta_rewrite.specs.declared.piece.Piece.{Piece}

-- a piece brings these bytes to an extent, or they stand there already, where the root that counts has them
abbrev pub WillStand : Root → List Piece → List ℕ → Extent → List ℕ → Type 0
WillStand earlier pieces old extent bytes =
    ((piece : Piece) × Contains pieces piece × (piece.extent ≡ extent) × (piece.bytes.now ≡ bytes))
    ⊎ (Contains (extents_of earlier) extent × (bytes_at extent old ≡ bytes))

-- the segment of the level will stand at its extent
abbrev pub LevelComes : Root → List Piece → List ℕ → Level → Type 0
LevelComes earlier pieces old level = (bytes : List ℕ) × WillStand earlier pieces old level.extent bytes
    × IsSegment bytes level.content

-- nothing is deleted and there is no list, or what spells it will stand at its extent
abbrev pub ListComes : Root → List Piece → List ℕ → Extent → List ℕ → Type 0
ListComes earlier pieces old list deleted = ((list ≡ no_extent) × (deleted ≡ []))
    ⊎ ((bytes : List ℕ) × WillStand earlier pieces old list bytes × Spells bytes deleted)

-- Of the root to come and these levels all comes by the pieces, or stays of the root that counts, and the journal is empty.
pub record Comes (slot : Slot) (root : Root) (pieces : List Piece) (coming : Opened) (levels : List Level)
    (earlier : Root) (old : List ℕ) : Type 0 where
  pub slot_is : coming.slot ≡ slot
  pub root_is : coming.root ≡ root
  pub extents : root.levels.items ≡ map (λ (l : Level). l.extent) levels
  pub tables : coming.levels ≡ map tables_by levels
  pub segments : All (LevelComes earlier pieces old) levels
  pub list : ListComes earlier pieces old root.deletions coming.deleted
  pub entries : coming.entries ≡ []
  pub tail : coming.tail ≡ half_start slot

-- ---- a root that may be put

-- an extent of so many bytes at least, of a piece or of the root that counts
abbrev pub IsPlaced : ℕ → Root → List Piece → Extent → Type 0
IsPlaced least earlier pieces extent = (least ≤ extent.bytes)
    × (Contains (extents_in pieces) extent ⊎ Contains (extents_of earlier) extent)

-- A root comes just behind the one that counts, with the last version, its numbers keep the rules on slots, and its extents are placed and do not meet.
pub record IsMade (earlier root : Root) (pieces : List Piece) : Type 0 where
  pub version : root.version ≡ VERSION
  pub next : root.sequence ≡ next_sequence earlier.sequence
  pub few : length root.levels.items ≤ 16
  pub number : (1 ≤ root.next_number) × (root.next_number ≤ LAST_NEXT)
  pub location : (1 ≤ root.next_location) × (root.next_location ≤ 1 + (root.next_number - 1) * DOCUMENT_CELLS)
  pub deletions : (root.deletions ≡ no_extent) ⊎ IsPlaced 1 earlier pieces root.deletions
  pub levels : All (IsPlaced LEVEL_BYTES earlier pieces) root.levels.items
  pub apart : AllApart (extents_of root)
