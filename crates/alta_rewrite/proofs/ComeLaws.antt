-- What stands on a disk once pieces are put.
use Rattle.std.proofs.Common.{◌≡◌, inr, ⊎_elim, ℕ, ◌+◌, ◌≤◌, ◌<◌, ◌^◌, List, [], ◌∷◌, ◌++◌, length, drop, refl, sym, ap, subst, ◌∙◌, arith}
use Rattle.std.specs.List.{All}
use Rattle.std.proofs.lemmas.Bool.{cases_lt}
use Rattle.std.proofs.lemmas.List.{length-drop, length-take-le}
use Rattle.std.proofs.lemmas.List.Elements.{All-append, All-cons, All-contains, All-nil, All-weaker}
use Rattle.alta_layout.specs.declared.places.TheConstants.{HEAD_BYTES}
use Rattle.alta_layout.specs.Places.{half_start}
use Rattle.alta_layout.specs.declared.slot.Slot.{Slot}
use Rattle.alta_codec.proofs.ByteLaws.{AreBytes-drop, AreBytes-take}
use Rattle.alta_codec.specs.Bytes.{AreBytes}
use Rattle.alta_codec.specs.declared.extent.Extent.{Extent}
use Rattle.alta_disk.specs.Images.{end_of}
use Rattle.alta_disk.specs.Parts.{Apart, Clear}
use Rattle.alta_meaning.proofs.KeptStates.{unmap}
use Rattle.alta_meaning.specs.Known.{known_of}
use Rattle.alta_meaning.specs.Levels.{Level}
use Rattle.alta_meaning.specs.Opened.{Opened, bytes_at}
use Rattle.alta_meaning.specs.Ordered.{IsOrdered}
use Rattle.alta_meaning.specs.Standing.{view_of}
use Rattle.alta_meaning.specs.Switching.{InPlace, IsPut, IsWritten}
use Rattle.alta_meaning.specs.Views.{state_of}
use Rattle.alta_journal.specs.Journal.{EndsAt}
use Rattle.alta_level.specs.Segments.{IsSegment}
use Rattle.alta_postings.specs.Deltas.{Spells, stream_bytes}
use Rattle.alta_root.proofs.Frames.{counts_sound}
use Rattle.alta_root.proofs.NextRoot.{levels_inside}
use Rattle.alta_root.specs.Gaps.{IsFirstGap, taken_by}
use Rattle.alta_root.specs.Root.{IsExtent, IsSound, extents_of, no_extent}
use Rattle.alta_root.specs.Slots.{Counts}
use Rattle.alta_root.specs.declared.places.TheConstants.{LEVEL_BYTES}
use Rattle.alta_root.specs.declared.root.Root.{Root}
use Rattle.alta_rewrite.proofs.RunLaws.{follows_as, spared}
use Rattle.alta_rewrite.specs.Brings.{Brings}
use Rattle.alta_rewrite.specs.Comes.{Comes, LevelComes, ListComes, WillStand}
use Rattle.alta_rewrite.specs.Puts.{extents_in, ranges_before, ranges_in, HasPiece, IsLaid, AreLaid, MayPut, Puts}
use Rattle.alta_rewrite.specs.declared.piece.Piece.{Piece}

nothing_spelled : Spells [] []
unfolding stream_bytes
nothing_spelled = record {
  rising = record { rising = λ i j lt short. absurd (omega (arith, short)); positive = λ i short. absurd (omega (arith, short)); below = λ i short. absurd (omega (arith, short)) };
  spelled = refl;
}

-- ---- ends

abbrev pub EndsIn : ℕ → Extent → Type 0
EndsIn size e = e.place + e.bytes ≤ size

none_ends : (size : ℕ) (e : Extent) → e ≡ no_extent → EndsIn size e
none_ends size e is = let none : e.place + e.bytes ≡ 0 = ap (λ (e : Extent). e.place + e.bytes) is in omega (arith, none)

-- what a root names ends in the disk
pub root_ends : (size : ℕ) (root : Root) → IsSound size root → All (EndsIn size) (extents_of root)
root_ends size root sound =
    All-cons (EndsIn size) root.deletions root.levels.items (⊎_elim (λ none. none_ends size root.deletions none) (λ is. is.inside) sound.deletions)
    (All-weaker (IsExtent LEVEL_BYTES size []) (EndsIn size) (λ e is. is.inside) root.levels.items (levels_inside size (root.deletions ∷ []) root.levels.items sound.levels))

pub end_least : (size : ℕ) (ranges : List (ℕ × ℕ)) → size ≤ end_of size ranges
end_least size [] = omega arith
end_least size (r ∷ rs) = let least = end_least size rs in omega (arith, least)

pub pieces_end : (size : ℕ) (pieces : List Piece) → All (EndsIn (end_of size (ranges_in pieces))) (extents_in pieces)
pieces_end size [] = All-nil (EndsIn size)
pieces_end size (p ∷ ps) =
    All-cons (EndsIn (end_of size (ranges_in (p ∷ ps)))) p.extent (extents_in ps) (omega arith)
    (All-weaker (EndsIn (end_of size (ranges_in ps))) (EndsIn (end_of size (ranges_in (p ∷ ps)))) (λ e le. omega (arith, le)) (extents_in ps) (pieces_end size ps))

-- ---- a first gap

module _ (root : Root) (limit size : ℕ) (before : List Piece) (piece : Piece) (sound : IsSound size root) (whole : HEAD_BYTES ≤ size)
    (first : IsFirstGap (taken_by root (extents_in before)) piece.extent.bytes limit piece.extent.place) where
  abbrev end : ℕ
  end = end_of size (ranges_in before)

  all_end : All (EndsIn end) (taken_by root (extents_in before))
  all_end =
      All-append (EndsIn end) (extents_of root) (extents_in before)
      (All-weaker (EndsIn size) (EndsIn end) (λ e le. let least = end_least size (ranges_in before) in omega (arith, le, least)) (extents_of root) (root_ends size root sound)) (pieces_end size before)

  -- where the content ends would be a gap before it
  there : end < piece.extent.place → piece.extent.place ≤ end
  there lt = first.first end (record {
    behind = let least = end_least size (ranges_in before) in omega (arith, whole, least);
    before = omega (arith, lt, first.gap.before);
    apart = All-weaker (EndsIn end) (λ (e : Extent). Apart end piece.extent.bytes e.place e.bytes) (λ e le. inr le) (taken_by root (extents_in before)) all_end;
  })

  pub first_laid : IsLaid (extents_of root) limit size before piece
  first_laid = record { gap = first.gap; reached = ⊎_elim there (λ le. le) (cases_lt end piece.extent.place) }

-- ---- what stands there

pub bytes_long : (extent : Extent) (image : List ℕ) → EndsIn (length image) extent → length (bytes_at extent image) ≡ extent.bytes
bytes_long extent image le = length-take-le extent.bytes (drop extent.place image) (omega (arith, length-drop extent.place image, le))

pub bytes_fit : (extent : Extent) (image : List ℕ) → AreBytes image → AreBytes (bytes_at extent image)
bytes_fit extent image bytes = AreBytes-take extent.bytes (drop extent.place image) (AreBytes-drop extent.place image bytes)

laid_within : (taken : List Extent) (limit size : ℕ) (before pieces : List Piece) → size ≤ limit → AreLaid taken limit size before pieces → end_of size (ranges_in pieces) ≤ limit
laid_within taken limit size before [] le laid = le
laid_within taken limit size before (p ∷ ps) le laid =
    let rest = laid_within taken limit size (before ++ p ∷ []) ps le laid.1 in omega (arith, rest, laid.0.gap.before)

module _ (slot at : Slot) (root earlier : Root) (pieces : List Piece) (limit : ℕ) (old new : List ℕ) (may : MayPut slot root pieces limit old) (counts : Counts at earlier old) (puts : Puts slot pieces old new) where
  pub will_stand : (extent : Extent) (bytes : List ℕ) → WillStand earlier pieces old extent bytes → bytes_at extent new ≡ bytes
  will_stand extent bytes stand = ⊎_elim
      (λ (piece, among, extent_is, bytes_is).
      subst (λ (e : Extent). bytes_at e new ≡ bytes) extent_is (All-contains (HasPiece new) pieces piece puts.there among ∙ bytes_is))
      (λ (among, bytes_is).
      puts.touches.parts extent.place extent.bytes
      (All-contains (λ (e : Extent). Clear e.place e.bytes (ranges_before slot pieces)) (extents_of earlier) extent (spared slot root pieces limit old may at earlier counts).extents among)
      ∙ bytes_is) stand

  -- each ends in the disk
  comes_end : (extent : Extent) (bytes : List ℕ) → WillStand earlier pieces old extent bytes → EndsIn (length new) extent
  comes_end extent bytes stand = subst (λ n. EndsIn n extent) (sym puts.size) (⊎_elim
      (λ (piece, among, extent_is, bytes_is).
      subst (EndsIn (end_of (length old) (ranges_in pieces))) extent_is
      (All-contains (λ (p : Piece). EndsIn (end_of (length old) (ranges_in pieces)) p.extent) pieces piece (unmap (EndsIn (end_of (length old) (ranges_in pieces))) (λ (p : Piece). p.extent) pieces (pieces_end (length old) pieces)) among))
      (λ (among, bytes_is).
      let le = All-contains (EndsIn (length old)) (extents_of earlier) extent (root_ends (length old) earlier (counts_sound at earlier old counts)) among in
      let least = end_least (length old) (ranges_in pieces) in
      omega (arith, le, least)) stand)

  module _ (short : limit < 2 ^ 64) (fits : length old ≤ limit) where
    abbrev IsThere : Level → Type 0
    IsThere l = AreBytes (bytes_at l.extent new) × (length (bytes_at l.extent new) ≡ l.extent.bytes) × (l.extent.bytes < 2 ^ 64)

    level_there : (l : Level) → LevelComes earlier pieces old l → IsThere l
    level_there l (bytes, stand, segment) =
        let ends = comes_end l.extent bytes stand in
        let within = laid_within (extents_of may.earlier) limit (length old) [] pieces fits may.laid in
        (bytes_fit l.extent new puts.bytes, bytes_long l.extent new ends, omega (arith, ends, puts.size, within, short))

    level_segment : (l : Level) → LevelComes earlier pieces old l → IsSegment (bytes_at l.extent new) l.content
    level_segment l (bytes, stand, segment) = subst (λ (b : List ℕ). IsSegment b l.content) (sym (will_stand l.extent bytes stand)) segment

    list_there : (list : Extent) (deleted : List ℕ) → ListComes earlier pieces old list deleted → Spells (bytes_at list new) deleted
    list_there list deleted comes = ⊎_elim
        (λ (none, empty).
        subst (λ (e : Extent). Spells (bytes_at e new) deleted) (sym none) (subst (λ (d : List ℕ). Spells [] d) (sym empty) nothing_spelled))
        (λ (bytes, stand, spells). subst (λ (b : List ℕ). Spells b deleted) (sym (will_stand list bytes stand)) spells) comes

    pub is_put : (coming : Opened) (levels : List Level) → Comes slot root pieces coming levels earlier old → IsPut coming levels new
    is_put coming levels comes = record {
      follows = follows_as slot root pieces limit old may coming comes.slot_is comes.root_is new puts;
      are = record {
        extents = ap (λ (r : Root). r.levels.items) comes.root_is ∙ comes.extents;
        tables = comes.tables;
        segments = All-weaker (LevelComes earlier pieces old) (λ (l : Level). IsSegment (bytes_at l.extent new) l.content) level_segment levels comes.segments;
      };
      bytes = All-weaker (LevelComes earlier pieces old) IsThere level_there levels comes.segments;
      list = subst (λ (r : Root). Spells (bytes_at r.deletions new) coming.deleted) (sym comes.root_is) (list_there root.deletions coming.deleted comes.list);
      empty = comes.entries;
      journal =
          subst (λ (s : Slot). EndsAt coming.root.version (half_start s) coming.tail [] new) (sym comes.slot_is)
          (subst (λ (n : ℕ). EndsAt coming.root.version (half_start slot) n [] new) (sym comes.tail) (puts.journal coming.root.version));
    }

    pub is_written : (coming : Opened) (levels : List Level) → Comes slot root pieces coming levels earlier old → InPlace root coming.deleted coming.levels → IsWritten coming levels new
    is_written coming levels comes place = record { put = is_put coming levels comes; place = subst (λ (r : Root). InPlace r coming.deleted coming.levels) (sym comes.root_is) place }

-- ---- what it brings

pub comes_brings : (slot at : Slot) (root earlier : Root) (pieces : List Piece) (limit : ℕ) (old : List ℕ) → MayPut slot root pieces limit old → limit < 2 ^ 64 → length old ≤ limit → Counts at earlier old → (coming : Opened) (levels : List Level)
    → Comes slot root pieces coming levels earlier old → InPlace root coming.deleted coming.levels → IsOrdered (known_of (state_of (view_of coming levels)))
    → Brings slot root pieces coming levels (state_of (view_of coming levels)) old
comes_brings slot at root earlier pieces limit old may short fits counts coming levels comes place ordered = record {
  slot_is = comes.slot_is;
  root_is = comes.root_is;
  written = λ middle puts. is_written slot at root earlier pieces limit old middle may counts puts short fits coming levels comes place;
  state_is = refl;
  ordered = ordered;
}
