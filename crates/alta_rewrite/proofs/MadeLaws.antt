-- A root that is made of pieces and of what the root that counts names keeps the rules.
use Rattle.std.proofs.Common.{◌≡◌, ◌⊎◌, inl, inr, ⊎_elim, ℕ, ◌+◌, ◌≤◌, List, [], ◌∷◌, ◌++◌, length, ap, arith}
use Rattle.std.specs.List.{All}
use Rattle.std.proofs.lemmas.List.Elements.{All-cons, All-contains, All-head, All-map, All-nil, All-push, All-tail, All-weaker}
use Rattle.alta_layout.specs.declared.places.TheConstants.{HEAD_BYTES}
use Rattle.alta_layout.specs.Places.{other}
use Rattle.alta_layout.specs.declared.slot.Slot.{Slot}
use Rattle.alta_codec.specs.declared.extent.Extent.{Extent}
use Rattle.alta_disk.specs.Images.{end_of}
use Rattle.alta_meaning.specs.Working.{AllApart}
use Rattle.alta_root.proofs.Frames.{counts_sound}
use Rattle.alta_root.proofs.NextRoot.{levels_inside}
use Rattle.alta_root.specs.Root.{AreApart, AreExtents, IsExtent, IsSound, extents_of, no_extent}
use Rattle.alta_root.specs.Slots.{Counts}
use Rattle.alta_root.specs.declared.places.TheConstants.{LEVEL_BYTES}
use Rattle.alta_root.specs.declared.root.Root.{Root}
use Rattle.alta_rewrite.proofs.ComeLaws.{EndsIn, end_least, pieces_end, root_ends}
use Rattle.alta_rewrite.proofs.PutLaws.{laid_behind}
use Rattle.alta_rewrite.specs.Comes.{IsMade, IsPlaced}
use Rattle.alta_rewrite.specs.Puts.{extents_in, ranges_in, AreLaid, MayPut}
use Rattle.alta_rewrite.specs.declared.piece.Piece.{Piece}
use Rattle.alta_meaning.proofs.ApartLaws.{swapped}

-- ---- levels that do not meet

abbrev IsInside : ℕ → Extent → Type 0
IsInside size e = (LEVEL_BYTES ≤ e.bytes) × (HEAD_BYTES ≤ e.place) × (e.place + e.bytes ≤ size)

abbrev IsBeside : List Extent → Extent → Type 0
IsBeside levels e = All (AreApart e) levels

levels_sound : (size : ℕ) (before levels : List Extent) → All (IsInside size) levels → All (IsBeside levels) before → AllApart levels → AreExtents size before levels
levels_sound size before [] inside beside apart = tt
levels_sound size before (l ∷ ls) inside beside apart =
    let here = All-head (IsInside size) l ls inside in (
      record {
        long = here.0;
        behind = here.1;
        inside = here.2;
        apart = All-weaker (IsBeside (l ∷ ls)) (AreApart l) (λ e all. swapped e l (All-head (AreApart e) l ls all)) before beside;
      },
      levels_sound size (before ++ l ∷ []) ls (All-tail (IsInside size) l ls inside)
          (All-push (IsBeside ls) before l (All-weaker (IsBeside (l ∷ ls)) (IsBeside ls) (λ e all. All-tail (AreApart e) l ls all) before beside) apart.0) apart.1,
    )

-- ---- the extents of a root

-- none, or behind the head
abbrev IsNoneOrBehind : Extent → Type 0
IsNoneOrBehind e = (e ≡ no_extent) ⊎ (HEAD_BYTES ≤ e.place)

root_behind : (size : ℕ) (root : Root) → IsSound size root → All IsNoneOrBehind (extents_of root)
root_behind size root sound =
    All-cons IsNoneOrBehind root.deletions root.levels.items (⊎_elim (λ none. inl none) (λ is. inr is.behind) sound.deletions)
    (All-weaker (IsExtent LEVEL_BYTES size []) IsNoneOrBehind (λ e is. inr is.behind) root.levels.items (levels_inside size (root.deletions ∷ []) root.levels.items sound.levels))

none_is_empty : (e : Extent) → e ≡ no_extent → e.bytes ≡ 0
none_is_empty e is = ap (λ (e : Extent). e.bytes) is

module _ (slot : Slot) (root earlier : Root) (pieces : List Piece) (limit : ℕ) (old : List ℕ) (counts : Counts (other slot) earlier old) (laid : AreLaid (extents_of earlier) limit (length old) [] pieces)
    (made : IsMade earlier root pieces) where
  abbrev size : ℕ
  size = end_of (length old) (ranges_in pieces)

  sound : IsSound (length old) earlier
  sound = counts_sound (other slot) earlier old counts

  placed_inside : (least : ℕ) (e : Extent) → 1 ≤ least → IsPlaced least earlier pieces e → (least ≤ e.bytes) × (HEAD_BYTES ≤ e.place) × (e.place + e.bytes ≤ size)
  placed_inside least e some (long, from) = ⊎_elim
      (λ among. (
        long,
        All-contains (λ (e : Extent). HEAD_BYTES ≤ e.place) (extents_in pieces) e (All-map (λ (e : Extent). HEAD_BYTES ≤ e.place) (λ (p : Piece). p.extent) pieces (laid_behind (extents_of earlier) limit (length old) [] pieces laid)) among,
        All-contains (EndsIn size) (extents_in pieces) e (pieces_end (length old) pieces) among,
      ))
      (λ among.
      let ends = All-contains (EndsIn (length old)) (extents_of earlier) e (root_ends (length old) earlier sound) among in
      let longer = end_least (length old) (ranges_in pieces) in (
        long,
        ⊎_elim (λ none. let empty = none_is_empty e none in absurd (omega (arith, empty, long, some))) (λ behind. behind)
            (All-contains IsNoneOrBehind (extents_of earlier) e (root_behind (length old) earlier sound) among),
        omega (arith, ends, longer),
      )) from

  list_sound : (root.deletions ≡ no_extent) ⊎ IsExtent 1 size [] root.deletions
  list_sound = ⊎_elim (λ none. inl none)
      (λ placed.
      let is = placed_inside 1 root.deletions (omega arith) placed in
      inr (record { long = is.0; behind = is.1; inside = is.2; apart = All-nil (AreApart root.deletions) })) made.deletions

  pub may_be_put : MayPut slot root pieces limit old
  may_be_put = record {
    earlier = earlier;
    counts = counts;
    version = made.version;
    next = made.next;
    sound = record {
      version = (omega (arith, made.version), omega (arith, made.version));
      few = made.few;
      number = made.number;
      location = made.location;
      deletions = list_sound;
      levels =
          levels_sound size (root.deletions ∷ []) root.levels.items
          (All-weaker (IsPlaced LEVEL_BYTES earlier pieces) (IsInside size) (λ e placed. placed_inside LEVEL_BYTES e (omega arith) placed) root.levels.items made.levels)
          (All-cons (IsBeside root.levels.items) root.deletions [] made.apart.0 (All-nil (IsBeside root.levels.items))) made.apart.1;
    };
    laid = laid;
  }
