-- The pieces of a rewrite may be put.
use Rattle.std.proofs.Common.{◌≡◌, ℕ, ◌≤◌, List, [], ◌∷◌, ◌++◌, length, map, refl, sym, ap, subst, ◌∙◌, arith, Ok}
use Rattle.std.specs.Prelude.{Contains, Option, Some, None}
use Rattle.std.specs.List.{All}
use Rattle.std.proofs.lemmas.List.{append-nil, map-append}
use Rattle.std.proofs.lemmas.List.Elements.{All-cons, All-contains_itself, All-head, All-map, All-nil}
use Rattle.alta_layout.specs.declared.places.TheConstants.{HEAD_BYTES}
use Rattle.alta_codec.specs.declared.extent.Extent.{Extent}
use Rattle.alta_meaning.proofs.FullLaws.{placed_first}
use Rattle.alta_meaning.proofs.KnownLaws.{all_weaker}
use Rattle.alta_meaning.specs.Working.{placed}
use Rattle.alta_root.specs.Gaps.{IsFirstGap, taken_by}
use Rattle.alta_root.specs.Root.{IsSound, extents_of}
use Rattle.alta_root.specs.declared.root.Root.{Root}
use Rattle.alta_rewrite.proofs.ComeLaws.{first_laid}
use Rattle.alta_rewrite.specs.Puts.{extents_in, AreLaid, Fills, IsLaid}
use Rattle.alta_rewrite.specs.declared.piece.Piece.{Piece}
use Rattle.alta_rewrite.specs.Drafts.{pairs_in, piece_of}
use Rattle.alta_rewrite.specs.Places.{as_list}
use Rattle.alta_rewrite.specs.declared.places.Places.{Places}
use Rattle.alta_rewrite.proofs.PlaceLaws.{ArePlaces, IsPlaceFor}
use Rattle.alta_content.proofs.Elements.{all_left, all_right}

abbrev pub Pair : Type 0
Pair = Extent × List ℕ

-- these bytes were placed one behind the other, beside the root's extents and others
abbrev pub ArePlaced : Root → ℕ → List Extent → List Pair → Type 0
ArePlaced root limit before [] = Unit {0}
ArePlaced root limit before (pair ∷ more) = (placed (taken_by root before) (length pair.1) limit ≡ Ok pair.0) × ArePlaced root limit (before ++ pair.0 ∷ []) more

-- ---- what was placed may be put

module _ (root : Root) (limit : ℕ) where
  piece_fills : (before : List Extent) (piece : Piece) → placed (taken_by root before) (length piece.bytes.now) limit ≡ Ok piece.extent → Fills limit piece
  piece_fills before piece e =
      let first = placed_first (taken_by root before) (length piece.bytes.now) limit piece.extent e in (sym first.1, omega (arith, first.0.gap.before, first.1))

  pub all_fill : (before : List Extent) (pieces : List Piece) → ArePlaced root limit before (pairs_in pieces) → All (Fills limit) pieces
  all_fill before [] are = All-nil (Fills limit)
  all_fill before (piece ∷ pieces) are = All-cons (Fills limit) piece pieces (piece_fills before piece are.0) (all_fill (before ++ piece.extent ∷ []) pieces are.1)

  module _ (size : ℕ) (sound : IsSound size root) (whole : HEAD_BYTES ≤ size) where
    piece_laid : (before : List Piece) (piece : Piece) → placed (taken_by root (extents_in before)) (length piece.bytes.now) limit ≡ Ok piece.extent → IsLaid (extents_of root) limit size before piece
    piece_laid before piece e =
        let first = placed_first (taken_by root (extents_in before)) (length piece.bytes.now) limit piece.extent e in
        first_laid root limit size before piece sound whole (subst (λ n. IsFirstGap (taken_by root (extents_in before)) n limit piece.extent.place) (sym first.1) first.0)

    pub all_laid : (before pieces : List Piece) → ArePlaced root limit (extents_in before) (pairs_in pieces) → AreLaid (extents_of root) limit size before pieces
    all_laid before [] are = tt
    all_laid before (piece ∷ pieces) are = (
      piece_laid before piece are.0,
      all_laid (before ++ piece ∷ []) pieces
          (subst (λ (es : List Extent). ArePlaced root limit es (pairs_in pieces)) (sym (map-append (λ (p : Piece). p.extent) before (piece ∷ []))) are.1),
    )

-- ---- what pieces have

-- a piece has these bytes for this extent
abbrev pub HasPair : List Piece → Pair → Type 0
HasPair pieces pair = (piece : Piece) × Contains pieces piece × (piece.extent ≡ pair.0) × (piece.bytes.now ≡ pair.1)

pub all_there : (pieces : List Piece) → All (HasPair pieces) (pairs_in pieces)
all_there pieces =
    All-map (HasPair pieces) (λ (p : Piece). (p.extent, p.bytes.now)) pieces
    (all_weaker (Contains pieces) (λ (p : Piece). HasPair pieces (p.extent, p.bytes.now)) pieces (λ p among. (p, among, refl, refl)) (All-contains_itself pieces))

-- and so it has, if there is an extent
abbrev pub IsThere : Option Extent → List ℕ → List Piece → Type 0
IsThere None bytes pieces = Unit {0}
IsThere (Some extent) bytes pieces = (piece : Piece) × Contains pieces piece × (piece.extent ≡ extent) × (piece.bytes.now ≡ bytes)

there_is : (found : Option Extent) (bytes : List ℕ) (pieces : List Piece) → All (HasPair pieces) (piece_of found bytes) → IsThere found bytes pieces
there_is None bytes pieces all = tt
there_is (Some x) bytes pieces all = All-head (HasPair pieces) (x, bytes) [] all

-- ---- two levels and a list

one_placed : (root : Root) (limit : ℕ) (before : List Extent) (bytes : List ℕ) (found : Option Extent) (more : List Pair) → IsPlaceFor (taken_by root before) (length bytes) limit found
    → ArePlaced root limit (before ++ as_list found) more → ArePlaced root limit before (piece_of found bytes ++ more)
one_placed root limit before bytes None more is rest = subst (λ (es : List Extent). ArePlaced root limit es more) (append-nil before) rest
one_placed root limit before bytes (Some x) more is rest = (is.1, rest)

last_placed : (root : Root) (limit : ℕ) (before : List Extent) (bytes : List ℕ) (found : Option Extent) → IsPlaceFor (taken_by root before) (length bytes) limit found → ArePlaced root limit before (piece_of found bytes)
last_placed root limit before bytes None is = tt
last_placed root limit before bytes (Some x) is = (is.1, tt)

-- the extents of pieces, where these have them
extents_are : (pieces : List Piece) → extents_in pieces ≡ map (λ (pair : Pair). pair.0) (pairs_in pieces)
extents_are [] = refl
extents_are (piece ∷ pieces) = ap (λ (es : List Extent). piece.extent ∷ es) (extents_are pieces)

one_extent : (found : Option Extent) (bytes : List ℕ) → map (λ (pair : Pair). pair.0) (piece_of found bytes) ≡ as_list found
one_extent None bytes = refl
one_extent (Some x) bytes = refl

-- Pieces lie in gaps beside the root, fill their extents, and bring the levels and the list to their places.
pub record ArePut (root : Root) (limit : ℕ) (oldest newest list : List ℕ) (places : Places) (pieces : List Piece) : Type 0 where
  pub placed_are : ArePlaced root limit [] (pairs_in pieces)
  pub extents : extents_in pieces ≡ as_list places.oldest ++ (as_list places.newest ++ as_list places.list)
  pub oldest_there : IsThere places.oldest oldest pieces
  pub newest_there : IsThere places.newest newest pieces
  pub list_there : IsThere places.list list pieces

module _ (root : Root) (limit : ℕ) (oldest newest list : List ℕ) (places : Places) (are : ArePlaces limit root (length oldest) (length newest) (length list) places) (pieces : List Piece)
    (pairs : pairs_in pieces ≡ piece_of places.oldest oldest ++ (piece_of places.newest newest ++ piece_of places.list list)) where
  abbrev firsts : List Pair → List Extent
  firsts = map (λ (pair : Pair). pair.0)

  put_placed : ArePlaced root limit [] (pairs_in pieces)
  put_placed =
      subst (ArePlaced root limit []) (sym pairs)
      (one_placed root limit [] oldest places.oldest (piece_of places.newest newest ++ piece_of places.list list) are.oldest_is
      (one_placed root limit (as_list places.oldest) newest places.newest (piece_of places.list list) are.newest_is
      (last_placed root limit (as_list places.oldest ++ as_list places.newest) list places.list are.list_is)))

  put_extents : extents_in pieces ≡ as_list places.oldest ++ (as_list places.newest ++ as_list places.list)
  put_extents =
      extents_are pieces ∙ ap firsts pairs
      ∙ map-append (λ (pair : Pair). pair.0) (piece_of places.oldest oldest) (piece_of places.newest newest ++ piece_of places.list list)
      ∙ ap (λ (es : List Extent). firsts (piece_of places.oldest oldest) ++ es) (map-append (λ (pair : Pair). pair.0) (piece_of places.newest newest) (piece_of places.list list))
      ∙ ap (λ (es : List Extent). es ++ (firsts (piece_of places.newest newest) ++ firsts (piece_of places.list list))) (one_extent places.oldest oldest)
      ∙ ap (λ (es : List Extent). as_list places.oldest ++ (es ++ firsts (piece_of places.list list))) (one_extent places.newest newest)
      ∙ ap (λ (es : List Extent). as_list places.oldest ++ (as_list places.newest ++ es)) (one_extent places.list list)

  pub put_are : ArePut root limit oldest newest list places pieces
  put_are =
      let all = subst (All (HasPair pieces)) pairs (all_there pieces) in
      let behind = all_right (HasPair pieces) (piece_of places.oldest oldest) (piece_of places.newest newest ++ piece_of places.list list) all in
      record {
        placed_are = put_placed;
        extents = put_extents;
        oldest_there = there_is places.oldest oldest pieces (all_left (HasPair pieces) (piece_of places.oldest oldest) (piece_of places.newest newest ++ piece_of places.list list) all);
        newest_there = there_is places.newest newest pieces (all_left (HasPair pieces) (piece_of places.newest newest) (piece_of places.list list) behind);
        list_there = there_is places.list list pieces (all_right (HasPair pieces) (piece_of places.newest newest) (piece_of places.list list) behind);
      }
