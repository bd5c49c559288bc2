-- What a draft brings.
use Rattle.std.proofs.Common.{◌≡◌, ℕ, ◌+◌, ◌-◌, ◌*◌, ◌≤◌, ◌<◌, ◌^◌, cond, List, [], ◌∷◌, ◌++◌, drop, length, map, refl, sym, ap, subst, ◌∙◌, arith}
use Rattle.std.specs.Prelude.{◌==◌, Option, Some, None}
use Rattle.std.specs.List.{All}
use Rattle.alta_layout.specs.Places.{other}
use Rattle.alta_layout.specs.declared.slot.Slot.{Slot}
use Rattle.alta_codec.specs.declared.extent.Extent.{Extent}
use Rattle.alta_content.specs.declared.document.DocRow.{DocRow}
use Rattle.alta_meaning.specs.Opened.{table_rows, extent_of}
use Rattle.alta_meaning.specs.Work.{anew, coming}
use Rattle.alta_root.specs.Gaps.{taken_by}
use Rattle.alta_root.specs.Slots.{Counts}
use Rattle.alta_root.specs.declared.places.TheConstants.{DOCUMENT_CELLS, LAST_NEXT}
use Rattle.alta_root.specs.declared.root.Root.{Root}
use Rattle.alta_rewrite.specs.Puts.{Fills, MayPut}
use Rattle.alta_rewrite.specs.declared.piece.Piece.{Piece}
use Rattle.alta_table.specs.Tables.{Tables}
use Rattle.alta_rewrite.specs.Places.{as_list}
use Rattle.alta_rewrite.specs.Rewrites.{tables_in}
use Rattle.alta_rewrite.specs.Drafts.{IsDraft, list_of, pairs_in, piece_of, pieces_of, segment_of, table_to_come}
use Rattle.alta_rewrite.specs.declared.draft.Draft.{Draft}
use Rattle.alta_rewrite.specs.declared.ends.Ends.{Ends}
use Rattle.alta_rewrite.specs.declared.levels.NextLevels.{NextLevels}
use Rattle.alta_rewrite.proofs.LevelLaws.{extents_placed, rows_placed}
use Rattle.alta_rewrite.proofs.PieceLaws.{ArePut, all_fill, put_are}
use Rattle.alta_rewrite.proofs.PlaceLaws.{ArePlaces, places_are}
use Rattle.alta_rewrite.proofs.RootLaws.{may_put, one_level}

module _ (limit : ℕ) (root : Root) (levels : NextLevels) (ends : Ends) (next location : ℕ) (draft : Draft) (is : IsDraft limit root levels ends next location draft) where
  abbrev oldest : List ℕ
  oldest = segment_of levels.oldest

  abbrev newest : List ℕ
  newest = segment_of levels.newest

  pub draft_places : ArePlaces limit root (length oldest) (length newest) (length (list_of ends)) draft.places
  draft_places = places_are limit root (length oldest) (length newest) (length (list_of ends)) draft.places is.places

  -- the tables of the new levels have their rows
  pub draft_rows : (table_rows (tables_in draft.oldest_level) ≡ levels.oldest.documents) × (table_rows (tables_in draft.newest_level) ≡ levels.newest.documents)
  draft_rows = (
    ap (λ (t : Option Tables). table_rows (tables_in t)) is.oldest_level ∙ rows_placed levels.oldest (taken_by root []) limit draft.places.oldest draft_places.oldest_is,
    ap (λ (t : Option Tables). table_rows (tables_in t)) is.newest_level ∙ rows_placed levels.newest (taken_by root (as_list draft.places.oldest)) limit draft.places.newest draft_places.newest_is,
  )

  -- a content without documents has none
  pub draft_none : levels.oldest.documents ≡ [] → draft.oldest_level ≡ None
  draft_none empty = is.oldest_level ∙ by_place draft.places.oldest (one_level levels.oldest (taken_by root []) limit draft.places.oldest draft_places.oldest_is)
    where
      by_place : (found : Option Extent) → length (as_list found) ≡ length (coming levels.oldest) → table_to_come found levels.oldest ≡ None
      by_place None is = refl
      by_place (Some x) is = absurd (omega (arith, is, ap (λ (rows : List DocRow). length (cond (length rows == 0) [] (anew levels.oldest ∷ []))) empty))

  -- and the root to come names where they stand
  pub draft_extents : limit < 2 ^ 64 → draft.root.levels.items ≡ map extent_of (tables_in draft.oldest_level) ++ (drop levels.stay_from root.levels.items ++ map extent_of (tables_in draft.newest_level))
  draft_extents short =
      let oldest_at : map extent_of (tables_in draft.oldest_level) ≡ as_list draft.places.oldest =
      ap (λ (t : Option Tables). map extent_of (tables_in t)) is.oldest_level
      ∙ extents_placed levels.oldest (taken_by root []) limit short is.parts.0 draft.places.oldest draft_places.oldest_is in
      let newest_at : map extent_of (tables_in draft.newest_level) ≡ as_list draft.places.newest =
      ap (λ (t : Option Tables). map extent_of (tables_in t)) is.newest_level
      ∙ extents_placed levels.newest (taken_by root (as_list draft.places.oldest)) limit short is.parts.1 draft.places.newest draft_places.newest_is in
      let staying : List Extent = drop levels.stay_from root.levels.items in
      ap (λ (r : Root). r.levels.items) is.root_is
      ∙ ap (λ (es : List Extent). es ++ (staying ++ as_list draft.places.newest)) (sym oldest_at)
      ∙ ap (λ (es : List Extent). map extent_of (tables_in draft.oldest_level) ++ (staying ++ es)) (sym newest_at)

  module _ (pieces : List Piece) (are : pairs_in pieces ≡ pieces_of draft) where
    draft_pairs : pairs_in pieces ≡ piece_of draft.places.oldest oldest ++ (piece_of draft.places.newest newest ++ piece_of draft.places.list (list_of ends))
    draft_pairs =
        are ∙ ap (λ (bytes : List ℕ). piece_of draft.places.oldest bytes ++ (piece_of draft.places.newest draft.newest.items ++ piece_of draft.places.list draft.list)) is.oldest
        ∙ ap (λ (bytes : List ℕ). piece_of draft.places.oldest oldest ++ (piece_of draft.places.newest bytes ++ piece_of draft.places.list draft.list)) is.newest
        ∙ ap (λ (bytes : List ℕ). piece_of draft.places.oldest oldest ++ (piece_of draft.places.newest newest ++ piece_of draft.places.list bytes)) is.list

    pub draft_put : ArePut root limit oldest newest (list_of ends) draft.places pieces
    draft_put = put_are root limit oldest newest (list_of ends) draft.places draft_places pieces draft_pairs

    pub draft_fits : All (Fills limit) pieces
    draft_fits = all_fill root limit [] pieces draft_put.placed_are

    pub draft_may : (slot : Slot) (old : List ℕ) → Counts slot root old → length (coming levels.oldest) + (length root.levels.items - levels.stay_from) + length (coming levels.newest) ≤ 16
        → (1 ≤ next) × (next ≤ LAST_NEXT) → (1 ≤ location) × (location ≤ 1 + (next - 1) * DOCUMENT_CELLS) → MayPut (other slot) draft.root pieces limit old
    draft_may slot old counts few number place =
        subst (λ (r : Root). MayPut (other slot) r pieces limit old) (sym is.root_is) (may_put slot root levels ends limit old next location draft.places pieces counts few number place draft_places draft_put)
