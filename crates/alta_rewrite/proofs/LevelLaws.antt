-- A new level may be opened.
use Rattle.std.proofs.Common.{◌≡◌, ℕ, ◌+◌, ◌≤◌, ◌<◌, ◌^◌, Bool, cond, List, [], ◌∷◌, length, map, refl, sym, ap, subst, ◌∙◌, arith}
use Rattle.std.specs.Prelude.{◌==◌, IfSome, Option, Some, None}
use Rattle.std.proofs.lemmas.List.{append-nil}
use Rattle.alta_codec.specs.declared.extent.Extent.{Extent}
use Rattle.alta_content.specs.Parts.{IsPart}
use Rattle.alta_content.specs.declared.content.Content.{Content}
use Rattle.alta_content.specs.declared.document.DocRow.{DocRow}
use Rattle.alta_meaning.proofs.FullLaws.{placed_first}
use Rattle.alta_meaning.proofs.Tests.{by_test, equal_from}
use Rattle.alta_meaning.specs.Opened.{table_rows, extent_of}
use Rattle.alta_meaning.specs.Work.{Coming, anew, coming}
use Rattle.alta_level.proofs.Spelled.{segment_tables}
use Rattle.alta_level.specs.Segments.{IsSegment, segment_bytes}
use Rattle.alta_rewrite.specs.Drafts.{segment_of, table_to_come}
use Rattle.alta_rewrite.specs.Places.{as_list}
use Rattle.alta_rewrite.specs.Rewrites.{tables_in}
use Rattle.alta_rewrite.specs.declared.levels.NextLevels.{NextLevels}
use Rattle.alta_rewrite.specs.declared.places.Places.{Places}
use Rattle.alta_rewrite.proofs.PlaceLaws.{IsPlaceFor}
use Rattle.alta_rewrite.proofs.RootLaws.{content_stands, has_segment, one_level}

-- where there is a place, the content is a level's, and its segment fills the place
pub record MayOpen (content : Content) (segment : List ℕ) (found : Option Extent) : Type 0 where
  pub segment_is : IfSome found (λ x. IsSegment segment content)
  pub bytes : IfSome found (λ (e : Extent). e.bytes ≡ length segment)
  pub below : IfSome found (λ (e : Extent). e.place + e.bytes < 2 ^ 64)

pub may_open : (content : Content) (segment : List ℕ) (bytes : ℕ) (taken : List Extent) (limit : ℕ) (found : Option Extent) → limit < 2 ^ 64 → IsPart content → bytes ≡ length segment → segment ≡ segment_of content
    → IsPlaceFor taken bytes limit found → MayOpen content segment found
may_open content segment bytes taken limit None short part long is place = record { segment_is = tt; bytes = tt; below = tt }
may_open content segment bytes taken limit (Some x) short part long is place =
    let some : 0 < length (segment_of content) = omega (arith, place.0, long, ap length is) in
    let first = placed_first taken bytes limit x place.1 in
    record {
      segment_is = record { stands = content_stands content part some; spelled = is ∙ (has_segment content some).segment_is };
      bytes = first.1 ∙ long;
      below = omega (arith, first.0.gap.before, first.1, short);
    }

-- so where there is a place there is a content
pub some_segment : (content : Content) (segment : List ℕ) (found : Option Extent) → MayOpen content segment found → IfSome found (λ x. (c : Content) × IsSegment segment c)
some_segment content segment None may = tt
some_segment content segment (Some x) may = (content, may.segment_is)

-- as many levels are placed as come
pub few_placed : (levels : NextLevels) (places : Places) (stay : ℕ) (taken more : List Extent) (limit oldest newest : ℕ) → oldest ≡ length (segment_of levels.oldest) → newest ≡ length (segment_of levels.newest)
    → IsPlaceFor taken oldest limit places.oldest → IsPlaceFor more newest limit places.newest → length (coming levels.oldest) + stay + length (coming levels.newest) ≤ 16
    → length (as_list places.oldest) + stay + length (as_list places.newest) ≤ 16
few_placed levels places stay taken more limit oldest newest first last oldest_is newest_is few =
    omega (
      arith,
      few,
      one_level levels.oldest taken limit places.oldest (subst (λ n. IsPlaceFor taken n limit places.oldest) first oldest_is),
      one_level levels.newest more limit places.newest (subst (λ n. IsPlaceFor more n limit places.newest) last newest_is),
    )

-- ---- what a level that is placed leaves

none_of : (rows : List DocRow) → length rows ≡ 0 → rows ≡ []
none_of [] e = refl
none_of (row ∷ rows) e = absurd (omega (arith, e))

abbrev by_rows : Content → Bool → List Coming
by_rows content b = cond b [] (anew content ∷ [])

no_rows : (content : Content) → length (coming content) ≡ 0 → length content.documents ≡ 0
no_rows content e =
    by_test (length content.documents == 0) (λ none. equal_from (length content.documents) 0 none)
    (λ some. absurd (omega (arith, sym (ap (λ (b : Bool). length (by_rows content b)) some) ∙ e)))

module _ (content : Content) (taken : List Extent) (limit : ℕ) where
  -- its tables have the content's rows
  pub rows_placed : (found : Option Extent) → IsPlaceFor taken (length (segment_of content)) limit found → table_rows (tables_in (table_to_come found content)) ≡ content.documents
  rows_placed None is = sym (none_of content.documents (no_rows content (sym (one_level content taken limit None is))))
  rows_placed (Some x) is = append-nil content.documents

  -- and stand in its place
  pub extents_placed : limit < 2 ^ 64 → IsPart content → (found : Option Extent) → IsPlaceFor taken (length (segment_of content)) limit found → map extent_of (tables_in (table_to_come found content)) ≡ as_list found
  extents_placed short part None is = refl
  extents_placed short part (Some x) is =
      let may = may_open content (segment_of content) (length (segment_of content)) taken limit (Some x) short part refl refl is in
      let bytes : x.bytes ≡ length (segment_bytes content) = may.bytes ∙ ap length may.segment_is.spelled in
      let tables = segment_tables (segment_bytes content) x.place content (omega (arith, bytes, may.below)) (record { stands = may.segment_is.stands; spelled = refl }) in
      ap (λ (n : ℕ). let e : Extent = record { place = x.place; bytes = n } in e ∷ []) (tables.keeps.filled ∙ sym bytes)
