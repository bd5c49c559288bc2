-- The root to come keeps the rules of a slot.
use Rattle.std.proofs.Common.{◌≡◌, ◌⊎◌, inl, inr, ⊎_elim, ℕ, ◌+◌, ◌-◌, ◌*◌, ◌≤◌, ◌<◌, Bool, true, false, cond, List, [], ◌∷◌, ◌++◌, length, drop, refl, sym, ap, subst, ◌∙◌, arith, Ok}
use Rattle.std.specs.Prelude.{Contains, ◌==◌, Option, Some, None}
use Rattle.std.specs.List.{All, flat_map}
use Rattle.std.specs.Str.{bytes_eq}
use Rattle.std.proofs.lemmas.Bool.{false≢true}
use Rattle.std.proofs.lemmas.List.{append-nil, length-append, length-drop}
use Rattle.std.proofs.lemmas.List.Elements.{All-append, All-cons, All-contains_itself, All-drop, All-head, All-nil, All-push, All-tail, All-weaker}
use Rattle.alta_layout.specs.Places.{other}
use Rattle.alta_layout.specs.declared.slot.Slot.{Slot}
use Rattle.alta_codec.specs.declared.extent.Extent.{Extent}
use Rattle.alta_content.specs.Lists.{IsContent}
use Rattle.alta_content.specs.Parts.{IsPart}
use Rattle.alta_content.specs.declared.document.DocRow.{DocRow}
use Rattle.alta_content.specs.declared.content.Content.{Content}
use Rattle.alta_meaning.proofs.FullLaws.{placed_first}
use Rattle.alta_meaning.proofs.KnownLaws.{all_both}
use Rattle.alta_meaning.proofs.Tests.{by_test, equal_from}
use Rattle.alta_meaning.specs.Work.{Coming, anew, coming}
use Rattle.alta_meaning.specs.Working.{placed, AllApart}
use Rattle.alta_level.specs.Segments.{list_bytes, rows_of, segment_bytes}
use Rattle.alta_postings.specs.Deltas.{stream_bytes}
use Rattle.alta_root.proofs.Frames.{counts_sound}
use Rattle.alta_root.proofs.SwitchLaws.{other_twice}
use Rattle.alta_root.proofs.NextRoot.{MeetsNone, levels_apart, levels_inside}
use Rattle.alta_root.specs.Gaps.{taken_by}
use Rattle.alta_root.specs.Root.{AreApart, AreExtents, IsExtent, IsSound, extents_of, no_extent}
use Rattle.alta_root.specs.Slots.{Counts}
use Rattle.alta_root.specs.declared.places.TheConstants.{DOCUMENT_CELLS, LAST_NEXT, LEVEL_BYTES}
use Rattle.alta_root.specs.declared.root.Root.{Root}
use Rattle.alta_rewrite.proofs.MadeLaws.{may_be_put}
use Rattle.alta_rewrite.specs.Comes.{IsMade, IsPlaced}
use Rattle.alta_rewrite.specs.Puts.{extents_in, MayPut}
use Rattle.alta_rewrite.specs.declared.piece.Piece.{Piece}
use Rattle.alta_table.proofs.TableLaws.{length-tables_bytes}
use Rattle.alta_table.specs.Tables.{tables_bytes}
use Rattle.alta_rewrite.specs.Drafts.{extents_to_come, list_of, list_to_come, root_to_come, segment_of}
use Rattle.alta_rewrite.specs.Places.{as_list}
use Rattle.alta_rewrite.specs.declared.ends.Ends.{Ends}
use Rattle.alta_rewrite.specs.declared.levels.NextLevels.{NextLevels}
use Rattle.alta_rewrite.specs.declared.places.Places.{Places}
use Rattle.alta_rewrite.proofs.PieceLaws.{ArePut, all_laid}
use Rattle.alta_rewrite.proofs.PlaceLaws.{ArePlaces, IsPlaceFor}
use Rattle.alta_content.proofs.Elements.{all_left, all_right}
use Rattle.alta_meaning.proofs.ApartLaws.{swapped, apart_drop}

-- ---- extents that do not meet

all_apart : (size : ℕ) (before levels : List Extent) → AreExtents size before levels → AllApart levels
all_apart size before [] are = tt
all_apart size before (l ∷ ls) are = (
  All-weaker (MeetsNone (before ++ l ∷ [])) (AreApart l) (λ e meets. swapped e l (All-head (AreApart e) l [] (all_right (AreApart e) before (l ∷ []) meets))) ls (levels_apart size (before ++ l ∷ []) ls are.1),
  all_apart size (before ++ l ∷ []) ls are.1,
)

apart_push : (es : List Extent) (x : Extent) → AllApart es → All (AreApart x) es → AllApart (es ++ x ∷ [])
apart_push [] x apart all = (All-nil (AreApart x), tt)
apart_push (e ∷ es) x apart all = (All-push (AreApart e) es x apart.0 (swapped x e (All-head (AreApart x) e es all)), apart_push es x apart.1 (All-tail (AreApart x) e es all))

none_apart : (es : List Extent) → All (AreApart no_extent) es
none_apart [] = All-nil (AreApart no_extent)
none_apart (e ∷ es) = All-cons (AreApart no_extent) e es (inl (omega arith)) (none_apart es)

placed_apart : (taken : List Extent) (bytes limit : ℕ) (x : Extent) → placed taken bytes limit ≡ Ok x → All (AreApart x) taken
placed_apart taken bytes limit x e =
    let first = placed_first taken bytes limit x e in subst (λ n. All (λ (y : Extent). AreApart (record { place = x.place; bytes = n }) y) taken) (sym first.1) first.0.gap.apart

-- ---- bytes

pub segment_long : (c : Content) → LEVEL_BYTES ≤ length (segment_bytes c)
unfolding segment_bytes
segment_long c = omega (arith, length-append (tables_bytes c.documents (rows_of c.lists)) (flat_map list_bytes c.lists), length-tables_bytes c.documents (rows_of c.lists))

pub no_stream : (deleted : List ℕ) → (length deleted == 0) ≡ true → length (stream_bytes 0 deleted) ≡ 0
unfolding stream_bytes
no_stream [] e = refl
no_stream (d ∷ ds) e = absurd (omega (arith, equal_from (length (d ∷ ds)) 0 e))

abbrev by_rows : Content → Bool → List ℕ
by_rows content b = cond b [] (segment_bytes content)

-- a segment that has bytes has documents, and is one
pub record HasSegment (content : Content) : Type 0 where
  pub some : (length content.documents == 0) ≡ false
  pub segment_is : segment_of content ≡ segment_bytes content

pub has_segment : (content : Content) → 0 < length (segment_of content) → HasSegment content
has_segment content some =
    by_test (length content.documents == 0)
    (λ none. let empty : length (segment_of content) ≡ 0 = ap (λ b. length (by_rows content b)) none in absurd (omega (arith, empty, some)))
    (λ is. record { some = is; segment_is = ap (by_rows content) is })

pub content_stands : (content : Content) → IsPart content → 0 < length (segment_of content) → IsContent content
content_stands content part some =
    ⊎_elim (λ is. is) (λ empty. absurd (false≢true (sym (has_segment content some).some ∙ ap (λ (rows : List DocRow). length rows == 0) empty.documents))) part

abbrev by_none : Content → Bool → List Coming
by_none content b = cond b [] (anew content ∷ [])

pub at_most_one : (content : Content) → length (coming content) ≤ 1
at_most_one content = of_rows (length content.documents == 0)
  where
    of_rows : (b : Bool) → length (by_none content b) ≤ 1
    of_rows true = omega arith
    of_rows false = omega arith

-- a content takes a place exactly where it comes as a level
pub one_level : (content : Content) (taken : List Extent) (limit : ℕ) (found : Option Extent) → IsPlaceFor taken (length (segment_of content)) limit found → length (as_list found) ≡ length (coming content)
one_level content taken limit (Some x) is = sym (ap (λ b. length (by_none content b)) (has_segment content is.0).some)
one_level content taken limit None is =
    by_test (length content.documents == 0) (λ none. sym (ap (λ b. length (by_none content b)) none))
    (λ some. let long : length (segment_of content) ≡ length (segment_bytes content) = ap (λ b. length (by_rows content b)) some in absurd (omega (arith, is, long, segment_long content)))

-- ---- the root to come

abbrev by_same : Root → Ends → Bool → Extent
by_same root ends b = cond b root.deletions no_extent

module _ (root : Root) (levels : NextLevels) (ends : Ends) (limit size : ℕ) (sound : IsSound size root) (places : Places)
    (are : ArePlaces limit root (length (segment_of levels.oldest)) (length (segment_of levels.newest)) (length (list_of ends)) places) where
  abbrev staying : List Extent
  staying = drop levels.stay_from root.levels.items

  abbrev come : List Extent
  come = extents_to_come root levels.stay_from places

  -- what all of the root's levels have, and the new ones
  all_come : (P : Extent → Type 0) → All P root.levels.items → All P (as_list places.oldest) → All P (as_list places.newest) → All P come
  all_come P old first last =
      All-append P (as_list places.oldest) (staying ++ as_list places.newest) first (All-append P staying (as_list places.newest) (All-drop P levels.stay_from root.levels.items old) last)

  few_come : length (coming levels.oldest) + (length root.levels.items - levels.stay_from) + length (coming levels.newest) ≤ 16 → length come ≤ 16
  few_come few =
      omega (
        arith,
        few,
        one_level levels.oldest (taken_by root []) limit places.oldest are.oldest_is,
        one_level levels.newest (taken_by root (as_list places.oldest)) limit places.newest are.newest_is,
        length-append (as_list places.oldest) (staying ++ as_list places.newest),
        length-append staying (as_list places.newest),
        length-drop levels.stay_from root.levels.items,
      )

  -- ---- the levels
  oldest_apart : (x : Extent) → IsPlaceFor (taken_by root []) (length (segment_of levels.oldest)) limit (Some x) → All (AreApart x) (extents_of root)
  oldest_apart x is = subst (All (AreApart x)) (append-nil (extents_of root)) (placed_apart (taken_by root []) (length (segment_of levels.oldest)) limit x is.1)

  newest_apart : (oldest : Option Extent) (y : Extent) → IsPlaceFor (taken_by root (as_list oldest)) (length (segment_of levels.newest)) limit (Some y) → All (AreApart y) (taken_by root (as_list oldest))
  newest_apart oldest y is = placed_apart (taken_by root (as_list oldest)) (length (segment_of levels.newest)) limit y is.1

  behind_apart : (oldest newest : Option Extent) → IsPlaceFor (taken_by root (as_list oldest)) (length (segment_of levels.newest)) limit newest → AllApart (staying ++ as_list newest)
  behind_apart oldest None is = subst AllApart (sym (append-nil staying)) (apart_drop levels.stay_from root.levels.items (all_apart size (root.deletions ∷ []) root.levels.items sound.levels))
  behind_apart oldest (Some y) is =
      apart_push staying y (apart_drop levels.stay_from root.levels.items (all_apart size (root.deletions ∷ []) root.levels.items sound.levels))
      (All-drop (AreApart y) levels.stay_from root.levels.items
      (All-tail (AreApart y) root.deletions root.levels.items (all_left (AreApart y) (extents_of root) (as_list oldest) (newest_apart oldest y is))))

  in_front : (oldest newest : Option Extent) → IsPlaceFor (taken_by root []) (length (segment_of levels.oldest)) limit oldest → IsPlaceFor (taken_by root (as_list oldest)) (length (segment_of levels.newest)) limit newest
      → AllApart (as_list oldest ++ (staying ++ as_list newest))
  in_front None newest first last = behind_apart None newest last
  in_front (Some x) newest first last =
      (All-append (AreApart x) staying (as_list newest) (All-drop (AreApart x) levels.stay_from root.levels.items (All-tail (AreApart x) root.deletions root.levels.items (oldest_apart x first))) (beside newest last), behind_apart (Some x) newest last)
    where
      beside : (newest : Option Extent) → IsPlaceFor (taken_by root (x ∷ [])) (length (segment_of levels.newest)) limit newest → All (AreApart x) (as_list newest)
      beside None is = All-nil (AreApart x)
      beside (Some y) is =
          All-cons (AreApart x) y [] (swapped y x (All-head (AreApart y) x [] (all_right (AreApart y) (extents_of root) (x ∷ []) (newest_apart (Some x) y is)))) (All-nil (AreApart x))

  -- ---- the list

  -- the list of the root that counts meets neither its levels nor the new ones
  old_list_apart : All (AreApart root.deletions) come
  old_list_apart =
      all_come (AreApart root.deletions)
      (All-weaker (MeetsNone (root.deletions ∷ [])) (AreApart root.deletions) (λ e meets. swapped e root.deletions (All-head (AreApart e) root.deletions [] meets)) root.levels.items (levels_apart size (root.deletions ∷ []) root.levels.items sound.levels))
      (first places.oldest are.oldest_is) (last places.newest are.newest_is)
    where
      first : (oldest : Option Extent) → IsPlaceFor (taken_by root []) (length (segment_of levels.oldest)) limit oldest → All (AreApart root.deletions) (as_list oldest)
      first None is = All-nil (AreApart root.deletions)
      first (Some x) is =
          All-cons (AreApart root.deletions) x [] (swapped x root.deletions (All-head (AreApart x) root.deletions root.levels.items (oldest_apart x is))) (All-nil (AreApart root.deletions))

      last : (newest : Option Extent) → IsPlaceFor (taken_by root (as_list places.oldest)) (length (segment_of levels.newest)) limit newest → All (AreApart root.deletions) (as_list newest)
      last None is = All-nil (AreApart root.deletions)
      last (Some y) is =
          All-cons (AreApart root.deletions) y [] (swapped y root.deletions (All-head (AreApart y) root.deletions (root.levels.items ++ as_list places.oldest) (newest_apart places.oldest y is))) (All-nil (AreApart root.deletions))

  list_apart : (list : Option Extent) → IsPlaceFor (taken_by root (as_list places.oldest ++ as_list places.newest)) (length (list_of ends)) limit list → All (AreApart (list_to_come root ends list)) come
  list_apart (Some z) is =
      let all = placed_apart (taken_by root (as_list places.oldest ++ as_list places.newest)) (length (list_of ends)) limit z is.1 in
      let new = all_right (AreApart z) (extents_of root) (as_list places.oldest ++ as_list places.newest) all in
      all_come (AreApart z) (All-tail (AreApart z) root.deletions root.levels.items (all_left (AreApart z) (extents_of root) (as_list places.oldest ++ as_list places.newest) all))
      (all_left (AreApart z) (as_list places.oldest) (as_list places.newest) new) (all_right (AreApart z) (as_list places.oldest) (as_list places.newest) new)
  list_apart None is =
      by_test (bytes_eq ends.deleted.now ends.listed.now)
      (λ same. subst (λ (x : Extent). All (AreApart x) come) (sym (ap (by_same root ends) same)) old_list_apart)
      (λ others. subst (λ (x : Extent). All (AreApart x) come) (sym (ap (by_same root ends) others)) (none_apart come))

  -- ---- what is placed
  module _ (pieces : List Piece) (put : ArePut root limit (segment_of levels.oldest) (segment_of levels.newest) (list_of ends) places pieces) where
    among : All (Contains (extents_in pieces)) (as_list places.oldest ++ (as_list places.newest ++ as_list places.list))
    among = subst (All (Contains (extents_in pieces))) put.extents (All-contains_itself (extents_in pieces))

    behind : All (Contains (extents_in pieces)) (as_list places.newest ++ as_list places.list)
    behind = all_right (Contains (extents_in pieces)) (as_list places.oldest) (as_list places.newest ++ as_list places.list) among

    new_placed : (content : Content) (taken : List Extent) (found : Option Extent) → IsPlaceFor taken (length (segment_of content)) limit found → All (Contains (extents_in pieces)) (as_list found) → All (IsPlaced LEVEL_BYTES root pieces) (as_list found)
    new_placed content taken None is here = All-nil (IsPlaced LEVEL_BYTES root pieces)
    new_placed content taken (Some x) is here =
        let first = placed_first taken (length (segment_of content)) limit x is.1 in
        let long : LEVEL_BYTES ≤ x.bytes = omega (arith, first.1, ap length (has_segment content is.0).segment_is, segment_long content) in
        All-cons (IsPlaced LEVEL_BYTES root pieces) x [] (long, inl (All-head (Contains (extents_in pieces)) x [] here)) (All-nil (IsPlaced LEVEL_BYTES root pieces))

    levels_placed : All (IsPlaced LEVEL_BYTES root pieces) come
    levels_placed =
        all_come (IsPlaced LEVEL_BYTES root pieces)
        (All-weaker (λ (e : Extent). IsExtent LEVEL_BYTES size [] e × Contains (extents_of root) e) (IsPlaced LEVEL_BYTES root pieces) (λ e both. (both.0.long, inr both.1)) root.levels.items
        (all_both (IsExtent LEVEL_BYTES size []) (Contains (extents_of root)) root.levels.items (levels_inside size (root.deletions ∷ []) root.levels.items sound.levels)
        (All-tail (Contains (extents_of root)) root.deletions root.levels.items (All-contains_itself (extents_of root)))))
        (new_placed levels.oldest (taken_by root []) places.oldest are.oldest_is (all_left (Contains (extents_in pieces)) (as_list places.oldest) (as_list places.newest ++ as_list places.list) among))
        (new_placed levels.newest (taken_by root (as_list places.oldest)) places.newest are.newest_is (all_left (Contains (extents_in pieces)) (as_list places.newest) (as_list places.list) behind))

    list_placed : (list : Option Extent) → IsPlaceFor (taken_by root (as_list places.oldest ++ as_list places.newest)) (length (list_of ends)) limit list → All (Contains (extents_in pieces)) (as_list list)
        → (list_to_come root ends list ≡ no_extent) ⊎ IsPlaced 1 root pieces (list_to_come root ends list)
    list_placed (Some z) is here =
        let first = placed_first (taken_by root (as_list places.oldest ++ as_list places.newest)) (length (list_of ends)) limit z is.1 in
        inr (omega (arith, first.1, is.0), inl (All-head (Contains (extents_in pieces)) z [] here))
    list_placed None is here =
        by_test (bytes_eq ends.deleted.now ends.listed.now)
        (λ same.
        subst (λ (x : Extent). (x ≡ no_extent) ⊎ IsPlaced 1 root pieces x) (sym (ap (by_same root ends) same))
        (⊎_elim (λ none. inl none) (λ is. inr (is.long, inr (All-head (Contains (extents_of root)) root.deletions root.levels.items (All-contains_itself (extents_of root))))) sound.deletions))
        (λ others. inl (ap (by_same root ends) others))

    pub is_made : (next location : ℕ) → (1 ≤ next) × (next ≤ LAST_NEXT) → (1 ≤ location) × (location ≤ 1 + (next - 1) * DOCUMENT_CELLS)
        → length (coming levels.oldest) + (length root.levels.items - levels.stay_from) + length (coming levels.newest) ≤ 16 → IsMade root (root_to_come root ends levels.stay_from next location places) pieces
    is_made next location number place few = record {
      version = refl;
      next = refl;
      few = few_come few;
      number = number;
      location = place;
      deletions = list_placed places.list are.list_is (all_right (Contains (extents_in pieces)) (as_list places.newest) (as_list places.list) behind);
      levels = levels_placed;
      apart = (list_apart places.list are.list_is, in_front places.oldest places.newest are.oldest_is are.newest_is);
    }

-- ---- it may be put

pub may_put : (slot : Slot) (root : Root) (levels : NextLevels) (ends : Ends) (limit : ℕ) (old : List ℕ) (next location : ℕ) (places : Places) (pieces : List Piece) → Counts slot root old
    → length (coming levels.oldest) + (length root.levels.items - levels.stay_from) + length (coming levels.newest) ≤ 16
    → (1 ≤ next) × (next ≤ LAST_NEXT) → (1 ≤ location) × (location ≤ 1 + (next - 1) * DOCUMENT_CELLS)
    → ArePlaces limit root (length (segment_of levels.oldest)) (length (segment_of levels.newest)) (length (list_of ends)) places
    → ArePut root limit (segment_of levels.oldest) (segment_of levels.newest) (list_of ends) places pieces
    → MayPut (other slot) (root_to_come root ends levels.stay_from next location places) pieces limit old
may_put slot root levels ends limit old next location places pieces counts few number place are put =
    may_be_put (other slot) (root_to_come root ends levels.stay_from next location places) root pieces limit old (twice slot counts)
    (all_laid root limit (length old) (counts_sound slot root old counts) counts.whole [] pieces put.placed_are)
    (is_made root levels ends limit (length old) (counts_sound slot root old counts) places are pieces put next location number place few)
  where
    twice : (slot : Slot) → Counts slot root old → Counts (other (other slot)) root old
    twice slot counts = subst (λ (s : Slot). Counts s root old) (sym (other_twice slot)) counts
