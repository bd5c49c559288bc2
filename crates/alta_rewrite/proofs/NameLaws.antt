-- What is put brings or names what comes.
use Rattle.std.proofs.Common.{◌≡◌, ⊎_elim, inl, inr, ℕ, zero, suc, ◌+◌, ◌-◌, ◌*◌, ◌≤◌, ◌<◌, ◌^◌, Bool, cond, List, [], ◌∷◌, ◌++◌, length, map, drop, refl, sym, ap, subst, ◌∙◌, arith, Ok}
use Rattle.std.specs.Prelude.{◌==◌, Contains, Option, Some, None}
use Rattle.std.specs.List.{All, sum_by}
use Rattle.std.specs.Str.{bytes_eq}
use Rattle.std.proofs.lemmas.List.{drop-map, map-append}
use Rattle.std.proofs.lemmas.List.Elements.{All-append, All-cons, All-contains_itself, All-drop, All-head, All-nil, All-tail, All-weaker}
use Rattle.alta_layout.specs.Places.{half_start, other}
use Rattle.alta_layout.specs.declared.slot.Slot.{Slot}
use Rattle.alta_codec.proofs.ByteLaws.{AreBytes-drop, AreBytes-take}
use Rattle.alta_codec.specs.Bytes.{AreBytes}
use Rattle.alta_codec.specs.Rising.{IsRising}
use Rattle.alta_codec.specs.declared.extent.Extent.{Extent}
use Rattle.alta_content.specs.Parts.{IsPart}
use Rattle.alta_content.specs.declared.content.Content.{Content}
use Rattle.alta_meaning.proofs.FullLaws.{placed_first, stream_some}
use Rattle.alta_meaning.proofs.KeptStates.{unmap}
use Rattle.alta_meaning.proofs.KnownLaws.{all_both, all_weaker}
use Rattle.alta_meaning.proofs.Tests.{by_test, bytes_from}
use Rattle.alta_meaning.proofs.WrittenLaws.{level_read, list_read}
use Rattle.alta_meaning.specs.Holding.{Holding}
use Rattle.alta_meaning.specs.Known.{known_of}
use Rattle.alta_meaning.specs.Levels.{Level}
use Rattle.alta_meaning.specs.Opened.{Opened, IsNamed, bytes_at, deleted_in, known_at, list_at, tables_at}
use Rattle.alta_meaning.specs.Ordered.{IsOrdered}
use Rattle.alta_meaning.specs.Standing.{AreLevels, tables_by, view_of}
use Rattle.alta_meaning.specs.Views.{View, state_of}
use Rattle.alta_meaning.specs.Work.{Job, coming, newest}
use Rattle.alta_level.specs.Segments.{IsSegment}
use Rattle.alta_memlevel.specs.Added.{Added}
use Rattle.alta_machine.specs.declared.document.State.{State}
use Rattle.alta_postings.proofs.Reading.{reading_spells}
use Rattle.alta_postings.specs.Deltas.{Spells, first_fault, decoded_list, stream_bytes}
use Rattle.alta_postings.specs.declared.fault.StreamFault.{StreamFault}
use Rattle.alta_root.specs.Gaps.{taken_by}
use Rattle.alta_root.specs.Root.{extents_of, no_extent}
use Rattle.alta_root.specs.declared.places.TheConstants.{DOCUMENT_CELLS, LAST_NEXT, VERSION}
use Rattle.alta_root.specs.declared.root.Root.{Root}
use Rattle.alta_rewrite.proofs.ComeLaws.{comes_brings, will_stand, bytes_fit}
use Rattle.alta_rewrite.specs.Brings.{Brings, Names}
use Rattle.alta_rewrite.specs.Comes.{Comes, LevelComes, ListComes, WillStand}
use Rattle.alta_rewrite.specs.Puts.{MayPut, Puts}
use Rattle.alta_rewrite.specs.declared.piece.Piece.{Piece}
use Rattle.alta_table.specs.Tables.{Tables, tables_of}
use Rattle.alta_rewrite.specs.Drafts.{IsDraft, list_of, list_to_come, pairs_in, pieces_of, root_to_come, segment_of, table_to_come}
use Rattle.alta_rewrite.specs.Places.{as_list}
use Rattle.alta_rewrite.specs.Rewrites.{IsComing, MayRewriteOpened, tables_in}
use Rattle.alta_rewrite.specs.declared.draft.Draft.{Draft}
use Rattle.alta_rewrite.specs.declared.ends.Ends.{Ends}
use Rattle.alta_rewrite.specs.declared.levels.NextLevels.{NextLevels}
use Rattle.alta_rewrite.specs.declared.places.Places.{Places}
use Rattle.alta_rewrite.proofs.DraftLaws.{draft_may, draft_places, draft_put}
use Rattle.alta_rewrite.proofs.OpenedLaws.{come_of, come_ordered, come_place, opened_read, place, same_state, state_ordered, then}
use Rattle.alta_rewrite.proofs.PieceLaws.{ArePut, IsThere}
use Rattle.alta_rewrite.proofs.PlaceLaws.{ArePlaces, IsPlaceFor}
use Rattle.alta_meaning.proofs.ReadLaws.{AreRead, read_again}
use Rattle.alta_rewrite.proofs.RootLaws.{content_stands, has_segment}
use Rattle.alta_rewrite.proofs.SwitchLaws.{new_levels}
use Rattle.alta_meaning.proofs.WellLaws.{none_left}

-- what is opened then, by what is opened before
abbrev pub coming_at : Opened → NextLevels → Ends → ℕ → ℕ → Places → Opened
coming_at o levels ends next location places = record {
  slot = other o.slot;
  root = root_to_come o.root ends levels.stay_from next location places;
  deleted = ends.deleted.now;
  levels = come_of levels o.levels places;
  entries = [];
  tail = half_start (other o.slot);
}

-- what is opened then, by the slot and the root that count, and the levels then
abbrev pub coming_by : Slot → Root → NextLevels → Ends → ℕ → ℕ → Places → List Level → Opened
coming_by slot root levels ends next location places later = record {
  slot = other slot;
  root = root_to_come root ends levels.stay_from next location places;
  deleted = ends.deleted.now;
  levels = map tables_by later;
  entries = [];
  tail = half_start (other slot);
}

abbrev extent_of : Level → Extent
extent_of l = l.extent

-- ---- a list that was read is spelled

list_spelled : (root : Root) (deleted image : List ℕ) → AreBytes image → deleted_in root image ≡ Ok deleted → Spells (bytes_at root.deletions image) deleted
unfolding deleted_in
list_spelled root deleted image fits e = by_fault (first_fault (bytes_at root.deletions image)) refl e
  where
    by_fault : (o : Option StreamFault) → first_fault (bytes_at root.deletions image) ≡ o → list_at root.deletions.place (bytes_at root.deletions image) o ≡ Ok deleted → Spells (bytes_at root.deletions image) deleted
    by_fault None none e =
        let same : decoded_list (bytes_at root.deletions image) ≡ deleted = cc in
        subst (Spells (bytes_at root.deletions image)) same
        (reading_spells (bytes_at root.deletions image) (λ i lt. AreBytes-take root.deletions.bytes (drop root.deletions.place image) (AreBytes-drop root.deletions.place image fits) i) none)
    by_fault (Some fault) some e = absurd cc

nothing_spelled : Spells [] []
unfolding stream_bytes
nothing_spelled = record {
  rising = record { rising = λ i j lt short. absurd (omega (arith, short)); positive = λ i short. absurd (omega (arith, short)); below = λ i short. absurd (omega (arith, short)) };
  spelled = refl;
}

-- the list to come stays, or is brought
module _ (root : Root) (ends : Ends) (limit : ℕ) (old : List ℕ) (pieces : List Piece) (rising : IsRising ends.deleted.now) where
  abbrev list_by : Bool → List ℕ
  list_by b = cond b [] (stream_bytes 0 ends.deleted.now)

  abbrev come_by : Bool → Extent
  come_by b = cond b root.deletions no_extent

  list_comes : (taken : List Extent) → Spells (bytes_at root.deletions old) ends.listed.now → (list : Option Extent) → IsThere list (list_of ends) pieces → IsPlaceFor taken (length (list_of ends)) limit list
      → ListComes root pieces old (list_to_come root ends list) ends.deleted.now
  list_comes taken listed (Some extent) there place =
      inr (
        list_of ends,
        inl there,
        by_test (bytes_eq ends.deleted.now ends.listed.now)
            (λ same. let none : length (list_of ends) ≡ 0 = ap (λ b. length (list_by b)) same in absurd (omega (arith, none, place.0)))
            (λ others. record { rising = rising; spelled = ap list_by others }),
      )
  list_comes taken listed None there place =
      by_test (bytes_eq ends.deleted.now ends.listed.now)
      (λ same.
      subst (λ (x : Extent). ListComes root pieces old x ends.deleted.now) (sym (ap come_by same))
      (inr (
        bytes_at root.deletions old,
        inr (All-head (Contains (extents_of root)) root.deletions root.levels.items (All-contains_itself (extents_of root)), refl),
        subst (Spells (bytes_at root.deletions old)) (sym (bytes_from ends.deleted.now ends.listed.now same)) listed,
      )))
      (λ others.
      subst (λ (x : Extent). ListComes root pieces old x ends.deleted.now) (sym (ap come_by others))
      (inl (
        refl,
        by_test (length ends.deleted.now == 0) (λ none. none_left ends.deleted.now none)
            (λ some. let bytes : length (list_of ends) ≡ length (stream_bytes 0 ends.deleted.now) = ap (λ b. length (list_by b)) others in absurd (omega (arith, stream_some ends.deleted.now some, bytes, place))),
      )))

-- ---- tables that stay

same_tables : (e : Extent) (old middle : List ℕ) → bytes_at e middle ≡ bytes_at e old → tables_at e middle ≡ tables_at e old
unfolding tables_at
same_tables e old middle same = ap (λ (b : List ℕ). tables_of b e.place e.bytes) same

abbrev IsKept : List ℕ → List ℕ → Extent → Type 0
IsKept old middle e = bytes_at e middle ≡ bytes_at e old

read_stays : (es : List Extent) (ts : List Tables) (old middle : List ℕ) → All (IsKept old middle) es → AreRead es ts old → AreRead es ts middle
read_stays [] [] old middle kept read = tt
read_stays [] (t ∷ ts) old middle kept read = absurd read
read_stays (e ∷ es) [] old middle kept read = absurd read
read_stays (e ∷ es) (t ∷ ts) old middle kept read =
    (same_tables e old middle (All-head (IsKept old middle) e es kept) ∙ read.0, read_stays es ts old middle (All-tail (IsKept old middle) e es kept) read.1)

read_append : (es fs : List Extent) (ts us : List Tables) (image : List ℕ) → AreRead es ts image → AreRead fs us image → AreRead (es ++ fs) (ts ++ us) image
read_append [] fs [] us image first second = second
read_append [] fs (t ∷ ts) us image first second = absurd first
read_append (e ∷ es) fs [] us image first second = absurd first
read_append (e ∷ es) fs (t ∷ ts) us image first second = (first.0, read_append es fs ts us image first.1 second)

read_drop : (n : ℕ) (es : List Extent) (ts : List Tables) (image : List ℕ) → AreRead es ts image → AreRead (drop n es) (drop n ts) image
read_drop zero es ts image read = read
read_drop (suc n) [] [] image read = tt
read_drop (suc n) [] (t ∷ ts) image read = absurd read
read_drop (suc n) (e ∷ es) [] image read = absurd read
read_drop (suc n) (e ∷ es) (t ∷ ts) image read = read_drop n es ts image read.1

-- ---- what comes

module _ (o : Opened) (there : List Level) (levels : NextLevels) (ends : Ends) (next location : ℕ) (old : List ℕ) (may : MayRewriteOpened o there levels ends next location old) (fits : AreBytes old) (limit : ℕ) (draft : Draft)
    (is : IsDraft limit o.root levels ends next location draft) (few : length (coming levels.oldest) + (length o.root.levels.items - levels.stay_from) + length (coming levels.newest) ≤ 16) (pieces : List Piece)
    (are : pairs_in pieces ≡ pieces_of draft) (number : (1 ≤ next) × (next ≤ LAST_NEXT)) (bounded : (1 ≤ location) × (location ≤ 1 + (next - 1) * DOCUMENT_CELLS)) (rising : IsRising ends.deleted.now) (short : limit < 2 ^ 64) where
  abbrev come : Root
  come = root_to_come o.root ends levels.stay_from next location draft.places

  may_put : MayPut (other o.slot) draft.root pieces limit old
  may_put = draft_may limit o.root levels ends next location draft is pieces are o.slot old may.is.counts few number bounded

  placed : ArePlaces limit o.root (length (segment_of levels.oldest)) (length (segment_of levels.newest)) (length (list_of ends)) draft.places
  placed = draft_places limit o.root levels ends next location draft is

  put : ArePut o.root limit (segment_of levels.oldest) (segment_of levels.newest) (list_of ends) draft.places pieces
  put = draft_put limit o.root levels ends next location draft is pieces are

  list : ListComes o.root pieces old come.deletions ends.deleted.now
  list =
      list_comes o.root ends limit old pieces rising (taken_by o.root (as_list draft.places.oldest ++ as_list draft.places.newest))
      (subst (Spells (bytes_at o.root.deletions old)) (sym may.given.agrees.listed) (list_spelled o.root o.deleted old fits may.is.named.list)) draft.places.list put.list_there placed.list_is

  all_old : All (Contains (extents_of o.root)) o.root.levels.items
  all_old = All-tail (Contains (extents_of o.root)) o.root.deletions o.root.levels.items (All-contains_itself (extents_of o.root))

  -- ---- whatever the streams of levels that stay are

  abbrev coming_is : Opened
  coming_is = coming_at o levels ends next location draft.places

  pub is_coming : IsComing limit o coming_is levels ends next location
  is_coming = record { places = draft.places; places_are = is.places; slot_is = refl; root_is = refl; deleted_are = refl; levels_are = refl; entries_are = refl; tail_is = refl }

  module _ (middle : List ℕ) (puts : Puts (other o.slot) pieces old middle) where
    stand : (extent : Extent) (bytes : List ℕ) → WillStand o.root pieces old extent bytes → bytes_at extent middle ≡ bytes
    stand = will_stand (other o.slot) o.slot draft.root o.root pieces limit old middle may_put may.is.counts puts

    list_there : Spells (bytes_at come.deletions middle) ends.deleted.now
    list_there = ⊎_elim
        (λ (none, empty). subst (λ (e : Extent). Spells (bytes_at e middle) ends.deleted.now) (sym none) (subst (λ (d : List ℕ). Spells [] d) (sym empty) nothing_spelled))
        (λ (bytes, here, spells). subst (λ (b : List ℕ). Spells b ends.deleted.now) (sym (stand come.deletions bytes here)) spells) list

    old_read : AreRead o.root.levels.items o.levels middle
    old_read =
        read_stays o.root.levels.items o.levels old middle
        (All-weaker (Contains (extents_of o.root)) (IsKept old middle) (λ e among. stand e (bytes_at e old) (inr (among, refl))) o.root.levels.items all_old)
        (opened_read o old may.is)

    new_read : (content : Content) → IsPart content → (taken : List Extent) (found : Option Extent) → IsThere found (segment_of content) pieces → IsPlaceFor taken (length (segment_of content)) limit found
        → AreRead (as_list found) (tables_in (table_to_come found content)) middle
    new_read content part taken None here at = tt
    new_read content part taken (Some x) here at =
        let same = stand x (segment_of content) (inl here) in
        let first = placed_first taken (length (segment_of content)) limit x at.1 in
        let segment : IsSegment (segment_of content) content = record { stands = content_stands content part at.0; spelled = (has_segment content at.0).segment_is } in (
          level_read (record { extent = x; content = content }) middle (bytes_fit x middle puts.bytes) (ap length same ∙ sym first.1) (omega (arith, first.0.gap.before, first.1, short))
              (subst (λ (b : List ℕ). IsSegment b content) (sym same) segment),
          tt,
        )

    all_read : AreRead come.levels.items coming_is.levels middle
    all_read =
        read_append (as_list draft.places.oldest) (drop levels.stay_from o.root.levels.items ++ as_list draft.places.newest) (tables_in (table_to_come draft.places.oldest levels.oldest))
        (drop levels.stay_from o.levels ++ tables_in (table_to_come draft.places.newest levels.newest)) middle
        (new_read levels.oldest is.parts.0 (taken_by o.root []) draft.places.oldest put.oldest_there placed.oldest_is)
        (read_append (drop levels.stay_from o.root.levels.items) (as_list draft.places.newest) (drop levels.stay_from o.levels) (tables_in (table_to_come draft.places.newest levels.newest)) middle
        (read_drop levels.stay_from o.root.levels.items o.levels middle old_read)
        (new_read levels.newest is.parts.1 (taken_by o.root (as_list draft.places.oldest)) draft.places.newest put.newest_there placed.newest_is))

    is_named : IsNamed coming_is middle
    is_named =
        let here = come_place o there levels ends next location old may fits None None limit draft.places is.places in
        record {
          list = list_read come ends.deleted.now middle list_there;
          tables = read_again come ends.deleted.now [] come.levels.items coming_is.levels middle all_read here.rise here.below (come_ordered o there levels ends next location old may fits None None limit draft.places is.places);
          ends = here.ends;
          journal = puts.journal VERSION;
          known = known_at come ends.deleted.now coming_is.levels;
          admitted = refl;
        }

  pub names : Names (other o.slot) draft.root pieces coming_is old
  names = record { slot_is = refl; root_is = sym is.root_is; named = is_named }

  -- ---- where levels are segments
  module _ (before job : Option Job) (segments : AreLevels o there old) (within : length old ≤ limit) where
    abbrev pub later : Holding
    later = then o there levels ends next location old may fits before job limit draft.places is.places

    abbrev coming_of : Opened
    coming_of = coming_by o.slot o.root levels ends next location draft.places later.view.levels

    pub view_then : later.view ≡ view_of coming_of later.view.levels
    view_then =
        ap (λ n. viewed n (o.root.next_location + sum_by (λ (a : Added). a.row.cells) (newest (view_of o there)))) (sym may.given.agrees.next_is)
        ∙ ap (viewed next) (sym may.given.agrees.location_is)
      where
        viewed : ℕ → ℕ → View
        viewed n l = record { version = VERSION; next = n; location = l; levels = later.view.levels; deleted = ends.deleted.now; entries = [] }

    extents_come : come.levels.items ≡ map (λ (l : Level). l.extent) later.view.levels
    extents_come =
        ap (λ (es : List Extent). es ++ (drop levels.stay_from o.root.levels.items ++ as_list draft.places.newest)) (new draft.places.oldest levels.oldest)
        ∙ ap (λ (es : List Extent). map extent_of (new_levels levels.oldest draft.places.oldest) ++ (es ++ as_list draft.places.newest)) (ap (drop levels.stay_from) may.have.extents ∙ drop-map extent_of levels.stay_from there)
        ∙ ap (λ (es : List Extent). map extent_of (new_levels levels.oldest draft.places.oldest) ++ (map extent_of (drop levels.stay_from there) ++ es)) (new draft.places.newest levels.newest)
        ∙ sym (map-append extent_of (new_levels levels.oldest draft.places.oldest) (drop levels.stay_from there ++ new_levels levels.newest draft.places.newest)
        ∙ ap (λ (es : List Extent). map extent_of (new_levels levels.oldest draft.places.oldest) ++ es) (map-append extent_of (drop levels.stay_from there) (new_levels levels.newest draft.places.newest)))
      where
        new : (found : Option Extent) (content : Content) → as_list found ≡ map extent_of (new_levels content found)
        new None content = refl
        new (Some extent) content = refl

    old_levels_come : All (LevelComes o.root pieces old) there
    old_levels_come =
        all_weaker (λ (l : Level). IsSegment (bytes_at l.extent old) l.content × Contains (extents_of o.root) l.extent) (LevelComes o.root pieces old) there
        (λ l both. (bytes_at l.extent old, inr (both.1, refl), both.0))
        (all_both (λ (l : Level). IsSegment (bytes_at l.extent old) l.content) (λ (l : Level). Contains (extents_of o.root) l.extent) there segments.segments
        (unmap (Contains (extents_of o.root)) (λ (l : Level). l.extent) there (subst (All (Contains (extents_of o.root))) may.have.extents all_old)))

    new_level_comes : (content : Content) → IsPart content → (taken : List Extent) (found : Option Extent) → IsThere found (segment_of content) pieces → IsPlaceFor taken (length (segment_of content)) limit found
        → All (LevelComes o.root pieces old) (new_levels content found)
    new_level_comes content part taken None here at = All-nil (LevelComes o.root pieces old)
    new_level_comes content part taken (Some extent) here at =
        All-cons (LevelComes o.root pieces old) (record { extent = extent; content = content }) []
        (segment_of content, inl here, record { stands = content_stands content part at.0; spelled = (has_segment content at.0).segment_is }) (All-nil (LevelComes o.root pieces old))

    comes : Comes (other o.slot) come pieces coming_of later.view.levels o.root old
    comes = record {
      slot_is = refl;
      root_is = refl;
      extents = extents_come;
      tables = refl;
      segments =
          All-append (LevelComes o.root pieces old) (new_levels levels.oldest draft.places.oldest) (drop levels.stay_from there ++ new_levels levels.newest draft.places.newest)
          (new_level_comes levels.oldest is.parts.0 (taken_by o.root []) draft.places.oldest put.oldest_there placed.oldest_is)
          (All-append (LevelComes o.root pieces old) (drop levels.stay_from there) (new_levels levels.newest draft.places.newest) (All-drop (LevelComes o.root pieces old) levels.stay_from there old_levels_come)
          (new_level_comes levels.newest is.parts.1 (taken_by o.root (as_list draft.places.oldest)) draft.places.newest put.newest_there placed.newest_is));
      list = list;
      entries = refl;
      tail = refl;
    }

    same : state_of later.view ≡ state_of (view_of o there)
    same = same_state o there levels ends next location old may fits before job limit draft.places is.places

    ordered : IsOrdered (known_of (state_of (view_of coming_of later.view.levels)))
    ordered = subst (λ (s : State). IsOrdered (known_of s)) (sym same ∙ ap state_of view_then) (state_ordered o there levels ends next location old may fits)

    brings : Brings (other o.slot) draft.root pieces coming_of later.view.levels (state_of (view_of coming_of later.view.levels)) old
    brings =
        subst (λ (r : Root). Brings (other o.slot) r pieces coming_of later.view.levels (state_of (view_of coming_of later.view.levels)) old) (sym is.root_is)
        (comes_brings (other o.slot) o.slot come o.root pieces limit old (subst (λ (r : Root). MayPut (other o.slot) r pieces limit old) is.root_is may_put) short within may.is.counts coming_of later.view.levels comes
        (place o there levels ends next location old may fits before job limit draft.places is.places) ordered)

    pub brings_then : Brings (other o.slot) draft.root pieces coming_of later.view.levels (state_of later.view) old
    brings_then = subst (λ (s : State). Brings (other o.slot) draft.root pieces coming_of later.view.levels s old) (ap state_of (sym view_then)) brings

    pub brings_held : Brings (other o.slot) draft.root pieces coming_of later.view.levels (state_of (view_of o there)) old
    brings_held = subst (λ (s : State). Brings (other o.slot) draft.root pieces coming_of later.view.levels s old) same brings_then
