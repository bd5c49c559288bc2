-- A switch of what is held, by the places of what is written anew.
use Rattle.std.proofs.Common.{◌≡◌, ℕ, Bool, false, cond, List, [], ◌∷◌, ◌++◌, length, map, drop, refl, sym, ap, ◌∙◌, arith, Result, Ok, Err, append_assoc}
use Rattle.std.specs.Prelude.{◌==◌, Option, Some, None}
use Rattle.std.specs.Str.{bytes_eq}
use Rattle.std.proofs.lemmas.List.{append-nil}
use Rattle.alta_codec.specs.declared.extent.Extent.{Extent}
use Rattle.alta_content.specs.declared.content.Content.{Content}
use Rattle.alta_content.specs.declared.document.DocRow.{DocRow}
use Rattle.alta_meaning.proofs.KeptStates.{placed_contents, rows_by_levels}
use Rattle.alta_meaning.proofs.Tests.{apart_test, by_test}
use Rattle.alta_meaning.specs.Chain.{◌>>=◌}
use Rattle.alta_meaning.specs.Holding.{Holding, taken_by_held}
use Rattle.alta_meaning.specs.Levels.{Level}
use Rattle.alta_meaning.specs.Work.{Coming, Job, anew, coming, gone_among, level_rows, stays}
use Rattle.alta_meaning.specs.Working.{Full, Placed, content_to_come, held_then, in_front, placed, placed_levels, placed_list, switched}
use Rattle.alta_content.specs.Joining.{rows_in}
use Rattle.alta_level.specs.Segments.{segment_bytes}
use Rattle.alta_postings.specs.Deltas.{stream_bytes}
use Rattle.alta_root.specs.Gaps.{taken_by}
use Rattle.alta_root.specs.Root.{extents_of, no_extent}
use Rattle.alta_root.specs.declared.root.Root.{Root}
use Rattle.alta_rewrite.specs.Drafts.{list_of, list_to_come, rewrite_places, segment_of}
use Rattle.alta_rewrite.specs.Places.{as_list, place_for}
use Rattle.alta_rewrite.specs.Rewrites.{levels_to_come, rows_to_come}
use Rattle.alta_rewrite.specs.declared.ends.Ends.{Ends}
use Rattle.alta_rewrite.specs.declared.levels.NextLevels.{NextLevels}
use Rattle.alta_rewrite.specs.declared.places.Places.{Places}
use Rattle.alta_rewrite.proofs.PlaceLaws.{by_bytes}
use Rattle.alta_rewrite.proofs.RootLaws.{no_stream, segment_long}
use Rattle.alta_meaning.proofs.FullLaws.{stream_some}

-- the level of a content at its place
abbrev pub new_levels : Content → Option Extent → List Level
new_levels content None = []
new_levels content (Some extent) = record { extent = extent; content = content } ∷ []

-- the levels to come, by the places of the new ones
abbrev pub levels_then : NextLevels → List Level → Places → List Level
levels_then levels there places = new_levels levels.oldest places.oldest ++ (drop levels.stay_from there ++ new_levels levels.newest places.newest)

-- what is held then
abbrev pub then_of : Holding → Root → NextLevels → Ends → Option Job → Places → Holding
then_of held root levels ends job places = held_then held (levels_then levels held.view.levels places) ends.deleted.now (list_to_come root ends places.list) job

abbrev fine : {A : Type 0} → A → Result A Full
fine x = Ok x

-- ---- levels that stay

abbrev behind : List Level → Placed → Result Placed Full
behind levels rest = Ok (record { levels = levels ++ rest.levels; taken = rest.taken })

stay_placed : (limit : ℕ) (taken : List Extent) (levels : List Level) (more : List Coming) → placed_levels limit taken (map stays levels ++ more) ≡ (placed_levels limit taken more >>= behind levels)
stay_placed limit taken [] more = by_rest (placed_levels limit taken more)
  where
    by_rest : (r : Result Placed Full) → r ≡ (r >>= behind [])
    by_rest (Ok rest) = refl
    by_rest (Err full) = refl
stay_placed limit taken (level ∷ levels) more =
    ap (λ (r : Result Placed Full). r >>= λ rest. Ok (in_front level rest)) (stay_placed limit taken levels more) ∙ by_rest level levels (placed_levels limit taken more)
  where
    by_rest : (level : Level) (levels : List Level) (r : Result Placed Full) → ((r >>= behind levels) >>= λ rest. Ok (in_front level rest)) ≡ (r >>= behind (level ∷ levels))
    by_rest level levels (Ok rest) = refl
    by_rest level levels (Err full) = refl

-- ---- a content that comes in front of others

module _ (limit : ℕ) (content : Content) (taken : List Extent) (more : List Coming) where
  abbrev front_of : Option Extent → Result Placed Full
  front_of found = placed_levels limit (taken ++ as_list found) more >>= behind (new_levels content found)

  abbrev levels_by : Bool → Result Placed Full
  levels_by b = placed_levels limit taken (cond b [] (anew content ∷ []) ++ more)

  abbrev place_by : Bool → Result Placed Full
  place_by b = place_for taken (length (cond b [] (segment_bytes content))) limit >>= front_of

  front_placed : placed_levels limit taken (coming content ++ more) ≡ (place_for taken (length (segment_of content)) limit >>= front_of)
  front_placed =
      by_test (length content.documents == 0)
      (λ none.
      ap levels_by none ∙ by_rest (placed_levels limit taken more) ∙ ap (λ (es : List Extent). placed_levels limit es more >>= behind []) (sym (append-nil taken)) ∙ sym (ap place_by none))
      (λ some.
      ap levels_by some
      ∙ by_placed (placed taken (length (segment_bytes content)) limit)
      ∙ sym (ap (λ b. by_bytes taken (length (segment_bytes content)) limit b >>= front_of) (apart_test (length (segment_bytes content)) 0 (λ e. omega (arith, e, segment_long content))))
      ∙ sym (ap place_by some))
    where
      by_rest : (r : Result Placed Full) → r ≡ (r >>= behind [])
      by_rest (Ok rest) = refl
      by_rest (Err full) = refl

      by_more : (extent : Extent) (r : Result Placed Full) → (r >>= λ rest. Ok (in_front (record { extent = extent; content = content }) rest)) ≡ (r >>= behind (record { extent = extent; content = content } ∷ []))
      by_more extent (Ok rest) = refl
      by_more extent (Err full) = refl

      by_placed : (r : Result Extent Full)
          → (r >>= λ extent. placed_levels limit (taken ++ extent ∷ []) more >>= λ rest. Ok (in_front (record { extent = extent; content = content }) rest)) ≡ ((r >>= λ extent. Ok (Some extent)) >>= front_of)
      by_placed (Ok extent) = by_more extent (placed_levels limit (taken ++ extent ∷ []) more)
      by_placed (Err full) = refl

-- a content that comes behind all others
abbrev last_of : Content → List Extent → Option Extent → Result Placed Full
last_of content taken found = Ok (record { levels = new_levels content found; taken = taken ++ as_list found })

last_placed : (limit : ℕ) (content : Content) (taken : List Extent) → placed_levels limit taken (coming content) ≡ (place_for taken (length (segment_of content)) limit >>= last_of content taken)
last_placed limit content taken =
    ap (placed_levels limit taken) (sym (append-nil (coming content))) ∙ front_placed limit content taken [] ∙ by_place (place_for taken (length (segment_of content)) limit)
  where
    by_place : (r : Result (Option Extent) Full) → (r >>= front_of limit content taken []) ≡ (r >>= last_of content taken)
    by_place (Ok found) = ap (λ (ls : List Level). fine (record { levels = ls; taken = taken ++ as_list found })) (append-nil (new_levels content found))
    by_place (Err full) = refl

-- ---- all levels

module _ (limit : ℕ) (root : Root) (levels : NextLevels) (there : List Level) where
  abbrev pub now_of : Option Extent → Option Extent → Placed
  now_of first last = record {
    levels = new_levels levels.oldest first ++ (drop levels.stay_from there ++ new_levels levels.newest last);
    taken = taken_by root (as_list first ++ as_list last);
  }

  abbrev second_place : Option Extent → Result (Option Extent) Full
  second_place first = place_for (taken_by root (as_list first)) (length (segment_of levels.newest)) limit

  abbrev first_place : Result (Option Extent) Full
  first_place = place_for (taken_by root []) (length (segment_of levels.oldest)) limit

  all_placed : placed_levels limit (extents_of root) (coming levels.oldest ++ (map stays (drop levels.stay_from there) ++ coming levels.newest))
      ≡ (first_place >>= λ first. second_place first >>= λ last. Ok (now_of first last))
  all_placed =
      front_placed limit levels.oldest (extents_of root) (map stays (drop levels.stay_from there) ++ coming levels.newest)
      ∙ ap (λ (es : List Extent). place_for es (length (segment_of levels.oldest)) limit >>= front_of limit levels.oldest (extents_of root) (map stays (drop levels.stay_from there) ++ coming levels.newest))
      (sym (append-nil (extents_of root)))
      ∙ by_first first_place
    where
      by_last : (first : Option Extent) (r : Result (Option Extent) Full)
          → (((r >>= last_of levels.newest (taken_by root (as_list first))) >>= behind (drop levels.stay_from there)) >>= behind (new_levels levels.oldest first)) ≡ (r >>= λ last. Ok (now_of first last))
      by_last first (Ok last) =
          ap (λ (es : List Extent). fine (record { levels = new_levels levels.oldest first ++ (drop levels.stay_from there ++ new_levels levels.newest last); taken = es })) (append_assoc (extents_of root) (as_list first) (as_list last))
      by_last first (Err full) = refl

      by_first : (r : Result (Option Extent) Full) → (r >>= front_of limit levels.oldest (extents_of root) (map stays (drop levels.stay_from there) ++ coming levels.newest))
          ≡ (r >>= λ first. second_place first >>= λ last. Ok (now_of first last))
      by_first (Ok first) =
          ap (λ (r : Result Placed Full). r >>= behind (new_levels levels.oldest first))
          (stay_placed limit (taken_by root (as_list first)) (drop levels.stay_from there) (coming levels.newest)
          ∙ ap (λ (r : Result Placed Full). r >>= behind (drop levels.stay_from there)) (last_placed limit levels.newest (taken_by root (as_list first))))
          ∙ by_last first (second_place first)
      by_first (Err full) = refl

-- ---- the list

module _ (limit : ℕ) (held : Holding) (root : Root) (ends : Ends) (list_is : held.list ≡ root.deletions) (listed : ends.listed.now ≡ held.view.deleted) where
  abbrev deleted : List ℕ
  deleted = ends.deleted.now

  abbrev list_by : List Extent → Bool → Bool → Result Extent Full
  list_by taken a b = cond a (Ok held.list) (cond b (Ok no_extent) (placed taken (length (stream_bytes 0 deleted)) limit))

  abbrev come_by : Bool → Option Extent → Extent
  come_by a (Some extent) = extent
  come_by a None = cond a root.deletions no_extent

  abbrev found_by : List Extent → Bool → Result Extent Full
  found_by taken a = place_for taken (length (cond a [] (stream_bytes 0 deleted))) limit >>= λ found. Ok (come_by a found)

  list_placed : (taken : List Extent) → placed_list limit held taken deleted ≡ (place_for taken (length (list_of ends)) limit >>= λ found. Ok (list_to_come root ends found))
  list_placed taken =
      ap (λ (ds : List ℕ). list_by taken (bytes_eq deleted ds) (length deleted == 0)) (sym listed)
      ∙ by_test (bytes_eq deleted ends.listed.now)
      (λ same. ap (λ a. list_by taken a (length deleted == 0)) same ∙ ap (λ (x : Extent). fine x) list_is ∙ sym (ap (found_by taken) same))
      (λ others. by_test (length deleted == 0)
      (λ none.
      ap (λ a. list_by taken a (length deleted == 0)) others ∙ ap (list_by taken false) none
      ∙ sym (ap (found_by taken) others ∙ ap (λ n. place_for taken n limit >>= λ found. Ok (come_by false found)) (no_stream deleted none)))
      (λ some.
      ap (λ a. list_by taken a (length deleted == 0)) others ∙ ap (list_by taken false) some
      ∙ by_placed (placed taken (length (stream_bytes 0 deleted)) limit)
      ∙ sym (ap (λ b. by_bytes taken (length (stream_bytes 0 deleted)) limit b >>= λ found. Ok (come_by false found))
      (apart_test (length (stream_bytes 0 deleted)) 0 (λ e. omega (arith, e, stream_some deleted some))))
      ∙ sym (ap (found_by taken) others)))
    where
      by_placed : (r : Result Extent Full) → r ≡ ((r >>= λ extent. Ok (Some extent)) >>= λ found. Ok (come_by false found))
      by_placed (Ok extent) = refl
      by_placed (Err full) = refl

-- ---- a switch

-- the rows of levels that were placed are those to come
pub placed_rows : (limit : ℕ) (taken : List Extent) (levels : List Coming) (rows : List DocRow) → rows ≡ rows_in (map content_to_come levels) → (now : Placed) → placed_levels limit taken levels ≡ Ok now → level_rows now.levels ≡ rows
placed_rows limit taken levels rows are now is = sym (rows_by_levels now.levels) ∙ ap rows_in (placed_contents limit taken levels now is) ∙ sym are

module _ (limit : ℕ) (held : Holding) (root : Root) (levels : NextLevels) (ends : Ends) (job : Option Job) (taken_is : taken_by_held held ≡ extents_of root) (list_is : held.list ≡ root.deletions)
    (listed : ends.listed.now ≡ held.view.deleted) (deleted_is : ends.deleted.now ≡ gone_among held.view (rows_to_come levels held.view)) where
  abbrev to_come : List Coming
  to_come = levels_to_come levels held.view

  abbrev switch_by : List ℕ → Placed → Result Holding Full
  switch_by ds now = placed_list limit held now.taken ds >>= λ list. Ok (held_then held now.levels ds list job)

  pub rows_placed : (now : Placed) → placed_levels limit (taken_by_held held) to_come ≡ Ok now → level_rows now.levels ≡ rows_to_come levels held.view
  rows_placed now is = placed_rows limit (taken_by_held held) to_come (rows_to_come levels held.view) refl now is

  by_deleted : (r : Result Placed Full) → placed_levels limit (taken_by_held held) to_come ≡ r → (r >>= λ now. switch_by (gone_among held.view (level_rows now.levels)) now) ≡ (r >>= switch_by ends.deleted.now)
  by_deleted (Ok now) is = ap (λ (ds : List ℕ). switch_by ds now) (ap (gone_among held.view) (rows_placed now is) ∙ sym deleted_is)
  by_deleted (Err full) is = refl

  pub switch_is : switched limit held to_come job ≡ (rewrite_places limit root levels ends >>= λ places. Ok (then_of held root levels ends job places))
  switch_is =
      by_deleted (placed_levels limit (taken_by_held held) to_come) refl
      ∙ ap (λ (es : List Extent). placed_levels limit es to_come >>= switch_by ends.deleted.now) taken_is
      ∙ ap (λ (r : Result Placed Full). r >>= switch_by ends.deleted.now) (all_placed limit root levels held.view.levels)
      ∙ by_first (first_place limit root levels held.view.levels)
    where
      by_list : (first last : Option Extent) (r : Result (Option Extent) Full)
          → ((r >>= λ found. Ok (list_to_come root ends found)) >>= λ list. Ok (held_then held (now_of limit root levels held.view.levels first last).levels ends.deleted.now list job))
          ≡ ((r >>= λ found. Ok (record { oldest = first; newest = last; list = found })) >>= λ places. Ok (then_of held root levels ends job places))
      by_list first last (Ok found) = refl
      by_list first last (Err full) = refl

      by_last : (first : Option Extent) (r : Result (Option Extent) Full)
          → ((r >>= λ last. Ok (now_of limit root levels held.view.levels first last)) >>= switch_by ends.deleted.now)
          ≡ ((r >>= λ last. place_for (taken_by root (as_list first ++ as_list last)) (length (list_of ends)) limit >>= λ found. Ok (record { oldest = first; newest = last; list = found })) >>= λ places. Ok (then_of held root levels ends job places))
      by_last first (Ok last) =
          ap (λ (r : Result Extent Full). r >>= λ list. Ok (held_then held (now_of limit root levels held.view.levels first last).levels ends.deleted.now list job))
          (list_placed limit held root ends list_is listed (taken_by root (as_list first ++ as_list last)))
          ∙ by_list first last (place_for (taken_by root (as_list first ++ as_list last)) (length (list_of ends)) limit)
      by_last first (Err full) = refl

      by_first : (r : Result (Option Extent) Full)
          → ((r >>= λ first. second_place limit root levels held.view.levels first >>= λ last. Ok (now_of limit root levels held.view.levels first last)) >>= switch_by ends.deleted.now)
          ≡ ((r >>= λ first. place_for (taken_by root (as_list first)) (length (segment_of levels.newest)) limit >>= λ last. place_for (taken_by root (as_list first ++ as_list last)) (length (list_of ends)) limit >>= λ found. Ok (record { oldest = first; newest = last; list = found }))
          >>= λ places. Ok (then_of held root levels ends job places))
      by_first (Ok first) = by_last first (second_place limit root levels held.view.levels first)
      by_first (Err full) = refl

  pub switched_then : (places : Places) → rewrite_places limit root levels ends ≡ Ok places → switched limit held to_come job ≡ Ok (then_of held root levels ends job places)
  switched_then places are = switch_is ∙ ap (λ (r : Result Places Full). r >>= λ places. Ok (then_of held root levels ends job places)) are
