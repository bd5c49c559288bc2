-- Flush, merge and step are rewrites, and joins may be written.
use Rattle.std.proofs.Common.{◌≡◌, ℕ, ◌+◌, ◌≤◌, ◌<◌, Bool, true, false, List, [], ◌∷◌, ◌++◌, length, map, take, drop, refl, sym, ap, subst, ◌∙◌, arith, append_assoc, take-append-drop}
use Rattle.std.specs.Prelude.{not, ◌==◌, ◌&&◌, nat_le, Some, None}
use Rattle.std.specs.List.{All, filter}
use Rattle.std.proofs.Math.Seq.{drop-length}
use Rattle.std.proofs.lemmas.Grind.{flat_map-append}
use Rattle.std.proofs.lemmas.List.{append-nil, map-append}
use Rattle.std.proofs.lemmas.List.Elements.{All-filter, All-head, All-tail, filter-append, filter_passes}
use Rattle.alta_content.specs.Rows.{end_of, ends_among}
use Rattle.alta_content.specs.declared.content.Content.{Content}
use Rattle.alta_content.specs.declared.document.DocRow.{DocRow}
use Rattle.alta_meaning.proofs.InPlaceLaws.{all_low}
use Rattle.alta_meaning.proofs.JoinLaws.{all_now, coming_rows, joined_left, merged_left, rise_now}
use Rattle.alta_meaning.proofs.KeptStates.{AreGone, by_levels, gone_are, live_rows_are, rise_left, rows_append, rows_by_levels, stay_contents}
use Rattle.alta_meaning.proofs.KnownLaws.{all_both, all_weaker}
use Rattle.alta_meaning.proofs.PlaceLaws.{LiesBelow, cells_in}
use Rattle.alta_meaning.proofs.Tests.{filter_drop, not_true}
use Rattle.alta_meaning.proofs.WellLaws.{by_merged, by_terms}
use Rattle.alta_meaning.specs.Holding.{Holding, IsSpaced, all_rows}
use Rattle.alta_meaning.specs.Levels.{Level, live_rows}
use Rattle.alta_meaning.specs.Ordered.{RowsPrecede}
use Rattle.alta_meaning.specs.Views.{View, state_of}
use Rattle.alta_meaning.specs.Work.{Coming, Job, coming, gone, gone_among, is_gone, is_merged, job_of, newest, newest_content, oldest_joined, level_rows, stays, whole_of}
use Rattle.alta_meaning.specs.Working.{IsJoin, all_contents, content_to_come, documents_left, written, merged, moved, stepped, switched}
use Rattle.alta_content.specs.Joining.{rows_in, joined_in, terms_in}
use Rattle.alta_memlevel.specs.Added.{Added}
use Rattle.alta_rewrite.specs.Rewrites.{AgreesWith, IsGiven, Replaces, contents_to_come, levels_to_come, no_content, rows_to_come}
use Rattle.alta_rewrite.specs.declared.ends.Ends.{Ends}
use Rattle.alta_rewrite.specs.declared.levels.NextLevels.{NextLevels}
use Rattle.alta_content.proofs.Elements.{all_left, all_right}
use Rattle.alta_memlevel.specs.Documents.{content_of}

-- ---- the levels to come

abbrev replaced : ℕ → Content → Content → View → List Coming
replaced n oldest newest view = coming oldest ++ (map stays (drop n view.levels) ++ coming newest)

to_come : (levels : NextLevels) (n : ℕ) (oldest newest : Content) (view : View) → Replaces levels n oldest newest → levels_to_come levels view ≡ replaced n oldest newest view
to_come levels n oldest newest view is =
    ap (λ (c : Content). replaced levels.stay_from c levels.newest view) is.oldest_is ∙ ap (λ (c : Content). replaced levels.stay_from oldest c view) is.newest_is ∙ ap (λ k. replaced k oldest newest view) is.stay_from_is

stay_is : (levels : NextLevels) (view : View) → Replaces levels 0 no_content (newest_content view) → levels_to_come levels view ≡ map stays view.levels ++ coming (newest_content view)
stay_is levels view is = to_come levels 0 no_content (newest_content view) view is

-- the oldest levels are replaced
oldest_is : (levels : NextLevels) (n : ℕ) (c : Content) (view : View) → Replaces levels n c (newest_content view) → levels_to_come levels view ≡ coming c ++ map stays (drop n view.levels) ++ coming (newest_content view)
oldest_is levels n c view is = to_come levels n c (newest_content view) view is ∙ sym (append_assoc (coming c) (map stays (drop n view.levels)) (coming (newest_content view)))

-- all are replaced
all_is : (levels : NextLevels) (c : Content) (view : View) → Replaces levels (length view.levels) c no_content → levels_to_come levels view ≡ coming c
all_is levels c view is =
    to_come levels (length view.levels) c no_content view is ∙ ap (λ (ls : List Level). coming c ++ (map stays ls ++ [])) (drop-length view.levels) ∙ append-nil (coming c)

-- ---- work

pub flush_is : (limit : ℕ) (held : Holding) (levels : NextLevels) → (length held.view.levels == 16 && nat_le 1 (length (newest_content held.view).documents)) ≡ false
    → Replaces levels 0 no_content (newest_content held.view) → written limit held ≡ switched limit held (levels_to_come levels held.view) held.job
flush_is limit held levels few is =
    ap (by_levels limit held) few ∙ ap (λ (cs : List Coming). switched limit held cs held.job) (sym (stay_is levels held.view is))

pub room_is : (limit : ℕ) (held : Holding) (levels : NextLevels) → (length held.view.levels == 16 && nat_le 1 (length (newest_content held.view).documents)) ≡ true
    → Replaces levels 2 (oldest_joined held.job held.view) (newest_content held.view) → written limit held ≡ switched limit held (levels_to_come levels held.view) None
room_is limit held levels many is =
    ap (by_levels limit held) many ∙ ap (λ (cs : List Coming). switched limit held cs None) (sym (oldest_is levels 2 (oldest_joined held.job held.view) held.view is))

pub merge_is : (limit : ℕ) (held : Holding) (levels : NextLevels) → is_merged held.view ≡ false → Replaces levels (length held.view.levels) (joined_in (all_contents held.view) (gone held.view)) no_content
    → merged limit held ≡ switched limit held (levels_to_come levels held.view) None
merge_is limit held levels some is =
    ap (by_merged limit held) some ∙ ap (λ (cs : List Coming). switched limit held cs None) (sym (all_is levels (joined_in (all_contents held.view) (gone held.view)) held.view is))

pub step_is : (limit : ℕ) (held : Holding) (n : ℕ) (job : Job) (levels : NextLevels) → job_of held.job held.view ≡ Some job → nat_le (length (terms_in (job.older ∷ job.newer ∷ []))) (job.merged + n) ≡ true
    → Replaces levels 2 (whole_of job) (newest_content held.view) → stepped limit held n ≡ switched limit held (levels_to_come levels held.view) None
step_is limit held n job levels some ends is =
    ap (moved limit held n) some ∙ ap (by_terms limit held n job) ends ∙ ap (λ (cs : List Coming). switched limit held cs None) (sym (oldest_is levels 2 (whole_of job) held.view is))

-- ---- joins

-- what a rewrite is given, of the levels that it makes
given_by : (view : View) (levels : NextLevels) (ends : Ends) (next location : ℕ) (cs : List Content) → contents_to_come levels view ≡ cs → AgreesWith view levels ends next location → RowsPrecede (rows_in cs)
    → All (LiesBelow (view.next + length (newest view)) (view.location + cells_in (newest view))) (rows_in cs) → documents_left view cs ≡ (state_of view).documents → IsGiven view levels ends next location
given_by view levels ends next location cs are agrees rise below documents = record {
  agrees = agrees;
  rise = subst (λ (xs : List Content). RowsPrecede (rows_in xs)) (sym are) rise;
  below =
      subst (λ (xs : List Content). All (λ (row : DocRow). (row.number < next) × (end_of row < location)) (rows_in xs)) (sym are)
      (all_weaker (LiesBelow (view.next + length (newest view)) (view.location + cells_in (newest view))) (λ (row : DocRow). (row.number < next) × (end_of row < location)) (rows_in cs)
      (λ row low. (omega (arith, low.0, agrees.next_is), omega (arith, low.1, agrees.location_is))) below);
  documents = ap (documents_left view) are ∙ documents;
}

module _ (view : View) (levels : NextLevels) (ends : Ends) (next location : ℕ) where
  pub oldest_given : (n : ℕ) (c : Content) → IsSpaced view → 1 ≤ view.location → IsJoin view (map (λ (l : Level). l.content) (take n view.levels)) c → Replaces levels n c (newest_content view) → AgreesWith view levels ends next location
      → IsGiven view levels ends next location
  oldest_given n c spaced positive join is agrees =
      let oldest = take n view.levels in
      let rest = drop n view.levels in
      let split : view.levels ≡ take n view.levels ++ drop n view.levels = sym (take-append-drop n view.levels) in
      given_by view levels ends next location (map content_to_come (coming c ++ map stays (drop n view.levels) ++ coming (newest_content view))) (ap (map content_to_come) (oldest_is levels n c view is)) agrees
      (rise_now view spaced oldest rest split c join)
      (all_now view spaced oldest rest split c join (LiesBelow (view.next + length (newest view)) (view.location + cells_in (newest view))) (all_low view spaced positive)) (joined_left view spaced oldest rest split c join)

  nothing_joins : IsJoin view [] no_content
  nothing_joins = record { keeps = λ row. true; rows = refl; documents = refl }

  pub stay_given : IsSpaced view → 1 ≤ view.location → Replaces levels 0 no_content (newest_content view) → AgreesWith view levels ends next location → IsGiven view levels ends next location
  stay_given spaced positive is agrees = oldest_given 0 no_content spaced positive nothing_joins is agrees

  pub all_given : (c : Content) → IsSpaced view → 1 ≤ view.location → IsJoin view (all_contents view) c → Replaces levels (length view.levels) c no_content → AgreesWith view levels ends next location → IsGiven view levels ends next location
  all_given c spaced positive join is agrees =
      let P : DocRow → Type 0 = LiesBelow (view.next + length (newest view)) (view.location + cells_in (newest view)) in
      let rows : rows_in (map content_to_come (coming c)) ≡ filter join.keeps (all_rows view) =
      coming_rows c ∙ join.rows
      ∙ ap (filter join.keeps) (rows_append (map (λ (l : Level). l.content) view.levels) (content_of (newest view)) ∙ ap (λ (rs : List DocRow). rs ++ map (λ (a : Added). a.row) (newest view)) (rows_by_levels view.levels)) in
      given_by view levels ends next location (map content_to_come (coming c)) (ap (map content_to_come) (all_is levels c view is)) agrees
      (subst RowsPrecede (sym rows) (rise_left join.keeps (all_rows view) spaced.rise)) (subst (All P) (sym rows) (All-filter join.keeps P (all_rows view) (all_low view spaced positive))) (merged_left view c spaced join)

-- ---- which documents that come are gone

filter_none : {X : Type 0} (p : X → Bool) (xs : List X) → All (λ x. p x ≡ false) xs → filter p xs ≡ []
filter_none p [] all = refl
filter_none p (x ∷ xs) all = filter_drop p x xs (All-head (λ x. p x ≡ false) x xs all) ∙ filter_none p xs (All-tail (λ x. p x ≡ false) x xs all)

pub gone_append : (view : View) (xs ys : List DocRow) → gone_among view (xs ++ ys) ≡ gone_among view xs ++ gone_among view ys
gone_append view xs ys = ap (map end_of) (filter-append (is_gone view) xs ys) ∙ map-append end_of (filter (is_gone view) xs) (filter (is_gone view) ys)

-- of rows without those whose end is gone none is gone
live_none : (view : View) (rows : List DocRow) → AreGone view (gone view) rows → gone_among view (live_rows (gone view) rows) ≡ []
live_none view rows are =
    let live : DocRow → Bool = λ row. not (ends_among (gone view) row) in
    ap (map end_of)
    (filter_none (is_gone view) (filter live rows)
    (all_weaker (λ (row : DocRow). (live row ≡ true) × (ends_among (gone view) row ≡ is_gone view row)) (λ (row : DocRow). is_gone view row ≡ false) (filter live rows)
    (λ row both. sym both.1 ∙ not_true (ends_among (gone view) row) both.0)
    (all_both (λ (row : DocRow). live row ≡ true) (λ (row : DocRow). ends_among (gone view) row ≡ is_gone view row) (filter live rows) (filter_passes live rows)
    (All-filter live (λ (row : DocRow). ends_among (gone view) row ≡ is_gone view row) rows are))))

module _ (view : View) (spaced : IsSpaced view) where
  abbrev IsKnown : DocRow → Type 0
  IsKnown row = ends_among (gone view) row ≡ is_gone view row

  abbrev news : List DocRow
  news = map (λ (a : Added). a.row) (newest view)

  levels_known : AreGone view (gone view) (level_rows view.levels)
  levels_known = all_left IsKnown (level_rows view.levels) news (gone_are view spaced)

  newest_none : gone_among view (newest_content view).documents ≡ []
  newest_none = ap (gone_among view) (live_rows_are view spaced) ∙ live_none view news (all_right IsKnown (level_rows view.levels) news (gone_are view spaced))

  -- a join of the oldest levels without what is gone
  pub oldest_none : (n : ℕ) → gone_among view (joined_in (map (λ (l : Level). l.content) (take n view.levels)) (gone view)).documents ≡ []
  oldest_none n =
      let contents = map (λ (l : Level). l.content) (take n view.levels) in
      live_none view (rows_in contents)
      (subst (AreGone view (gone view)) (sym (rows_by_levels (take n view.levels)))
      (all_left IsKnown (level_rows (take n view.levels)) (level_rows (drop n view.levels))
      (subst (AreGone view (gone view))
      (ap level_rows (sym (take-append-drop n view.levels)) ∙ flat_map-append (λ (l : Level). l.content.documents) (take n view.levels) (drop n view.levels)) levels_known)))

  -- a join of all without what is gone
  pub all_none : (levels : NextLevels) → Replaces levels (length view.levels) (joined_in (all_contents view) (gone view)) no_content → gone_among view (rows_to_come levels view) ≡ []
  all_none levels is =
      let rows : rows_in (all_contents view) ≡ all_rows view =
      rows_append (map (λ (l : Level). l.content) view.levels) (content_of (newest view)) ∙ ap (λ (rs : List DocRow). rs ++ map (λ (a : Added). a.row) (newest view)) (rows_by_levels view.levels) in
      ap (λ (cs : List Coming). gone_among view (rows_in (map content_to_come cs))) (all_is levels (joined_in (all_contents view) (gone view)) view is)
      ∙ ap (gone_among view) (coming_rows (joined_in (all_contents view) (gone view)))
      ∙ live_none view (rows_in (all_contents view)) (subst (AreGone view (gone view)) (sym rows) (gone_are view spaced))

  pub gone_same : (levels : NextLevels) (n : ℕ) (c : Content) → Replaces levels n c (newest_content view) → gone_among view (rows_to_come levels view) ≡ gone_among view (c.documents ++ level_rows (drop n view.levels))
  gone_same levels n c is =
      let old = map stays (drop n view.levels) in
      let new = coming (newest_content view) in
      ap (gone_among view)
      (ap (λ (cs : List Coming). rows_in (map content_to_come cs)) (oldest_is levels n c view is)
      ∙ ap rows_in (map-append content_to_come (coming c ++ old) new)
      ∙ flat_map-append (λ (x : Content). x.documents) (map content_to_come (coming c ++ old)) (map content_to_come new)
      ∙ ap (λ (rows : List DocRow). rows ++ rows_in (map content_to_come new))
      (ap rows_in (map-append content_to_come (coming c) old)
      ∙ flat_map-append (λ (x : Content). x.documents) (map content_to_come (coming c)) (map content_to_come old)
      ∙ ap (λ (rows : List DocRow). rows ++ rows_in (map content_to_come old)) (coming_rows c)
      ∙ ap (λ (rows : List DocRow). c.documents ++ rows) (ap rows_in (stay_contents (drop n view.levels)) ∙ rows_by_levels (drop n view.levels)))
      ∙ ap (λ (rows : List DocRow). (c.documents ++ level_rows (drop n view.levels)) ++ rows) (coming_rows (newest_content view)))
      ∙ gone_append view (c.documents ++ level_rows (drop n view.levels)) (newest_content view).documents
      ∙ ap (λ (es : List ℕ). gone_among view (c.documents ++ level_rows (drop n view.levels)) ++ es) newest_none
      ∙ append-nil (gone_among view (c.documents ++ level_rows (drop n view.levels)))
