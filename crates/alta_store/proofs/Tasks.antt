-- Flush, merge and step, each as levels put in place of others.
use Rattle.std.proofs.Common.{◌≡◌, ◌⊎◌, inl, inr, ⊎_elim, ℕ, ◌+◌, ◌-◌, ◌<◌, ◌≤◌, cond, List, [], ◌∷◌, ◌++◌, length, map, take, drop, true, refl, sym, ◌∙◌, ap, ap₂, append_assoc, subst, arith}
use Rattle.std.specs.Prelude.{◌==◌, not, Option, Some, None}
use Rattle.std.specs.List.{All, filter}
use Rattle.std.proofs.Math.Seq.{drop-length}
use Rattle.std.proofs.lemmas.List.{append-nil, length-map, take-map}
use Rattle.alta_catalog.specs.Knowing.{gone_of, memory_of, newest_of}
use Rattle.alta_catalog.specs.Replacing.{rows_between}
use Rattle.alta_codec.specs.declared.extent.Extent.{Extent}
use Rattle.alta_content.specs.Parts.{IsPart}
use Rattle.alta_content.specs.Rows.{ends_among, live_rows}
use Rattle.alta_content.specs.declared.content.Content.{Content}
use Rattle.alta_content.specs.declared.document.DocRow.{DocRow}
use Rattle.alta_disk.specs.Disk.{DiskState, IsLawful}
use Rattle.alta_meaning.specs.Holding.{Holding, IsHeld, IsJob, IsSpaced}
use Rattle.alta_meaning.specs.Levels.{Level}
use Rattle.alta_meaning.specs.Opened.{Opened, IsOpened, table_rows, extent_of}
use Rattle.alta_meaning.specs.Standing.{AreLevels, view_of}
use Rattle.alta_meaning.specs.Views.{View}
use Rattle.alta_meaning.specs.Work.{Job, anew, coming, gone, is_gone, newest as added_in, newest_content, level_rows, oldest_joined}
use Rattle.alta_meaning.specs.Working.{IsJoin, all_contents, oldest_contents}
use Rattle.alta_meaning.proofs.KeptStates.{gone_are}
use Rattle.alta_meaning.proofs.KnownLaws.{all_both, all_weaker}
use Rattle.alta_meaning.proofs.OneState.{one_are}
use Rattle.alta_joins.specs.Contents.{AreContentsOf, AreSegmentsOn, level_with, levels_with}
use Rattle.alta_joins.specs.Jobs.{AreJoinedOn, DeadAreGone, IsBegun, IsJoining}
use Rattle.alta_joins.proofs.JoiningLaws.{joining_join, joining_part, joining_rows}
use Rattle.alta_joins.proofs.KeptLaws.{held_joins}
use Rattle.alta_joins.proofs.OpenedLaws.{levels_segments, read_levels_are, with_contents}
use Rattle.alta_memlevel.specs.Added.{Added, HasContent, live_of}
use Rattle.alta_memlevel.specs.Documents.{AreMade, content_of}
use Rattle.alta_merge.specs.Merging.{Merging}
use Rattle.alta_rewrite.specs.Rewrites.{HaveRows, Replaces, no_content}
use Rattle.alta_rewrite.specs.declared.levels.NextLevels.{NextLevels}
use Rattle.alta_rewrite.proofs.JoinedLaws.{all_given, oldest_given, stay_given}
use Rattle.alta_rewrite.proofs.RootLaws.{at_most_one}
use Rattle.alta_rewrite.proofs.SpaceLaws.{opened_spaced}
use Rattle.alta_store.specs.Agreement.{Agrees, IsJobIn, levels_of}
use Rattle.alta_store.specs.Calls.{HaveLists, JoinsAll, JoinsOldest}
use Rattle.alta_store.specs.Putting.{IsDrained, IsGivenBy, MayPut}
use Rattle.alta_store.specs.declared.store.Store.{Store}
use Rattle.alta_store.proofs.Agreements.{kept}
use Rattle.alta_store.proofs.Holdings.{content_bytes, gone_held, gone_opened, well_held}
use Rattle.alta_store.proofs.Joining.{taken_segments}
use Rattle.alta_store.proofs.Putting.{have_rows, rows_from}
use Rattle.alta_store.proofs.Rows.{bare, bare_extents, bare_have, bare_rows, flush_kept, flush_left, flush_rows, join_kept, join_left, join_rows, live_newest, live_twice, merge_left}
use Rattle.alta_table.specs.Tables.{Tables}
use Rattle.alta_content.proofs.Elements.{all_left}
use Rattle.alta_content.specs.Joining.{joined_in}

-- What a task was given of the newest documents: the live ones.
abbrev pub HasNewest : Store → Content → Type 0
HasNewest store newest = (added : List Added) → HasContent added (memory_of store.catalog).content → AreMade added → newest ≡ content_of (live_of (gone_of store.catalog) added)

module _ (tells : Type 0) (a : DiskState) (lawful : IsLawful tells a) (store : Store) (agrees : Agrees tells a store) where
  -- ---- what is opened

  spaced : (told : tells) (o : Opened) → IsOpened o a.content → (there : List Level) → HaveRows o there → IsSpaced (view_of o there) × (1 ≤ o.root.next_location)
  spaced told o is there have = opened_spaced o there a.content is (content_bytes tells a lawful told) have (kept store a.content (agrees.content told) o is).follows.content.space

  pub there_rows : (o : Opened) (there : List Level) → HaveRows o there → level_rows there ≡ table_rows o.levels
  there_rows o there have = rows_from 0 o.levels there have.rows

  gone_there : (told : tells) (o : Opened) → IsOpened o a.content → (there : List Level) → HaveRows o there → gone_of store.catalog ≡ gone (view_of o there)
  gone_there told o is there have = gone_opened tells a lawful store agrees told o is there (there_rows o there have)

  pub newest_there : (newest : Content) → HasNewest store newest → (told : tells) (o : Opened) → IsOpened o a.content → (there : List Level) → HaveRows o there → newest ≡ newest_content (view_of o there)
  newest_there content drained told o is there have =
      let keeps = kept store a.content (agrees.content told) o is in
      drained (newest_of o.root o.entries) keeps.follows.content keeps.follows.made
      ∙ ap (λ (g : List ℕ). content_of (live_of g (newest_of o.root o.entries))) (gone_there told o is there have)

  pub newest_held : (newest : Content) → HasNewest store newest → (told : tells) (held : Holding) → IsHeld held a.content → newest ≡ newest_content held.view
  newest_held content drained told held has =
      newest_there content drained told has.opened has.is held.view.levels (have_rows held a.content has) ∙ ap newest_content (sym has.view_is)

  -- a view is given what it needs, where a join comes in place of the oldest levels
  given_oldest : (levels : NextLevels) (n : ℕ) (c : Content) (told : tells) (o : Opened) → IsOpened o a.content → (there : List Level) → HaveRows o there → IsJoin (view_of o there) (map (λ (l : Level). l.content) (take n there)) c
      → Replaces levels n c (newest_content (view_of o there)) → IsGivenBy (view_of o there) levels
  given_oldest levels n c told o is there have join replaces = λ ends next location with.
      let s = spaced told o is there have in
      oldest_given (view_of o there) levels ends next location n c s.0 s.1 join replaces with

  -- where none is left out, no lists are asked for
  pub none_read : (image : List ℕ) (o : Opened) (there : List Level) (levels : NextLevels) → levels.stay_from ≡ 0 → HaveLists image o there levels
  none_read image o there levels none = subst (λ (n : ℕ). AreSegmentsOn image (take n o.levels) (map (λ (l : Level). l.content) (take n there))) (sym none) tt

  -- the same of what is held
  pub held_given : (levels : NextLevels) (held : Holding) (has : IsHeld held a.content) → IsGivenBy (view_of has.opened held.view.levels) levels → IsGivenBy held.view levels
  held_given levels held has given = subst (λ (view : View). IsGivenBy view levels) (sym has.view_is) given

  -- ---- all levels stay

  module _ (now : Store) (drained : IsDrained store now) (job_is : now.job ≡ store.job) (newest : Content) (has_newest : HasNewest store newest) (part : IsPart newest) (levels : NextLevels)
      (replaces : Replaces levels 0 no_content newest) (no_part : IsPart no_content) (few : (length (levels_of store) < 16) ⊎ (length newest.documents ≡ 0)) (most : length (levels_of store) ≤ 16) where
    few_come : length (coming levels.oldest) + (length (levels_of store) - levels.stay_from) + length (coming levels.newest) ≤ 16
    few_come =
        subst (λ (c : Content). length (coming c) + (length (levels_of store) - levels.stay_from) + length (coming levels.newest) ≤ 16) (sym replaces.oldest_is)
        (subst (λ (c : Content). 0 + (length (levels_of store) - levels.stay_from) + length (coming c) ≤ 16) (sym replaces.newest_is)
        (⊎_elim (λ less. omega (arith, less, at_most_one newest))
        (λ none. omega (arith, most, ap (λ (n : ℕ). length (cond (n == 0) [] (anew newest ∷ []))) none)) few))

    abbrev stay_replaces : (told : tells) (o : Opened) (is : IsOpened o a.content) (there : List Level) (have : HaveRows o there) → Replaces levels 0 no_content (newest_content (view_of o there))
    stay_replaces told o is there have = record { stay_from_is = replaces.stay_from_is; oldest_is = replaces.oldest_is; newest_is = replaces.newest_is ∙ newest_there newest has_newest told o is there have }

    pub given_stay : (told : tells) (o : Opened) (is : IsOpened o a.content) (there : List Level) (have : HaveRows o there) → IsGivenBy (view_of o there) levels
    given_stay told o is there have = λ ends next location with.
        let s = spaced told o is there have in
        stay_given (view_of o there) levels ends next location s.0 s.1 (stay_replaces told o is there have) with

    pub stay_may : MayPut tells a store now levels
    stay_may = record {
      agrees = agrees;
      drained = drained;
      parts = (subst IsPart (sym replaces.oldest_is) no_part, subst IsPart (sym replaces.newest_is) part);
      index = omega (arith, replaces.stay_from_is);
      few = few_come;
      kept = flush_kept store agrees.intact;
      rows =
          ap₂ (λ (xs ys : List DocRow). rows_between xs levels.stay_from (levels_of store) ys) (ap (λ (c : Content). c.documents) replaces.oldest_is)
          (ap (λ (c : Content). c.documents) replaces.newest_is ∙ live_newest store agrees.intact newest has_newest)
          ∙ ap (λ (n : ℕ). table_rows (drop n (levels_of store)) ++ filter (λ (row : DocRow). not (ends_among (gone_of store.catalog) row)) (memory_of store.catalog).content.documents) replaces.stay_from_is ∙ flush_rows store agrees.intact;
      gone = flush_left store agrees.intact;
      given = λ o told is.
          let have = bare_have store o (kept store a.content (agrees.content told) o is) in
          (bare o.levels, have, given_stay told o is (bare o.levels) have);
      goes_on = inr (replaces.stay_from_is, ap (λ (c : Content). c.documents) replaces.oldest_is, job_is);
    }

  -- ---- a join of the two oldest levels comes in place of them

  module _ (now : Store) (drained : IsDrained store now) (no_job : now.job ≡ None) (merging : Merging) (joining : IsJoining (levels_of store) (gone_of store.catalog) merging) (oldest newest : Content) (oldest_is : oldest ≡ merging.whole)
      (has_newest : HasNewest store newest) (part : IsPart newest) (levels : NextLevels) (replaces : Replaces levels 2 oldest newest) (most : length (levels_of store) ≤ 16) where
    abbrev joined_there : List Level
    joined_there = level_with joining.older joining.job.older ∷ level_with joining.newer joining.job.newer ∷ bare joining.more

    joined_have : (told : tells) (o : Opened) → IsOpened o a.content → HaveRows o joined_there
    joined_have told o is =
        let keeps = kept store a.content (agrees.content told) o is in
        let levels_are : o.levels ≡ joining.older ∷ joining.newer ∷ joining.more = sym keeps.levels ∙ joining.oldest in
        record {
          extents = sym keeps.extents ∙ ap (map extent_of) levels_are ∙ ap (λ (es : List Extent). extent_of joining.older ∷ extent_of joining.newer ∷ es) (bare_extents joining.more);
          rows = ap (map (λ (t : Tables). t.documents)) levels_are
              ∙ ap₂ (λ (xs ys : List DocRow). xs ∷ ys ∷ map (λ (t : Tables). t.documents) joining.more) (sym (ap (λ (t : Tables). t.documents) joining.contents.0.tables)) (sym (ap (λ (t : Tables). t.documents) joining.contents.1.tables))
              ∙ ap (λ (rows : List (List DocRow)). joining.job.older.documents ∷ joining.job.newer.documents ∷ rows) (bare_rows joining.more);
        }

    abbrev two_replace : (told : tells) (o : Opened) (is : IsOpened o a.content) (there : List Level) (have : HaveRows o there) → Replaces levels 2 oldest (newest_content (view_of o there))
    two_replace told o is there have = record { stay_from_is = replaces.stay_from_is; oldest_is = replaces.oldest_is; newest_is = replaces.newest_is ∙ newest_there newest has_newest told o is there have }

    two_join : (told : tells) (o : Opened) → IsOpened o a.content → IsJoin (view_of o joined_there) (oldest_contents (view_of o joined_there)) oldest
    two_join told o is =
        subst (IsJoin (view_of o joined_there) (oldest_contents (view_of o joined_there))) (sym oldest_is)
        (joining_join (levels_of store) (gone_of store.catalog) merging joining (view_of o joined_there) refl (gone_there told o is joined_there (joined_have told o is)))

    at_least : 2 ≤ length (levels_of store)
    at_least = omega (arith, ap length joining.oldest)

    few_two : length (coming levels.oldest) + (length (levels_of store) - levels.stay_from) + length (coming levels.newest) ≤ 16
    few_two = omega (arith, at_most_one levels.oldest, at_most_one levels.newest, replaces.stay_from_is, most, at_least)

    pub two_may : MayPut tells a store now levels
    two_may = record {
      agrees = agrees;
      drained = drained;
      parts = (subst IsPart (sym (replaces.oldest_is ∙ oldest_is)) (joining_part (levels_of store) (gone_of store.catalog) merging joining), subst IsPart (sym replaces.newest_is) part);
      index = omega (arith, replaces.stay_from_is, at_least);
      few = few_two;
      kept = join_kept store agrees.intact merging joining;
      rows =
          ap₂ (λ (xs ys : List DocRow). rows_between xs levels.stay_from (levels_of store) ys)
          (ap (λ (c : Content). c.documents) (replaces.oldest_is ∙ oldest_is) ∙ joining_rows (levels_of store) (gone_of store.catalog) merging joining)
          (ap (λ (c : Content). c.documents) replaces.newest_is ∙ live_newest store agrees.intact newest has_newest)
          ∙ ap₂ (λ (n : ℕ) (ls : List Tables). live_rows joining.job.dead (joining.older.documents ++ joining.newer.documents) ++ (table_rows (drop n ls) ++ filter (λ (row : DocRow). not (ends_among (gone_of store.catalog) row)) (memory_of store.catalog).content.documents)) replaces.stay_from_is joining.oldest
          ∙ join_rows store agrees.intact merging joining;
      gone = join_left store agrees.intact merging joining;
      given = λ o told is.
          let have = joined_have told o is in
          (joined_there, have, given_oldest levels 2 oldest told o is joined_there have (two_join told o is) (two_replace told o is joined_there have));
      goes_on = inl no_job;
    }

    -- the job of the join is one over these levels
    two_over : (told : tells) (o : Opened) → IsOpened o a.content → IsJob joining.job (view_of o joined_there)
    two_over told o is =
        let have = joined_have told o is in
        let view = view_of o joined_there in
        let both : List DocRow = joining.job.older.documents ++ joining.job.newer.documents in
        let P : DocRow → Type 0 = λ row. ends_among (gone view) row ≡ is_gone view row in
        let all : All P (level_rows joined_there) = all_left P (level_rows joined_there) (map (λ (x : Added). x.row) (added_in view)) (gone_are view (spaced told o is joined_there have).0) in
        let known : All P both = all_left P both (level_rows (bare joining.more)) (subst (All P) (sym (append_assoc joining.job.older.documents joining.job.newer.documents (level_rows (bare joining.more)))) all) in
        let dead : DeadAreGone joining.job.dead (gone view) both = subst (λ (ends : List ℕ). DeadAreGone joining.job.dead ends both) (gone_there told o is joined_there have) joining.dead in
        record {
          older = level_with joining.older joining.job.older;
          newer = level_with joining.newer joining.job.newer;
          more = bare joining.more;
          oldest = refl;
          contents = (refl, refl);
          left = joining.left;
          dead = all_weaker (λ (row : DocRow). (ends_among joining.job.dead row ≡ true → ends_among (gone view) row ≡ true) × P row)
              (λ (row : DocRow). ends_among joining.job.dead row ≡ true → is_gone view row ≡ true) both (λ row here dead. sym here.1 ∙ here.0 dead)
              (all_both (λ (row : DocRow). ends_among joining.job.dead row ≡ true → ends_among (gone view) row ≡ true) P both dead known);
        }

    -- what comes in place of them is what the job comes to, or a join without all that is gone
    two_joins : (store.job ≡ Some merging) ⊎ ((store.job ≡ None) × IsBegun joining) → (told : tells) (o : Opened) (is : IsOpened o a.content) → JoinsOldest store.job (view_of o joined_there) levels
    two_joins which told o is = ⊎_elim (λ goes. by_job goes) (λ begins. by_none begins.0 begins.1) which
      where
        by : (job : Option Job) → oldest ≡ oldest_joined job (view_of o joined_there) → Replaces levels 2 (oldest_joined job (view_of o joined_there)) (newest_content (view_of o joined_there))
        by job same = subst (λ (c : Content). Replaces levels 2 c (newest_content (view_of o joined_there))) same (two_replace told o is joined_there (joined_have told o is))

        by_job : store.job ≡ Some merging → JoinsOldest store.job (view_of o joined_there) levels
        by_job goes = record {
          job = Some joining.job;
          is = subst (λ (m : Option Merging). IsJobIn m (Some joining.job)) (sym goes) joining.is;
          over = two_over told o is;
          replaces = by (Some joining.job) (oldest_is ∙ joining.is.whole);
        }

        by_none : store.job ≡ None → IsBegun joining → JoinsOldest store.job (view_of o joined_there) levels
        by_none none begun = record {
          job = None;
          is = subst (λ (m : Option Merging). IsJobIn m None) (sym none) tt;
          over = tt;
          replaces = by None
              (oldest_is ∙ joining.is.whole
              ∙ ap (joined_in (joining.job.older ∷ joining.job.newer ∷ [])) (begun.0 ∙ gone_there told o is joined_there (joined_have told o is)));
        }

    pub two_kind : (store.job ≡ Some merging) ⊎ ((store.job ≡ None) × IsBegun joining) → (told : tells) (o : Opened) (is : IsOpened o a.content) → JoinsOldest store.job (view_of o (two_may.given o told is).0) levels
    unfolding two_may
    two_kind which told o is = two_joins which told o is

    -- they have the lists of an image on which the join's contents stand
    pub two_read : (image : List ℕ) → AreJoinedOn image joining → (told : tells) (o : Opened) (is : IsOpened o a.content) → HaveLists image o (two_may.given o told is).0 levels
    unfolding two_may
    two_read image over told o is =
        let levels_are : o.levels ≡ joining.older ∷ joining.newer ∷ joining.more = sym (kept store a.content (agrees.content told) o is).levels ∙ joining.oldest in
        subst (λ (n : ℕ). AreSegmentsOn image (take n o.levels) (map (λ (l : Level). l.content) (take n joined_there))) (sym replaces.stay_from_is)
        (subst (λ (ls : List Tables). AreSegmentsOn image (take 2 ls) (joining.job.older ∷ joining.job.newer ∷ [])) (sym levels_are) over)

    -- of what is held
    pub two_held : (told : tells) (held : Holding) → (has : IsHeld held a.content) → IsJoin held.view (oldest_contents held.view) oldest → IsGivenBy held.view levels
    two_held told held has join =
        let there = held.view.levels in
        let have = have_rows held a.content has in
        held_given levels held has
        (given_oldest levels 2 oldest told has.opened has.is there have (subst (λ (view : View). IsJoin view (map (λ (l : Level). l.content) (take 2 there)) oldest) has.view_is join)
        (two_replace told has.opened has.is there have))

  -- ---- the join of all comes in place of all

  module _ (now : Store) (drained : IsDrained store now) (no_job : now.job ≡ None) (oldest newest : Content) (has_newest : HasNewest store newest) (part : IsPart oldest) (no_part : IsPart no_content)
      (rows_are : oldest.documents ≡ live_rows (gone_of store.catalog) (table_rows (levels_of store) ++ newest.documents)) (levels : NextLevels) (replaces : Replaces levels (length (levels_of store)) oldest no_content)
      (merged : (added : List Added) → HasContent added (memory_of store.catalog).content → AreMade added → (o : Opened) → tells → IsOpened o a.content → newest_of o.root o.entries ≡ added
      → (contents : List Content) × AreContentsOf (levels_of store) contents × (tells → AreSegmentsOn a.content (levels_of store) contents) × (oldest ≡ joined_in (contents ++ content_of added ∷ []) (gone_of store.catalog))) where
    -- an image that was read whole is held
    pub found : (told : tells) (o : Opened) (is : IsOpened o a.content) → (there : List Level) × AreLevels o there a.content × (oldest ≡ joined_in (all_contents (view_of o there)) (gone (view_of o there))) × HaveRows o there
    found told o is =
        let keeps = kept store a.content (agrees.content told) o is in
        let bytes = content_bytes tells a lawful told in
        let m = merged (newest_of o.root o.entries) keeps.follows.content keeps.follows.made o told is refl in
        let contents_are : AreContentsOf o.levels m.0 = subst (λ (ls : List Tables). AreContentsOf ls m.0) keeps.levels m.1 in
        let there = levels_with o.levels m.0 in
        let are : AreLevels o there a.content = read_levels_are o m.0 a.content bytes is contents_are (subst (λ (ls : List Tables). AreSegmentsOn a.content ls m.0) keeps.levels (m.2 told)) in
        let held : Holding = record { view = view_of o there; list = o.root.deletions; job = None } in
        let has : IsHeld held a.content = record { opened = o; is = is; are = are; view_is = refl; list_is = refl } in
        let same : map (λ (l : Level). l.content) there ≡ m.0 = with_contents o.levels m.0 contents_are in (
          there,
          are,
          m.3 ∙ ap₂ (λ (cs : List Content) (g : List ℕ). joined_in (cs ++ content_of (newest_of o.root o.entries) ∷ []) g) (sym same) (gone_held tells a lawful store agrees told held has),
          have_rows held a.content has,
        )

    all_kind : (told : tells) (o : Opened) (is : IsOpened o a.content) → JoinsAll (view_of o (found told o is).0) levels
    all_kind told o is =
        let f = found told o is in
        record {
          stay_from_is = replaces.stay_from_is ∙ ap length (kept store a.content (agrees.content told) o is).levels ∙ ap length f.1.tables ∙ length-map f.0 _;
          oldest_is = replaces.oldest_is ∙ f.2;
          newest_is = replaces.newest_is;
        }

    given_all : (told : tells) (o : Opened) (is : IsOpened o a.content) → IsGivenBy (view_of o (found told o is).0) levels
    given_all told o is = λ ends next location with.
        let f = found told o is in
        let s = spaced told o is f.0 f.3 in
        let held : Holding = record { view = view_of o f.0; list = o.root.deletions; job = None } in
        let has : IsHeld held a.content = record { opened = o; is = is; are = f.1; view_is = refl; list_is = refl } in
        let joins = held_joins held a.content has (well_held held a.content (content_bytes tells a lawful told) has tt) in
        all_given (view_of o f.0) levels ends next location (joined_in (all_contents (view_of o f.0)) (gone (view_of o f.0))) s.0 s.1 joins.all (all_kind told o is) with

    pub all_may : MayPut tells a store now levels
    all_may = record {
      agrees = agrees;
      drained = drained;
      parts = (subst IsPart (sym replaces.oldest_is) part, subst IsPart (sym replaces.newest_is) no_part);
      index = omega (arith, replaces.stay_from_is);
      few = subst (λ (c : Content). length (coming levels.oldest) + (length (levels_of store) - levels.stay_from) + length (coming c) ≤ 16) (sym replaces.newest_is)
          (omega (arith, at_most_one levels.oldest, replaces.stay_from_is));
      kept = λ row. not (ends_among (gone_of store.catalog) row);
      rows =
          ap₂ (λ (xs ys : List DocRow). rows_between xs levels.stay_from (levels_of store) ys) (ap (λ (c : Content). c.documents) replaces.oldest_is ∙ rows_are) (ap (λ (c : Content). c.documents) replaces.newest_is)
          ∙ ap (λ (ls : List Tables). live_rows (gone_of store.catalog) (table_rows (levels_of store) ++ newest.documents) ++ (table_rows ls ++ [])) (ap (λ (n : ℕ). drop n (levels_of store)) replaces.stay_from_is ∙ drop-length (levels_of store))
          ∙ append-nil (live_rows (gone_of store.catalog) (table_rows (levels_of store) ++ newest.documents))
          ∙ ap (λ (rows : List DocRow). live_rows (gone_of store.catalog) (table_rows (levels_of store) ++ rows)) (live_newest store agrees.intact newest has_newest)
          ∙ live_twice store (table_rows (levels_of store)) (memory_of store.catalog).content.documents;
      gone = merge_left store agrees.intact;
      given = λ o told is. let f = found told o is in (f.0, f.3, given_all told o is);
      goes_on = inl no_job;
    }

    pub all_read : (told : tells) (o : Opened) (is : IsOpened o a.content) → HaveLists a.content o (all_may.given o told is).0 levels
    unfolding all_may
    all_read told o is =
        let f = found told o is in
        let whole = levels_segments o f.0 a.content (content_bytes tells a lawful told) is f.1 in
        subst (AreSegmentsOn a.content (take levels.stay_from o.levels)) (take-map (λ (l : Level). l.content) levels.stay_from f.0)
        (taken_segments levels.stay_from a.content o.levels (map (λ (l : Level). l.content) f.0) whole)

    pub all_kind_put : (told : tells) (o : Opened) (is : IsOpened o a.content) → JoinsAll (view_of o (all_may.given o told is).0) levels
    unfolding all_may
    all_kind_put told o is = all_kind told o is

    -- of what is held
    pub all_held : (told : tells) (held : Holding) → (has : IsHeld held a.content) → Replaces levels (length held.view.levels) (joined_in (all_contents held.view) (gone held.view)) no_content × IsGivenBy held.view levels
    all_held told held has =
        let f = found told has.opened has.is in
        let same : f.0 ≡ held.view.levels = one_are has.opened f.0 held.view.levels a.content f.1 has.are in
        let view_is : view_of has.opened f.0 ≡ held.view = ap (view_of has.opened) same ∙ sym has.view_is in (
          subst (λ (view : View). Replaces levels (length view.levels) (joined_in (all_contents view) (gone view)) no_content) view_is (all_kind told has.opened has.is),
          subst (λ (view : View). IsGivenBy view levels) view_is (given_all told has.opened has.is),
        )
