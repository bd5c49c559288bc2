-- A join of the two oldest levels that goes on.
use Rattle.std.proofs.Common.{◌≡◌, true, ℕ, ◌+◌, ◌<◌, List, [], ◌∷◌, ◌++◌, length, map, take, refl, sym, subst, ap, ◌∙◌, append_assoc}
use Rattle.std.specs.List.{All}
use Rattle.std.specs.Prelude.{not}
use Rattle.std.proofs.lemmas.List.{append-nil}
use Rattle.std.proofs.lemmas.List.Elements.{All-cons, All-tail}
use Rattle.alta_codec.specs.Bytes.{AreBytes}
use Rattle.alta_codec.specs.declared.extent.Extent.{Extent}
use Rattle.alta_content.specs.Parts.{IsPart}
use Rattle.alta_content.specs.Rows.{ends_among, live_rows}
use Rattle.alta_content.specs.declared.content.Content.{Content}
use Rattle.alta_content.specs.declared.document.DocRow.{DocRow}
use Rattle.alta_meaning.specs.Holding.{Holding, IsHeld, IsJob}
use Rattle.alta_meaning.specs.Levels.{Level}
use Rattle.alta_meaning.specs.Opened.{Opened, IsOpened, bytes_at, extent_of}
use Rattle.alta_meaning.specs.Standing.{AreLevels, tables_by}
use Rattle.alta_meaning.specs.Views.{View}
use Rattle.alta_meaning.specs.Work.{gone as gone_from, is_gone, newest, level_rows}
use Rattle.alta_meaning.specs.Working.{IsJoin, documents_in, oldest_contents}
use Rattle.alta_content.specs.Joining.{rows_in, joined_in, terms_in}
use Rattle.alta_meaning.proofs.KeptStates.{gone_are}
use Rattle.alta_meaning.proofs.KnownLaws.{all_both, all_weaker}
use Rattle.alta_meaning.proofs.OneState.{one_are}
use Rattle.alta_joins.proofs.KeptLaws.{held_is_spaced, joins_keep}
use Rattle.alta_joins.proofs.OpenedLaws.{opened_extents}
use Rattle.alta_joins.specs.Contents.{level_with}
use Rattle.alta_joins.specs.Jobs.{AreJoinedOn, DeadAreGone, IsJoining, IsMerging, moved_by}
use Rattle.alta_level.specs.Segments.{IsSegment}
use Rattle.alta_memlevel.specs.Added.{Added}
use Rattle.alta_merge.specs.Merging.{Merging}
use Rattle.alta_table.specs.Tables.{Tables}
use Rattle.alta_content.proofs.Elements.{all_left}
use Rattle.alta_content.proofs.Kept.{join_is_part}

-- ---- lists of two and more

record AreTwo (X : Type 0) (xs : List X) : Type 0 where
  first : X
  second : X
  others : List X
  split : xs ≡ first ∷ second ∷ others

-- these begin as others do
same_two : (levels : List Tables) (older newer : Tables) → take 2 levels ≡ older ∷ newer ∷ [] → (more : List Tables) × (levels ≡ older ∷ newer ∷ more)
same_two [] older newer e = cc
same_two (x ∷ []) older newer e = cc
same_two (x ∷ y ∷ more) older newer e =
    let first : x ≡ older = cc in
    let second : y ≡ newer = cc in
    (more, cc)

two_levels : (ls : List Level) (older newer : Tables) (more : List Tables) → map tables_by ls ≡ older ∷ newer ∷ more → AreTwo Level ls
two_levels [] older newer more e = cc
two_levels (l ∷ []) older newer more e = cc
two_levels (l ∷ m ∷ ns) older newer more e = record { first = l; second = m; others = ns; split = refl }

-- ---- what is gone

dead_gone : (dead gone ends : List ℕ) (rows : List DocRow) → DeadAreGone dead gone rows → DeadAreGone gone ends rows → DeadAreGone dead ends rows
dead_gone dead gone ends rows first second =
    all_weaker (λ (row : DocRow). (ends_among dead row ≡ true → ends_among gone row ≡ true) × (ends_among gone row ≡ true → ends_among ends row ≡ true))
    (λ (row : DocRow). ends_among dead row ≡ true → ends_among ends row ≡ true) rows (λ row both is. both.1 (both.0 is))
    (all_both (λ (row : DocRow). ends_among dead row ≡ true → ends_among gone row ≡ true) (λ (row : DocRow). ends_among gone row ≡ true → ends_among ends row ≡ true) rows first second)

-- ---- the content that it comes to

module _ (levels : List Tables) (gone : List ℕ) (merging : Merging) (joining : IsJoining levels gone merging) where
  -- the rows of both contents
  abbrev pub both_rows : List DocRow
  both_rows = joining.job.older.documents ++ joining.job.newer.documents

  rows_are : rows_in (joining.job.older ∷ joining.job.newer ∷ []) ≡ both_rows
  rows_are = ap (λ (rows : List DocRow). joining.job.older.documents ++ rows) (append-nil joining.job.newer.documents)

  table_rows_are : both_rows ≡ joining.older.documents ++ joining.newer.documents
  table_rows_are =
      ap (λ (rows : List DocRow). rows ++ joining.job.newer.documents) (ap (λ (t : Tables). t.documents) joining.contents.0.tables)
      ∙ ap (λ (rows : List DocRow). joining.older.documents ++ rows) (ap (λ (t : Tables). t.documents) joining.contents.1.tables)

  whole_is : merging.whole ≡ joined_in (joining.job.older ∷ joining.job.newer ∷ []) joining.job.dead
  whole_is = joining.is.whole

  pub joining_part : IsPart merging.whole
  joining_part = subst IsPart (sym whole_is) (join_is_part (joining.job.older ∷ joining.job.newer ∷ []) joining.job.dead joining.may)

  pub joining_rows : merging.whole.documents ≡ live_rows joining.job.dead (joining.older.documents ++ joining.newer.documents)
  joining_rows = ap (λ (c : Content). c.documents) whole_is ∙ ap (live_rows joining.job.dead) (rows_are ∙ table_rows_are)

  -- it is a join of the two oldest contents of a view
  pub joining_join : (view : View) → oldest_contents view ≡ joining.job.older ∷ joining.job.newer ∷ [] → gone ≡ gone_from view → IsJoin view (oldest_contents view) merging.whole
  joining_join view oldest gone_is =
      let dead = joining.job.dead in
      let both = joining.job.older ∷ joining.job.newer ∷ [] in
      let all : DeadAreGone dead (gone_from view) (rows_in both) =
      subst (λ (rows : List DocRow). DeadAreGone dead (gone_from view) rows) (sym rows_are) (subst (λ (ends : List ℕ). DeadAreGone dead ends both_rows) gone_is joining.dead) in
      subst (λ (contents : List Content). IsJoin view contents merging.whole) (sym oldest)
      (record {
        keeps = λ (row : DocRow). not (ends_among dead row);
        rows = ap (λ (c : Content). c.documents) whole_is;
        documents = ap (documents_in (gone_from view)) whole_is ∙ joins_keep both joining.may dead (gone_from view) all;
      })

  -- ---- it goes on

  pub joining_more : (others : List Tables) (ends : List ℕ) → take 2 others ≡ take 2 levels → DeadAreGone gone ends (joining.older.documents ++ joining.newer.documents)
      → (on : IsJoining others ends merging) × (on.job ≡ joining.job) × ((image : List ℕ) → AreJoinedOn image joining → AreJoinedOn image on)
  joining_more others ends same goes =
      let split = same_two others joining.older joining.newer (same ∙ ap (λ (ls : List Tables). take 2 ls) joining.oldest) in (
        record {
          job = joining.job;
          is = joining.is;
          older = joining.older;
          newer = joining.newer;
          more = split.0;
          oldest = split.1;
          contents = joining.contents;
          may = joining.may;
          left = joining.left;
          dead = dead_gone joining.job.dead gone ends both_rows joining.dead (subst (λ (rows : List DocRow). DeadAreGone gone ends rows) (sym table_rows_are) goes);
        },
        refl,
        λ image are. are,
      )

  pub joining_moved : (later : Merging) (n : ℕ) → IsMerging later (moved_by joining.job n) → joining.job.merged + n < length (terms_in (joining.job.older ∷ joining.job.newer ∷ []))
      → (on : IsJoining levels gone later) × (on.job ≡ moved_by joining.job n) × ((image : List ℕ) → AreJoinedOn image joining → AreJoinedOn image on)
  joining_moved later n is left = (
    record {
      job = moved_by joining.job n;
      is = is;
      older = joining.older;
      newer = joining.newer;
      more = joining.more;
      oldest = joining.oldest;
      contents = joining.contents;
      may = joining.may;
      left = left;
      dead = joining.dead;
    },
    refl,
    λ image are. are,
  )

  pub joining_stays : (old new : List ℕ) → bytes_at (extent_of joining.older) new ≡ bytes_at (extent_of joining.older) old → bytes_at (extent_of joining.newer) new ≡ bytes_at (extent_of joining.newer) old
      → AreJoinedOn old joining → AreJoinedOn new joining
  joining_stays old new older newer are = (
    subst (λ (bytes : List ℕ). IsSegment bytes joining.job.older) (sym older) are.0,
    (subst (λ (bytes : List ℕ). IsSegment bytes joining.job.newer) (sym newer) are.1.0, tt),
  )

  -- ---- the job of what is held

  abbrev IsHere : List ℕ → Level → Type 0
  IsHere image l = IsSegment (bytes_at l.extent image) l.content

  -- the levels of an image, with the contents of the join in front
  module _ (o : Opened) (image : List ℕ) (l m : Level) (ns : List Level) (are : AreBytes image) (opened : IsOpened o image) (is : AreLevels o (l ∷ m ∷ ns) image) (same : levels ≡ map tables_by (l ∷ m ∷ ns))
      (joined : AreJoinedOn image joining) where
    abbrev fronted : List Level
    fronted = level_with joining.older joining.job.older ∷ level_with joining.newer joining.job.newer ∷ ns

    tables_here : tables_by l ∷ tables_by m ∷ map tables_by ns ≡ joining.older ∷ joining.newer ∷ joining.more
    tables_here = sym same ∙ joining.oldest

    extents_here : l.extent ∷ m.extent ∷ map (λ (l : Level). l.extent) ns ≡ extent_of joining.older ∷ extent_of joining.newer ∷ map extent_of joining.more
    extents_here = sym is.extents ∙ sym (opened_extents o image are opened) ∙ ap (map extent_of) (is.tables ∙ tables_here)

    fronted_are : AreLevels o fronted image
    fronted_are =
        let older : l.extent ≡ extent_of joining.older = cc extents_here in
        let newer : m.extent ≡ extent_of joining.newer = cc extents_here in
        let first : tables_by l ≡ tables_by (level_with joining.older joining.job.older) = cc (tables_here, joining.contents.0.tables) in
        let second : tables_by m ≡ tables_by (level_with joining.newer joining.job.newer) = cc (tables_here, joining.contents.1.tables) in
        record {
          extents = is.extents
              ∙ ap (λ (e : Extent). e ∷ m.extent ∷ map (λ (l : Level). l.extent) ns) older ∙ ap (λ (e : Extent). extent_of joining.older ∷ e ∷ map (λ (l : Level). l.extent) ns) newer;
          tables = is.tables
              ∙ ap (λ (t : Tables). t ∷ tables_by m ∷ map tables_by ns) first ∙ ap (λ (t : Tables). tables_by (level_with joining.older joining.job.older) ∷ t ∷ map tables_by ns) second;
          segments = All-cons (IsHere image) (level_with joining.older joining.job.older) (level_with joining.newer joining.job.newer ∷ ns) joined.0
              (All-cons (IsHere image) (level_with joining.newer joining.job.newer) ns joined.1.0
              (All-tail (IsHere image) m ns (All-tail (IsHere image) l (m ∷ ns) is.segments)));
        }

    fronts_are : l ∷ m ∷ ns ≡ fronted
    fronts_are = one_are o (l ∷ m ∷ ns) fronted image is fronted_are

    older_is : joining.job.older ≡ l.content
    older_is = let e : l ≡ level_with joining.older joining.job.older = cc fronts_are in sym (ap (λ (x : Level). x.content) e)

    newer_is : joining.job.newer ≡ m.content
    newer_is = let e : m ≡ level_with joining.newer joining.job.newer = cc fronts_are in sym (ap (λ (x : Level). x.content) e)

  module _ (held : Holding) (image : List ℕ) (are : AreBytes image) (is : IsHeld held image) (same : levels ≡ map tables_by held.view.levels) (gone_is : gone ≡ gone_from held.view)
      (joined : AreJoinedOn image joining) where
    held_two : AreTwo Level held.view.levels
    held_two = two_levels held.view.levels joining.older joining.newer joining.more (sym same ∙ joining.oldest)

    -- what is gone of the rows of both levels is gone from the view
    gone_rows : (l m : Level) (ns : List Level) → held.view.levels ≡ l ∷ m ∷ ns
        → All (λ (row : DocRow). ends_among (gone_from held.view) row ≡ is_gone held.view row) (l.content.documents ++ m.content.documents)
    gone_rows l m ns split =
        let P : DocRow → Type 0 = λ row. ends_among (gone_from held.view) row ≡ is_gone held.view row in
        let all : All P (level_rows held.view.levels) = all_left P (level_rows held.view.levels) (map (λ (a : Added). a.row) (newest held.view)) (gone_are held.view (held_is_spaced held image is)) in
        let front : level_rows held.view.levels ≡ (l.content.documents ++ m.content.documents) ++ level_rows ns =
        ap level_rows split ∙ sym (append_assoc l.content.documents m.content.documents (level_rows ns)) in
        all_left P (l.content.documents ++ m.content.documents) (level_rows ns) (subst (All P) front all)

    pub joining_job : IsJob joining.job held.view
    joining_job =
        let two = held_two in
        let here : AreLevels is.opened (two.first ∷ two.second ∷ two.others) image = subst (λ (ls : List Level). AreLevels is.opened ls image) two.split is.are in
        let tables : levels ≡ map tables_by (two.first ∷ two.second ∷ two.others) = same ∙ ap (map tables_by) two.split in
        let older = older_is is.opened image two.first two.second two.others are is.is here tables joined in
        let newer = newer_is is.opened image two.first two.second two.others are is.is here tables joined in
        let P : DocRow → Type 0 = λ row. ends_among (gone_from held.view) row ≡ is_gone held.view row in
        let rows : two.first.content.documents ++ two.second.content.documents ≡ both_rows =
        ap (λ (c : Content). c.documents ++ two.second.content.documents) (sym older) ∙ ap (λ (c : Content). joining.job.older.documents ++ c.documents) (sym newer) in
        record {
          older = two.first;
          newer = two.second;
          more = two.others;
          oldest = two.split;
          contents = (older, newer);
          left = joining.left;
          dead = all_weaker (λ (row : DocRow). (ends_among joining.job.dead row ≡ true → ends_among (gone_from held.view) row ≡ true) × P row)
              (λ (row : DocRow). ends_among joining.job.dead row ≡ true → is_gone held.view row ≡ true) both_rows (λ row both dead. sym both.1 ∙ both.0 dead)
              (all_both (λ (row : DocRow). ends_among joining.job.dead row ≡ true → ends_among (gone_from held.view) row ≡ true) P both_rows
              (subst (λ (ends : List ℕ). DeadAreGone joining.job.dead ends both_rows) gone_is joining.dead) (subst (All P) rows (gone_rows two.first two.second two.others two.split)));
        }
