-- The joins of work are joins, where joins keep documents.
use Rattle.std.proofs.Common.{◌≡◌, true, List, [], ◌∷◌, ◌++◌, map, take, refl, sym, ap, subst, ◌∙◌, append_assoc}
use Rattle.std.specs.Prelude.{not, Option, None, Some}
use Rattle.std.specs.List.{All}
use Rattle.std.proofs.lemmas.List.{append-nil}
use Rattle.std.proofs.lemmas.List.Elements.{All-nil, All-cons}
use Rattle.alta_content.specs.declared.content.Content.{Content}
use Rattle.alta_memlevel.specs.Added.{Added}
use Rattle.alta_content.specs.Rows.{ends_among}
use Rattle.alta_meaning.specs.Levels.{Level}
use Rattle.alta_meaning.specs.Views.{View}
use Rattle.alta_meaning.specs.Work.{Job, begun, gone, is_gone, job_of, newest, oldest_joined, whole_of, level_rows}
use Rattle.alta_content.specs.declared.document.DocRow.{DocRow}
use Rattle.alta_meaning.specs.Holding.{Holding, IsJob, IsJobOf, IsSpaced, IsWell}
use Rattle.alta_content.specs.Joining.{rows_in, joined_in}
use Rattle.alta_meaning.specs.Working.{IsJoin, AreJoins, JoinsKeep, oldest_contents, all_contents}
use Rattle.alta_meaning.proofs.KnownLaws.{all_weaker, all_both}
use Rattle.alta_meaning.proofs.KeptStates.{AreGone, gone_are}
use Rattle.alta_meaning.proofs.WellLaws.{no_job, one_job}
use Rattle.alta_content.proofs.Elements.{all_left}

all_of_rows : (P : DocRow → Type 0) (rows : List DocRow) → ((row : DocRow) → P row) → All P rows
all_of_rows P [] each = All-nil P
all_of_rows P (row ∷ rows) each = All-cons P row rows (each row) (all_of_rows P rows each)

module _ (view : View) (spaced : IsSpaced view) where
  -- a join without what is gone
  gone_join : (contents : List Content) → JoinsKeep contents → IsJoin view contents (joined_in contents (gone view))
  gone_join contents may = record {
    keeps = λ row. not (ends_among (gone view) row);
    rows = refl;
    documents = may (gone view) (gone view) (all_of_rows (λ (row : DocRow). ends_among (gone view) row ≡ true → ends_among (gone view) row ≡ true) (rows_in contents) (λ row dead. dead));
  }

  -- a job's content
  whole_join : (job : Job) → oldest_contents view ≡ job.older ∷ job.newer ∷ [] → All (λ (row : DocRow). ends_among job.dead row ≡ true → ends_among (gone view) row ≡ true) (rows_in (job.older ∷ job.newer ∷ [])) → JoinsKeep (oldest_contents view)
      → IsJoin view (oldest_contents view) (whole_of job)
  whole_join job contents dead may =
      subst (λ (cs : List Content). IsJoin view cs (whole_of job)) (sym contents) (record {
        keeps = λ row. not (ends_among job.dead row);
        rows = refl;
        documents = subst JoinsKeep contents may job.dead (gone view) dead;
      })

  job_contents : (job : Job) → IsJob job view → oldest_contents view ≡ job.older ∷ job.newer ∷ []
  job_contents job is =
      ap (λ (ls : List Level). map (λ (l : Level). l.content) (take 2 ls)) is.oldest ∙ ap (λ (c : Content). c ∷ is.newer.content ∷ []) (sym is.contents.0) ∙ ap (λ (c : Content). job.older ∷ c ∷ []) (sym is.contents.1)

  job_dead : (job : Job) → IsJob job view → All (λ (row : DocRow). ends_among job.dead row ≡ true → ends_among (gone view) row ≡ true) (rows_in (job.older ∷ job.newer ∷ []))
  job_dead job is =
      let P : DocRow → Type 0 = λ row. ends_among (gone view) row ≡ is_gone view row in
      let levels : All P (is.older.content.documents ++ (is.newer.content.documents ++ level_rows is.more)) =
      subst (λ (ls : List Level). AreGone view (gone view) (level_rows ls)) is.oldest (all_left P (level_rows view.levels) (map (λ (a : Added). a.row) (newest view)) (gone_are view spaced)) in
      let both : All P (job.older.documents ++ job.newer.documents) =
      subst (λ (c : Content). All P (c.documents ++ job.newer.documents)) (sym is.contents.0)
      (subst (λ (c : Content). All P (is.older.content.documents ++ c.documents)) (sym is.contents.1)
      (all_left P (is.older.content.documents ++ is.newer.content.documents) (level_rows is.more) (subst (All P) (sym (append_assoc is.older.content.documents is.newer.content.documents (level_rows is.more))) levels))) in
      let Q : DocRow → Type 0 = λ row. ends_among job.dead row ≡ true → ends_among (gone view) row ≡ true in
      subst (λ (rows : List DocRow). All Q (job.older.documents ++ rows)) (sym (append-nil job.newer.documents))
      (all_weaker (λ (row : DocRow). P row × (ends_among job.dead row ≡ true → is_gone view row ≡ true)) Q (job.older.documents ++ job.newer.documents) (λ row has dead. has.0 ∙ has.1 dead)
      (all_both P (λ (row : DocRow). ends_among job.dead row ≡ true → is_gone view row ≡ true) (job.older.documents ++ job.newer.documents) both is.dead))

  job_join : (job : Job) → IsJob job view → JoinsKeep (oldest_contents view) → IsJoin view (oldest_contents view) (whole_of job)
  job_join job is may = whole_join job (job_contents job is) (job_dead job is) may

  begun_join : (levels : List Level) → view.levels ≡ levels → (job : Job) → begun view levels ≡ Some job → JoinsKeep (oldest_contents view) → IsJoin view (oldest_contents view) (whole_of job)
  begun_join [] is job e may = absurd (no_job job e)
  begun_join (level ∷ []) is job e may = absurd (no_job job e)
  begun_join (older ∷ newer ∷ more) is job e may =
      let first : Job = record { older = older.content; newer = newer.content; dead = gone view; merged = 0 } in
      subst (λ (j : Job). IsJoin view (oldest_contents view) (whole_of j)) (one_job first job e)
      (whole_join first (ap (λ (ls : List Level). map (λ (l : Level). l.content) (take 2 ls)) is)
      (all_of_rows (λ (row : DocRow). ends_among (gone view) row ≡ true → ends_among (gone view) row ≡ true) (rows_in (first.older ∷ first.newer ∷ [])) (λ row dead. dead)) may)

  oldest_join : (o : Option Job) → IsJobOf o view → JoinsKeep (oldest_contents view) → IsJoin view (oldest_contents view) (oldest_joined o view)
  oldest_join None is may = gone_join (oldest_contents view) may
  oldest_join (Some job) is may = job_join job is may

  any_join : (o : Option Job) → IsJobOf o view → JoinsKeep (oldest_contents view) → (job : Job) → job_of o view ≡ Some job → IsJoin view (oldest_contents view) (whole_of job)
  any_join None is may job e = begun_join view.levels refl job e may
  any_join (Some first) is may job e = subst (λ (j : Job). IsJoin view (oldest_contents view) (whole_of j)) (one_job first job e) (job_join first is may)

pub joins_are : (held : Holding) → IsSpaced held.view → IsWell held → JoinsKeep (oldest_contents held.view) → JoinsKeep (all_contents held.view) → AreJoins held
joins_are held spaced well oldest all = record {
  oldest = oldest_join held.view spaced held.job well.job oldest;
  whole = λ job e. any_join held.view spaced held.job well.job oldest job e;
  all = gone_join held.view spaced (all_contents held.view) all;
}
