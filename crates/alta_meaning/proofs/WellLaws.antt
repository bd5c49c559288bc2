-- What a store holds stays well formed.
use Rattle.std.proofs.Common.{◌≡◌, ⊎_elim, ℕ, ◌+◌, ◌<◌, Bool, true, false, cond, List, [], ◌∷◌, ◌++◌, length, map, refl, sym, ap, subst, ◌∙◌, arith, Result, Ok, Err, append_assoc}
use Rattle.std.specs.Prelude.{not, ◌&&◌, ◌||◌, ◌==◌, ◌↔◌, nat_le, Option, None, Some}
use Rattle.std.specs.List.{All, filter, list_any}
use Rattle.std.specs.Str.{bytes_eq}
use Rattle.std.proofs.lemmas.Bool.{cases_lt, le-leb, false≢true}
use Rattle.std.proofs.lemmas.List.Elements.{All-append, All-filter}
use Rattle.std.proofs.lemmas.List.Folds.{list_any-append}
use Rattle.alta_codec.specs.declared.extent.Extent.{Extent}
use Rattle.alta_journal.specs.declared.entry.Entry.{Entry}
use Rattle.alta_content.specs.declared.content.Content.{Content}
use Rattle.alta_memlevel.specs.Added.{Added}
use Rattle.alta_content.specs.Rows.{ends_among}
use Rattle.alta_postings.specs.Deltas.{stream_bytes}
use Rattle.alta_root.specs.Root.{no_extent}
use Rattle.alta_meaning.specs.Levels.{Level}
use Rattle.alta_meaning.specs.Views.{View}
use Rattle.alta_meaning.specs.Work.{Job, Coming, stays, coming, newest, newest_content, gone, gone_among, is_gone, is_merged, leaves_out, job_of, begun, oldest_joined, with_oldest, whole_of, level_rows, Task, enters, flushes, merges, steps, fits, needs_raise}
use Rattle.alta_meaning.proofs.Tests.{by_test, bytes_from, equal_from}
use Rattle.alta_content.specs.declared.document.DocRow.{DocRow}
use Rattle.alta_meaning.specs.Chain.{◌>>=◌}
use Rattle.alta_root.specs.Gaps.{first_gap, greatest_gap}
use Rattle.alta_meaning.specs.Holding.{Holding, IsJob, IsJobOf, IsSpaced, IsWell, taken_by_held}
use Rattle.alta_meaning.specs.Ordered.{RowsPrecede}
use Rattle.alta_meaning.specs.Working.{Full, Placed, in_front, placed, placed_at, placed_levels, placed_list, switched, written, flushed, merged, stepped, moved, entered, worked}
use Rattle.alta_content.specs.Joining.{rows_in, joined_in, terms_in}
use Rattle.alta_root.proofs.GapFunctions.{first_some}
use Rattle.alta_meaning.proofs.KnownLaws.{all_weaker, all_both}
use Rattle.alta_meaning.proofs.PlaceLaws.{flush_rows}
use Rattle.alta_meaning.proofs.KeptStates.{AreGone, IsFilled, IsSwitched, switched_is, placed_contents, flush_contents, live_rows_are, rise_some, ends_kept, gone_are, by_levels, by_entries, rows_by_levels, ok_is, err_ok}
use Rattle.alta_content.proofs.Elements.{all_left, all_right}
use Rattle.alta_memlevel.specs.Documents.{content_of}

-- ---- the list

abbrev IsListed : Extent → List ℕ → Type 0
IsListed list deleted = (list ≡ no_extent) ↔ (deleted ≡ [])

pub none_left : (deleted : List ℕ) → (length deleted == 0) ≡ true → deleted ≡ []
none_left [] e = refl
none_left (d ∷ ds) e = absurd (omega (arith, equal_from (length (d ∷ ds)) 0 e))

some_left : (deleted : List ℕ) → (length deleted == 0) ≡ false → deleted ≡ [] → ⊥
some_left deleted some e = false≢true (sym some ∙ ap (λ (ds : List ℕ). length ds == 0) e)

placed_listed : (taken : List Extent) (bytes limit : ℕ) (list : Extent) (deleted : List ℕ) → placed taken bytes limit ≡ Ok list → (deleted ≡ [] → ⊥) → IsListed list deleted
placed_listed taken bytes limit list deleted e some = by_gap (first_gap taken bytes limit) refl e
  where
    by_gap : (o : Option ℕ) → first_gap taken bytes limit ≡ o → placed_at taken bytes limit o ≡ Ok list → (list ≡ no_extent) ↔ (deleted ≡ [])
    by_gap None is e = absurd (err_ok list (record { need = bytes; gap = greatest_gap taken limit }) e)
    by_gap (Some at) is e =
        let place : at ≡ list.place = ap (λ (x : Extent). x.place) (ok_is (record { place = at; bytes = bytes }) list e) in
        ((λ none. let zero : list.place ≡ 0 = ap (λ (x : Extent). x.place) none in absurd (omega (arith, place, zero, (first_some taken bytes limit at is).gap.behind))), (λ empty. absurd (some empty)))

abbrev pub by_none : ℕ → List Extent → List ℕ → Bool → Result Extent Full
by_none limit taken deleted b = cond b (Ok no_extent) (placed taken (length (stream_bytes 0 deleted)) limit)

abbrev pub by_same : ℕ → Holding → List Extent → List ℕ → Bool → Result Extent Full
by_same limit held taken deleted b = cond b (Ok held.list) (by_none limit taken deleted (length deleted == 0))

list_listed : (limit : ℕ) (held : Holding) (taken : List Extent) (deleted : List ℕ) (list : Extent) → IsListed held.list held.view.deleted → placed_list limit held taken deleted ≡ Ok list → IsListed list deleted
list_listed limit held taken deleted list listed e =
    by_test (bytes_eq deleted held.view.deleted)
    (λ same.
    let list_is : held.list ≡ list = ok_is held.list list (sym (ap (by_same limit held taken deleted) same) ∙ e) in
    subst (λ (x : Extent). (x ≡ no_extent) ↔ (deleted ≡ [])) list_is (subst (λ (ds : List ℕ). (held.list ≡ no_extent) ↔ (ds ≡ [])) (sym (bytes_from deleted held.view.deleted same)) listed))
    (λ other. by_test (length deleted == 0)
    (λ none.
    let list_is : no_extent ≡ list = ok_is no_extent list (sym (ap (by_same limit held taken deleted) other ∙ ap (by_none limit taken deleted) none) ∙ e) in
    ((λ _. none_left deleted none), (λ _. sym list_is)))
    (λ some. placed_listed taken (length (stream_bytes 0 deleted)) limit list deleted (sym (ap (by_same limit held taken deleted) other ∙ ap (by_none limit taken deleted) some) ∙ e) (some_left deleted some)))

-- ---- a switch

switched_listed : (limit : ℕ) (held : Holding) (levels : List Coming) (job : Option Job) (then : Holding) → IsWell held → (is : IsSwitched limit held levels job then) → IsListed then.list then.view.deleted
switched_listed limit held levels job then well is =
    subst (λ (h : Holding). IsListed h.list h.view.deleted) (sym is.then_is)
    (list_listed limit held is.now.taken (gone_among held.view (level_rows is.now.levels)) is.list well.listed is.list_is)

-- one that ends its job
switched_well : (limit : ℕ) (held : Holding) (levels : List Coming) (then : Holding) → IsWell held → switched limit held levels None ≡ Ok then → IsWell then
switched_well limit held levels then well e =
    let is = switched_is limit held levels None then e in
    record { listed = switched_listed limit held levels None then well is; job = subst (λ (h : Holding). IsJobOf h.job h.view) (sym is.then_is) tt }

-- levels that stay are the first
record StayInFront (levels : List Level) (now : Placed) : Type 0 where
  behind : List Level
  levels_are : now.levels ≡ levels ++ behind

placed_stay : (limit : ℕ) (taken : List Extent) (levels : List Level) (more : List Coming) (now : Placed) → placed_levels limit taken (map stays levels ++ more) ≡ Ok now → StayInFront levels now
placed_stay limit taken [] more now e = record { behind = now.levels; levels_are = refl }
placed_stay limit taken (level ∷ levels) more now e = by_rest limit taken level levels more now (placed_levels limit taken (map stays levels ++ more)) (λ rest is. placed_stay limit taken levels more rest is) refl e
  where
    by_rest : (limit : ℕ) (taken : List Extent) (level : Level) (levels : List Level) (more : List Coming) (now : Placed) (r : Result Placed Full) → ((rest : Placed) → placed_levels limit taken (map stays levels ++ more) ≡ Ok rest → StayInFront levels rest)
        → placed_levels limit taken (map stays levels ++ more) ≡ r → (r >>= λ rest. Ok (in_front level rest)) ≡ Ok now → StayInFront (level ∷ levels) now
    by_rest limit taken level levels more now (Ok rest) go_on is e =
        let front = go_on rest is in
        record { behind = front.behind; levels_are = ap (λ (p : Placed). p.levels) (sym (ok_is (in_front level rest) now e)) ∙ ap (λ (ls : List Level). level ∷ ls) front.levels_are }
    by_rest limit taken level levels more now (Err full) go_on is e = absurd (err_ok now full e)

-- ---- the job of a flush that joins no levels

flush_gone : (view : View) → IsSpaced view → AreGone view (gone_among view (rows_in (flush_contents view))) (rows_in (flush_contents view))
flush_gone view spaced =
    let news = map (λ (a : Added). a.row) (newest view) in
    let live : DocRow → Bool = λ r. not (ends_among (gone view) r) in
    let rows : rows_in (flush_contents view) ≡ level_rows view.levels ++ filter live news = flush_rows view ∙ ap (λ (rs : List DocRow). level_rows view.levels ++ rs) (live_rows_are view spaced) in
    ends_kept (is_gone view) [] (rows_in (flush_contents view)) (subst RowsPrecede (sym rows) (rise_some live (level_rows view.levels) news spaced.rise))
    (subst (All IsFilled) (sym rows) (All-append IsFilled (level_rows view.levels) (filter live news) (all_left IsFilled (level_rows view.levels) news spaced.filled) (All-filter live IsFilled news (all_right IsFilled (level_rows view.levels) news spaced.filled))))

or_false : (b : Bool) → (b || false) ≡ b
or_false true = refl
or_false false = refl

flush_job : (limit : ℕ) (held : Holding) (job : Job) (then : Holding) → IsSpaced held.view → IsJob job held.view → IsSwitched limit held (map stays held.view.levels ++ coming (newest_content held.view)) (Some job) then → IsJob job then.view
flush_job limit held job then spaced is_job is =
    let view = held.view in
    let front = placed_stay limit (taken_by_held held) view.levels (coming (newest_content view)) is.now is.placed_is in
    let levels : is.now.levels ≡ is_job.older ∷ is_job.newer ∷ (is_job.more ++ front.behind) = front.levels_are ∙ ap (λ (ls : List Level). ls ++ front.behind) is_job.oldest in
    let rows : level_rows is.now.levels ≡ rows_in (flush_contents view) =
    sym (rows_by_levels is.now.levels) ∙ ap rows_in (placed_contents limit (taken_by_held held) (map stays view.levels ++ coming (newest_content view)) is.now is.placed_is) in
    let ends = gone_among view (level_rows is.now.levels) in
    let are : AreGone view ends (level_rows is.now.levels) = subst (λ (rs : List DocRow). AreGone view (gone_among view rs) rs) (sym rows) (flush_gone view spaced) in
    let split : AreGone view ends (job.older.documents ++ (job.newer.documents ++ level_rows (is_job.more ++ front.behind))) =
    subst (λ (c : Content). AreGone view ends (c.documents ++ (job.newer.documents ++ level_rows (is_job.more ++ front.behind)))) (sym is_job.contents.0)
    (subst (λ (c : Content). AreGone view ends (is_job.older.content.documents ++ (c.documents ++ level_rows (is_job.more ++ front.behind)))) (sym is_job.contents.1)
    (subst (λ (ls : List Level). AreGone view ends (level_rows ls)) levels are)) in
    let P : DocRow → Type 0 = λ row. ends_among ends row ≡ is_gone view row in
    let oldest : All P (job.older.documents ++ job.newer.documents) =
    all_left P (job.older.documents ++ job.newer.documents) (level_rows (is_job.more ++ front.behind))
    (subst (All P) (sym (append_assoc job.older.documents job.newer.documents (level_rows (is_job.more ++ front.behind)))) split) in
    subst (λ (h : Holding). IsJob job h.view) (sym is.then_is) (record {
      older = is_job.older;
      newer = is_job.newer;
      more = is_job.more ++ front.behind;
      oldest = levels;
      contents = is_job.contents;
      left = is_job.left;
      dead =
          all_weaker (λ (row : DocRow). (ends_among ends row ≡ is_gone view row) × (ends_among job.dead row ≡ true → is_gone view row ≡ true)) (λ (row : DocRow). ends_among job.dead row ≡ true → (ends_among ends row || false) ≡ true)
          (job.older.documents ++ job.newer.documents) (λ row both dead. or_false (ends_among ends row) ∙ both.0 ∙ both.1 dead)
          (all_both P (λ (row : DocRow). ends_among job.dead row ≡ true → is_gone view row ≡ true) (job.older.documents ++ job.newer.documents) oldest is_job.dead);
    })

-- ---- the calls

abbrev pub all_of : View → Content
all_of view = joined_in (map (λ (l : Level). l.content) view.levels ++ content_of (newest view) ∷ []) (gone view)

abbrev pub by_merged : ℕ → Holding → Bool → Result Holding Full
by_merged limit held b = cond b (Ok held) (switched limit held (coming (all_of held.view)) None)

pub no_job : (job : Job) → ◌≡◌ {A = Option Job} None (Some job) → ⊥
no_job job e = absurd cc

pub one_job : (a b : Job) → ◌≡◌ {A = Option Job} (Some a) (Some b) → a ≡ b
one_job a b e = cc

pub written_well : (limit : ℕ) (held then : Holding) → IsSpaced held.view → IsWell held → written limit held ≡ Ok then → IsWell then
written_well limit held then spaced well e =
    let view = held.view in
    by_test (length view.levels == 16 && nat_le 1 (length (newest_content view).documents))
    (λ many. switched_well limit held (with_oldest (oldest_joined held.job view) view) then well (sym (ap (by_levels limit held) many) ∙ e))
    (λ few.
    let is = switched_is limit held (map stays view.levels ++ coming (newest_content view)) held.job then (sym (ap (by_levels limit held) few) ∙ e) in
    record { listed = switched_listed limit held (map stays view.levels ++ coming (newest_content view)) held.job then well is; job = by_job limit held then spaced held.job refl well.job is })
  where
    by_job : (limit : ℕ) (held then : Holding) → IsSpaced held.view → (job : Option Job) → held.job ≡ job → IsJobOf held.job held.view
        → IsSwitched limit held (map stays held.view.levels ++ coming (newest_content held.view)) held.job then → IsJobOf then.job then.view
    by_job limit held then spaced None none is_job is = subst (λ (o : Option Job). IsJobOf o then.view) (sym (ap (λ (h : Holding). h.job) is.then_is ∙ none)) tt
    by_job limit held then spaced (Some job) some is_job is =
        subst (λ (o : Option Job). IsJobOf o then.view) (sym (ap (λ (h : Holding). h.job) is.then_is ∙ some))
        (flush_job limit held job then spaced (subst (λ (o : Option Job). IsJobOf o held.view) some is_job) (subst (λ (o : Option Job). IsSwitched limit held (map stays held.view.levels ++ coming (newest_content held.view)) o then) some is))

flush_well : (limit : ℕ) (held then : Holding) → IsSpaced held.view → IsWell held → flushed limit held ≡ Ok then → IsWell then
flush_well limit held then spaced well e =
    by_test (length held.view.entries == 0) (λ none. subst IsWell (ok_is held then (sym (ap (by_entries limit held) none) ∙ e)) well)
    (λ some. written_well limit held then spaced well (sym (ap (by_entries limit held) some) ∙ e))

merge_well : (limit : ℕ) (held then : Holding) → IsWell held → merged limit held ≡ Ok then → IsWell then
merge_well limit held then well e =
    by_test (is_merged held.view) (λ none. subst IsWell (ok_is held then (sym (ap (by_merged limit held) none) ∙ e)) well)
    (λ some. switched_well limit held (coming (all_of held.view)) then well (sym (ap (by_merged limit held) some) ∙ e))

-- a job over the two oldest levels that begins is one
begun_is : (view : View) → IsSpaced view → (levels : List Level) → view.levels ≡ levels → (job : Job) → begun view levels ≡ Some job → 0 < length (terms_in (job.older ∷ job.newer ∷ [])) → IsJob job view
begun_is view spaced [] is job e left = absurd (no_job job e)
begun_is view spaced (level ∷ []) is job e left = absurd (no_job job e)
begun_is view spaced (older ∷ newer ∷ more) is job e left =
    subst (λ (j : Job). 0 < length (terms_in (j.older ∷ j.newer ∷ [])) → IsJob j view) (one_job (record { older = older.content; newer = newer.content; dead = gone view; merged = 0 }) job e)
    (λ left. record {
      older = older;
      newer = newer;
      more = more;
      oldest = is;
      contents = (refl, refl);
      left = left;
      dead =
          all_weaker (λ (row : DocRow). ends_among (gone view) row ≡ is_gone view row) (λ (row : DocRow). ends_among (gone view) row ≡ true → is_gone view row ≡ true) (older.content.documents ++ newer.content.documents)
          (λ row same dead. sym same ∙ dead)
          (all_left (λ (row : DocRow). ends_among (gone view) row ≡ is_gone view row) (older.content.documents ++ newer.content.documents) (level_rows more)
          (subst (AreGone view (gone view)) (sym (append_assoc older.content.documents newer.content.documents (level_rows more)))
          (subst (λ (ls : List Level). AreGone view (gone view) (level_rows ls)) is (all_left (λ (row : DocRow). ends_among (gone view) row ≡ is_gone view row) (level_rows view.levels) (map (λ (a : Added). a.row) (newest view)) (gone_are view spaced)))));
    }) left

-- ---- a step

abbrev pub by_terms : ℕ → Holding → ℕ → Job → Bool → Result Holding Full
by_terms limit held n job b =
    cond b (switched limit held (with_oldest (whole_of job) held.view) None)
    (Ok (record { view = held.view; list = held.list; job = Some (record { older = job.older; newer = job.newer; dead = job.dead; merged = job.merged + n }) }))

-- a job that may go on, but for the terms that are left
MayGoOn : Job → View → Type 0
MayGoOn job view = (more : ℕ) → more < length (terms_in (job.older ∷ job.newer ∷ [])) → IsJob (record { older = job.older; newer = job.newer; dead = job.dead; merged = more }) view

left_from : (a b : ℕ) → nat_le a b ≡ false → b < a
left_from a b e = ⊎_elim (λ below. below) (λ above. absurd (false≢true (sym e ∙ le-leb a b above))) (cases_lt b a)

move_well : (limit : ℕ) (held : Holding) (n : ℕ) (job : Option Job) (then : Holding) → IsWell held → ((j : Job) → job ≡ Some j → MayGoOn j held.view) → moved limit held n job ≡ Ok then → IsWell then
unfolding MayGoOn
move_well limit held n None then well may e = subst IsWell (ok_is held then e) well
move_well limit held n (Some job) then well may e =
    by_test (nat_le (length (terms_in (job.older ∷ job.newer ∷ []))) (job.merged + n))
    (λ ends. switched_well limit held (with_oldest (whole_of job) held.view) then well (sym (ap (by_terms limit held n job) ends) ∙ e))
    (λ goes_on. subst IsWell
    (ok_is (record { view = held.view; list = held.list; job = Some (record { older = job.older; newer = job.newer; dead = job.dead; merged = job.merged + n }) }) then (sym (ap (by_terms limit held n job) goes_on) ∙ e))
    (record { listed = well.listed; job = may job refl (job.merged + n) (left_from (length (terms_in (job.older ∷ job.newer ∷ []))) (job.merged + n) goes_on) }))

go_on : (job : Job) (view : View) → IsJob job view → MayGoOn job view
unfolding MayGoOn
go_on job view is more left = record { older = is.older; newer = is.newer; more = is.more; oldest = is.oldest; contents = is.contents; left = left; dead = is.dead }

begun_goes_on : (view : View) → IsSpaced view → (job : Job) → begun view view.levels ≡ Some job → MayGoOn job view
unfolding MayGoOn
begun_goes_on view spaced job e more left = go_on job view (begun_is view spaced view.levels refl job e (omega (arith, left))) more left

step_well : (limit : ℕ) (held : Holding) (n : ℕ) (then : Holding) → IsSpaced held.view → IsWell held → stepped limit held n ≡ Ok then → IsWell then
step_well limit held n then spaced well e = move_well limit held n (job_of held.job held.view) then well (by_job held.job refl) e
  where
    by_job : (o : Option Job) → held.job ≡ o → (j : Job) → job_of held.job held.view ≡ Some j → MayGoOn j held.view
    by_job None none j is = begun_goes_on held.view spaced j (sym (ap (λ (o : Option Job). job_of o held.view) none) ∙ is)
    by_job (Some job) some j is =
        subst (λ (x : Job). MayGoOn x held.view) (one_job job j (sym (ap (λ (o : Option Job). job_of o held.view) some) ∙ is)) (go_on job held.view (subst (λ (o : Option Job). IsJobOf o held.view) some well.job))

-- ---- an entry

gone_still : (view : View) (entry : Entry) (row : DocRow) → is_gone view row ≡ true → (ends_among view.deleted row || list_any (leaves_out row.number) (view.entries ++ entry ∷ [])) ≡ true
gone_still view entry row is =
    ap (λ b. ends_among view.deleted row || b) (list_any-append (leaves_out row.number) view.entries (entry ∷ []))
    ∙ or_more (ends_among view.deleted row) (list_any (leaves_out row.number) view.entries) (list_any (leaves_out row.number) (entry ∷ [])) is
  where
    or_more : (a b c : Bool) → (a || b) ≡ true → (a || (b || c)) ≡ true
    or_more true b c e = refl
    or_more false true c e = refl
    or_more false false c e = absurd (false≢true e)

enter_well : (held : Holding) (entry : Entry) → IsWell held → IsWell (entered held entry)
enter_well held entry well = record { listed = well.listed; job = by_job held entry held.job refl well.job }
  where
    by_job : (held : Holding) (entry : Entry) (o : Option Job) → held.job ≡ o → IsJobOf held.job held.view → IsJobOf held.job (entered held entry).view
    by_job held entry None none is = subst (λ (o : Option Job). IsJobOf o (entered held entry).view) (sym none) tt
    by_job held entry (Some job) some is =
        let here : IsJob job held.view = subst (λ (o : Option Job). IsJobOf o held.view) some is in
        subst (λ (o : Option Job). IsJobOf o (entered held entry).view) (sym some) (record {
          older = here.older;
          newer = here.newer;
          more = here.more;
          oldest = here.oldest;
          contents = here.contents;
          left = here.left;
          dead =
              all_weaker (λ (row : DocRow). ends_among job.dead row ≡ true → is_gone held.view row ≡ true)
              (λ (row : DocRow). ends_among job.dead row ≡ true → (ends_among held.view.deleted row || list_any (leaves_out row.number) (held.view.entries ++ entry ∷ [])) ≡ true) (job.older.documents ++ job.newer.documents)
              (λ row gone_row dead. gone_still held.view entry row (gone_row dead)) here.dead;
        })

abbrev pub by_room : ℕ → Holding → Entry → Bool → Result Holding Full
by_room limit held entry b = cond b (Ok (entered held entry)) (flushed limit held >>= λ then. Ok (entered then entry))

abbrev pub by_raise : ℕ → Holding → Entry → Bool → Result Holding Full
by_raise limit held entry b = cond b (written limit held >>= λ then. Ok (entered then entry)) (by_room limit held entry (fits held.view.entries entry))

-- what a task makes of what is held is well formed
pub work_well : (limit : ℕ) (held then : Holding) (task : Task) → IsSpaced held.view → IsWell held → worked limit held task ≡ Ok then → IsWell then
work_well limit held then (enters entry) spaced well e =
    by_test (needs_raise held.view.version entry)
    (λ raise. by_switch (written limit held) (λ middle is. written_well limit held middle spaced well is) (sym (ap (by_raise limit held entry) raise) ∙ e))
    (λ still. by_test (fits held.view.entries entry)
    (λ room. subst IsWell (ok_is (entered held entry) then (sym (ap (by_raise limit held entry) still ∙ ap (by_room limit held entry) room) ∙ e)) (enter_well held entry well))
    (λ none. by_switch (flushed limit held) (λ middle is. flush_well limit held middle spaced well is) (sym (ap (by_raise limit held entry) still ∙ ap (by_room limit held entry) none) ∙ e)))
  where
    by_switch : (r : Result Holding Full) → ((middle : Holding) → r ≡ Ok middle → IsWell middle) → (r >>= λ then. Ok (entered then entry)) ≡ Ok then → IsWell then
    by_switch (Ok middle) is e = subst IsWell (ok_is (entered middle entry) then e) (enter_well middle entry (is middle refl))
    by_switch (Err full) is e = absurd (err_ok then full e)
work_well limit held then flushes spaced well e = flush_well limit held then spaced well e
work_well limit held then merges spaced well e = merge_well limit held then well e
work_well limit held then (steps n) spaced well e = step_well limit held n then spaced well e
