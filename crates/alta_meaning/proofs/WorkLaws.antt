-- Work on levels changes no state.
use Rattle.std.proofs.Common.{◌≡◌, ℕ, ◌+◌, [], ◌∷◌, length, take, drop, refl, sym, ap, ◌∙◌, Result, Ok, Err, take-append-drop}
use Rattle.std.specs.Prelude.{◌&&◌, ◌==◌, nat_le, Option, None, Some}
use Rattle.alta_journal.specs.declared.entry.Entry.{Entry}
use Rattle.alta_meaning.specs.Entries.{after_entry}
use Rattle.alta_meaning.specs.Views.{rooted, state_of}
use Rattle.alta_meaning.specs.Work.{Job, newest_content, gone, is_merged, job_of, oldest_joined, with_oldest, whole_of, Task, enters, flushes, merges, steps, fits, needs_raise}
use Rattle.alta_meaning.proofs.Entering.{after_more}
use Rattle.alta_meaning.proofs.Tests.{by_test}
use Rattle.alta_meaning.specs.Chain.{◌>>=◌}
use Rattle.alta_meaning.specs.Holding.{Holding, IsSpaced}
use Rattle.alta_meaning.specs.Working.{Full, switched, written, flushed, merged, moved, entered, worked, AreJoins, IsJoin, oldest_contents, all_contents, state_behind}
use Rattle.alta_meaning.proofs.JoinLaws.{join_keeps, merge_keeps}
use Rattle.alta_meaning.proofs.KeptStates.{by_levels, by_entries, written_keeps, ok_is, err_ok}
use Rattle.alta_meaning.proofs.WellLaws.{by_merged, by_room, by_raise, by_terms}
use Rattle.alta_content.specs.Joining.{joined_in, terms_in}

oldest_keeps : (limit : ℕ) (held then : Holding) → IsSpaced held.view → (job : Option Job) (is : IsJoin held.view (oldest_contents held.view) (oldest_joined held.job held.view))
    → switched limit held (with_oldest (oldest_joined held.job held.view) held.view) job ≡ Ok then → state_of then.view ≡ state_of held.view
oldest_keeps limit held then spaced job is e =
    join_keeps limit held then (take 2 held.view.levels) (drop 2 held.view.levels) (oldest_joined held.job held.view) job spaced (sym (take-append-drop 2 held.view.levels)) is e

written_all : (limit : ℕ) (held then : Holding) → IsSpaced held.view → AreJoins held → written limit held ≡ Ok then → state_of then.view ≡ state_of held.view
written_all limit held then spaced joins e =
    by_test (length held.view.levels == 16 && nat_le 1 (length (newest_content held.view).documents))
    (λ many. oldest_keeps limit held then spaced None joins.oldest (sym (ap (by_levels limit held) many) ∙ e))
    (λ few. written_keeps limit held then spaced few e)

flush_all : (limit : ℕ) (held then : Holding) → IsSpaced held.view → AreJoins held → flushed limit held ≡ Ok then → state_of then.view ≡ state_of held.view
flush_all limit held then spaced joins e =
    by_test (length held.view.entries == 0) (λ none. ap (λ (h : Holding). state_of h.view) (sym (ok_is held then (sym (ap (by_entries limit held) none) ∙ e))))
    (λ some. written_all limit held then spaced joins (sym (ap (by_entries limit held) some) ∙ e))

merge_all : (limit : ℕ) (held then : Holding) → IsSpaced held.view → AreJoins held → merged limit held ≡ Ok then → state_of then.view ≡ state_of held.view
merge_all limit held then spaced joins e =
    by_test (is_merged held.view) (λ none. ap (λ (h : Holding). state_of h.view) (sym (ok_is held then (sym (ap (by_merged limit held) none) ∙ e))))
    (λ some. merge_keeps limit held then (joined_in (all_contents held.view) (gone held.view)) None spaced joins.all (sym (ap (by_merged limit held) some) ∙ e))

move_all : (limit : ℕ) (held : Holding) (n : ℕ) (job : Option Job) (then : Holding) → IsSpaced held.view → ((j : Job) → job ≡ Some j → IsJoin held.view (oldest_contents held.view) (whole_of j)) → moved limit held n job ≡ Ok then
    → state_of then.view ≡ state_of held.view
move_all limit held n None then spaced joins e = ap (λ (h : Holding). state_of h.view) (sym (ok_is held then e))
move_all limit held n (Some job) then spaced joins e =
    by_test (nat_le (length (terms_in (job.older ∷ job.newer ∷ []))) (job.merged + n))
    (λ ends. join_keeps limit held then (take 2 held.view.levels) (drop 2 held.view.levels) (whole_of job) None spaced (sym (take-append-drop 2 held.view.levels)) (joins job refl) (sym (ap (by_terms limit held n job) ends) ∙ e))
    (λ goes_on. ap (λ (h : Holding). state_of h.view)
    (sym (ok_is (record { view = held.view; list = held.list; job = Some (record { older = job.older; newer = job.newer; dead = job.dead; merged = job.merged + n }) }) then (sym (ap (by_terms limit held n job) goes_on) ∙ e))))

entered_state : (held : Holding) (entry : Entry) → state_of (entered held entry).view ≡ after_entry (state_of held.view) entry
entered_state held entry = after_more (rooted held.view) held.view.entries entry

-- what is held behind a task stands for the state behind it
pub work_keeps : (limit : ℕ) (held then : Holding) (task : Task) → IsSpaced held.view → AreJoins held → worked limit held task ≡ Ok then → state_of then.view ≡ state_behind task (state_of held.view)
work_keeps limit held then (enters entry) spaced joins e =
    by_test (needs_raise held.view.version entry)
    (λ raise. by_switch (written limit held) (λ middle is. written_all limit held middle spaced joins is) (sym (ap (by_raise limit held entry) raise) ∙ e))
    (λ still. by_test (fits held.view.entries entry)
    (λ room. ap (λ (h : Holding). state_of h.view) (sym (ok_is (entered held entry) then (sym (ap (by_raise limit held entry) still ∙ ap (by_room limit held entry) room) ∙ e))) ∙ entered_state held entry)
    (λ none. by_switch (flushed limit held) (λ middle is. flush_all limit held middle spaced joins is) (sym (ap (by_raise limit held entry) still ∙ ap (by_room limit held entry) none) ∙ e)))
  where
    by_switch : (r : Result Holding Full) → ((middle : Holding) → r ≡ Ok middle → state_of middle.view ≡ state_of held.view) → (r >>= λ then. Ok (entered then entry)) ≡ Ok then → state_of then.view ≡ after_entry (state_of held.view) entry
    by_switch (Ok middle) is e = ap (λ (h : Holding). state_of h.view) (sym (ok_is (entered middle entry) then e)) ∙ entered_state middle entry ∙ ap (λ s. after_entry s entry) (is middle refl)
    by_switch (Err full) is e = absurd (err_ok then full e)
work_keeps limit held then flushes spaced joins e = flush_all limit held then spaced joins e
work_keeps limit held then merges spaced joins e = merge_all limit held then spaced joins e
work_keeps limit held then (steps n) spaced joins e = move_all limit held n (job_of held.job held.view) then spaced joins.whole e
