-- Laws of what lines do to levels.
use Rattle.std.proofs.Common.{◌≡◌, ℕ, List, Result, Ok, Err, refl, subst, sym, ◌∙◌}
use Rattle.std.specs.Prelude.{IfErr, IfOk, Option, Some}
use Rattle.alta_disk.specs.Disk.{DiskState}
use Rattle.alta_meaning.specs.Broken.{IsBrokenAmong}
use Rattle.alta_meaning.specs.Opened.{Opened, IsOpened}
use Rattle.alta_meaning.specs.Work.{Task}
use Rattle.alta_machine.specs.declared.document.State.{State}
use Rattle.std.proofs.lemmas.Result.{IfOk-weaker}
use Rattle.alta_machine.specs.Lines.{Reading, asks, refuses, reading_of}
use Rattle.alta_replies.specs.Replies.{IsReply}
use Rattle.alta_session.specs.Joining.{IdlesIn, FindsNoPlace, Works, joins_where}
use Rattle.alta_machine.specs.Command.{Command, adds, deletes, searches, counts, explains, opens, fetches, closes, ranks, flushes, merges, steps, asks_stats, dumps}
use Rattle.alta_machine.specs.Machine.{Machine, SearchesIn, answered, started_at, step}
use Rattle.alta_session.specs.Agreement.{SpeaksOn}
use Rattle.alta_session.specs.Answering.{CanAnswer}
use Rattle.alta_session.specs.Spending.{OnlyReads, ReadsIn}
use Rattle.alta_session.specs.declared.session.Session.{Session}
use Rattle.alta_store.proofs.Agreements.{knows_spoken}
use Rattle.alta_session.specs.Tasks.{task_in}
use Rattle.alta_store.specs.Agreement.{Knows}
use Rattle.alta_store.specs.Calls.{Becomes, joined_by}
use Rattle.alta_store.specs.declared.fault.StoreFault.{StoreFault}
use Rattle.alta_store.specs.declared.fault.StoreFault.TheVariants.{Damaged, Full, Memory}
use Rattle.alta_store.specs.declared.store.Store.{Store}
use Rattle.alta_session.proofs.AnsweringLaws.{is_memory}

-- what a line that may change the index is answered with
abbrev pub HasReply : Store → Reading → Result (List ℕ) StoreFault → Type 0
HasReply store reading result = ¬ (ReadsIn reading) → (m : Machine) → Knows store m.state → IfOk result (λ reply. reply ≡ (answered m reading).1)

pub reply_by : (store : Store) (reading : Reading) (result : Result (List ℕ) StoreFault) (text : List ℕ) → IsReply text result → ((m : Machine) → Knows store m.state → (answered m reading).1 ≡ text) → HasReply store reading result
reply_by store reading result text replied is = λ changes m knows. IfOk-weaker result (λ r. r ≡ text) (λ r. r ≡ (answered m reading).1) (λ r here. here ∙ sym (is m knows)) replied.reply

-- what a line is answered with that may change the index, where the disk may speak of the machine's state
pub line_says : (tells : Type 0) (disk : DiskState) (session : Session) (m : Machine) (line reply : List ℕ) → CanAnswer tells disk session → SpeaksOn tells disk session m → HasReply session.store (reading_of line) (Ok reply) → tells → ¬ (OnlyReads line) → reply ≡ (step m line).1
unfolding OnlyReads step
line_says tells disk session m line reply can speaks has told changes = has changes m (knows_spoken tells disk session.store can.agrees m.state told (speaks.speaks told))

-- a line that only reads has none of these
pub reply_unsaid : (store : Store) (line : List ℕ) (reading : Reading) (result : Result (List ℕ) StoreFault) → reading_of line ≡ reading → ReadsIn reading → HasReply store (reading_of line) result
reply_unsaid store line reading result is reads = λ changes. absurd (changes (subst ReadsIn (sym is) reads))

-- a line that searches changes none
pub searches_reads : (reading : Reading) → SearchesIn reading → ReadsIn reading
searches_reads (refuses fault) none = absurd none
searches_reads (asks command) search = which command search
  where
    which : (command : Command) → SearchesIn (asks command) → ReadsIn (asks command)
    which (adds name title body) none = absurd none
    which (deletes name) none = absurd none
    which (searches text) here = tt
    which (counts text) here = tt
    which (explains text) none = absurd none
    which (opens text) here = tt
    which (fetches cursor count) none = absurd none
    which (closes cursor) none = absurd none
    which (ranks count text) here = tt
    which flushes none = absurd none
    which merges none = absurd none
    which (steps count) none = absurd none
    which asks_stats none = absurd none
    which dumps here = tt

-- no disk was called, and memory alone may have been wanting
pub works_still : {D : Type 0} (tells : Type 0) (state : D → DiskState) (disk : D) (store : Store) (reading : Reading) (result : Result (List ℕ) StoreFault) → IfErr result (λ e. e ≡ Memory) → HasReply store reading result → Works tells state disk disk store reading result
works_still tells state disk store reading result memory told = record {
  joins = λ other s place knows tell is. let wanting : Damaged place ≡ Memory = is_memory result (Damaged place) memory is in absurd cc;
  lacks = λ s o need gap knows tell opened is. let wanting : Full need gap ≡ Memory = is_memory result (Full need gap) memory is in absurd cc;
  idle = λ idle. (refl, memory);
  replies = told;
}

-- it was done, and memory alone may have been wanting behind it
pub works_done : {D : Type 0} (tells : Type 0) (state : D → DiskState) (disk disk_now : D) (store : Store) (reading : Reading) (result : Result (List ℕ) StoreFault) → IfErr result (λ e. e ≡ Memory) → (IdlesIn store reading → disk_now ≡ disk) → HasReply store reading result → Works tells state disk disk_now store reading result
works_done tells state disk disk_now store reading result memory idle told = record {
  joins = λ other s place knows tell is. let wanting : Damaged place ≡ Memory = is_memory result (Damaged place) memory is in absurd cc;
  lacks = λ s o need gap knows tell opened is. let wanting : Full need gap ≡ Memory = is_memory result (Full need gap) memory is in absurd cc;
  idle = λ here. (idle here, memory);
  replies = told;
}

-- what is done has not failed
pub failed_done : {T : Type 0} {x : T} (fault : StoreFault) (result : Result T StoreFault) → result ≡ Err fault → result ≡ Ok x → ⊥
failed_done fault result is done = cc

-- it searches
pub works_searching : {D : Type 0} (tells : Type 0) (state : D → DiskState) (disk disk_now : D) (store : Store) (reading : Reading) (result : Result (List ℕ) StoreFault) → SearchesIn reading → ((need gap : ℕ) → result ≡ Err (Full need gap) → ⊥) → (IdlesIn store reading → ⊥) → Works tells state disk disk_now store reading result
works_searching tells state disk disk_now store reading result search not_full busy = record {
  joins = λ other s place knows tell is. absurd (other search);
  lacks = λ s o need gap knows tell opened is. absurd (not_full need gap is);
  idle = λ here. absurd (busy here);
  replies = λ changes. absurd (changes (searches_reads reading search));
}

-- it failed
pub works_failed : {D : Type 0} (tells : Type 0) (state : D → DiskState) (disk disk_now : D) (store : Store) (reading : Reading) (fault : StoreFault) → ((s : State) (place : ℕ) → Knows store s → tells → fault ≡ Damaged place → IsBrokenAmong (joins_where store (task_in (started_at s) reading)) (state disk).content place)
    → ((s : State) (o : Opened) (need gap : ℕ) → Knows store s → tells → IsOpened o (state disk).content → fault ≡ Full need gap → FindsNoPlace (state disk).limit (state disk).content store (task_in (started_at s) reading) o need gap) → (IdlesIn store reading → ⊥)
    → Works tells state disk disk_now store reading (Err fault)
works_failed tells state disk disk_now store reading fault broken lacks busy = record {
  joins = λ other s place knows tell is. let same : fault ≡ Damaged place = cc in broken s place knows tell same;
  lacks = λ s o need gap knows tell opened is. let same : fault ≡ Full need gap = cc in lacks s o need gap knows tell opened same;
  idle = λ here. absurd (busy here);
  replies = λ changes m knows. tt;
}

-- the levels of the task that is asked
pub joins_task : (store : Store) (image : List ℕ) (place : ℕ) (asked : Option Task) (task : Task) → asked ≡ Some task → IsBrokenAmong (joined_by store task) image place → IsBrokenAmong (joins_where store asked) image place
joins_task store image place asked task is broken = subst (λ (t : Option Task). IsBrokenAmong (joins_where store t) image place) (sym is) broken

-- the want of the task that is asked
pub lacks_task : (limit : ℕ) (image : List ℕ) (store : Store) (o : Opened) (need gap : ℕ) (asked : Option Task) (task : Task) → asked ≡ Some task → Becomes limit image store.job task o (Err (record { need = need; gap = gap }))
    → FindsNoPlace limit image store asked o need gap
lacks_task limit image store o need gap asked task is lacks = subst (λ (t : Option Task). FindsNoPlace limit image store t o need gap) (sym is) lacks
