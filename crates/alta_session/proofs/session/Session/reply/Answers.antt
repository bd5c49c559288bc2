use Rattle.std.proofs.Common.{◌≡◌, ◌⊎◌, ◌≤◌, ◌++◌, ℕ, inl, List, length, codes, decimal, ◌∙◌, ap, refl, sym, subst}
use Rattle.std.specs.Prelude.{Some}
use Rattle.alta_machine.specs.Dumps.{dump_of}
use Rattle.alta_dump.specs.Shown.{dump_tests}
use Rattle.alta_machine.specs.declared.document.State.{State}
use Rattle.alta_meaning.specs.Work.{flushes, merges, steps}
use Rattle.alta_machine.specs.Command.{ReadsLine, adds, deletes, searches, counts as asks_count, explains, opens, fetches, closes, ranks, flushes as asks_flush, merges as asks_merge, steps as asks_step, asks_stats, dumps}
use Rattle.alta_machine.specs.Lines.{Reading, asks, refuses}
use Rattle.alta_model.specs.Seen.{command_of}
use Rattle.alta_model.specs.declared.line.Line.{Line}
use Rattle.alta_model.specs.declared.line.Line.TheVariants.{Add, Delete, Search, Count, Explain, OpenCursor, Fetch, Close, Top, Flush, Merge, Step, Stats, Dump}
use Rattle.alta_cursors.specs.Open.{AreOpen}
use Rattle.alta_machine.specs.declared.cursors.TheConstants.{CURSORS}
use Rattle.alta_machine.specs.Cursors.{opening, fetching, closing}
use Rattle.alta_replies.specs.Loading.{Loads, loads_in, newest_in, open_loads, order_loads, text_loads, top_text_loads}
use Rattle.alta_machine.specs.Machine.{LooksIn, SearchesIn, changed_by, adding, deleting, step, stats_of}
use Rattle.alta_machine.specs.Searching.{IsNoQuery, searching, counting, ranking}
use Rattle.alta_session.specs.Tasks.{task_of, task_of_add, task_of_delete}
use Rattle.alta_machine.specs.Changes.{words_in}
use Rattle.alta_session.specs.Spending.{OnlyReads, ReadsIn}
use Rattle.alta_session.specs.Joining.{Works}
use Rattle.alta_session.proofs.JoiningLaws.{reply_unsaid, works_searching, works_still}
use Rattle.alta_session.proofs.AnsweringLaws.{if_so, looked, answers_by, step_rests, turned}
use Rattle.alta_session.proofs.AddingLaws.{line_is_document}
use Rattle.alta_session.proofs.AskLaws.{adds_more, deletes_more, reading_is, refused_asked, refused_searched, step_asks, step_refuses}
use Rattle.alta_session.proofs.TaskLaws.{task_reads}
use Rattle.alta_session.proofs.DumpLaws.{dump_refuses}
use Rattle.alta_session.proofs.QueryingLaws.{count_refuses, kept_all, not_full, open_refuses, queried, rank_refuses, search_refuses}
use Rattle.alta_store.specs.Agreement.{levels_of}
use Rattle.alta_session.proofs.session.Session.reply.Goals as goal

pub add-requires-clause-document : goal.add-requires-clause-document
add-requires-clause-document g c =
    let line : List ℕ = c.args.line.now in
    let P : Line → Type 0 = λ l. ReadsLine line (command_of l) in
    line_is_document line c.in-Add.name.now c.in-Add.title.now c.in-Add.body.now c.requires.one_line c.in-Ok.ensures.read.0 (subst P c.in-Add.is c.in-Ok.ensures.read.1)

pub returns-in-Add-clause-answers : goal.returns-in-Add-clause-answers
returns-in-Add-clause-answers g c =
    let name : List ℕ = c.in-Add.name.now in
    let title : List ℕ = c.in-Add.title.now in
    let body : List ℕ = c.in-Add.body.now in
    answers_by g.D.Disk.tells g.D.Disk.state c.args.disk.now c.add.new.disk c.args.self.now c.add.new.self c.add.result (λ m. changed_by m (adding name title body m.state)) (λ m. step m c.args.line.now) (λ m. task_of_add name title body m.state) (λ m. task_of m c.args.line.now)
    (λ m. sym (step_asks c.args.line.now c.in-Ok.asked (Add c.in-Add.name c.in-Add.title c.in-Add.body) c.in-Ok.ensures.reading c.in-Add.is m)) (λ m. sym (task_reads m c.args.line.now (asks (adds name title body)) (reading_is c.args.line.now c.in-Ok.asked (Add c.in-Add.name c.in-Add.title c.in-Add.body) c.in-Ok.ensures.reading c.in-Add.is))) c.add.ensures.answers

pub returns-in-Delete-clause-answers : goal.returns-in-Delete-clause-answers
returns-in-Delete-clause-answers g c =
    let name : List ℕ = c.in-Delete.name.now in
    answers_by g.D.Disk.tells g.D.Disk.state c.args.disk.now c.delete.new.disk c.args.self.now c.delete.new.self c.delete.result (λ m. changed_by m (deleting name m.state)) (λ m. step m c.args.line.now) (λ m. task_of_delete name m.state) (λ m. task_of m c.args.line.now)
    (λ m. sym (step_asks c.args.line.now c.in-Ok.asked (Delete c.in-Delete.name) c.in-Ok.ensures.reading c.in-Delete.is m)) (λ m. sym (task_reads m c.args.line.now (asks (deletes name)) (reading_is c.args.line.now c.in-Ok.asked (Delete c.in-Delete.name) c.in-Ok.ensures.reading c.in-Delete.is))) c.delete.ensures.answers

pub returns-in-Flush-clause-answers : goal.returns-in-Flush-clause-answers
returns-in-Flush-clause-answers g c =
    answers_by g.D.Disk.tells g.D.Disk.state c.args.disk.now c.work.new.disk c.args.self.now c.work.new.self c.work.result (λ m. (m, codes "ok\n")) (λ m. step m c.args.line.now) (λ m. Some flushes) (λ m. task_of m c.args.line.now)
    (λ m. sym (step_asks c.args.line.now c.in-Ok.asked Flush c.in-Ok.ensures.reading c.in-Flush.is m)) (λ m. sym (task_reads m c.args.line.now (asks asks_flush) (reading_is c.args.line.now c.in-Ok.asked Flush c.in-Ok.ensures.reading c.in-Flush.is))) c.work.ensures.answers

pub returns-in-Merge-clause-answers : goal.returns-in-Merge-clause-answers
returns-in-Merge-clause-answers g c =
    answers_by g.D.Disk.tells g.D.Disk.state c.args.disk.now c.work-in-Merge.new.disk c.args.self.now c.work-in-Merge.new.self c.work-in-Merge.result (λ m. (m, codes "ok\n")) (λ m. step m c.args.line.now) (λ m. Some merges) (λ m. task_of m c.args.line.now)
    (λ m. sym (step_asks c.args.line.now c.in-Ok.asked Merge c.in-Ok.ensures.reading c.in-Merge.is m)) (λ m. sym (task_reads m c.args.line.now (asks asks_merge) (reading_is c.args.line.now c.in-Ok.asked Merge c.in-Ok.ensures.reading c.in-Merge.is))) c.work-in-Merge.ensures.answers

pub returns-in-Step-clause-answers : goal.returns-in-Step-clause-answers
returns-in-Step-clause-answers g c =
    answers_by g.D.Disk.tells g.D.Disk.state c.args.disk.now c.work-in-Step.new.disk c.args.self.now c.work-in-Step.new.self c.work-in-Step.result (λ m. (m, codes "ok\n")) (λ m. step m c.args.line.now) (λ m. Some (steps c.in-Step.count)) (λ m. task_of m c.args.line.now)
    (λ m. sym (step_asks c.args.line.now c.in-Ok.asked (Step c.in-Step.count) c.in-Ok.ensures.reading c.in-Step.is m)) (λ m. sym (task_reads m c.args.line.now (asks (asks_step c.in-Step.count)) (reading_is c.args.line.now c.in-Ok.asked (Step c.in-Step.count) c.in-Ok.ensures.reading c.in-Step.is))) c.work-in-Step.ensures.answers

-- a line that changes documents or levels does not look
pub returns-in-Add-clause-no_disk : goal.returns-in-Add-clause-no_disk
returns-in-Add-clause-no_disk g c = λ looks.
    absurd (adds_more c.args.line.now c.in-Add.name.now c.in-Add.title.now c.in-Add.body.now (reading_is c.args.line.now c.in-Ok.asked (Add c.in-Add.name c.in-Add.title c.in-Add.body) c.in-Ok.ensures.reading c.in-Add.is) looks)

pub returns-in-Delete-clause-no_disk : goal.returns-in-Delete-clause-no_disk
returns-in-Delete-clause-no_disk g c = λ looks.
    absurd (deletes_more c.args.line.now c.in-Delete.name.now (reading_is c.args.line.now c.in-Ok.asked (Delete c.in-Delete.name) c.in-Ok.ensures.reading c.in-Delete.is) looks)

pub returns-in-Flush-clause-no_disk : goal.returns-in-Flush-clause-no_disk
returns-in-Flush-clause-no_disk g c = λ looks. absurd (subst LooksIn (reading_is c.args.line.now c.in-Ok.asked Flush c.in-Ok.ensures.reading c.in-Flush.is) looks)

pub returns-in-Merge-clause-no_disk : goal.returns-in-Merge-clause-no_disk
returns-in-Merge-clause-no_disk g c = λ looks. absurd (subst LooksIn (reading_is c.args.line.now c.in-Ok.asked Merge c.in-Ok.ensures.reading c.in-Merge.is) looks)

pub returns-in-Step-clause-no_disk : goal.returns-in-Step-clause-no_disk
returns-in-Step-clause-no_disk g c = λ looks. absurd (subst LooksIn (reading_is c.args.line.now c.in-Ok.asked (Step c.in-Step.count) c.in-Ok.ensures.reading c.in-Step.is) looks)

-- a query is answered over the disk
pub answered-requires : goal.answered-requires
answered-requires g c = record { agrees = c.requires.can.agrees; known = c.requires.can.known }

pub answered-requires-in-Count : goal.answered-requires-in-Count
answered-requires-in-Count g c = record { agrees = c.requires.can.agrees; known = c.requires.can.known }

pub open-requires : goal.open-requires
open-requires g c = record { agrees = c.requires.can.agrees; known = c.requires.can.known }

pub answered-requires-in-Top : goal.answered-requires-in-Top
answered-requires-in-Top g c = record { agrees = c.requires.can.agrees; known = c.requires.can.known }

pub dump-requires : goal.dump-requires
dump-requires g c = record { agrees = c.requires.can.agrees; known = c.requires.can.known }

pub returns-in-Search-clause-answers : goal.returns-in-Search-clause-answers
returns-in-Search-clause-answers g c =
    queried g.D.Disk.tells g.D.Disk.state c.args.disk.now c.answered.new.disk c.args.self.now c.answered.new.kept c.args.self.now.cursors (text_loads c.args.self.now.store c.in-Search.text.now) (IsNoQuery c.in-Search.text.now) c.answered.result (λ m. step m c.args.line.now) (λ m. task_of m c.args.line.now)
    (λ s all. (all, searching c.in-Search.text.now s.documents)) (g.met.D.Disk.lawful c.args.disk.now) c.requires.can c.answered.ensures.queries
    (kept_all c.answered.result c.args.self.now.cursors) (λ s all tell stands are. record { reply = c.answered.ensures.reply s tell stands; open_now = if_so c.answered.result (AreOpen c.args.self.now.cursors all) are })
    (λ s all are refusal. search_refuses c.in-Search.text.now s.documents refusal) (step_asks c.args.line.now c.in-Ok.asked (Search c.in-Search.text) c.in-Ok.ensures.reading c.in-Search.is) (λ m. task_reads m c.args.line.now (asks (searches c.in-Search.text.now)) (reading_is c.args.line.now c.in-Ok.asked (Search c.in-Search.text) c.in-Ok.ensures.reading c.in-Search.is))

pub returns-in-Search-clause-no_disk : goal.returns-in-Search-clause-no_disk
returns-in-Search-clause-no_disk g c = λ looks. c.answered.ensures.queries.idles (subst LooksIn (reading_is c.args.line.now c.in-Ok.asked (Search c.in-Search.text) c.in-Ok.ensures.reading c.in-Search.is) looks)

pub returns-in-Search-clause-loads : goal.returns-in-Search-clause-loads
returns-in-Search-clause-loads g c = λ searches.
    subst (λ (r : Reading). Loads g.D.Disk.tells (loads_in (levels_of c.args.self.now.store) (newest_in c.args.self.now.store) (length c.args.self.now.cursors) r) (g.D.Disk.state c.args.disk.now) (g.D.Disk.state c.answered.new.disk) c.answered.result) (sym (reading_is c.args.line.now c.in-Ok.asked (Search c.in-Search.text) c.in-Ok.ensures.reading c.in-Search.is)) c.answered.ensures.queries.loading.loaded

pub returns-in-Count-clause-answers : goal.returns-in-Count-clause-answers
returns-in-Count-clause-answers g c =
    queried g.D.Disk.tells g.D.Disk.state c.args.disk.now c.answered-in-Count.new.disk c.args.self.now c.answered-in-Count.new.kept c.args.self.now.cursors (text_loads c.args.self.now.store c.in-Count.text.now) (IsNoQuery c.in-Count.text.now) c.answered-in-Count.result (λ m. step m c.args.line.now) (λ m. task_of m c.args.line.now)
    (λ s all. (all, counting c.in-Count.text.now s.documents)) (g.met.D.Disk.lawful c.args.disk.now) c.requires.can c.answered-in-Count.ensures.queries
    (kept_all c.answered-in-Count.result c.args.self.now.cursors) (λ s all tell stands are. record { reply = c.answered-in-Count.ensures.reply s tell stands; open_now = if_so c.answered-in-Count.result (AreOpen c.args.self.now.cursors all) are })
    (λ s all are refusal. count_refuses c.in-Count.text.now s.documents refusal) (step_asks c.args.line.now c.in-Ok.asked (Count c.in-Count.text) c.in-Ok.ensures.reading c.in-Count.is) (λ m. task_reads m c.args.line.now (asks (asks_count c.in-Count.text.now)) (reading_is c.args.line.now c.in-Ok.asked (Count c.in-Count.text) c.in-Ok.ensures.reading c.in-Count.is))

pub returns-in-Count-clause-no_disk : goal.returns-in-Count-clause-no_disk
returns-in-Count-clause-no_disk g c = λ looks. c.answered-in-Count.ensures.queries.idles (subst LooksIn (reading_is c.args.line.now c.in-Ok.asked (Count c.in-Count.text) c.in-Ok.ensures.reading c.in-Count.is) looks)

pub returns-in-Count-clause-loads : goal.returns-in-Count-clause-loads
returns-in-Count-clause-loads g c = λ searches.
    subst (λ (r : Reading). Loads g.D.Disk.tells (loads_in (levels_of c.args.self.now.store) (newest_in c.args.self.now.store) (length c.args.self.now.cursors) r) (g.D.Disk.state c.args.disk.now) (g.D.Disk.state c.answered-in-Count.new.disk) c.answered-in-Count.result) (sym (reading_is c.args.line.now c.in-Ok.asked (Count c.in-Count.text) c.in-Ok.ensures.reading c.in-Count.is)) c.answered-in-Count.ensures.queries.loading.loaded

pub returns-in-Top-clause-answers : goal.returns-in-Top-clause-answers
returns-in-Top-clause-answers g c =
    queried g.D.Disk.tells g.D.Disk.state c.args.disk.now c.answered-in-Top.new.disk c.args.self.now c.answered-in-Top.new.kept c.args.self.now.cursors (top_text_loads c.args.self.now.store c.in-Top.text.now) (IsNoQuery c.in-Top.text.now) c.answered-in-Top.result (λ m. step m c.args.line.now) (λ m. task_of m c.args.line.now)
    (λ s all. (all, ranking c.in-Top.count c.in-Top.text.now s.documents)) (g.met.D.Disk.lawful c.args.disk.now) c.requires.can c.answered-in-Top.ensures.queries
    (kept_all c.answered-in-Top.result c.args.self.now.cursors) (λ s all tell stands are. record { reply = c.answered-in-Top.ensures.reply s tell stands; open_now = if_so c.answered-in-Top.result (AreOpen c.args.self.now.cursors all) are })
    (λ s all are refusal. rank_refuses c.in-Top.count c.in-Top.text.now s.documents refusal) (step_asks c.args.line.now c.in-Ok.asked (Top c.in-Top.count c.in-Top.text) c.in-Ok.ensures.reading c.in-Top.is) (λ m. task_reads m c.args.line.now (asks (ranks c.in-Top.count c.in-Top.text.now)) (reading_is c.args.line.now c.in-Ok.asked (Top c.in-Top.count c.in-Top.text) c.in-Ok.ensures.reading c.in-Top.is))

pub returns-in-Top-clause-no_disk : goal.returns-in-Top-clause-no_disk
returns-in-Top-clause-no_disk g c = λ looks. c.answered-in-Top.ensures.queries.idles (subst LooksIn (reading_is c.args.line.now c.in-Ok.asked (Top c.in-Top.count c.in-Top.text) c.in-Ok.ensures.reading c.in-Top.is) looks)

pub returns-in-Top-clause-loads : goal.returns-in-Top-clause-loads
returns-in-Top-clause-loads g c = λ searches.
    subst (λ (r : Reading). Loads g.D.Disk.tells (loads_in (levels_of c.args.self.now.store) (newest_in c.args.self.now.store) (length c.args.self.now.cursors) r) (g.D.Disk.state c.args.disk.now) (g.D.Disk.state c.answered-in-Top.new.disk) c.answered-in-Top.result) (sym (reading_is c.args.line.now c.in-Ok.asked (Top c.in-Top.count c.in-Top.text) c.in-Ok.ensures.reading c.in-Top.is)) c.answered-in-Top.ensures.queries.loading.loaded

pub returns-in-Dump-clause-answers : goal.returns-in-Dump-clause-answers
returns-in-Dump-clause-answers g c =
    queried g.D.Disk.tells g.D.Disk.state c.args.disk.now c.dump.new.disk c.args.self.now c.dump.new.kept c.args.self.now.cursors (order_loads c.args.self.now.store dump_tests) ⊥ c.dump.result (λ m. step m c.args.line.now) (λ m. task_of m c.args.line.now)
    (λ s all. (all, dump_of s)) (g.met.D.Disk.lawful c.args.disk.now) c.requires.can c.dump.ensures.queries
    (kept_all c.dump.result c.args.self.now.cursors) (λ s all tell stands are. record { reply = c.dump.ensures.reply s tell stands; open_now = if_so c.dump.result (AreOpen c.args.self.now.cursors all) are })
    (λ s all are refusal. dump_refuses s.documents refusal) (step_asks c.args.line.now c.in-Ok.asked Dump c.in-Ok.ensures.reading c.in-Dump.is) (λ m. task_reads m c.args.line.now (asks dumps) (reading_is c.args.line.now c.in-Ok.asked Dump c.in-Ok.ensures.reading c.in-Dump.is))

pub returns-in-Dump-clause-no_disk : goal.returns-in-Dump-clause-no_disk
returns-in-Dump-clause-no_disk g c = λ looks. absurd (subst LooksIn (reading_is c.args.line.now c.in-Ok.asked Dump c.in-Ok.ensures.reading c.in-Dump.is) looks)

pub returns-in-Dump-clause-loads : goal.returns-in-Dump-clause-loads
returns-in-Dump-clause-loads g c = λ searches.
    subst (λ (r : Reading). Loads g.D.Disk.tells (loads_in (levels_of c.args.self.now.store) (newest_in c.args.self.now.store) (length c.args.self.now.cursors) r) (g.D.Disk.state c.args.disk.now) (g.D.Disk.state c.dump.new.disk) c.dump.result) (sym (reading_is c.args.line.now c.in-Ok.asked Dump c.in-Ok.ensures.reading c.in-Dump.is)) c.dump.ensures.queries.loading.loaded

-- a cursor is opened, read or closed
pub returns-in-OpenCursor-clause-answers : goal.returns-in-OpenCursor-clause-answers
returns-in-OpenCursor-clause-answers g c =
    let session = c.args.self.now in
    let text = c.in-OpenCursor.text.now in
    queried g.D.Disk.tells g.D.Disk.state c.args.disk.now c.open.new.disk session c.open.new.kept c.open.new.cursors (open_loads session.store session.cursors text) (IsNoQuery text ⊎ (CURSORS ≤ length session.cursors)) c.open.result
    (λ m. step m c.args.line.now) (λ m. task_of m c.args.line.now) (λ s all. opening text s.documents all) (g.met.D.Disk.lawful c.args.disk.now) c.requires.can c.open.ensures.queries c.open.ensures.kept c.open.ensures.turned
    (λ s all are refusal. open_refuses text s.documents session.cursors all are refusal) (step_asks c.args.line.now c.in-Ok.asked (OpenCursor c.in-OpenCursor.text) c.in-Ok.ensures.reading c.in-OpenCursor.is) (λ m. task_reads m c.args.line.now (asks (opens c.in-OpenCursor.text.now)) (reading_is c.args.line.now c.in-Ok.asked (OpenCursor c.in-OpenCursor.text) c.in-Ok.ensures.reading c.in-OpenCursor.is))

pub returns-in-OpenCursor-clause-no_disk : goal.returns-in-OpenCursor-clause-no_disk
returns-in-OpenCursor-clause-no_disk g c = λ looks. c.open.ensures.queries.idles (inl (subst LooksIn (reading_is c.args.line.now c.in-Ok.asked (OpenCursor c.in-OpenCursor.text) c.in-Ok.ensures.reading c.in-OpenCursor.is) looks))

pub returns-in-OpenCursor-clause-loads : goal.returns-in-OpenCursor-clause-loads
returns-in-OpenCursor-clause-loads g c = λ searches.
    subst (λ (r : Reading). Loads g.D.Disk.tells (loads_in (levels_of c.args.self.now.store) (newest_in c.args.self.now.store) (length c.args.self.now.cursors) r) (g.D.Disk.state c.args.disk.now) (g.D.Disk.state c.open.new.disk) c.open.result) (sym (reading_is c.args.line.now c.in-Ok.asked (OpenCursor c.in-OpenCursor.text) c.in-Ok.ensures.reading c.in-OpenCursor.is)) c.open.ensures.queries.loading.loaded

pub returns-in-Fetch-clause-answers : goal.returns-in-Fetch-clause-answers
returns-in-Fetch-clause-answers g c =
    turned g.D.Disk.tells g.D.Disk.state c.args.disk.now c.args.self.now c.fetch.new.cursors c.fetch.result (λ m. step m c.args.line.now) (λ m. task_of m c.args.line.now)
    (λ s all. fetching c.in-Fetch.cursor c.in-Fetch.count all) (g.met.D.Disk.lawful c.args.disk.now) c.requires.can c.fetch.ensures.memory c.fetch.ensures.refused
    (λ s all knows h. c.fetch.ensures.turned all h) (step_asks c.args.line.now c.in-Ok.asked (Fetch c.in-Fetch.cursor c.in-Fetch.count) c.in-Ok.ensures.reading c.in-Fetch.is) (λ m. task_reads m c.args.line.now (asks (fetches c.in-Fetch.cursor c.in-Fetch.count)) (reading_is c.args.line.now c.in-Ok.asked (Fetch c.in-Fetch.cursor c.in-Fetch.count) c.in-Ok.ensures.reading c.in-Fetch.is))

pub returns-in-Close-clause-answers : goal.returns-in-Close-clause-answers
returns-in-Close-clause-answers g c =
    turned g.D.Disk.tells g.D.Disk.state c.args.disk.now c.args.self.now c.close.new.cursors c.close.result (λ m. step m c.args.line.now) (λ m. task_of m c.args.line.now)
    (λ s all. closing c.in-Close.cursor all) (g.met.D.Disk.lawful c.args.disk.now) c.requires.can c.close.ensures.memory c.close.ensures.refused
    (λ s all knows h. c.close.ensures.turned all h) (step_asks c.args.line.now c.in-Ok.asked (Close c.in-Close.cursor) c.in-Ok.ensures.reading c.in-Close.is) (λ m. task_reads m c.args.line.now (asks (closes c.in-Close.cursor)) (reading_is c.args.line.now c.in-Ok.asked (Close c.in-Close.cursor) c.in-Ok.ensures.reading c.in-Close.is))

pub returns-in-Explain-clause-answers : goal.returns-in-Explain-clause-answers
returns-in-Explain-clause-answers g c =
    looked g.D.Disk.tells g.D.Disk.state c.args.disk.now c.args.self.now c.explain.result _ _ _ (g.met.D.Disk.lawful c.args.disk.now) c.requires.can c.explain.ensures
    (λ m knows. step_rests m _ _ _ (step_asks c.args.line.now c.in-Ok.asked (Explain c.in-Explain.text) c.in-Ok.ensures.reading c.in-Explain.is m) (task_reads m c.args.line.now (asks (explains c.in-Explain.text.now)) (reading_is c.args.line.now c.in-Ok.asked (Explain c.in-Explain.text) c.in-Ok.ensures.reading c.in-Explain.is)))

-- the counts
stats_is : (s : State) (counts : ℕ × ℕ × ℕ) → counts ≡ (length s.documents, words_in s, s.next)
    → codes "documents " ++ decimal counts.0 ++ codes " words " ++ decimal counts.1 ++ codes " next " ++ decimal counts.2 ++ codes "\n" ≡ stats_of s
unfolding stats_of
stats_is s counts is =
    ap (λ (t : ℕ × ℕ × ℕ). codes "documents " ++ decimal t.0 ++ codes " words " ++ decimal t.1 ++ codes " next " ++ decimal t.2 ++ codes "\n") is

pub returns-in-Stats-clause-answers : goal.returns-in-Stats-clause-answers
returns-in-Stats-clause-answers g c =
    looked g.D.Disk.tells g.D.Disk.state c.args.disk.now c.args.self.now c.stats.result _ _ _ (g.met.D.Disk.lawful c.args.disk.now) c.requires.can c.stats.ensures
    (λ m knows. step_rests m _ _ _ (step_asks c.args.line.now c.in-Ok.asked Stats c.in-Ok.ensures.reading c.in-Stats.is m ∙ ap (λ (t : List ℕ). (m, t)) (sym (stats_is m.state c.counts.result (c.counts.ensures m.state knows)))) (task_reads m c.args.line.now (asks asks_stats) (reading_is c.args.line.now c.in-Ok.asked Stats c.in-Ok.ensures.reading c.in-Stats.is)))

-- a line that is refused
pub returns-in-Err-clause-answers : goal.returns-in-Err-clause-answers
returns-in-Err-clause-answers g c =
    looked g.D.Disk.tells g.D.Disk.state c.args.disk.now c.args.self.now c.text.result _ _ _ (g.met.D.Disk.lawful c.args.disk.now) c.requires.can c.text.ensures
    (λ m knows. step_rests m _ _ _ (step_refuses c.args.line.now c.in-Err.fault c.in-Err.fault c.in-Err.ensures.reading refl m ∙ ap (λ (t : List ℕ). (m, t)) (sym c.refusal_of.ensures)) (refused_asked c.args.line.now c.in-Err.fault c.in-Err.ensures.reading m))

-- the other lines load nothing
pub returns-in-Add-clause-loads : goal.returns-in-Add-clause-loads
returns-in-Add-clause-loads g c = λ searches. absurd (subst SearchesIn (reading_is c.args.line.now c.in-Ok.asked (Add c.in-Add.name c.in-Add.title c.in-Add.body) c.in-Ok.ensures.reading c.in-Add.is) searches)

pub returns-in-Delete-clause-loads : goal.returns-in-Delete-clause-loads
returns-in-Delete-clause-loads g c = λ searches. absurd (subst SearchesIn (reading_is c.args.line.now c.in-Ok.asked (Delete c.in-Delete.name) c.in-Ok.ensures.reading c.in-Delete.is) searches)

pub returns-in-Flush-clause-loads : goal.returns-in-Flush-clause-loads
returns-in-Flush-clause-loads g c = λ searches. absurd (subst SearchesIn (reading_is c.args.line.now c.in-Ok.asked Flush c.in-Ok.ensures.reading c.in-Flush.is) searches)

pub returns-in-Merge-clause-loads : goal.returns-in-Merge-clause-loads
returns-in-Merge-clause-loads g c = λ searches. absurd (subst SearchesIn (reading_is c.args.line.now c.in-Ok.asked Merge c.in-Ok.ensures.reading c.in-Merge.is) searches)

pub returns-in-Step-clause-loads : goal.returns-in-Step-clause-loads
returns-in-Step-clause-loads g c = λ searches. absurd (subst SearchesIn (reading_is c.args.line.now c.in-Ok.asked (Step c.in-Step.count) c.in-Ok.ensures.reading c.in-Step.is) searches)

pub returns-in-Explain-clause-loads : goal.returns-in-Explain-clause-loads
returns-in-Explain-clause-loads g c = λ searches. absurd (subst SearchesIn (reading_is c.args.line.now c.in-Ok.asked (Explain c.in-Explain.text) c.in-Ok.ensures.reading c.in-Explain.is) searches)

pub returns-in-Fetch-clause-loads : goal.returns-in-Fetch-clause-loads
returns-in-Fetch-clause-loads g c = λ searches. absurd (subst SearchesIn (reading_is c.args.line.now c.in-Ok.asked (Fetch c.in-Fetch.cursor c.in-Fetch.count) c.in-Ok.ensures.reading c.in-Fetch.is) searches)

pub returns-in-Close-clause-loads : goal.returns-in-Close-clause-loads
returns-in-Close-clause-loads g c = λ searches. absurd (subst SearchesIn (reading_is c.args.line.now c.in-Ok.asked (Close c.in-Close.cursor) c.in-Ok.ensures.reading c.in-Close.is) searches)

pub returns-in-Stats-clause-loads : goal.returns-in-Stats-clause-loads
returns-in-Stats-clause-loads g c = λ searches. absurd (subst SearchesIn (reading_is c.args.line.now c.in-Ok.asked Stats c.in-Ok.ensures.reading c.in-Stats.is) searches)

pub returns-in-Err-clause-loads : goal.returns-in-Err-clause-loads
returns-in-Err-clause-loads g c = λ searches. absurd (refused_searched c.args.line.now c.in-Err.fault c.in-Err.ensures.reading searches)

-- of these each changes the index
pub returns-in-Add-clause-kept : goal.returns-in-Add-clause-kept
unfolding OnlyReads
returns-in-Add-clause-kept g c = λ reads. absurd (subst ReadsIn (reading_is c.args.line.now c.in-Ok.asked (Add c.in-Add.name c.in-Add.title c.in-Add.body) c.in-Ok.ensures.reading c.in-Add.is) reads)

pub returns-in-Delete-clause-kept : goal.returns-in-Delete-clause-kept
unfolding OnlyReads
returns-in-Delete-clause-kept g c = λ reads. absurd (subst ReadsIn (reading_is c.args.line.now c.in-Ok.asked (Delete c.in-Delete.name) c.in-Ok.ensures.reading c.in-Delete.is) reads)

pub returns-in-Flush-clause-kept : goal.returns-in-Flush-clause-kept
unfolding OnlyReads
returns-in-Flush-clause-kept g c = λ reads. absurd (subst ReadsIn (reading_is c.args.line.now c.in-Ok.asked Flush c.in-Ok.ensures.reading c.in-Flush.is) reads)

pub returns-in-Merge-clause-kept : goal.returns-in-Merge-clause-kept
unfolding OnlyReads
returns-in-Merge-clause-kept g c = λ reads. absurd (subst ReadsIn (reading_is c.args.line.now c.in-Ok.asked Merge c.in-Ok.ensures.reading c.in-Merge.is) reads)

pub returns-in-Step-clause-kept : goal.returns-in-Step-clause-kept
unfolding OnlyReads
returns-in-Step-clause-kept g c = λ reads. absurd (subst ReadsIn (reading_is c.args.line.now c.in-Ok.asked (Step c.in-Step.count) c.in-Ok.ensures.reading c.in-Step.is) reads)

-- ---- what a line does to levels

pub returns-in-Add-clause-works : goal.returns-in-Add-clause-works
returns-in-Add-clause-works g c = subst (λ (r : Reading). Works g.D.Disk.tells g.D.Disk.state c.args.disk.now c.add.new.disk c.args.self.now.store r c.add.result) (sym (reading_is c.args.line.now c.in-Ok.asked (Add c.in-Add.name c.in-Add.title c.in-Add.body) c.in-Ok.ensures.reading c.in-Add.is)) c.add.ensures.works

pub returns-in-Delete-clause-works : goal.returns-in-Delete-clause-works
returns-in-Delete-clause-works g c = subst (λ (r : Reading). Works g.D.Disk.tells g.D.Disk.state c.args.disk.now c.delete.new.disk c.args.self.now.store r c.delete.result) (sym (reading_is c.args.line.now c.in-Ok.asked (Delete c.in-Delete.name) c.in-Ok.ensures.reading c.in-Delete.is)) c.delete.ensures.works

pub returns-in-Flush-clause-works : goal.returns-in-Flush-clause-works
returns-in-Flush-clause-works g c = subst (λ (r : Reading). Works g.D.Disk.tells g.D.Disk.state c.args.disk.now c.work.new.disk c.args.self.now.store r c.work.result) (sym (reading_is c.args.line.now c.in-Ok.asked Flush c.in-Ok.ensures.reading c.in-Flush.is)) c.work.ensures.works

pub returns-in-Merge-clause-works : goal.returns-in-Merge-clause-works
returns-in-Merge-clause-works g c = subst (λ (r : Reading). Works g.D.Disk.tells g.D.Disk.state c.args.disk.now c.work-in-Merge.new.disk c.args.self.now.store r c.work-in-Merge.result) (sym (reading_is c.args.line.now c.in-Ok.asked Merge c.in-Ok.ensures.reading c.in-Merge.is)) c.work-in-Merge.ensures.works

pub returns-in-Step-clause-works : goal.returns-in-Step-clause-works
returns-in-Step-clause-works g c = subst (λ (r : Reading). Works g.D.Disk.tells g.D.Disk.state c.args.disk.now c.work-in-Step.new.disk c.args.self.now.store r c.work-in-Step.result) (sym (reading_is c.args.line.now c.in-Ok.asked (Step c.in-Step.count) c.in-Ok.ensures.reading c.in-Step.is)) c.work-in-Step.ensures.works

pub returns-in-Search-clause-works : goal.returns-in-Search-clause-works
returns-in-Search-clause-works g c =
    subst (λ (r : Reading). Works g.D.Disk.tells g.D.Disk.state c.args.disk.now c.answered.new.disk c.args.self.now.store r c.answered.result) (sym (reading_is c.args.line.now c.in-Ok.asked (Search c.in-Search.text) c.in-Ok.ensures.reading c.in-Search.is)) (works_searching g.D.Disk.tells g.D.Disk.state c.args.disk.now c.answered.new.disk c.args.self.now.store (asks (searches c.in-Search.text.now)) c.answered.result tt (λ need gap is. not_full c.answered.result need gap c.answered.ensures.queries.loading.loaded.only is) (λ none. absurd none))

pub returns-in-Count-clause-works : goal.returns-in-Count-clause-works
returns-in-Count-clause-works g c =
    subst (λ (r : Reading). Works g.D.Disk.tells g.D.Disk.state c.args.disk.now c.answered-in-Count.new.disk c.args.self.now.store r c.answered-in-Count.result) (sym (reading_is c.args.line.now c.in-Ok.asked (Count c.in-Count.text) c.in-Ok.ensures.reading c.in-Count.is)) (works_searching g.D.Disk.tells g.D.Disk.state c.args.disk.now c.answered-in-Count.new.disk c.args.self.now.store (asks (asks_count c.in-Count.text.now)) c.answered-in-Count.result tt (λ need gap is. not_full c.answered-in-Count.result need gap c.answered-in-Count.ensures.queries.loading.loaded.only is) (λ none. absurd none))

pub returns-in-OpenCursor-clause-works : goal.returns-in-OpenCursor-clause-works
returns-in-OpenCursor-clause-works g c =
    subst (λ (r : Reading). Works g.D.Disk.tells g.D.Disk.state c.args.disk.now c.open.new.disk c.args.self.now.store r c.open.result) (sym (reading_is c.args.line.now c.in-Ok.asked (OpenCursor c.in-OpenCursor.text) c.in-Ok.ensures.reading c.in-OpenCursor.is)) (works_searching g.D.Disk.tells g.D.Disk.state c.args.disk.now c.open.new.disk c.args.self.now.store (asks (opens c.in-OpenCursor.text.now)) c.open.result tt (λ need gap is. not_full c.open.result need gap c.open.ensures.queries.loading.loaded.only is) (λ none. absurd none))

pub returns-in-Top-clause-works : goal.returns-in-Top-clause-works
returns-in-Top-clause-works g c =
    subst (λ (r : Reading). Works g.D.Disk.tells g.D.Disk.state c.args.disk.now c.answered-in-Top.new.disk c.args.self.now.store r c.answered-in-Top.result) (sym (reading_is c.args.line.now c.in-Ok.asked (Top c.in-Top.count c.in-Top.text) c.in-Ok.ensures.reading c.in-Top.is)) (works_searching g.D.Disk.tells g.D.Disk.state c.args.disk.now c.answered-in-Top.new.disk c.args.self.now.store (asks (ranks c.in-Top.count c.in-Top.text.now)) c.answered-in-Top.result tt (λ need gap is. not_full c.answered-in-Top.result need gap c.answered-in-Top.ensures.queries.loading.loaded.only is) (λ none. absurd none))

pub returns-in-Dump-clause-works : goal.returns-in-Dump-clause-works
returns-in-Dump-clause-works g c =
    subst (λ (r : Reading). Works g.D.Disk.tells g.D.Disk.state c.args.disk.now c.dump.new.disk c.args.self.now.store r c.dump.result) (sym (reading_is c.args.line.now c.in-Ok.asked Dump c.in-Ok.ensures.reading c.in-Dump.is)) (works_searching g.D.Disk.tells g.D.Disk.state c.args.disk.now c.dump.new.disk c.args.self.now.store (asks dumps) c.dump.result tt (λ need gap is. not_full c.dump.result need gap c.dump.ensures.queries.loading.loaded.only is) (λ none. absurd none))

pub returns-in-Explain-clause-works : goal.returns-in-Explain-clause-works
returns-in-Explain-clause-works g c = works_still g.D.Disk.tells g.D.Disk.state c.args.disk.now c.args.self.now.store _ c.explain.result c.explain.ensures.memory
    (reply_unsaid c.args.self.now.store c.args.line.now (asks (explains c.in-Explain.text.now)) c.explain.result (reading_is c.args.line.now c.in-Ok.asked (Explain c.in-Explain.text) c.in-Ok.ensures.reading c.in-Explain.is) tt)

pub returns-in-Fetch-clause-works : goal.returns-in-Fetch-clause-works
returns-in-Fetch-clause-works g c = works_still g.D.Disk.tells g.D.Disk.state c.args.disk.now c.args.self.now.store _ c.fetch.result c.fetch.ensures.memory
    (reply_unsaid c.args.self.now.store c.args.line.now (asks (fetches c.in-Fetch.cursor c.in-Fetch.count)) c.fetch.result (reading_is c.args.line.now c.in-Ok.asked (Fetch c.in-Fetch.cursor c.in-Fetch.count) c.in-Ok.ensures.reading c.in-Fetch.is) tt)

pub returns-in-Close-clause-works : goal.returns-in-Close-clause-works
returns-in-Close-clause-works g c = works_still g.D.Disk.tells g.D.Disk.state c.args.disk.now c.args.self.now.store _ c.close.result c.close.ensures.memory
    (reply_unsaid c.args.self.now.store c.args.line.now (asks (closes c.in-Close.cursor)) c.close.result (reading_is c.args.line.now c.in-Ok.asked (Close c.in-Close.cursor) c.in-Ok.ensures.reading c.in-Close.is) tt)

pub returns-in-Stats-clause-works : goal.returns-in-Stats-clause-works
returns-in-Stats-clause-works g c = works_still g.D.Disk.tells g.D.Disk.state c.args.disk.now c.args.self.now.store _ c.stats.result c.stats.ensures.memory
    (reply_unsaid c.args.self.now.store c.args.line.now (asks asks_stats) c.stats.result (reading_is c.args.line.now c.in-Ok.asked Stats c.in-Ok.ensures.reading c.in-Stats.is) tt)

pub returns-in-Err-clause-works : goal.returns-in-Err-clause-works
returns-in-Err-clause-works g c = works_still g.D.Disk.tells g.D.Disk.state c.args.disk.now c.args.self.now.store _ c.text.result c.text.ensures.memory
    (reply_unsaid c.args.self.now.store c.args.line.now (refuses c.in-Err.fault) c.text.result (sym c.in-Err.ensures.reading) tt)
