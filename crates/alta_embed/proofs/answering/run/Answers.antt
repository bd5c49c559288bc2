use Rattle.std.proofs.Common.{ℕ, ◌∙◌, sym, refl, List}
use Rattle.alta_console.specs.Memory.{transcript, input_left}
use Rattle.alta_console.specs.Transcript.{given_in}
use Rattle.alta_console.specs.declared.memory.MemoryConsole.{MemoryConsole}
use Rattle.alta_disk.specs.Memory.{memory_state}
use Rattle.alta_embed.proofs.AnswerLaws.{Served, served_of, answers_done, answers_refused, never_for_room}
use Rattle.alta_embed.proofs.answering.run.Goals as goal

abbrev given : MemoryConsole → List ℕ
given console = given_in (transcript console)

pub returns-in-Some-clause-answers : goal.returns-in-Some-clause-answers
returns-in-Some-clause-answers c =
    let served : Served c.args.index.now c.args.lines.now (transcript c.serve-status.new.console) (input_left c.serve-status.new.console) (memory_state c.in_ok-disk.disk) (memory_state c.serve-status.new.disk) c.serve-status.result = served_of c.args.index.now c.args.lines.now (transcript c.in_ok-console.console) (transcript c.serve-status.new.console) (input_left c.in_ok-console.console) (input_left c.serve-status.new.console) (memory_state c.in_ok-disk.disk) (memory_state c.serve-status.new.disk) c.serve-status.result
    c.in_ok-console.ensures.transcript c.in_ok-console.ensures.input c.in_ok-disk.ensures.content c.in_ok-disk.ensures.limit c.serve-status.ensures.counts.kept.limit c.serve-status.ensures.run c.serve-status.ensures.finishes.read_all (c.serve-status.ensures.refuses.rooted tt)
    (λ place broken. (c.serve-status.ensures.refuses.undamaged place tt broken).2) (c.serve-status.ensures.reason.no_root tt) (λ s stands. c.serve-status.ensures.reason.stands s tt stands) in
    answers_refused c.args.index.now c.args.lines.now (transcript c.serve-status.new.console) (input_left c.serve-status.new.console) (memory_state c.in_ok-disk.disk) (memory_state c.serve-status.new.disk) c.serve-status.result given c.in-Some.refusal served (sym c.refusal_of.ensures ∙ c.in-Some.is)

pub returns-in-Some-clause-roomy : goal.returns-in-Some-clause-roomy
returns-in-Some-clause-roomy c need = never_for_room c.serve-status.result c.in-Some.refusal need (sym c.refusal_of.ensures ∙ c.in-Some.is)

pub returns-clause-answers : goal.returns-clause-answers
returns-clause-answers c =
    let served : Served c.args.index.now c.args.lines.now (transcript c.serve-status.new.console) (input_left c.serve-status.new.console) (memory_state c.in_ok-disk.disk) (memory_state c.serve-status.new.disk) c.serve-status.result = served_of c.args.index.now c.args.lines.now (transcript c.in_ok-console.console) (transcript c.serve-status.new.console) (input_left c.in_ok-console.console) (input_left c.serve-status.new.console) (memory_state c.in_ok-disk.disk) (memory_state c.serve-status.new.disk) c.serve-status.result
    c.in_ok-console.ensures.transcript c.in_ok-console.ensures.input c.in_ok-disk.ensures.content c.in_ok-disk.ensures.limit c.serve-status.ensures.counts.kept.limit c.serve-status.ensures.run c.serve-status.ensures.finishes.read_all (c.serve-status.ensures.refuses.rooted tt)
    (λ place broken. (c.serve-status.ensures.refuses.undamaged place tt broken).2) (c.serve-status.ensures.reason.no_root tt) (λ s stands. c.serve-status.ensures.reason.stands s tt stands) in
    answers_done c.args.index.now c.args.lines.now (transcript c.serve-status.new.console) (input_left c.serve-status.new.console) (memory_state c.in_ok-disk.disk) (memory_state c.serve-status.new.disk) c.serve-status.result given c.serve-status.new.console served refl (sym c.refusal_of.ensures ∙ c.in-None.is)
