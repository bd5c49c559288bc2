use Rattle.std.proofs.Common.{List, refl, sym, subst, ◌∙◌}
use Rattle.alta_machine.specs.PlanOf.{plan_of}
use Rattle.alta_machine.specs.Plans.{Tree}
use Rattle.alta_machine.specs.declared.document.Document.{Document}
use Rattle.alta_machine.specs.Deciding.{answers}
use Rattle.alta_machine.specs.Searching.{IsNoQuery}
use Rattle.alta_query.specs.View.{shape}
use Rattle.alta_compile.specs.View.{tree}
use Rattle.alta_search.specs.Documents.{AreToCome}
use Rattle.alta_search.specs.Tops.{AreToRank}
use Rattle.alta_replies.specs.Asks.{asked_lines, asked_loads, asked_tests}
use Rattle.alta_replies.specs.Loading.{order_loads}
use Rattle.alta_replies.proofs.AskLaws.{asked_found, asked_refused, loaded_for, loads_found, loads_refused}
use Rattle.alta_replies.proofs.LoadingLaws.{is_query, queries_failed, queries_found, queries_idle, queries_loaded}
use Rattle.alta_replies.proofs.SearchLaws.{is_written_for, not_parsed, other_written, parsed}
use Rattle.alta_replies.proofs.searching.answered.Goals as goal

-- the text is no query
pub returns-in-Err-clause-reply : goal.returns-in-Err-clause-reply
returns-in-Err-clause-reply g c = λ s tell stands.
    asked_refused c.args.ask c.refused.result c.args.text.now s.documents c.in-Err.fault (not_parsed c.parse.result c.in-Err.fault c.args.text.now c.in-Err.is c.parse.ensures.reading) c.refused.ensures.reply.reply c.refused.ensures.wanting

pub returns-in-Err-clause-queries : goal.returns-in-Err-clause-queries
returns-in-Err-clause-queries g c =
    queries_idle g.D.Disk.tells g.D.Disk.state c.args.disk.now c.args.store.now c.args.kept.now (asked_loads c.args.ask c.args.store.now c.args.text.now) (IsNoQuery c.args.text.now) c.refused.result c.requires.known c.refused.ensures.reply.memory
    (loads_refused c.args.ask c.args.store.now c.args.text.now c.in-Err.fault c.refused.result (not_parsed c.parse.result c.in-Err.fault c.args.text.now c.in-Err.is c.parse.ensures.reading) c.refused.ensures.wanting)

-- no memory for the plan
pub returns-in_default-clause-queries : goal.returns-in_default-clause-queries
returns-in_default-clause-queries g c =
    queries_idle g.D.Disk.tells g.D.Disk.state c.args.disk.now c.args.store.now c.args.kept.now (asked_loads c.args.ask c.args.store.now c.args.text.now) (IsNoQuery c.args.text.now) _ c.requires.known refl tt

-- its lists were loaded
pub counted-requires-clause-tests : goal.counted-requires-clause-tests
counted-requires-clause-tests g c = c.in-Ok-load.ensures.tests ∙ c.in-Ok-planned.ensures.order

pub counted-requires-clause-read : goal.counted-requires-clause-read
counted-requires-clause-read g c = (c.args.text.now, c.utf8.text, c.in-Ok.ensures.found)

pub returns-in-Ok-load-clause-reply : goal.returns-in-Ok-load-clause-reply
returns-in-Ok-load-clause-reply g c = λ s tell stands.
    let q = shape c.in-Ok.query in let found = answers s.documents q in let snapshot = c.in-Ok-load.snapshot in
    asked_found c.args.ask c.written.result c.args.text.now s.documents q (parsed c.parse.result c.in-Ok.query c.args.text.now c.in-Ok.is c.parse.ensures.reading)
    (is_written_for (λ (documents : List Document). AreToCome (tree c.in-Ok-planned.plan) snapshot 0 documents × AreToRank (tree c.in-Ok-planned.plan) snapshot documents) c.written.result c.counted.result (asked_lines c.args.ask q)
    c.written.ensures.reply c.counted.ensures.lines found (
      subst (λ (t : Tree). AreToCome t snapshot 0 found) (sym c.in-Ok-planned.ensures.plan) (c.in-Ok-load.ensures.answers s q tell stands),
      subst (λ (t : Tree). AreToRank t snapshot found) (sym c.in-Ok-planned.ensures.plan) (c.in-Ok-load.ensures.ranked s q tell stands),
    ))

pub returns-in-Ok-load-clause-queries : goal.returns-in-Ok-load-clause-queries
returns-in-Ok-load-clause-queries g c =
    let q = shape c.in-Ok.query in let store = c.args.store.now in let text = c.args.text.now in let ask = c.args.ask in
    let is = parsed c.parse.result c.in-Ok.query text c.in-Ok.is c.parse.ensures.reading in
    queries_found g.D.Disk.tells g.D.Disk.state c.args.disk.now c.load.new.disk store c.args.kept.now c.load.new.kept (order_loads store (asked_tests ask (plan_of q))) (asked_loads ask store text) (IsNoQuery text) c.written.result
    (loads_found ask store text q is) (is_query text q is)
    (queries_loaded g.D.Disk.tells g.D.Disk.state c.args.disk.now c.load.new.disk store c.args.kept.now c.load.new.kept (order_loads store (asked_tests ask (plan_of q))) _ c.written.result
    (loaded_for g.D.Disk.tells store c.load.new.kept (g.D.Disk.state c.args.disk.now) (g.D.Disk.state c.load.new.disk) ask _ (plan_of q) _ _ c.in-Ok-planned.ensures.order c.in-Ok-planned.ensures.plan c.in-Ok-load.ensures.loads) c.written.ensures.memory
    (other_written c.written.result c.counted.result c.written.ensures.reply c.counted.ensures.other))

-- they were not
pub returns-clause-queries : goal.returns-clause-queries
returns-clause-queries g c =
    let q = shape c.in-Ok.query in let store = c.args.store.now in let text = c.args.text.now in let ask = c.args.ask in
    let is = parsed c.parse.result c.in-Ok.query text c.in-Ok.is c.parse.ensures.reading in
    queries_found g.D.Disk.tells g.D.Disk.state c.args.disk.now c.load.new.disk store c.args.kept.now c.load.new.kept (order_loads store (asked_tests ask (plan_of q))) (asked_loads ask store text) (IsNoQuery text) _
    (loads_found ask store text q is) (is_query text q is)
    (queries_failed g.D.Disk.tells g.D.Disk.state c.args.disk.now c.load.new.disk store c.args.kept.now c.load.new.kept (order_loads store (asked_tests ask (plan_of q))) c.in-Err-load.fault
    (loaded_for g.D.Disk.tells store c.load.new.kept (g.D.Disk.state c.args.disk.now) (g.D.Disk.state c.load.new.disk) ask _ (plan_of q) _ _ c.in-Ok-planned.ensures.order c.in-Ok-planned.ensures.plan c.in-Err-load.ensures.loads))
