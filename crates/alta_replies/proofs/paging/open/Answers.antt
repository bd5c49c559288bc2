use Rattle.alta_query.specs.View.{shape}
use Rattle.alta_replies.proofs.CursorLaws.{open_found, open_refused}
use Rattle.alta_replies.proofs.LoadingLaws.{none_loaded, open_none_loads, queries_idle, queries_opened}
use Rattle.alta_replies.proofs.SearchLaws.{parsed, not_parsed}
use Rattle.alta_replies.proofs.paging.open.Goals as goal

pub returns-clause-turned : goal.returns-clause-turned
returns-clause-turned g c = λ s all tell stands h.
    open_found c.args.text.now s.documents all c.open_query-reply.new.cursors c.open_query-reply.result (shape c.in-Ok.query) (parsed c.parse.result c.in-Ok.query c.args.text.now c.in-Ok.is c.parse.ensures.reading)
    (c.open_query-reply.ensures.turned s all tell stands h)

pub returns-clause-queries : goal.returns-clause-queries
returns-clause-queries g c =
    let is = parsed c.parse.result c.in-Ok.query c.args.text.now c.in-Ok.is c.parse.ensures.reading in
    queries_opened g.D.Disk.tells g.D.Disk.state c.args.disk.now c.open_query-reply.new.disk c.args.store.now c.args.kept.now c.open_query-reply.new.kept c.args.cursors.now c.args.text.now (shape c.in-Ok.query) c.open_query-reply.result is c.open_query-reply.ensures.queries

pub returns-in-Err-clause-turned : goal.returns-in-Err-clause-turned
returns-in-Err-clause-turned g c = λ s all tell stands h.
    open_refused c.args.text.now s.documents all c.args.cursors.now c.refused.result c.in-Err.fault (not_parsed c.parse.result c.in-Err.fault c.args.text.now c.in-Err.is c.parse.ensures.reading)
    c.refused.ensures.reply.reply c.refused.ensures.wanting h

pub returns-in-Err-clause-queries : goal.returns-in-Err-clause-queries
returns-in-Err-clause-queries g c =
    queries_idle g.D.Disk.tells g.D.Disk.state c.args.disk.now c.args.store.now c.args.kept.now _ _ c.refused.result c.requires.known c.refused.ensures.reply.memory
    (open_none_loads c.args.store.now c.args.cursors.now c.args.text.now c.refused.result
    (none_loaded c.args.store.now c.args.text.now c.in-Err.fault c.refused.result (not_parsed c.parse.result c.in-Err.fault c.args.text.now c.in-Err.is c.parse.ensures.reading) c.refused.ensures.wanting))
