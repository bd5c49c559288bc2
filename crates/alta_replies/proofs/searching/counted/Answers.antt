use Rattle.std.proofs.Common.{sym, subst}
use Rattle.alta_compile.specs.View.{tree}
use Rattle.alta_query.specs.View.{shape}
use Rattle.alta_search.specs.Documents.{AreToCome}
use Rattle.alta_search.specs.Tops.{AreToRank}
use Rattle.alta_replies.proofs.AskLaws.{writes_of, writes_weaker}
use Rattle.alta_replies.proofs.searching.counted.Goals as goal

pub returns-in-Answers : goal.returns-in-Answers
returns-in-Answers g c =
    writes_of _ c.args.ask _ (shape c.args.query.now) c.list.result c.in-Answers.is
    (writes_weaker (AreToCome (tree c.args.plan.now) c.args.snapshot.now 0) _ _ c.list.result (λ documents are. are.0) c.list.ensures)

pub returns-in-Count : goal.returns-in-Count
returns-in-Count g c =
    writes_of _ c.args.ask _ (shape c.args.query.now) c.tally.result c.in-Count.is
    (writes_weaker (AreToCome (tree c.args.plan.now) c.args.snapshot.now 0) _ _ c.tally.result (λ documents are. are.0) c.tally.ensures)

pub returns : goal.returns
returns g c =
    writes_of _ c.args.ask _ (shape c.args.query.now) c.best.result c.in-Best.is
    (writes_weaker (AreToRank (tree c.args.plan.now) c.args.snapshot.now) _ _ c.best.result (λ documents are. are.1) c.best.ensures)
