use Rattle.std.proofs.Common.{length}
use Rattle.alta_machine.specs.Queries.{query_of}
use Rattle.alta_machine.specs.Spots.{spots}
use Rattle.alta_query.proofs.Answers.{found, only, first, answered}
use Rattle.alta_query.proofs.reading.parse.Goals as goal

pub returns-clause-reading : goal.returns-clause-reading
unfolding query_of
returns-clause-reading c = c.read.ensures.reading

pub returns-clause-found : goal.returns-clause-found
returns-clause-found c =
    found (spots c.args.text.now) (length c.args.text.now) c.read.result c.read.ensures.reading

pub returns-clause-only : goal.returns-clause-only
returns-clause-only c =
    only (spots c.args.text.now) (length c.args.text.now) c.read.result c.read.ensures.reading

pub returns-clause-first : goal.returns-clause-first
returns-clause-first c =
    first (spots c.args.text.now) (length c.args.text.now) c.read.result c.read.ensures.reading

pub returns-clause-answered : goal.returns-clause-answered
returns-clause-answered c =
    answered (spots c.args.text.now) (length c.args.text.now) c.read.result c.read.ensures.reading
