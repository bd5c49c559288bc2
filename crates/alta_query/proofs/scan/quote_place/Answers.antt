use Rattle.alta_query.proofs.Cuts.{quote_boundary, quote_past}
use Rattle.alta_query.proofs.scan.quote_place.Goals as goal

pub returns-clause-boundary : goal.returns-clause-boundary
returns-clause-boundary c =
    quote_boundary c.args.rest.now c.quote_index.result (rw c.as_bytes.ensures.value at c.quote_index.ensures.place) (rw c.as_bytes.ensures.value at c.quote_index.ensures.within)

pub returns-clause-past : goal.returns-clause-past
returns-clause-past c =
    quote_past c.args.rest.now c.quote_index.result c.utf8.rest (rw c.as_bytes.ensures.value at c.quote_index.ensures.place)
