use Rattle.alta_dump.proofs.Rebuilt.{none_plain}
use Rattle.alta_dump.proofs.rebuilding.line.Goals as goal

pub returns-in-Some-clause-line : goal.returns-in-Some-clause-line
returns-in-Some-clause-line c = λ d is named seen.
    let plain = c.in-Some.ensures.plain d.cells seen.folded seen.title_ends in
    c.line_at.ensures.line d (record { is = is; named = named; seen = seen; plain = plain.0 }) plain.1

pub returns-in-None-clause-line : goal.returns-in-None-clause-line
returns-in-None-clause-line c = λ d is named seen. none_plain d (c.in-None.ensures.plain d.cells seen.folded seen.title_ends)
