use Rattle.alta_catalog.proofs.Places.{found, held-same, placed, placed-last}
use Rattle.alta_catalog.proofs.deletions.place_of.Goals as goal

pub returns-in-Some-clause-held : goal.returns-in-Some-clause-held
returns-in-Some-clause-held c =
    let r = c.binary_search.result in
    held-same c.args.ends.now c.args.end r c.requires (found c.args.ends.now c.args.end r c.requires c.binary_search.ensures.position)

pub returns-in-Some-clause-place : goal.returns-in-Some-clause-place
returns-in-Some-clause-place c =
    let r = c.binary_search.result in
    placed c.args.ends.now c.args.end r c.requires (found c.args.ends.now c.args.end r c.requires c.binary_search.ensures.position)

pub returns-in_default-clause-place : goal.returns-in_default-clause-place
returns-in_default-clause-place c = placed-last c.args.ends.now c.args.end c.in-Some.last.now c.requires c.in-Some.ensures.value c.if-end-last.false
