use Rattle.alta_level.proofs.Apart.{runs_rise}
use Rattle.alta_level.proofs.Walks.{all_are_held}
use Rattle.alta_level.proofs.ranges.are_in_ranges.Goals as goal

pub ranges_from-requires-clause-rise : goal.ranges_from-requires-clause-rise
ranges_from-requires-clause-rise c =
    let runs = c.runs.result.now in runs_rise c.args.documents.now runs.firsts.items runs.ends.items c.requires.documents c.runs.ensures

pub returns : goal.returns
returns c =
    let runs = c.runs.result.now in
    all_are_held c.args.documents.now runs.firsts.items runs.ends.items c.args.locations.now c.ranges_from.result c.are_all_held.result c.runs.ensures c.ranges_from.ensures c.are_all_held.ensures
