use Rattle.std.proofs.Common.{true, false}
use Rattle.alta_level.proofs.Walks.{fits_by}
use Rattle.alta_level.proofs.ranges.fits.Goals as goal

pub returns-then-is_end_term : goal.returns-then-is_end_term
returns-then-is_end_term c =
    fits_by c.args.documents.now c.is_end_term.result c.args.term.now c.args.locations.now c.args.count c.is_end_term.ensures c.if-locations-count.false true c.if-is_end_term.true
    c.are_ends.result c.are_ends.ensures

pub returns-else-is_end_term : goal.returns-else-is_end_term
returns-else-is_end_term c =
    fits_by c.args.documents.now c.is_end_term.result c.args.term.now c.args.locations.now c.args.count c.is_end_term.ensures c.if-locations-count.false false c.if-is_end_term.false
    c.are_in_ranges.result c.are_in_ranges.ensures
