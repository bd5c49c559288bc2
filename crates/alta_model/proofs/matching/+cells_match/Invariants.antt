use Rattle.std.proofs.Common.{◌≡◌, drop, map}
use Rattle.std.specs.Prelude.{◌↔◌}
use Rattle.alta_machine.specs.Matches.{Matches, AllMatch, AnyMatches}
use Rattle.alta_machine.specs.Shape.{shapes_of}
use Rattle.alta_query.specs.View.{shape}
use Rattle.alta_model.proofs.matching.+cells_match.Given as goal

abbrev pub decreases-cells_match : goal.decreases-cells_match
decreases-cells_match l = goal.size-cells_match l

abbrev pub invariant-loop-query : goal.invariant-loop-query
invariant-loop-query l = AllMatch l.cells (shapes_of (map shape (drop l.query-index l.query-items))) ↔ Matches l.cells (shape l.query)

abbrev pub invariant-loop-query-2 : goal.invariant-loop-query-2
invariant-loop-query-2 l = AnyMatches l.cells (shapes_of (map shape (drop l.query-index l.query-items))) ↔ Matches l.cells (shape l.query)
