use Rattle.std.proofs.Common.{map, ◌≤◌, ◌<◌}
use Rattle.alta_codec.specs.declared.location.TheConstants.{TOP}
use Rattle.alta_content.specs.Rows.{end_of}
use Rattle.bench_walk.proofs.Keys.{RisesBelow}
use Rattle.bench_walk.proofs.documents.rows.Given as goal

abbrev pub invariant-loop-line : goal.invariant-loop-line
invariant-loop-line l = RisesBelow l.first (map end_of l.rows.items) × (0 < l.first) × (l.first ≤ TOP)
