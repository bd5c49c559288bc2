use Rattle.std.proofs.Common.{Bool, sym, subst}
use Rattle.alta_postings.specs.Deltas.{decoded_list}
use Rattle.alta_level.specs.Fitting.{AreFitting}
use Rattle.alta_level.specs.Walks.{Walks}
use Rattle.alta_level.proofs.Apart.{runs_rise}
use Rattle.alta_level.proofs.Walks.{walked_fits}
use Rattle.alta_level.proofs.walking.walk.Goals as goal

pub returns-then-ends : goal.returns-then-ends
returns-then-ends c =
    subst (λ (b : Bool). Walks c.args.stream.now c.args.table.now.bytes (AreFitting c.args.documents.now b (decoded_list c.args.stream.now)) c.walk_ends.result) (sym c.if-ends.true) c.walk_ends.ensures

pub walk_runs-requires : goal.walk_runs-requires
walk_runs-requires c = let runs = c.runs.result.now in runs_rise c.args.documents.now runs.firsts.items runs.ends.items c.requires.documents c.runs.ensures

pub returns : goal.returns
returns c =
    let runs = c.runs.result.now in
    record {
      posting = c.walk_runs.ensures.posting;
      bounds = c.walk_runs.ensures.bounds;
      fits = walked_fits c.args.documents.now runs.firsts.items runs.ends.items (decoded_list c.args.stream.now) c.runs.ensures c.args.ends c.if-ends.false c.walk_runs.result c.walk_runs.ensures.fits;
      fault = c.walk_runs.ensures.fault;
    }
