use Rattle.std.proofs.Common.{ℕ, ◌-◌, ◌<◌, [], map, get_or}
use Rattle.alta_codec.specs.Rising.{first_from}
use Rattle.alta_lead.proofs.Bringing.{IsBringing}
use Rattle.alta_lead.proofs.chains.bars.Given as goal

abbrev pub invariant-loop-i : goal.invariant-loop-i
invariant-loop-i g l = record {
  bringing : IsBringing g.R.Reader.sound g.R.Reader.list g.R.Reader.all g.R.Reader.location g.R.Reader.left g.R.Reader.cost l.initial.readers l.readers l.start l.i
      (l.steps - l.initial.steps);
  passed : (k : ℕ) → k < l.i → l.end < first_from (get_or (map g.R.Reader.list l.initial.readers) k []) l.start;
}
