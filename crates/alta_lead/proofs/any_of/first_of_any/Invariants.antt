use Rattle.std.proofs.Common.{◌≡◌, ◌-◌, ◌≤◌, min, map, drop}
use Rattle.alta_codec.specs.declared.location.TheConstants.{TOP}
use Rattle.alta_codec.specs.Rising.{first_from}
use Rattle.alta_compound.specs.Union.{union_of}
use Rattle.alta_lead.proofs.Bringing.{IsBringing}
use Rattle.alta_lead.proofs.any_of.first_of_any.Given as goal

abbrev pub invariant-loop-i : goal.invariant-loop-i
invariant-loop-i g l =
    let R = g.R.Reader in
    record {
      bringing : IsBringing R.sound R.list R.all R.location R.left R.cost l.initial.words l.words l.from l.i (l.steps - l.initial.steps);
      first : min l.least (first_from (union_of (drop l.i (map R.list l.initial.words))) l.from) ≡ first_from (union_of (map R.list l.initial.words)) l.from;
      top : l.least ≤ TOP;
    }
