use Rattle.std.proofs.Common.{◌≡◌, ◌≤◌, ◌-◌, drop}
use Rattle.alta_layout.specs.declared.places.TheConstants.{HEAD_BYTES}
use Rattle.alta_store.specs.Clearing.{IsClear}
use Rattle.alta_store.proofs.formatting.put_zeros.Given as goal

abbrev pub invariant-loop-at : goal.invariant-loop-at
invariant-loop-at g l = record {
  within : l.at ≤ HEAD_BYTES;
  clear : g.D.Disk.tells → IsClear l.at (g.D.Disk.state l.disk).content;
  behind : g.D.Disk.tells → drop HEAD_BYTES (g.D.Disk.state l.disk).content ≡ drop HEAD_BYTES (g.D.Disk.state l.fn.disk).content;
  faults : (g.D.Disk.state l.fn.disk).faults ≤ (g.D.Disk.state l.disk).faults;
  taken : (g.D.Disk.state l.disk).taken ≡ (g.D.Disk.state l.fn.disk).taken;
  same_limit : (g.D.Disk.state l.disk).limit ≡ (g.D.Disk.state l.fn.disk).limit;
}

abbrev pub decreases-loop-at : goal.decreases-loop-at
decreases-loop-at g l = HEAD_BYTES - l.at
