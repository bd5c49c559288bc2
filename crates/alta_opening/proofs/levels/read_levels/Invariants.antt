use Rattle.std.proofs.Common.{◌≡◌, ◌+◌, ◌≤◌, [], map, take, Ok}
use Rattle.std.specs.List.{sum_by}
use Rattle.alta_codec.specs.declared.extent.Extent.{Extent}
use Rattle.alta_disk.specs.Calls.{Reads}
use Rattle.alta_meaning.specs.Opened.{levels_from, extent_of}
use Rattle.alta_opening.specs.Costs.{level_bytes}
use Rattle.alta_opening.specs.Reached.{HasReached}
use Rattle.alta_opening.proofs.levels.read_levels.Given as goal

abbrev pub invariant-loop-extent : goal.invariant-loop-extent
invariant-loop-extent g l = record {
  reached : HasReached l.root l.deleted l.found;
  extents : map extent_of l.found.levels.items ≡ take l.extent-index l.root.levels.items;
  levels : g.D.Disk.tells → levels_from l.root l.deleted [] (take l.extent-index l.root.levels.items) (g.D.Disk.state l.fn.disk).content ≡ Ok l.found.levels.items;
  reads : Reads g.D.Disk.tells (sum_by (λ (e : Extent). e.bytes) (take l.extent-index l.root.levels.items)) (g.D.Disk.state l.fn.disk) (g.D.Disk.state l.disk);
  taken : g.D.Disk.tells → (g.D.Disk.state l.disk).taken ≤ (g.D.Disk.state l.fn.disk).taken + sum_by (level_bytes (g.D.Disk.state l.fn.disk).content) (take l.extent-index l.root.levels.items);
}
