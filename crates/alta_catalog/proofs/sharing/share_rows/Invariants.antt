use Rattle.std.proofs.Common.{◌≡◌, map, take}
use Rattle.alta_catalog.specs.Knowing.{documents_of}
use Rattle.alta_content.specs.All.{shared_rows}
use Rattle.alta_catalog.proofs.sharing.share_rows.Given as goal

abbrev pub invariant-loop-level : goal.invariant-loop-level
invariant-loop-level l = map shared_rows l.rows.items ≡ map documents_of (take l.level-index l.levels)
