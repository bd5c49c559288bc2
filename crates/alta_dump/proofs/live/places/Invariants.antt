use Rattle.std.proofs.Common.{◌≡◌, take}
use Rattle.alta_content.specs.Rows.{RowsRise}
use Rattle.alta_search.specs.Told.{rows_at}
use Rattle.alta_dump.specs.Shown.{places_of}
use Rattle.alta_dump.proofs.live.places.Given as goal

abbrev pub invariant-live : goal.invariant-live
invariant-live l = RowsRise (rows_at l.rows l.live) → l.places ≡ places_of (take l.i (rows_at l.rows l.live))
