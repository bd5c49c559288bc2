use Rattle.std.proofs.Common.{◌≡◌, ◌∷◌, ◌++◌, take, get_or, length}
use Rattle.alta_postings.specs.Deltas.{stream_bytes, HasPlaces}
use Rattle.alta_postings.proofs.coding.put_stream.Given as goal

abbrev pub invariant-loop-i : goal.invariant-loop-i
invariant-loop-i l =
    record {
      spelled : l.out.items ≡ l.initial.out.items ++ stream_bytes 0 (take l.i l.locs);
      start : l.start ≡ length l.initial.out.items;
      last : l.before ≡ get_or (0 ∷ l.locs) l.i 0;
      marked : HasPlaces l.locs l.i l.places.items;
    }
