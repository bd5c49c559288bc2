-- The first uses of a snapshot.
use Rattle.std.specs.Prelude.{ℕ, take}
use Rattle.alta_search.specs.View.{View}

-- the snapshot of the first `count` uses alone
abbrev pub first_uses : ℕ → View → View
first_uses count v = record {
  tests = take count v.tests;
  keys = take count v.keys;
  cuts = take count v.cuts;
  rows = v.rows;
  gone = v.gone;
}
