-- How many ends of a list were not deleted.
use Rattle.std.specs.Prelude.{ℕ, List}
use Rattle.alta_codec.specs.Rising.{count_from}
use Rattle.alta_docread.specs.Kept.{less}

-- how many ends of a list were not deleted, from a place on
abbrev pub count_live : List ℕ → List ℕ → ℕ → ℕ
count_live list gone from = count_from (less list gone) from
