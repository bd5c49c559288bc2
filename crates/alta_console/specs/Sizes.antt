-- The sizes of the pieces that a console in memory gives.
use Rattle.std.specs.Prelude.{ℕ, ◌+◌, ◌-◌, ◌^◌, List, [], ◌∷◌, min, max}

-- one more, up to the last value of a u64
abbrev pub one_more : ℕ → ℕ
one_more count = min (count + 1) (2 ^ 64 - 1)

-- the size of the next piece: the first that is listed, where 0 counts as 1, and no more than the room and the input
abbrev pub piece_size : List ℕ → ℕ → ℕ → ℕ
piece_size [] room left = min room left
piece_size (size ∷ sizes) room left = min (min (max size 1) room) left
