-- Names of documents.
use Rattle.std.specs.Prelude.{ℕ, ◌≤◌, nat_le, List, length, Bool, ◌&&◌}
use Rattle.std.specs.List.{All, list_all}

-- a graphic ASCII byte: all but the blank and the control characters
abbrev pub IsGraphic : ℕ → Type 0
IsGraphic b = (33 ≤ b) × (b ≤ 126)

-- 1 to 64 graphic ASCII bytes
abbrev pub IsName : List ℕ → Type 0
IsName name = (1 ≤ length name) × (length name ≤ 64) × All IsGraphic name

-- the same as tests
abbrev pub is_graphic : ℕ → Bool
is_graphic b = nat_le 33 b && nat_le b 126

unfoldable pub is_name : List ℕ → Bool
is_name name = nat_le 1 (length name) && nat_le (length name) 64 && list_all is_graphic name
