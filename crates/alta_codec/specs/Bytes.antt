-- Lists of bytes.
use Rattle.std.specs.Prelude.{◌≢◌, ℕ, ◌<◌, List, slice_index, Bool, ◌==◌}
use Rattle.std.specs.List.{All, list_any}

-- each of them is a byte
abbrev pub AreBytes : List ℕ → Type 0
AreBytes bytes = (i : ℕ) → slice_index bytes i < 256

-- none of them is this one
abbrev pub Lacks : ℕ → List ℕ → Type 0
Lacks byte bytes = All (λ b. b ≢ byte) bytes

-- one of them is this one
abbrev pub has_byte : ℕ → List ℕ → Bool
has_byte byte bytes = list_any (λ b. b == byte) bytes
