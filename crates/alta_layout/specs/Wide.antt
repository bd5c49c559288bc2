-- How a number stands on a disk in eight bytes, the highest first.
use Rattle.std.specs.Prelude.{ℕ, List}
use Rattle.std.specs.Int.{w64, to_be_bytes, from_be_bytes}

unfoldable pub eight_bytes : ℕ → List ℕ
eight_bytes number = to_be_bytes w64 number

-- the number that eight bytes spell
unfoldable pub of_eight : List ℕ → ℕ
of_eight bytes = from_be_bytes w64 bytes
