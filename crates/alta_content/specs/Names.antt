-- Names as they stand among bytes: a byte has the name's length, and the name stands behind it.
use Rattle.std.specs.Prelude.{◌≡◌, ◌≤◌, ℕ, ◌+◌, List, length, take, drop, slice_index_or}
use Rattle.std.specs.Str.{IsUtf8}

-- the name whose length stands at a place of bytes
abbrev pub name_in : List ℕ → ℕ → List ℕ
name_in bytes at = take (slice_index_or bytes at 0) (drop (at + 1) bytes)

-- a text says a name
abbrev pub Says : List ℕ → List ℕ → Type 0
Says text name = text ≡ name

-- a name stands there whole, and is text
pub record HoldsName (bytes : List ℕ) (at : ℕ) : Type 0 where
  pub within : at + 1 + slice_index_or bytes at 0 ≤ length bytes
  pub text : IsUtf8 (name_in bytes at)
