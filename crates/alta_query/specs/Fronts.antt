-- The front of a text.
use Rattle.std.specs.Prelude.{◌≡◌, ◌≤◌, ℕ, Bool, List, length}
use Rattle.std.specs.List.{prefix_len}

-- so many bytes at the front pass a test, and the next one does not
pub record IsFront (test : ℕ → Bool) (text : List ℕ) (n : ℕ) : Type 0 where
  pub len : n ≡ prefix_len test text
  pub within : n ≤ length text
