-- A binary heap in a list: no element is above its two children.
use Rattle.std.specs.Prelude.{ℕ, ◌+◌, ◌*◌, ◌<◌, ◌≤◌, List, length, slice_index}

-- c is one of the two children of p
abbrev pub IsChild : ℕ → ℕ → Type 0
IsChild p c = (2 * p < c) × (c ≤ 2 * p + 2)

-- from index `low` on, no element is above its children
abbrev pub IsHeapFrom : ℕ → List ℕ → Type 0
IsHeapFrom low xs = (p c : ℕ) → low ≤ p → IsChild p c → c < length xs → slice_index xs p ≤ slice_index xs c
