-- A stream that is decoded, and its locations beside the rows of a summary.
use Rattle.std.specs.Prelude.{◌≡◌, ◌⊎◌, ℕ, ◌<◌, ◌≤◌, List, length, Some}
use Rattle.alta_postings.specs.declared.fault.StreamCause.{StreamCause}
use Rattle.alta_postings.specs.Deltas.{fault_at, first_fault}
use Rattle.alta_words.specs.Fault.{Agrees}
use Rattle.alta_level.specs.declared.decoding.DecodeFault.{DecodeFault}
use Rattle.alta_level.specs.declared.decoding.DecodeFault.TheVariants as decoding

-- the first number that shows that the stream spells no list; want of memory is free
abbrev pub IsDecodeFault : List ℕ → DecodeFault → Type 0
IsDecodeFault stream decoding.Memory = Unit {0}
IsDecodeFault stream (decoding.Stream place) = (why : StreamCause) × (first_fault stream ≡ Some (fault_at place why))

-- the rows of a table are the blocks of the list, of which one alone has no table
abbrev pub AreRowsOf : List ℕ → List ℕ → ℕ → Type 0
AreRowsOf list summary b = ((b ≡ 0) × (length list ≤ 64)) ⊎ ((i : ℕ) → Agrees list summary b i)

-- row i is the first that is not the block of its number, or one of the two is missing
pub record IsFirstOther (list summary : List ℕ) (b i : ℕ) : Type 0 where
  pub many : b ≡ 0 → 64 < length list
  pub before : (j : ℕ) → j < i → Agrees list summary b j
  pub differs : Agrees list summary b i → ⊥
