-- How far a stream was read beside the rows of its summary.
use Rattle.std.specs.Prelude.{◌≡◌, ℕ, ◌+◌, ◌*◌, ◌/◌, ◌<◌, ◌≤◌, List, ◌∷◌, length, drop, slice_index, None}
use Rattle.alta_codec.specs.declared.location.TheConstants.{TOP}
use Rattle.alta_postings.specs.Deltas.{fault_from, list_from, first_fault, decoded_list}
use Rattle.alta_words.specs.declared.compared.Compared.{Compared}
use Rattle.alta_words.specs.Word.{IsRowOf}

-- the first rows that are the blocks of their number: so many, and of the blocks read the next one is not
pub record IsSameTo (list summary : List ℕ) (b blocks same : ℕ) : Type 0 where
  pub within : same ≤ blocks
  pub rows : (i : ℕ) → i < same → (i < b) × IsRowOf list summary i
  pub broken : same < blocks → same < b → IsRowOf list summary same → ⊥

-- Of a stream so many locations in so many blocks were read, up to this place, beside a summary of b rows. Whether the
-- rest spells a list is open.
pub record IsWalked (bytes summary : List ℕ) (b at last first count blocks same : ℕ) : Type 0 where
  pub fault : first_fault bytes ≡ fault_from at 0 last (drop at bytes)
  pub list : list_from at 0 last (drop at bytes) ≡ drop count (decoded_list bytes)
  pub counted : count ≤ length (decoded_list bytes)
  pub blocks_are : blocks ≡ (count + 63) / 64
  pub full : at < length bytes → count ≡ 64 * blocks
  pub low : last < TOP
  pub within : at ≤ length bytes
  pub short : count ≤ at
  pub first_is : 0 < count → first ≡ slice_index (decoded_list bytes) 0
  pub first_none : count ≡ 0 → first ≡ 0
  pub last_is : last ≡ slice_index (0 ∷ decoded_list bytes) count
  pub compared : same ≤ blocks
  pub rows : first_fault bytes ≡ None → IsSameTo (decoded_list bytes) summary b blocks same

-- the same of what is known of them
abbrev pub IsComparedTo : List ℕ → List ℕ → ℕ → Compared → Type 0
IsComparedTo bytes summary b c = IsWalked bytes summary b c.at c.last c.first c.count c.blocks c.same
