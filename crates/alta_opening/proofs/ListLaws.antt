-- What the bytes of a deletion list say.
use Rattle.std.proofs.Common.{◌≡◌, ℕ, List, [], take, drop, ap, Ok, arith}
use Rattle.alta_codec.specs.Rising.{IsRising}
use Rattle.alta_postings.specs.Deltas.{Spells, first_fault, decoded_list, stream_bytes}
use Rattle.alta_postings.proofs.Reading.{spelling_reads}
use Rattle.alta_meaning.specs.Opened.{deleted_in, list_at}
use Rattle.alta_meaning.proofs.WrittenLaws.{list_read}
use Rattle.alta_root.specs.declared.root.Root.{Root}

-- bytes that spell a list
pub list_spelled : (place : ℕ) (bytes : List ℕ) → Spells bytes (decoded_list bytes) → list_at place bytes (first_fault bytes) ≡ Ok (decoded_list bytes)
list_spelled place bytes spells = ap (list_at place bytes) (spelling_reads bytes (decoded_list bytes) spells).0

pub rising_none : IsRising []
rising_none = record { rising = λ i j less inside. absurd (omega (arith, inside)); positive = λ i inside. absurd (omega (arith, inside)); below = λ i inside. absurd (omega (arith, inside)) }

-- a root without a deletion list
pub list_missing : (root : Root) (image : List ℕ) → root.deletions.bytes ≡ 0 → deleted_in root image ≡ Ok []
unfolding stream_bytes
list_missing root image none = list_read root [] image (record { rising = rising_none; spelled = ap (λ (n : ℕ). take n (drop root.deletions.place image)) none })
