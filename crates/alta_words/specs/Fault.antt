-- Why a stream and a summary do not belong together.
use Rattle.std.specs.Prelude.{◌≡◌, ◌⊎◌, ℕ, ◌+◌, ◌*◌, ◌<◌, List, length, Some}
use Rattle.alta_postings.specs.declared.fault.StreamCause.{StreamCause}
use Rattle.alta_postings.specs.Deltas.{Spells, fault_at, first_fault, decoded_list}
use Rattle.alta_postings.specs.Table.{field_at, IsSummary, IsFault}
use Rattle.alta_words.specs.declared.checking.PostingFault.{PostingFault}
use Rattle.alta_words.specs.declared.checking.PostingFault.TheVariants as wrong
use Rattle.alta_words.specs.Word.{IsRowOf}

-- number i is a row and a block and they are the same, or it is neither
pub record Agrees (list summary : List ℕ) (b i : ℕ) : Type 0 where
  pub block : i < b → 64 * i < length list
  pub row : 64 * i < length list → i < b
  pub same : i < b → IsRowOf list summary i

-- Row i is the first that is not the block of that number, or one of the two is missing. The empty summary agrees with
-- one block or none.
pub record IsFirstDifferent (stream summary : List ℕ) (b i : ℕ) : Type 0 where
  pub spelled : Spells stream (decoded_list stream)
  pub table : IsSummary summary b
  pub many : b ≡ 0 → 64 < length (decoded_list stream)
  pub before : (j : ℕ) → j < i → Agrees (decoded_list stream) summary b j
  pub differs : Agrees (decoded_list stream) summary b i → ⊥

-- the stream's own fault, else the summary's, else the first row that differs
abbrev pub IsPostingFault : List ℕ → List ℕ → PostingFault → Type 0
IsPostingFault stream summary (wrong.Stream place) = (why : StreamCause)
    × (first_fault stream ≡ Some (fault_at place why))
IsPostingFault stream summary (wrong.Summary place) = Spells stream (decoded_list stream) × IsFault summary place
IsPostingFault stream summary (wrong.Differ row) = (b : ℕ) × IsFirstDifferent stream summary b row

-- row i has these values
pub record HasRow (summary : List ℕ) (i first last place : ℕ) : Type 0 where
  pub first_is : field_at summary (3 * i) ≡ first
  pub last_is : field_at summary (3 * i + 1) ≡ last
  pub place_is : field_at summary (3 * i + 2) ≡ place

-- how many of the first rows are the blocks of their number, after one more block
abbrev pub IsSameAfter : List ℕ → ℕ → ℕ → ℕ → ℕ → ℕ → ℕ → ℕ → Type 0
IsSameAfter summary b same block at first last new =
    ((new ≡ same + 1) × (same ≡ block) × (block < b) × HasRow summary block first last at)
    ⊎ ((new ≡ same) × (same ≡ block → block < b → HasRow summary block first last at → ⊥))

-- all rows are the blocks of their number
abbrev pub AreAllSame : ℕ → ℕ → ℕ → Type 0
AreAllSame rows blocks same = ((rows ≡ 0) × (blocks < 2)) ⊎ ((same ≡ rows) × (same ≡ blocks))
