-- A list of a level: what it must be, and where it first is not.
use Rattle.std.specs.Prelude.{◌≡◌, ℕ, ◌+◌, ◌*◌, ◌<◌, List, length, slice_index, Some}
use Rattle.alta_codec.specs.Rising.{IsRising}
use Rattle.alta_postings.specs.declared.fault.StreamCause.{StreamCause}
use Rattle.alta_postings.specs.Deltas.{Spells, fault_at, first_fault, decoded_list}
use Rattle.alta_postings.specs.Table.{IsFault}
use Rattle.alta_words.specs.Fault.{IsFirstDifferent}
use Rattle.alta_words.specs.Word.{IsPosting}
use Rattle.alta_content.specs.declared.document.DocRow.{DocRow}
use Rattle.alta_level.specs.declared.stored.StoredList.{StoredList}
use Rattle.alta_content.specs.Lists.{AreInRanges, end_term}
use Rattle.alta_content.specs.Rows.{ends_of, firsts_of}
use Rattle.alta_level.specs.Coded.{IsCoded}

-- a list as it stands on the disk, and what its row says of it
pub record Stored : Type 0 where
  pub stream : List ℕ
  pub stream_place : ℕ
  pub summary : List ℕ
  pub summary_place : ℕ
  pub term : List ℕ
  pub count : ℕ

abbrev pub stored_of : StoredList → Stored
stored_of s = record {
  stream = s.stream.now;
  stream_place = s.stream_place;
  summary = s.summary.now;
  summary_place = s.summary_place;
  term = s.term.now;
  count = s.count;
}

-- the ranges of documents stand one behind the other
pub record AreApart (documents : List DocRow) : Type 0 where
  pub rising : IsRising (ends_of documents)
  pub apart : (i j : ℕ) → i < j → j < length documents → slice_index (ends_of documents) i
      < slice_index (firsts_of documents) j

-- a list keeps what its row and the documents say of it
pub record Fits (documents : List DocRow) (term : List ℕ) (count : ℕ) (list : List ℕ) : Type 0 where
  pub counted : length list ≡ count
  pub within : AreInRanges documents list
  pub ends : term ≡ end_term → list ≡ ends_of documents

-- what stands there is this list
pub record IsListOf (documents : List DocRow) (s : Stored) (list : List ℕ) : Type 0 where
  pub coded : IsCoded s.stream s.summary list
  pub fits : Fits documents s.term s.count list

-- The first fault of a list, as a place on the disk: the stream's own, the summary's own, the first row that is not
-- its block or is missing, and last the stream's first byte, where it keeps not what its row and the documents say.
pub data IsListFault (documents : List DocRow) (s : Stored) : ℕ → Type 0 where
  in_stream : (at : ℕ) (why : StreamCause) → first_fault s.stream ≡ Some (fault_at at why)
      → IsListFault documents s (s.stream_place + at)
  in_summary : (at : ℕ) → Spells s.stream (decoded_list s.stream) → IsFault s.summary at
      → IsListFault documents s (s.summary_place + at)
  in_row : (b row : ℕ) → IsFirstDifferent s.stream s.summary b row
      → IsListFault documents s (s.summary_place + 24 * row)
  in_list : (b : ℕ) → IsPosting s.stream s.summary b → (Fits documents s.term s.count (decoded_list s.stream) → ⊥)
      → IsListFault documents s s.stream_place
