-- What a reader of a coded list is.
use Rattle.std.specs.Prelude.{◌≡◌, ℕ, ◌+◌, ◌-◌, ◌*◌, ◌<◌, List}
use Rattle.std.proofs.Common.{sym, subst}
use Rattle.alta_codec.specs.declared.location.TheConstants.{TOP}
use Rattle.alta_codec.specs.Rising.{IsRising, IsPlace, pred_of, count_from}
use Rattle.alta_codec.proofs.ByIndex.{at_place}
use Rattle.alta_postings.specs.Deltas.{decoded_list}
use Rattle.alta_postings.specs.Table.{field_at}
use Rattle.alta_words.specs.declared.word.WordReader.{WordReader}
use Rattle.alta_words.specs.Word.{IsPosting, StandsAt, ReachesTo}

abbrev pub word_list : WordReader → List ℕ
word_list s = decoded_list s.stream

abbrev pub word_place : WordReader → ℕ
word_place s = s.standing.at

-- what is left of it: the locations from its place on
abbrev pub word_left : WordReader → ℕ
word_left s = count_from (word_list s) (word_place s)

-- The reader stands somewhere in its list, and keeps how far the block of a row reaches and the list's last location. The rows
-- before that one end below where it stands.
pub record IsSoundWord (s : WordReader) : Type 0 where
  pub posting : IsPosting s.stream s.summary.bytes s.summary.count
  pub stands : (i : ℕ) × StandsAt (decoded_list s.stream) i s.standing
  pub reaches : ReachesTo s.summary.bytes s.summary.count s.row s.reach s.end
  pub passed : 0 < s.row → field_at s.summary.bytes (3 * (s.row - 1) + 1) < s.standing.at
  pub ends : s.end ≡ pred_of (decoded_list s.stream) TOP

pub word_rises : (s : WordReader) → IsSoundWord s → IsRising (word_list s)
word_rises s h = h.posting.spelled.rising

pub word_stands : (s : WordReader) → IsSoundWord s → IsPlace (word_list s) (word_place s)
word_stands s h =
    let (i, x) = h.stands in
    subst (λ (n : ℕ). IsPlace (word_list s) n) (sym x.at_is) (at_place (word_list s) i h.posting.spelled.rising).0
