-- What a reader of a plain list is.
use Rattle.std.specs.Prelude.{ℕ, ◌≤◌, List, length, slice_index_or}
use Rattle.alta_codec.specs.declared.location.TheConstants.{TOP}
use Rattle.alta_codec.specs.Rising.{IsRising, count_from}
use Rattle.alta_words.specs.declared.plain.PlainReader.{PlainReader}

abbrev pub plain_list : PlainReader → List ℕ
plain_list s = s.list.now

abbrev pub plain_place : PlainReader → ℕ
plain_place s = slice_index_or s.list.now s.at TOP

-- what is left of it: the locations from its place on
abbrev pub plain_left : PlainReader → ℕ
plain_left s = count_from s.list.now (slice_index_or s.list.now s.at TOP)

-- its list rises, and it stands in it or behind its last location
abbrev pub IsSoundPlain : PlainReader → Type 0
IsSoundPlain s = IsRising s.list.now × (s.at ≤ length s.list.now)
