-- The term part of a segment: its fields in the order in which they are tested, each with its rule, and its one spelling.
use Rattle.std.specs.Prelude.{ℕ, ◌+◌, ◌-◌, ◌<◌, ◌≤◌, ◌^◌, List, [], ◌∷◌, ◌++◌, length, take, drop, map, Bool, true, false, nat_lt, nat_le, nat_eq, ◌&&◌, if◌then◌else◌, slice_index, IsTrue}
use Rattle.std.specs.List.{common_prefix_len, list_any, sum_by}
use Rattle.std.specs.Str.{bytes_eq}
use Rattle.alta_codec.specs.Numbers.{number_bytes}
use Rattle.alta_codec.specs.Order.{Precedes}
use Rattle.alta_content.specs.Lists.{is_kind}
use Rattle.alta_format.specs.Format.{Format, packed, ends, number_field, text_field, Repeats, repeated}
use Rattle.alta_table.specs.declared.term.TermRow.{TermRow}
use Rattle.alta_table.specs.declared.entry.TermFields.{TermFields}

abbrev pub terms_of : List TermRow → List (List ℕ)
terms_of rows = map (λ row. row.term) rows

abbrev pub counts_of : List TermRow → List ℕ
counts_of rows = map (λ row. row.count) rows

abbrev pub streams_of : List TermRow → List ℕ
streams_of rows = map (λ row. row.stream) rows

abbrev pub summaries_of : List TermRow → List ℕ
summaries_of rows = map (λ row. row.summary) rows

-- how many bytes the term's stream and summary have
abbrev pub data_of : TermRow → ℕ
data_of row = row.stream + row.summary

-- how many bytes the streams and summaries of rows have
abbrev pub data_bytes : List TermRow → ℕ
data_bytes rows = sum_by data_of rows

-- the term `D`, which stands at the ends of documents
abbrev pub is_end : TermRow → Bool
is_end row = bytes_eq row.term (68 ∷ [])

abbrev pub HasEnd : List TermRow → Type 0
HasEnd rows = IsTrue (list_any is_end rows)

-- the row of these fields, behind one of the term `before`
abbrev pub entry_row : List ℕ → TermFields → TermRow
entry_row before entry = record {
  term = take entry.shared before ++ entry.rest.now;
  count = entry.count;
  stream = entry.stream;
  summary = entry.summary;
}

-- ---- the rules, each of one field

-- with what it shares a term is at most 129 bytes long
abbrev pub is_rest_len : ℕ → ℕ → Bool
is_rest_len shared len = nat_lt 0 len && nat_le (shared + len) 129

-- the first byte of a term, of its shared front or else of its rest
abbrev pub first_byte : List ℕ → ℕ → ℕ → ℕ
first_byte before shared b = if nat_lt 0 shared then slice_index before 0 else b

-- The rest makes a term that begins with a kind, stands above the one before, and shares no more with it: where that one
-- goes on, its next byte is lower.
abbrev pub continues : List ℕ → ℕ → List ℕ → Bool
continues before shared [] = false
continues before shared (b ∷ rest) = is_kind (first_byte before shared b)
    && (if nat_lt shared (length before) then nat_lt (slice_index before shared) b else true)

-- ---- the fields

-- what a term leaves behind for the next: itself, and how many bytes are left for streams and summaries
pub record Behind : Type 0 where
  pub term : List ℕ
  pub room : ℕ

abbrev pub behind_term : Behind → TermRow → Behind
behind_term before row = record { term = row.term; room = before.room - row.stream - row.summary }

abbrev pub first_behind : ℕ → Behind
first_behind room = record { term = []; room = room }

-- A term: how much it shares with the one before, the length of the rest, the rest, its number of locations, the
-- lengths of its stream and of its summary.
unfoldable pub term_format : Behind → Format TermRow
term_format before =
    number_field packed (λ shared. nat_le shared (length before.term)) (λ shared.
    number_field packed (is_rest_len shared) (λ len.
    text_field len (continues before.term shared) (λ rest.
    number_field packed (λ count. nat_lt 0 count) (λ count.
    number_field packed (λ stream. nat_le stream before.room) (λ stream.
    number_field packed (λ summary. nat_le summary (before.room - stream)) (λ summary.
    ends (record { term = take shared before.term ++ rest; count = count; stream = stream; summary = summary })))))))

abbrev pub terms_table : Repeats Behind TermRow (List TermRow × ℕ)
terms_table = record { entry = term_format; step = behind_term; out = λ rows behind. (rows, behind.room) }

-- so many terms, and nothing behind them; with the bytes that no stream or summary takes
abbrev pub terms_format : ℕ → ℕ → Format (List TermRow × ℕ)
terms_format count room = repeated terms_table count (first_behind room) []

-- ---- the spelling

-- how many bytes two terms share at their front
abbrev pub shared_len : List ℕ → List ℕ → ℕ
shared_len before term = common_prefix_len nat_eq before term

-- an entry behind the term `before`
abbrev pub entry_bytes : List ℕ → TermRow → List ℕ
entry_bytes before row =
    number_bytes (shared_len before row.term) ++ number_bytes (length row.term - shared_len before row.term)
    ++ drop (shared_len before row.term) row.term
    ++ number_bytes row.count ++ number_bytes row.stream ++ number_bytes row.summary

-- entries behind the term `before`
unfoldable pub terms_bytes_behind : List ℕ → List TermRow → List ℕ
terms_bytes_behind before [] = []
terms_bytes_behind before (row ∷ rows) = entry_bytes before row ++ terms_bytes_behind row.term rows

abbrev pub terms_bytes : List TermRow → List ℕ
terms_bytes rows = terms_bytes_behind [] rows

-- the row may stand behind that of the term `before`
pub record MayFollowTerm (before : List ℕ) (row : TermRow) : Type 0 where
  pub rises : Precedes before row.term
  pub kind : IsTrue (is_kind (slice_index row.term 0))
  pub short : length row.term ≤ 129
  pub some : 0 < row.count
  pub few : row.count < 2 ^ 64

-- rows that may stand one behind the other, behind the term `before`
unfoldable pub AreTermsBehind : List ℕ → List TermRow → Type 0
AreTermsBehind before [] = Unit {0}
AreTermsBehind before (row ∷ rows) = MayFollowTerm before row × AreTermsBehind row.term rows

-- the same from the first on, which has the empty term before it
abbrev pub AreTerms : List TermRow → Type 0
AreTerms rows = AreTermsBehind [] rows
