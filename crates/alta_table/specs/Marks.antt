-- Places between the rows of a term part, and marks at some of them.
use Rattle.std.specs.Prelude.{◌≡◌, ℕ, ◌+◌, ◌-◌, ◌*◌, ◌/◌, ◌<◌, ◌≤◌, ◌^◌, List, [], length, take, drop, slice_index_or, Result, Ok, Err}
use Rattle.alta_format.specs.Format.{read, repeated}
use Rattle.alta_table.specs.declared.marks.Mark.{Mark}
use Rattle.alta_table.specs.declared.terms.HeldTerms.{HeldTerms}
use Rattle.alta_table.specs.declared.term.TermRow.{TermRow}
use Rattle.alta_table.specs.Terms.{AreTerms, Behind, data_bytes, terms_format, terms_table}

-- what reading a term part finds: the rows, and how many bytes no stream or summary takes
abbrev pub Total : Type 0
Total = Result ((List TermRow × ℕ) × List ℕ) ℕ

-- So many of the rows of a part stand before a place, and leave this behind. From there on reading finds what it finds of the whole
-- part, `total`, which has so many rows, and so much room for their streams and summaries.
pub record IsBehind (total : Total) (count room : ℕ) (rows : List TermRow) (i : ℕ) (behind : Behind)
    (rest : List ℕ) : Type 0 where
  pub within : i ≤ length rows
  pub reads : read (repeated terms_table (count - i) behind (take i rows)) rest ≡ total
  pub sum : behind.room + data_bytes (take i rows) ≡ room
  pub last : (d : TermRow) → 0 < i → behind.term ≡ (slice_index_or rows (i - 1) d).term

-- the term of the row before that of a mark, in the text of such terms
abbrev pub head_of : List ℕ → Mark → List ℕ
head_of heads m = take m.len (drop m.start heads)

-- each mark stands before its row: that of the first before the first, and each other sixteen rows behind the one before
pub record IsMark (total : Total) (count room : ℕ) (bytes : List ℕ) (rows : List TermRow) (heads : List ℕ) (k : ℕ)
    (m : Mark) : Type 0 where
  pub lies : m.start + m.len ≤ length heads
  pub short : m.len ≤ 129
  pub inside : m.at ≤ length bytes
  pub stands : IsBehind total count room rows (k * 16)
      (record { term = head_of heads m; room = m.left }) (drop m.at bytes)

abbrev pub AreMarks : Total → ℕ → ℕ → List ℕ → List TermRow → List ℕ → List Mark → Type 0
AreMarks total count room bytes rows heads marks = (k : ℕ) → (d : Mark) → k < length marks
    → IsMark total count room bytes rows heads k (slice_index_or marks k d)

-- ---- a part that was read

-- the rows that were found
unfoldable pub rows_found : Total → List TermRow
rows_found (Ok x) = x.0.0
rows_found (Err left) = []

-- the marks of a part whose rows were read
pub record AreMarked (count room : ℕ) (bytes : List ℕ) (heads : List ℕ) (marks : List Mark) : Type 0 where
  pub are : AreMarks (read (terms_format count room) bytes) count room bytes
      (rows_found (read (terms_format count room) bytes)) heads marks
  pub many : length marks ≡ (count + 15) / 16

abbrev pub all_read : HeldTerms → Total
all_read t = read (terms_format t.count t.room) t.bytes.items

abbrev pub rows_in : HeldTerms → List TermRow
rows_in t = rows_found (all_read t)

-- All rows were read, and keep the rules. So many bytes are left of the room.
pub record IsHeld (t : HeldTerms) (left : ℕ) : Type 0 where
  pub reads : all_read t ≡ Ok ((rows_in t, left), [])
  pub many : length (rows_in t) ≡ t.count
  pub small : t.count < 2 ^ 64
  pub stand : AreTerms (rows_in t)
  pub sum : data_bytes (rows_in t) + left ≡ t.room
  pub marked : AreMarked t.count t.room t.bytes.items t.marks.heads.items t.marks.marks.items

-- a walk stands before a row of such a part
abbrev pub StandsBefore : HeldTerms → ℕ → Behind → List ℕ → Type 0
StandsBefore t i behind rest = IsBehind (all_read t) t.count t.room (rows_in t) i behind rest
