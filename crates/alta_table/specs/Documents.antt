-- The document part of a segment: its fields in the order in which they are tested, each with its rule, and its one
-- spelling.
use Rattle.std.specs.Prelude.{ℕ, ◌+◌, ◌-◌, List, [], ◌∷◌, ◌++◌, length, Bool, nat_lt, nat_le, ◌&&◌}
use Rattle.std.specs.List.{list_all}
use Rattle.alta_codec.specs.declared.location.TheConstants.{TOP}
use Rattle.alta_codec.specs.Name.{is_graphic}
use Rattle.alta_codec.specs.Numbers.{number_bytes}
use Rattle.alta_format.specs.Format.{Format, packed, byte, ends, number_field, text_field, Repeats, repeated, entries_bytes}
use Rattle.alta_content.specs.declared.document.DocRow.{DocRow}
use Rattle.alta_content.specs.Rows.{Before, behind_row, start}
use Rattle.alta_table.specs.declared.documents.RowFields.{RowFields}

-- ---- the rules, each of one field

-- a step up that stays below TOP
abbrev pub rises : ℕ → ℕ → Bool
rises before more = nat_lt 0 more && nat_lt (before + more) TOP

-- 3 to 262,146 cells, the last of them below TOP
abbrev pub are_cells : ℕ → ℕ → Bool
are_cells first cells = nat_le 3 cells && nat_le cells 262146 && nat_lt (first + cells - 1) TOP

abbrev pub is_name_len : ℕ → Bool
is_name_len len = nat_lt 0 len && nat_le len 64

abbrev pub is_graphic_text : List ℕ → Bool
is_graphic_text text = list_all is_graphic text

-- ---- the fields

-- A row: its number less the one before, its first location less the end before, its cells, the length of its name,
-- its name.
unfoldable pub row_format : Before → Format DocRow
row_format before =
    number_field packed (rises before.number) (λ more.
    number_field packed (rises before.end) (λ gap.
    number_field packed (are_cells (before.end + gap)) (λ cells.
    number_field byte is_name_len (λ len.
    text_field len is_graphic_text (λ name.
    ends (record { number = before.number + more; first = before.end + gap; cells = cells; name = name }))))))

abbrev pub documents_table : Repeats Before DocRow (List DocRow)
documents_table = record { entry = row_format; step = behind_row; out = λ rows before. rows }

-- so many rows, and nothing behind them
abbrev pub documents_format : ℕ → Format (List DocRow)
documents_format count = repeated documents_table count start []

-- the row that its fields say
abbrev pub row_from : RowFields → DocRow
row_from fields = record { number = fields.number; first = fields.first; cells = fields.cells; name = fields.name.now }

-- ---- the spelling

-- a row, by what the row before leaves behind
abbrev pub row_bytes : Before → DocRow → List ℕ
row_bytes before row =
    number_bytes (row.number - before.number) ++ number_bytes (row.first - before.end) ++ number_bytes row.cells
    ++ length row.name ∷ row.name

abbrev pub documents_bytes : List DocRow → List ℕ
documents_bytes rows = entries_bytes documents_table row_bytes start rows
