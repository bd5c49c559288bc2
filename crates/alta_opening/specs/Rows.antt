-- Rows one behind the other, over the levels that have them.
use Rattle.std.specs.Prelude.{ℕ, nat_lt, Bool, ◌&&◌, List, [], ◌∷◌}
use Rattle.std.specs.List.{list_all, list_any}
use Rattle.alta_content.specs.Rows.{Before, behind_row, ends_among}
use Rattle.alta_content.specs.declared.document.DocRow.{DocRow}
use Rattle.alta_root.specs.declared.root.Root.{Root}
use Rattle.alta_opening.specs.declared.order.Last.{Last}

-- what rows leave behind for the next
abbrev pub behind_rows : Before → List DocRow → Before
behind_rows before [] = before
behind_rows before (row ∷ rows) = behind_rows (behind_row before row) rows

abbrev pub left_by : Last → Before
left_by last = record { number = last.number; end = last.end }

-- number and first location of a row lie above what was left
abbrev pub lies_behind : Before → DocRow → Bool
lies_behind before row = nat_lt before.number row.number && nat_lt before.end row.first

-- what was left lies below the next number and the next location of the root
abbrev pub leaves_room : Root → Before → Bool
leaves_room root before = nat_lt before.number root.next_number && nat_lt before.end root.next_location

-- each of these is the end of one of the rows
abbrev pub are_ends : List DocRow → List ℕ → Bool
are_ends rows ends = list_all (λ end. list_any (λ (row : DocRow). ends_among (end ∷ []) row) rows) ends
