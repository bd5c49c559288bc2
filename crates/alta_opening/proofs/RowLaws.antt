-- Rows that rise: their places, the last of them, and their order behind others.
use Rattle.std.proofs.Common.{◌≡◌, ℕ, zero, suc, ◌+◌, ◌<◌, ◌≤◌, Bool, true, false, List, [], ◌∷◌, ◌++◌, length, get_or, refl, sym, ap, ◌∙◌, arith}
use Rattle.std.specs.Prelude.{nat_lt, ◌&&◌}
use Rattle.std.specs.List.{All, list_all}
use Rattle.std.proofs.lemmas.Bool.{lt-ltb, false≢true}
use Rattle.std.proofs.lemmas.List.Elements.{All-nil, All-cons, All-head, All-tail}
use Rattle.alta_content.specs.Rows.{AreDocuments, AreDocumentsBehind, Before, IsPlaced, behind_row, end_of, start}
use Rattle.alta_content.specs.declared.document.DocRow.{DocRow}
use Rattle.alta_meaning.specs.Opened.{are_in_order, comes_behind, is_below, table_rows}
use Rattle.alta_meaning.proofs.Tests.{by_test, and_left, and_right, below_from, and_both}
use Rattle.alta_root.specs.declared.root.Root.{Root}
use Rattle.alta_table.specs.Tables.{Tables}
use Rattle.alta_opening.specs.Rows.{behind_rows, leaves_room, lies_behind}
use Rattle.alta_content.proofs.Order.{iff_same}

-- ---- places

-- each row has its place
pub all_placed : (before : Before) (rows : List DocRow) → AreDocumentsBehind before rows → All IsPlaced rows
unfolding AreDocumentsBehind
all_placed before [] are = All-nil IsPlaced
all_placed before (row ∷ rows) are =
    All-cons IsPlaced row rows (record { positive = omega (arith, are.0.starts_behind); some = omega (arith, are.0.some_cells); below = are.0.end_below }) (all_placed (behind_row before row) rows are.1)

-- what the last row leaves behind
pub last_leaves : (k : ℕ) (before : Before) (rows : List DocRow) (d : DocRow) → k + 1 ≡ length rows
    → behind_rows before rows ≡ record { number = (get_or rows k d).number; end = end_of (get_or rows k d) }
last_leaves zero before [] d e = absurd (omega (arith, e))
last_leaves zero before (row ∷ []) d e = refl
last_leaves zero before (row ∷ other ∷ rows) d e = absurd (omega (arith, e))
last_leaves (suc k) before [] d e = absurd (omega (arith, e))
last_leaves (suc k) before (row ∷ []) d e = absurd (omega (arith, e))
last_leaves (suc k) before (row ∷ other ∷ rows) d e = last_leaves k (behind_row before row) (other ∷ rows) d (omega (arith, e))

-- rows leave behind no less than stood before them
pub record IsNoLess (before behind : Before) : Type 0 where
  pub number : before.number ≤ behind.number
  pub end : before.end ≤ behind.end

pub rows_rise : (before : Before) (rows : List DocRow) → AreDocumentsBehind before rows → IsNoLess before (behind_rows before rows)
unfolding AreDocumentsBehind
rows_rise before [] are = record { number = omega arith; end = omega arith }
rows_rise before (row ∷ rows) are =
    let more = rows_rise (behind_row before row) rows are.1 in
    record { number = omega (arith, more.number, are.0.rises); end = omega (arith, more.end, are.0.starts_behind, are.0.some_cells) }

-- rows behind rows
pub rows_append : (before : Before) (xs ys : List DocRow) → AreDocumentsBehind before xs → AreDocumentsBehind (behind_rows before xs) ys → AreDocumentsBehind before (xs ++ ys)
unfolding AreDocumentsBehind
rows_append before [] ys first second = second
rows_append before (x ∷ xs) ys first second = (first.0, rows_append (behind_row before x) xs ys first.1 second)

pub behind_append : (before : Before) (xs ys : List DocRow) → behind_rows before (xs ++ ys) ≡ behind_rows (behind_rows before xs) ys
behind_append before [] ys = refl
behind_append before (x ∷ xs) ys = behind_append (behind_row before x) xs ys

-- rows that stand behind rows
pub rows_split : (before : Before) (xs ys : List DocRow) → AreDocumentsBehind before (xs ++ ys) → AreDocumentsBehind (behind_rows before xs) ys
unfolding AreDocumentsBehind
rows_split before [] ys are = are
rows_split before (x ∷ xs) ys are = rows_split (behind_row before x) xs ys are.1

-- ---- order

-- a row lies behind rows where it lies behind the last of them
all_before : (row : DocRow) (before : Before) (rows : List DocRow) → AreDocumentsBehind before rows → before.number < row.number → before.end < row.first
    → list_all (λ (earlier : DocRow). comes_behind earlier row) rows ≡ lies_behind (behind_rows before rows) row
unfolding AreDocumentsBehind
all_before row before [] are number first = sym (and_both (nat_lt before.number row.number) (nat_lt before.end row.first) (lt-ltb before.number row.number number) (lt-ltb before.end row.first first))
all_before row before (x ∷ xs) are number first =
    by_test (comes_behind x row)
    (λ holds. ap (λ (b : Bool). b && list_all (λ (earlier : DocRow). comes_behind earlier row) xs) holds
    ∙ all_before row (behind_row before x) xs are.1 (below_from x.number row.number (and_left (nat_lt x.number row.number) (nat_lt (end_of x) row.first) holds))
    (below_from (end_of x) row.first (and_right (nat_lt x.number row.number) (nat_lt (end_of x) row.first) holds)))
    (λ fails. ap (λ (b : Bool). b && list_all (λ (earlier : DocRow). comes_behind earlier row) xs) fails ∙ sym (not_behind (behind_rows (behind_row before x) xs) (rows_rise (behind_row before x) xs are.1) fails))
  where
    not_behind : (behind : Before) → IsNoLess (behind_row before x) behind → comes_behind x row ≡ false → lies_behind behind row ≡ false
    not_behind behind less fails =
        by_test (lies_behind behind row)
        (λ holds.
        let n : behind.number < row.number = below_from behind.number row.number (and_left (nat_lt behind.number row.number) (nat_lt behind.end row.first) holds) in
        let f : behind.end < row.first = below_from behind.end row.first (and_right (nat_lt behind.number row.number) (nat_lt behind.end row.first) holds) in
        absurd (false≢true (sym fails ∙ and_both (nat_lt x.number row.number) (nat_lt (end_of x) row.first) (lt-ltb x.number row.number (omega (arith, n, less.number))) (lt-ltb (end_of x) row.first (omega (arith, f, less.end))))))
        (λ fails. fails)

module _ (root : Root) (earlier : List DocRow) (are : AreDocuments earlier) where
  abbrev is_placed : DocRow → Bool
  is_placed row = is_below root row && list_all (λ (e : DocRow). comes_behind e row) earlier

  last_below : (before : Before) (row : DocRow) (rows : List DocRow) → list_all is_placed (row ∷ rows) ≡ true → leaves_room root (behind_rows before (row ∷ rows)) ≡ true
  last_below before row [] e = and_left (is_below root row) (list_all (λ (e : DocRow). comes_behind e row) earlier) (and_left (is_placed row) true e)
  last_below before row (other ∷ rows) e = last_below (behind_row before row) other rows (and_right (is_placed row) (list_all is_placed (other ∷ rows)) e)

  -- number and first location of a row lie above what the earlier rows left
  record IsAbove (row : DocRow) : Type 0 where
    number : (behind_rows start earlier).number < row.number
    first : (behind_rows start earlier).end < row.first

  above_from : (row : DocRow) → lies_behind (behind_rows start earlier) row ≡ true → IsAbove row
  above_from row lies =
      let b = behind_rows start earlier in
      record {
        number = below_from b.number row.number (and_left (nat_lt b.number row.number) (nat_lt b.end row.first) lies);
        first = below_from b.end row.first (and_right (nat_lt b.number row.number) (nat_lt b.end row.first) lies);
      }

  above_to : (row : DocRow) → IsAbove row → lies_behind (behind_rows start earlier) row ≡ true
  above_to row above =
      let b = behind_rows start earlier in
      and_both (nat_lt b.number row.number) (nat_lt b.end row.first) (lt-ltb b.number row.number above.number) (lt-ltb b.end row.first above.first)

  each_placed : (before : Before) (rows : List DocRow) → AreDocumentsBehind before rows → All IsAbove rows → leaves_room root (behind_rows before rows) ≡ true → list_all is_placed rows ≡ true
  unfolding AreDocumentsBehind
  each_placed before [] fine above room = refl
  each_placed before (row ∷ rows) fine above room =
      let last = rows_rise (behind_row before row) rows fine.1 in
      let end = behind_rows (behind_row before row) rows in
      let n : end.number < root.next_number = below_from end.number root.next_number (and_left (nat_lt end.number root.next_number) (nat_lt end.end root.next_location) room) in
      let l : end.end < root.next_location = below_from end.end root.next_location (and_right (nat_lt end.number root.next_number) (nat_lt end.end root.next_location) room) in
      and_both (is_placed row) (list_all is_placed rows)
      (and_both (is_below root row) (list_all (λ (e : DocRow). comes_behind e row) earlier)
      (and_both (nat_lt row.number root.next_number) (nat_lt (end_of row) root.next_location) (lt-ltb row.number root.next_number (omega (arith, n, last.number)))
      (lt-ltb (end_of row) root.next_location (omega (arith, l, last.end))))
      (all_before row start earlier are (omega (arith, fine.0.rises)) (omega (arith, fine.0.starts_behind)) ∙ above_to row (All-head IsAbove row rows above)))
      (each_placed (behind_row before row) rows fine.1 (All-tail IsAbove row rows above) room)

  all_above : (before : Before) (rows : List DocRow) → AreDocumentsBehind before rows → (behind_rows start earlier).number ≤ before.number → (behind_rows start earlier).end ≤ before.end → All IsAbove rows
  unfolding AreDocumentsBehind
  all_above before [] fine number end = All-nil IsAbove
  all_above before (row ∷ rows) fine number end =
      All-cons IsAbove row rows (record { number = omega (arith, number, fine.0.rises); first = omega (arith, end, fine.0.starts_behind) })
      (all_above (behind_row before row) rows fine.1 (omega (arith, number, fine.0.rises)) (omega (arith, end, fine.0.starts_behind, fine.0.some_cells)))

  placed_or_not : (row : DocRow) (rows : List DocRow) → AreDocuments (row ∷ rows)
      → list_all is_placed (row ∷ rows) ≡ (lies_behind (behind_rows start earlier) row && leaves_room root (behind_rows start (row ∷ rows)))
  unfolding AreDocumentsBehind
  placed_or_not row rows fine =
      iff_same (list_all is_placed (row ∷ rows)) (lies_behind (behind_rows start earlier) row && leaves_room root (behind_rows start (row ∷ rows)))
      (λ e. and_both (lies_behind (behind_rows start earlier) row) (leaves_room root (behind_rows start (row ∷ rows)))
      (sym (all_before row start earlier are (omega (arith, fine.0.rises)) (omega (arith, fine.0.starts_behind)))
      ∙ and_right (is_below root row) (list_all (λ (e : DocRow). comes_behind e row) earlier) (and_left (is_placed row) (list_all is_placed rows) e))
      (last_below start row rows e))
      (λ e.
      let above = above_from row (and_left (lies_behind (behind_rows start earlier) row) (leaves_room root (behind_rows start (row ∷ rows))) e) in
      each_placed start (row ∷ rows) fine
      (All-cons IsAbove row rows above (all_above (behind_row start row) rows fine.1 (omega (arith, above.number)) (omega (arith, above.first, fine.0.some_cells))))
      (and_right (lies_behind (behind_rows start earlier) row) (leaves_room root (behind_rows start (row ∷ rows))) e))

-- a level is in order where its first row lies behind those of the levels before, and its last below the next ones of the root
pub order_tested : (root : Root) (levels : List Tables) (rows : List DocRow) (d : DocRow) → AreDocuments (table_rows levels) → AreDocuments rows → 0 < length rows
    → are_in_order root levels rows ≡ (lies_behind (behind_rows start (table_rows levels)) (get_or rows 0 d) && leaves_room root (behind_rows start rows))
order_tested root levels [] d are fine some = absurd (omega (arith, some))
order_tested root levels (row ∷ rows) d are fine some = placed_or_not root (table_rows levels) are row rows fine

-- the rows of a level in order stand behind those of the levels before
pub order_extends : (root : Root) (levels : List Tables) (rows : List DocRow) → AreDocuments (table_rows levels) → AreDocuments rows → are_in_order root levels rows ≡ true
    → AreDocumentsBehind (behind_rows start (table_rows levels)) rows
unfolding AreDocumentsBehind
order_extends root levels [] are fine e = tt
order_extends root levels (row ∷ rows) are fine e =
    let above = above_from root (table_rows levels) are row
    (and_left (lies_behind (behind_rows start (table_rows levels)) row) (leaves_room root (behind_rows start (row ∷ rows))) (sym (placed_or_not root (table_rows levels) are row rows fine) ∙ e)) in (
      record {
        rises = above.number;
        number_below = fine.0.number_below;
        starts_behind = above.first;
        first_below = fine.0.first_below;
        some_cells = fine.0.some_cells;
        few_cells = fine.0.few_cells;
        end_below = fine.0.end_below;
        named = fine.0.named;
      },
      fine.1,
    )

-- what rows leave behind is what the last of them leaves
pub behind_any : (before other : Before) (rows : List DocRow) → 0 < length rows → behind_rows before rows ≡ behind_rows other rows
behind_any before other [] some = absurd (omega (arith, some))
behind_any before other (row ∷ rows) some = refl
