-- What a flush writes is in place.
use Rattle.std.proofs.Common.{◌≡◌, ℕ, ◌+◌, ◌<◌, ◌≤◌, Bool, true, false, List, [], ◌∷◌, ◌++◌, length, map, refl, sym, ap, subst, ◌∙◌, arith, Ok, append_assoc}
use Rattle.std.specs.Prelude.{not, ◌&&◌, ◌==◌, nat_eq, nat_le}
use Rattle.std.specs.List.{All, filter, list_any, sum_by}
use Rattle.std.proofs.lemmas.Bool.{eq-eqb}
use Rattle.std.proofs.lemmas.List.{append-nil}
use Rattle.std.proofs.lemmas.List.Elements.{All-nil, All-cons, All-append, All-map, All-filter}
use Rattle.std.proofs.lemmas.List.Folds.{list_any-append, flat_map-map}
use Rattle.std.proofs.lemmas.List.Sums.{sum_by-cons}
use Rattle.alta_journal.specs.declared.entry.Entry.{Entry}
use Rattle.alta_journal.specs.declared.entry.Entry.TheVariants.{Add, Delete, Replace}
use Rattle.alta_memlevel.specs.Added.{Added}
use Rattle.alta_content.specs.Rows.{end_of, ends_among}
use Rattle.alta_machine.specs.Cells.{cells_of}
use Rattle.alta_root.specs.declared.root.Root.{Root}
use Rattle.alta_meaning.specs.Views.{View}
use Rattle.alta_meaning.specs.Work.{stays, coming, added_at, added_from, gone, gone_among, is_gone, newest, newest_content, level_rows}
use Rattle.alta_meaning.proofs.Tests.{by_test, or_first, or_right}
use Rattle.alta_table.specs.Tables.{Tables}
use Rattle.alta_content.specs.declared.document.DocRow.{DocRow}
use Rattle.alta_meaning.specs.Holding.{Holding, IsSpaced, taken_by_held}
use Rattle.alta_meaning.specs.Opened.{have_ends, table_rows}
use Rattle.alta_meaning.specs.Ordered.{AreBelow, RowsPrecede}
use Rattle.alta_meaning.specs.Standing.{tables_by}
use Rattle.alta_meaning.specs.Switching.{InPlace}
use Rattle.alta_meaning.specs.Working.{written}
use Rattle.alta_content.specs.Joining.{rows_in}
use Rattle.alta_meaning.proofs.KnownLaws.{all_weaker}
use Rattle.alta_meaning.proofs.KeptStates.{switched_is, placed_contents, flush_contents, flush_contents_are, flush_contents_none, no_rows, contents_of, live_rows_are, rise_some, by_levels, rows_append, rows_by_levels}
use Rattle.alta_meaning.proofs.ReadLaws.{all_to}

-- ---- the newest documents lie below what comes behind them

abbrev pub LiesBelow : ℕ → ℕ → DocRow → Type 0
LiesBelow number location row = (row.number < number) × (end_of row < location)

abbrev pub cells_in : List Added → ℕ
cells_in added = sum_by (λ (a : Added). a.row.cells) added

-- a new document in front of those behind it
first_low : (number location : ℕ) (first : Added) (cells : ℕ) (more : List Added) → first.row.number ≡ number → first.row.first ≡ location → first.row.cells ≡ cells
    → All (λ (a : Added). LiesBelow (number + 1 + length more) (location + cells + cells_in more) a.row) more → 1 ≤ location
    → All (λ (a : Added). LiesBelow (number + length (first ∷ more)) (location + cells_in (first ∷ more)) a.row) (first ∷ more)
first_low number location first cells more number_is first_is cells_is low some =
    let sum = sum_by-cons (λ (a : Added). a.row.cells) first more in
    All-cons (λ (a : Added). LiesBelow (number + length (first ∷ more)) (location + cells_in (first ∷ more)) a.row) first more (omega (arith, number_is), omega (arith, some, first_is, cells_is, sum))
    (all_weaker (λ (a : Added). LiesBelow (number + 1 + length more) (location + cells + cells_in more) a.row) (λ (a : Added). LiesBelow (number + length (first ∷ more)) (location + cells_in (first ∷ more)) a.row) more
    (λ a below. (omega (arith, below.0), omega (arith, below.1, cells_is, sum))) low)

pub added_low : (number location : ℕ) (entries : List Entry) → 1 ≤ location
    → All (λ (a : Added). LiesBelow (number + length (added_from number location entries)) (location + cells_in (added_from number location entries)) a.row) (added_from number location entries)
added_low number location [] some = All-nil (λ (a : Added). LiesBelow (number + 0) (location + 0) a.row)
added_low number location (Add name title body ∷ entries) some =
    first_low number location (added_at number location name (cells_of name title body)) (length (cells_of name title body)) (added_from (number + 1) (location + length (cells_of name title body)) entries) refl refl refl
    (added_low (number + 1) (location + length (cells_of name title body)) entries (omega (arith, some))) some
added_low number location (Delete n ∷ entries) some = added_low number location entries some
added_low number location (Replace n name title body ∷ entries) some =
    first_low number location (added_at number location name (cells_of name title body)) (length (cells_of name title body)) (added_from (number + 1) (location + length (cells_of name title body)) entries) refl refl refl
    (added_low (number + 1) (location + length (cells_of name title body)) entries (omega (arith, some))) some

-- ---- the ends of rows are theirs

abbrev has_end_of : DocRow → DocRow → Bool
has_end_of r row = ends_among (end_of r ∷ []) row

each_has : (front rows : List DocRow) → All (λ (r : DocRow). list_any (has_end_of r) (front ++ rows) ≡ true) rows
each_has front [] = All-nil (λ (r : DocRow). list_any (has_end_of r) (front ++ []) ≡ true)
each_has front (row ∷ rows) =
    All-cons (λ (r : DocRow). list_any (has_end_of r) (front ++ row ∷ rows) ≡ true) row rows
    (list_any-append (has_end_of row) front (row ∷ rows)
    ∙ or_right (list_any (has_end_of row) front) (list_any (has_end_of row) (row ∷ rows))
    (or_first (has_end_of row row) (list_any (has_end_of row) rows) (or_first (nat_eq (end_of row) (end_of row)) false (eq-eqb (end_of row) (end_of row) refl))))
    (subst (λ (rs : List DocRow). All (λ (r : DocRow). list_any (has_end_of r) rs ≡ true) rows) (append_assoc front (row ∷ []) rows) (each_has (front ++ row ∷ []) rows))

pub gone_ends : (view : View) (levels : List Tables) → have_ends levels (gone_among view (table_rows levels)) ≡ true
gone_ends view levels =
    all_to (λ end. list_any (λ (row : DocRow). ends_among (end ∷ []) row) (table_rows levels)) (gone_among view (table_rows levels))
    (All-map (λ end. list_any (λ (row : DocRow). ends_among (end ∷ []) row) (table_rows levels) ≡ true) end_of (filter (is_gone view) (table_rows levels))
    (All-filter (is_gone view) (λ (r : DocRow). list_any (has_end_of r) (table_rows levels) ≡ true) (table_rows levels) (each_has [] (table_rows levels))))

-- ---- a flush

pub flush_rows : (view : View) → rows_in (flush_contents view) ≡ level_rows view.levels ++ (newest_content view).documents
flush_rows view =
    by_test (length (newest_content view).documents == 0)
    (λ none. ap rows_in (flush_contents_none view none) ∙ rows_by_levels view.levels ∙ sym (append-nil (level_rows view.levels)) ∙ ap (λ (rs : List DocRow). level_rows view.levels ++ rs) (sym (no_rows (newest_content view) none)))
    (λ some. ap rows_in (flush_contents_are view some) ∙ rows_append (contents_of view.levels) (newest_content view) ∙ ap (λ (rs : List DocRow). rs ++ (newest_content view).documents) (rows_by_levels view.levels))

pub written_in_place : (limit : ℕ) (held then : Holding) (root : Root) → IsSpaced held.view → 1 ≤ held.view.location
    → (length held.view.levels == 16 && nat_le 1 (length (newest_content held.view).documents)) ≡ false → written limit held ≡ Ok then
    → root.next_number ≡ then.view.next → root.next_location ≡ then.view.location → InPlace root then.view.deleted (map tables_by then.view.levels)
written_in_place limit held then root spaced positive few e number location =
    let view = held.view in
    let news = map (λ (a : Added). a.row) (newest view) in
    let live = filter (λ (r : DocRow). not (ends_among (gone view) r)) news in
    let is = switched_is limit held (map stays view.levels ++ coming (newest_content view)) held.job then (sym (ap (by_levels limit held) few) ∙ e) in
    let levels = is.now.levels in
    let rows : table_rows (map tables_by levels) ≡ level_rows levels = flat_map-map (λ (t : Tables). t.documents) tables_by levels in
    let all : table_rows (map tables_by levels) ≡ level_rows view.levels ++ live =
    rows ∙ sym (rows_by_levels levels) ∙ ap rows_in (placed_contents limit (taken_by_held held) (map stays view.levels ++ coming (newest_content view)) is.now is.placed_is) ∙ flush_rows view
    ∙ ap (λ (rs : List DocRow). level_rows view.levels ++ rs) (live_rows_are view spaced) in
    let same : map tables_by levels ≡ map tables_by then.view.levels = ap (λ (h : Holding). map tables_by h.view.levels) (sym is.then_is) in
    let next : root.next_number ≡ view.next + length (newest view) = number ∙ ap (λ (h : Holding). h.view.next) is.then_is in
    let place : root.next_location ≡ view.location + cells_in (newest view) = location ∙ ap (λ (h : Holding). h.view.location) is.then_is in
    let deleted : gone_among view (table_rows (map tables_by levels)) ≡ then.view.deleted = ap (gone_among view) rows ∙ ap (λ (h : Holding). h.view.deleted) (sym is.then_is) in
    subst (InPlace root then.view.deleted) same
    (subst (λ (ds : List ℕ). InPlace root ds (map tables_by levels)) deleted (record {
      rise = subst RowsPrecede (sym all) (rise_some (λ (r : DocRow). not (ends_among (gone view) r)) (level_rows view.levels) news spaced.rise);
      below =
          subst (AreBelow root) (sym all)
          (All-append (λ (row : DocRow). (row.number < root.next_number) × (end_of row < root.next_location)) (level_rows view.levels) live
          (all_weaker (LiesBelow view.next view.location) (λ (row : DocRow). (row.number < root.next_number) × (end_of row < root.next_location)) (level_rows view.levels) (λ row low. (omega (arith, low.0, next), omega (arith, low.1, place))) spaced.below)
          (All-filter (λ (r : DocRow). not (ends_among (gone view) r)) (λ (row : DocRow). (row.number < root.next_number) × (end_of row < root.next_location)) news
          (All-map (λ (row : DocRow). (row.number < root.next_number) × (end_of row < root.next_location)) (λ (a : Added). a.row) (newest view)
          (all_weaker (λ (a : Added). LiesBelow (view.next + length (newest view)) (view.location + cells_in (newest view)) a.row) (λ (a : Added). (a.row.number < root.next_number) × (end_of a.row < root.next_location)) (newest view)
          (λ a low. (omega (arith, low.0, next), omega (arith, low.1, place))) (added_low view.next view.location view.entries positive)))));
      ends = gone_ends view (map tables_by levels);
    }))
