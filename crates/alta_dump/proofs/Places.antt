-- The places of the cells of rows.
use Rattle.std.proofs.Common.{◌≡◌, ℕ, zero, suc, ◌+◌, ◌<◌, ◌≤◌, Bool, true, false, cond, leb, not, ◌&&◌, List, [], ◌∷◌, ◌++◌, length, map, take, get_or, refl, sym, ap, ◌∙◌, arith, append-nil, append_assoc}
use Rattle.std.specs.List.{All, range_with_len}
use Rattle.std.proofs.lemmas.Bool.{le-leb}
use Rattle.std.proofs.lemmas.List.Elements.{All-nil, All-cons, All-append, All-filter, All-get_or, All-head, All-tail}
use Rattle.alta_content.specs.Cells.{locations_from}
use Rattle.alta_content.specs.Rows.{RowsRise, end_of, ends_among, live_rows}
use Rattle.alta_content.specs.declared.document.DocRow.{DocRow}
use Rattle.alta_docread.specs.Kept.{has}
use Rattle.alta_memlevel.specs.Added.{Added, IsSpace, live_of}
use Rattle.alta_search.specs.Answers.{answers_in}
use Rattle.alta_dump.specs.Shown.{places_of, row_in}

-- places that follow each other, as the library has them
pub range_is : (first n : ℕ) → range_with_len first n ≡ locations_from first n
unfolding locations_from
range_is first zero = refl
range_is first (suc n) = ap (λ (xs : List ℕ). first ∷ xs) (range_is (first + 1) n)

-- ---- rows one behind the other

range_below : (n first bound : ℕ) → first + n ≤ bound → All (λ p. p < bound) (locations_from first n)
unfolding locations_from
range_below zero first bound le = All-nil (λ (p : ℕ). p < bound)
range_below (suc n) first bound le = All-cons (λ (p : ℕ). p < bound) first (locations_from (first + 1) n) (omega (arith, le)) (range_below n (first + 1) bound (omega (arith, le)))

-- the places of rows before one lie below it
pub before_row : (rows : List DocRow) (i : ℕ) (d : DocRow) → RowsRise rows → i < length rows → All (λ p. p < (get_or rows i d).first) (places_of (take i rows))
before_row [] i d rise l = absurd (omega (arith, l))
before_row (row ∷ rows) zero d rise l = All-nil (λ (p : ℕ). p < row.first)
before_row (row ∷ rows) (suc i) d (placed, behind, rest) l =
    let next = (get_or rows i d).first in
    let above : end_of row < next = All-get_or (λ (r : DocRow). end_of row < r.first) rows i d (omega (arith, l)) behind in
    let some = placed.some in
    All-append (λ (p : ℕ). p < next) (locations_from row.first row.cells) (places_of (take i rows)) (range_below row.cells row.first next (omega (arith, above, some)))
    (before_row rows i d rest (omega (arith, l)))

pub first_of_row : (rows : List DocRow) (i : ℕ) (d : DocRow) → RowsRise rows → i < length rows → 1 ≤ (get_or rows i d).first
first_of_row [] i d rise l = absurd (omega (arith, l))
first_of_row (row ∷ rows) zero d rise l = rise.0.positive
first_of_row (row ∷ rows) (suc i) d rise l = first_of_row rows i d rise.2 (omega (arith, l))

pub places_more : (rows : List DocRow) (i : ℕ) (d : DocRow) → i < length rows
    → places_of (take (suc i) rows) ≡ places_of (take i rows) ++ locations_from (get_or rows i d).first (get_or rows i d).cells
places_more [] i d l = absurd (omega (arith, l))
places_more (row ∷ rows) zero d l = append-nil (locations_from row.first row.cells)
places_more (row ∷ rows) (suc i) d l =
    let own = locations_from row.first row.cells in
    ap (λ (xs : List ℕ). own ++ xs) (places_more rows i d (omega (arith, l)))
    ∙ sym (append_assoc own (places_of (take i rows)) (locations_from (get_or rows i d).first (get_or rows i d).cells))

-- ---- live rows

-- the rows that end in the list, which each does, and are not deleted
pub all_end : (list gone : List ℕ) (rows : List DocRow) → All (λ row. has list (end_of row) ≡ true) rows → answers_in list gone 0 rows ≡ live_rows gone rows
unfolding has
all_end list gone [] all = refl
all_end list gone (row ∷ rows) all =
    let Ends : DocRow → Type 0 = λ r. has list (end_of r) ≡ true in
    let low : leb 0 (end_of row) ≡ true = le-leb 0 (end_of row) (omega arith) in
    let more = answers_in list gone 0 rows in
    ap (λ (b : Bool). cond (b && (has list (end_of row) && not (has gone (end_of row)))) (row ∷ more) more) low
    ∙ ap (λ (b : Bool). cond (b && not (has gone (end_of row))) (row ∷ more) more) (All-head Ends row rows all)
    ∙ ap (λ (rs : List DocRow). cond (not (ends_among gone row)) (row ∷ rs) rs) (all_end list gone rows (All-tail Ends row rows all))

-- the rows of the documents that are not deleted
pub live_added : (gone : List ℕ) (added : List Added) → live_rows gone (map row_in added) ≡ map row_in (live_of gone added)
live_added gone [] = refl
live_added gone (a ∷ more) = ap (λ (rs : List DocRow). cond (not (ends_among gone a.row)) (a.row ∷ rs) rs) (live_added gone more) ∙ mapped (not (ends_among gone a.row))
  where
    mapped : (b : Bool) → cond b (a.row ∷ map row_in (live_of gone more)) (map row_in (live_of gone more)) ≡ map row_in (cond b (a ∷ live_of gone more) (live_of gone more))
    mapped true = refl
    mapped false = refl

-- rows of a space rise without meeting
pub rows_rise : (added : List Added) → IsSpace added → RowsRise (map row_in added)
rows_rise [] s = tt
rows_rise (a ∷ more) (here, numbers, behind, rest) = (record { positive = here.positive; some = here.some; below = here.below }, later more behind, rows_rise more rest)
  where
    later : (bs : List Added) → All (λ (b : Added). end_of a.row < b.row.first) bs → All (λ (r : DocRow). end_of a.row < r.first) (map row_in bs)
    later [] all = All-nil (λ (r : DocRow). end_of a.row < r.first)
    later (b ∷ bs) all =
        let Behind : Added → Type 0 = λ c. end_of a.row < c.row.first in
        All-cons (λ (r : DocRow). end_of a.row < r.first) b.row (map row_in bs) (All-head Behind b bs all) (later bs (All-tail Behind b bs all))

-- some of the rows that rise rise
pub live_rise : (gone : List ℕ) (rows : List DocRow) → RowsRise rows → RowsRise (live_rows gone rows)
live_rise gone [] rise = tt
live_rise gone (row ∷ rows) (placed, behind, rest) = chosen (not (ends_among gone row)) (live_rise gone rows rest)
  where
    chosen : (b : Bool) → RowsRise (live_rows gone rows) → RowsRise (cond b (row ∷ live_rows gone rows) (live_rows gone rows))
    chosen true later = (placed, All-filter (λ (r : DocRow). not (ends_among gone r)) (λ (r : DocRow). end_of row < r.first) rows behind, later)
    chosen false later = later
