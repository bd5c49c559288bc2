-- The ends of rows that come in place of others.
use Rattle.std.proofs.Common.{◌≡◌, ⊎_elim, ℕ, zero, suc, ◌-◌, ◌<◌, ◌≤◌, Bool, true, false, nat_eq, List, [], ◌∷◌, ◌++◌, length, get_or, map, refl, sym, ◌∙◌, ap, subst, arith}
use Rattle.std.specs.Prelude.{◌||◌, Contains}
use Rattle.std.specs.List.{All, filter}
use Rattle.std.specs.List.Sorted.{IsNonDecreasingBy}
use Rattle.std.proofs.lemmas.Bool.{cases_lt, false≢true}
use Rattle.std.proofs.lemmas.List.{get_or_default}
use Rattle.std.proofs.lemmas.List.Folds.{list_any-append, list_any_at, list_any_none}
use Rattle.alta_codec.specs.Rising.{IsRising}
use Rattle.alta_content.specs.Rows.{IsPlaced, RowsRise, end_of}
use Rattle.alta_content.specs.declared.document.DocRow.{DocRow}
use Rattle.alta_content.proofs.Rises.{above_from_rising, filter-has, filter-keeps, filter-rises}
use Rattle.alta_meaning.specs.Opened.{table_rows}
use Rattle.alta_meaning.specs.Ordered.{Precedes, RowsPrecede}
use Rattle.alta_meaning.proofs.KeptStates.{map_filter}
use Rattle.alta_meaning.proofs.KnownLaws.{all_weaker}
use Rattle.alta_meaning.proofs.Tests.{apart_test, by_test, equal_test}
use Rattle.alta_memlevel.proofs.Ends.{ends_rise}
use Rattle.alta_table.specs.Tables.{Tables}
use Rattle.alta_catalog.specs.Replacing.{ends_in, is_end}
use Rattle.alta_catalog.proofs.EndLaws.{among, here_or_there, is_among, member, no_member}
use Rattle.alta_catalog.proofs.RisingLaws.{one_from}
use Rattle.alta_content.proofs.Elements.{all_left}

-- ---- rows that rise

pub rise_front : (xs ys : List DocRow) → RowsRise (xs ++ ys) → RowsRise xs
rise_front [] ys rise = tt
rise_front (x ∷ xs) ys rise = (rise.0, all_left (λ (r : DocRow). end_of x < r.first) xs ys rise.1, rise_front xs ys rise.2)

pub rise_behind : (xs ys : List DocRow) → RowsRise (xs ++ ys) → RowsRise ys
rise_behind [] ys rise = rise
rise_behind (x ∷ xs) ys rise = rise_behind xs ys rise.2

pub placed_at : (rows : List DocRow) → RowsRise rows → (k : ℕ) (d : DocRow) → k < length rows → IsPlaced (get_or rows k d)
placed_at [] rise k d inside = absurd (omega (arith, inside))
placed_at (row ∷ rows) rise zero d inside = rise.0
placed_at (row ∷ rows) rise (suc k) d inside = placed_at rows rise.2 k d (omega (arith, inside))

above_at : (rows : List DocRow) → RowsRise rows → (i j : ℕ) (d : DocRow) → i < j → j < length rows → end_of (get_or rows i d) < (get_or rows j d).first
above_at [] rise i j d less inside = absurd (omega (arith, inside))
above_at (row ∷ rows) rise i zero d less inside = absurd (omega (arith, less))
above_at (row ∷ rows) rise zero (suc j) d less inside = rise.1 j d (omega (arith, inside))
above_at (row ∷ rows) rise (suc i) (suc j) d less inside = above_at rows rise.2 i j d (omega (arith, less)) (omega (arith, inside))

-- where each row begins
pub firsts_rise : (rows : List DocRow) → RowsRise rows → IsNonDecreasingBy (λ (row : DocRow). row.first) rows
firsts_rise rows rise i j d le inside =
    ⊎_elim
    (λ less. omega (arith, above_at rows rise i j d less inside, (placed_at rows rise i d (omega (arith, le, inside))).some))
    (λ same.
    let e : i ≡ j = omega (arith, le, same) in
    subst (λ n. (get_or rows i d).first ≤ (get_or rows n d).first) e (omega arith))
    (cases_lt i j)

-- rows of which each precedes those behind it
pub ranges_rise : (rows : List DocRow) → RowsPrecede rows → All IsPlaced rows → RowsRise rows
ranges_rise [] rise placed = tt
ranges_rise (row ∷ rows) rise placed = (
  placed 0 row (omega arith),
  all_weaker (Precedes row) (λ (r : DocRow). end_of row < r.first) rows (λ r precedes. precedes.1) rise.0,
  ranges_rise rows rise.1 (λ k d inside. placed (suc k) d (omega (arith, inside))),
)

-- ---- whether a row ends at a location

-- none does, where each ends elsewhere
pub ends_nowhere : (rows : List DocRow) (end : ℕ) → ((k : ℕ) (d : DocRow) → k < length rows → end_of (get_or rows k d) ≡ end → ⊥) → is_end rows end ≡ false
ends_nowhere rows end none = list_any_none (λ (row : DocRow). nat_eq (end_of row) end) rows (λ k d inside. apart_test (end_of (get_or rows k d)) end (none k d inside))

-- the last row ends below it
pub ends_below : (rows : List DocRow) → RowsRise rows → (end : ℕ) (d : DocRow) → 0 < length rows → end_of (get_or rows (length rows - 1) d) < end → is_end rows end ≡ false
ends_below rows rise end d some less = ends_nowhere rows end (λ k e inside same.
    let last : length rows - 1 < length rows = omega (arith, some) in
    let at : get_or rows k e ≡ get_or rows k d = get_or_default rows k e d inside in
    ⊎_elim
    (λ front. omega (arith, same, ap end_of at, less, above_at rows rise k (length rows - 1) d front last, (placed_at rows rise (length rows - 1) d last).some))
    (λ back.
    let is : k ≡ length rows - 1 = omega (arith, back, inside) in
    omega (arith, same, ap end_of at, ap (λ n. end_of (get_or rows n d)) is, less))
    (cases_lt k (length rows - 1)))

-- all rows begin behind it
pub ends_before : (rows : List DocRow) → RowsRise rows → (end : ℕ) → ((k : ℕ) (d : DocRow) → k < length rows → end < (get_or rows k d).first) → is_end rows end ≡ false
ends_before rows rise end behind = ends_nowhere rows end (λ k d inside same. omega (arith, same, behind k d inside, (placed_at rows rise k d inside).some))

-- the last row that does not begin behind it ends elsewhere
pub ends_elsewhere : (rows : List DocRow) → RowsRise rows → (i end : ℕ) (e : DocRow) → i < length rows → (get_or rows i e).first ≤ end
    → ((k : ℕ) (d : DocRow) → i < k → k < length rows → end < (get_or rows k d).first) → (end_of (get_or rows i e) ≡ end → ⊥) → is_end rows end ≡ false
ends_elsewhere rows rise i end e inside begins behind other = ends_nowhere rows end (λ k d within same.
    let at : get_or rows k d ≡ get_or rows k e = get_or_default rows k d e within in
    ⊎_elim
    (λ front. omega (arith, same, ap end_of at, begins, above_at rows rise k i e front inside))
    (λ back. ⊎_elim
    (λ more. omega (arith, same, behind k d more within, (placed_at rows rise k d within).some))
    (λ le.
    let is : k ≡ i = omega (arith, back, le) in
    other (omega (arith, same, ap end_of at, ap (λ n. end_of (get_or rows n e)) is)))
    (cases_lt i k))
    (cases_lt k i))

-- the last row that does not begin behind it tells
pub last_begun : (rows : List DocRow) → RowsRise rows → (i end : ℕ) (row : DocRow) → i < length rows → row ≡ get_or rows i row → row.first ≤ end
    → ((k : ℕ) (d : DocRow) → i < k → k < length rows → end < (get_or rows k d).first) → nat_eq (end_of row) end ≡ is_end rows end
last_begun rows rise i end row inside is begins behind =
    by_test (nat_eq (end_of row) end)
    (λ same. same ∙ sym (list_any_at (λ (r : DocRow). nat_eq (end_of r) end) rows i row inside (ap (λ (r : DocRow). nat_eq (end_of r) end) (sym is) ∙ same)))
    (λ other. other ∙ sym (ends_elsewhere rows rise i end row inside (subst (λ (r : DocRow). r.first ≤ end) is begins) behind
    (λ same. absurd (false≢true (sym other ∙ equal_test (end_of row) end (ap end_of is ∙ same))))))

-- ---- rows that stand one behind the other

pub end_both : (xs ys : List DocRow) (end : ℕ) → is_end (xs ++ ys) end ≡ (is_end xs end || is_end ys end)
end_both xs ys end = list_any-append (λ (row : DocRow). nat_eq (end_of row) end) xs ys

-- a row of a level ends there
pub ends_in_one : (levels : List Tables) (level : Tables) (end : ℕ) → Contains levels level → is_end level.documents end ≡ true → is_end (table_rows levels) end ≡ true
ends_in_one [] level end has is = absurd (no_member level has)
ends_in_one (t ∷ levels) level end has is =
    end_both t.documents (table_rows levels) end
    ∙ ⊎_elim
    (λ (same : t ≡ level). ap (λ (b : Bool). b || is_end (table_rows levels) end) (ap (λ (l : Tables). is_end l.documents end) same ∙ is))
    (λ more. or_right (is_end t.documents end) (is_end (table_rows levels) end) (ends_in_one levels level end more is))
    (here_or_there t levels level has)
  where
    or_right : (a b : Bool) → b ≡ true → (a || b) ≡ true
    or_right true b e = refl
    or_right false b e = e

-- ---- the ends of rows that are among others

listed : (rows : List DocRow) (end : ℕ) → is_end rows end ≡ is_among (map end_of rows) end
listed [] end = refl
listed (row ∷ rows) end = ap (λ (b : Bool). nat_eq (end_of row) end || b) (listed rows end)

-- the ends of rows that are gone are the gone ones that are ends
pub ends_coming : (gone : List ℕ) (rows : List DocRow) → IsRising gone → RowsRise rows → filter (is_end rows) gone ≡ ends_in gone rows
ends_coming gone rows rising rise =
    let ends : IsRising (map end_of rows) = ends_rise rows rise in
    one_from 0 (filter (is_end rows) gone) (filter (is_among gone) (map end_of rows))
    (above_from_rising (filter (is_end rows) gone) (filter-rises (is_end rows) gone rising))
    (above_from_rising (filter (is_among gone) (map end_of rows)) (filter-rises (is_among gone) (map end_of rows) ends))
    (λ z has.
    let both = filter-has (is_end rows) gone z has in
    filter-keeps (is_among gone) (map end_of rows) z (member (map end_of rows) z (sym (listed rows z) ∙ both.1)) (among gone z both.0))
    (λ z has.
    let both = filter-has (is_among gone) (map end_of rows) z has in
    filter-keeps (is_end rows) gone z (member gone z both.1) (listed rows z ∙ among (map end_of rows) z both.0))
    ∙ sym (map_filter end_of (is_among gone) rows)
