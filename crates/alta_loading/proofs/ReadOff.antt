-- The content of a level is that of the documents that are read off it.
use Rattle.std.proofs.Common.{◌≡◌, ⊎_elim, inl, inr, ℕ, zero, suc, ◌+◌, ◌-◌, ◌<◌, ◌≤◌, Bool, true, false, ◌||◌, cond, List, [], ◌∷◌, length, map, get_or, refl, sym, ap, subst, ◌∙◌, arith}
use Rattle.std.specs.Prelude.{All, Contains, nat_eq, nat_le}
use Rattle.std.specs.List.{filter}
use Rattle.std.specs.List.Sorted.{IsStrictlySortedBy}
use Rattle.std.specs.Str.{bytes_eq}
use Rattle.std.proofs.lemmas.Bool.{and_parts, cases_Bool, eqb-true, leb-true, or_cases, true≢false}
use Rattle.std.proofs.lemmas.List.Elements.{All-nil, All-cons, All-head, All-tail}
use Rattle.alta_codec.specs.Rising.{IsRising}
use Rattle.alta_codec.proofs.ByIndex.{element}
use Rattle.alta_codec.proofs.Places.{Contains-head, Contains-tail}
use Rattle.alta_compile.specs.Space.{Placed, list_of}
use Rattle.alta_compile.proofs.Spaces.{Has, HasAt, has-list, list-has, list-rises}
use Rattle.alta_content.specs.Lists.{AreListsBehind, IsContent, TermsRise, locations_of, terms_of}
use Rattle.alta_content.specs.Rows.{RowsRise, end_of}
use Rattle.alta_content.specs.declared.content.Content.{Content}
use Rattle.alta_content.specs.TermList.{TermList}
use Rattle.alta_content.specs.declared.document.DocRow.{DocRow}
use Rattle.alta_content.proofs.Contents.{lists_rise, rows_rise}
use Rattle.alta_content.proofs.Elements.{among_at}
use Rattle.alta_content.proofs.Order.{After, has, none_of, same_term}
use Rattle.alta_content.proofs.Ranges.{among, in_range, in_row, in_rows}
use Rattle.alta_meaning.specs.Levels.{cell_at, document_of, locations_from}
use Rattle.alta_meaning.specs.Ordered.{Precedes, RowsPrecede}
use Rattle.alta_loading.proofs.Cuts.{LiesIn, lies_at}
use Rattle.alta_memlevel.specs.Added.{Added, IsInSpace}
use Rattle.alta_memlevel.specs.Added as mem
use Rattle.alta_memlevel.proofs.One.{holds_has}
use Rattle.alta_machine.specs.Patterns.{meets}
use Rattle.alta_machine.specs.declared.test.Test.{Test}
use Rattle.alta_machine.specs.declared.test.Test.TheVariants.{Is}
use Rattle.alta_search.proofs.NewestAnswers.{added-apart}
use Rattle.alta_search.proofs.NewestLists.{lists-same, placed_of, space_of}
use Rattle.alta_search.proofs.Rising.{one_rising}

-- a document by its row, its cells being read off the lists
abbrev pub read_off : List TermList → DocRow → Added
read_off lists row = record { row = row; cells = (document_of lists row).cells }

abbrev pub added_in : Content → List Added
added_in content = map (read_off content.lists) content.documents

-- ---- whether a list has a location

pub among_contains : (x : ℕ) (xs : List ℕ) → among x xs ≡ true → Contains xs x
among_contains x [] h = absurd (true≢false (sym h))
among_contains x (y ∷ ys) h =
    ⊎_elim (λ e. subst (Contains (y ∷ ys)) (sym (eqb-true x y e)) (Contains-head y ys)) (λ m. Contains-tail y ys x (among_contains x ys m)) (or_cases (nat_eq x y) (among x ys) h)

pub contains_among : (x : ℕ) (xs : List ℕ) → Contains xs x → among x xs ≡ true
contains_among x xs (k, l, e) = subst (λ (y : ℕ). among y xs ≡ true) (default xs k x l ∙ e) (among_at xs k l)
  where
    default : (ys : List ℕ) (k x : ℕ) → k < length ys → get_or ys k 0 ≡ get_or ys k x
    default [] k x l = absurd (omega (arith, l))
    default (y ∷ ys) zero x l = refl
    default (y ∷ ys) (suc k) x l = default ys k x (omega (arith, l))

-- ---- the cell at a location

abbrev pub cell_of : Bool → TermList → List TermList → ℕ → List (List ℕ)
cell_of b l ls x = map (λ (k : TermList). k.term) (cond b (l ∷ filter (λ (k : TermList). among x k.locations) ls) (filter (λ (k : TermList). among x k.locations) ls))

pub cell_after : (t : List ℕ) (lists : List TermList) (x : ℕ) → After t (terms_of lists) → After t (cell_at lists x)
cell_after t [] x a = tt
cell_after t (l ∷ ls) x a =
    let rest = cell_after t ls x a.1 in
    ⊎_elim
    (λ y. subst (λ b. After t (cell_of b l ls x)) (sym y) (a.0, rest))
    (λ n. subst (λ b. After t (cell_of b l ls x)) (sym n) rest)
    (cases_Bool (among x l.locations))

-- a term is in the cell exactly where its list has the location
cell_has : (lists : List TermList) (x : ℕ) (t : List ℕ) → TermsRise lists → has t (cell_at lists x) ≡ among x (locations_of lists t)
unfolding IsStrictlySortedBy
cell_has [] x t s = refl
cell_has (l ∷ ls) x t s =
    let rest = cell_has ls x t s.1 in
    ⊎_elim
    (λ e.
    let none : has t (cell_at ls x) ≡ false = ap (λ u. has u (cell_at ls x)) (same_term t l.term e) ∙ none_of l.term (cell_at ls x) (cell_after l.term ls x s.0) in
    ⊎_elim
    (λ y. ap (λ b. has t (cell_of b l ls x)) y ∙ ap (λ b. b || has t (cell_at ls x)) e ∙ sym (ap (λ b. among x (cond b l.locations (locations_of ls t))) e ∙ y))
    (λ n. ap (λ b. has t (cell_of b l ls x)) n ∙ none ∙ sym (ap (λ b. among x (cond b l.locations (locations_of ls t))) e ∙ n))
    (cases_Bool (among x l.locations)))
    (λ o. ⊎_elim
    (λ y. ap (λ b. has t (cell_of b l ls x)) y ∙ ap (λ b. b || has t (cell_at ls x)) o ∙ rest ∙ sym (ap (λ b. among x (cond b l.locations (locations_of ls t))) o))
    (λ n. ap (λ b. has t (cell_of b l ls x)) n ∙ rest ∙ sym (ap (λ b. among x (cond b l.locations (locations_of ls t))) o))
    (cases_Bool (among x l.locations)))
    (cases_Bool (bytes_eq t l.term))

-- so it meets the test for the term
pub cell_meets : (lists : List TermList) (x : ℕ) (t : List ℕ) → TermsRise lists → meets (Is t) (cell_at lists x) ≡ among x (locations_of lists t)
cell_meets lists x t s = holds_has t (cell_at lists x) ∙ cell_has lists x t s

-- ---- the cells of a row

pub cells_long : {X : Type 0} (f : ℕ → X) (first n : ℕ) → length (map f (locations_from first n)) ≡ n
unfolding locations_from
cells_long f first zero = refl
cells_long f first (suc n) = let rest = cells_long f (first + 1) n in omega (arith, rest)

pub cell_met : (test : Test) (f : ℕ → List (List ℕ)) (first n p : ℕ) → HasAt test (map f (locations_from first n)) p → (p < n) × (meets test (f (first + p)) ≡ true)
unfolding locations_from
cell_met test f first zero p h = absurd h
cell_met test f first (suc n) zero h = let here : first ≡ first + 0 = omega arith in (omega arith, subst (λ (x : ℕ). meets test (f x) ≡ true) here h)
cell_met test f first (suc n) (suc p) h =
    let (l, m) = cell_met test f (first + 1) n p h in
    let there : first + 1 + p ≡ first + suc p = omega arith in (omega (arith, l), subst (λ (x : ℕ). meets test (f x) ≡ true) there m)

pub met_cell : (test : Test) (f : ℕ → List (List ℕ)) (first n p : ℕ) → p < n → meets test (f (first + p)) ≡ true → HasAt test (map f (locations_from first n)) p
unfolding locations_from
met_cell test f first zero p l m = absurd (omega (arith, l))
met_cell test f first (suc n) zero l m = let here : first + 0 ≡ first = omega arith in subst (λ (x : ℕ). meets test (f x) ≡ true) here m
met_cell test f first (suc n) (suc p) l m =
    let there : first + suc p ≡ first + 1 + p = omega arith in met_cell test f (first + 1) n p (omega (arith, l)) (subst (λ (x : ℕ). meets test (f x) ≡ true) there m)

-- ---- the rows

-- the row of a location
in_has : (lists : List TermList) (rows : List DocRow) (z : ℕ) → in_rows rows z ≡ true → (row : DocRow) × Has (space_of (map (read_off lists) rows)) (placed_of (read_off lists row)) × (row.first ≤ z) × (z ≤ end_of row)
in_has lists [] z h = absurd (true≢false (sym h))
in_has lists (r ∷ rs) z h =
    ⊎_elim
    (λ here. let at = and_parts (nat_le r.first z) (nat_le z (end_of r)) here in (r, inl refl, leb-true r.first z at.0, leb-true z (end_of r) at.1))
    (λ later. let (row, n, l, m) = in_has lists rs z later in (row, inr n, l, m))
    (or_cases (in_row z r) (in_rows rs z) h)

-- the row of a document, which keeps what all rows keep
pub has_row : (P : DocRow → Type 0) (lists : List TermList) (rows : List DocRow) (d : Placed) → All P rows → Has (space_of (map (read_off lists) rows)) d → (row : DocRow) × (placed_of (read_off lists row) ≡ d) × P row
has_row P lists [] d all m = absurd m
has_row P lists (r ∷ rs) d all m =
    ⊎_elim (λ e. (r, e, All-head P r rs all)) (λ n. has_row P lists rs d (All-tail P r rs all) n) m

pub rows_back : (lists : List TermList) (rows : List DocRow) → map (λ (a : Added). a.row) (map (read_off lists) rows) ≡ rows
rows_back lists [] = refl
rows_back lists (r ∷ rs) = ap (λ l. r ∷ l) (rows_back lists rs)

pub documents_each : (lists : List TermList) (rows : List DocRow) → RowsRise rows → All IsInSpace (map (read_off lists) rows)
documents_each lists [] r = All-nil IsInSpace
documents_each lists (row ∷ rows) (p, behind, rest) =
    All-cons IsInSpace (read_off lists row) (map (read_off lists) rows)
    (record { positive = p.positive; some = p.some; counted = sym (cells_long (cell_at lists) row.first row.cells); below = p.below })
    (documents_each lists rows rest)

-- documents whose rows rise are a space
pub space_from : (added : List Added) → RowsPrecede (map (λ (a : Added). a.row) added) → All IsInSpace added → mem.IsSpace added
space_from [] rise each = tt
space_from (a ∷ more) (here, rise) each = (
  All-head IsInSpace a more each,
  all_back (λ (r : DocRow). a.row.number < r.number) (λ r p. p.0) more here,
  all_back (λ (r : DocRow). end_of a.row < r.first) (λ r p. p.1) more here,
  space_from more rise (All-tail IsInSpace a more each),
)
  where
    all_back : (P : DocRow → Type 0) → ((r : DocRow) → Precedes a.row r → P r) → (bs : List Added) → All (Precedes a.row) (map (λ (b : Added). b.row) bs) → All (λ (b : Added). P b.row) bs
    all_back P goes [] all = All-nil (λ (b : Added). P b.row)
    all_back P goes (b ∷ bs) all =
        let Before : DocRow → Type 0 = Precedes a.row in
        All-cons (λ (c : Added). P c.row) b bs (goes b.row (All-head Before b.row (map (λ (c : Added). c.row) bs) all)) (all_back P goes bs (All-tail Before b.row (map (λ (c : Added). c.row) bs) all))

-- ---- the lists

none_rises : IsRising []
none_rises = record { rising = λ i j l m. absurd (omega (arith, m)); positive = λ i l. absurd (omega (arith, l)); below = λ i l. absurd (omega (arith, l)) }

lies_behind : (documents : List DocRow) (before : List ℕ) (lists : List TermList) (t : List ℕ) → AreListsBehind documents before lists → LiesIn documents (locations_of lists t)
unfolding AreListsBehind
lies_behind documents before [] t h = record { rising = none_rises; within = λ i l. absurd (omega (arith, l)) }
lies_behind documents before (l ∷ ls) t (m, more) =
    ⊎_elim
    (λ y. subst (λ b. LiesIn documents (cond b l.locations (locations_of ls t))) (sym y) (record { rising = m.rising; within = λ i k. in_range documents (get_or l.locations i 0) (m.within i k) }))
    (λ n. subst (λ b. LiesIn documents (cond b l.locations (locations_of ls t))) (sym n) (lies_behind documents l.term ls t more))
    (cases_Bool (bytes_eq t l.term))

module _ (c : Content) (is : IsContent c) (rise : RowsPrecede c.documents) (t : List ℕ) where
  abbrev list : List ℕ
  list = locations_of c.lists t

  abbrev space : List Placed
  space = space_of (added_in c)

  terms_rise : TermsRise c.lists
  terms_rise = lists_rise c.documents [] c.lists is.lists_stand

  added_space : mem.IsSpace (added_in c)
  added_space =
      space_from (added_in c) (subst RowsPrecede (sym (rows_back c.lists c.documents)) rise) (documents_each c.lists c.documents (rows_rise c.documents is.documents_stand))

  lies : LiesIn c.documents list
  lies = lies_behind c.documents [] c.lists t is.lists_stand

  to_space : (z : ℕ) → Contains list z → Contains (list_of space (Is t)) z
  to_space z m =
      let here : among z list ≡ true = contains_among z list m in
      let positive : 0 < z = let (k, l, e) = element list z m in omega (arith, lies.rising.positive k l, e) in
      let (row, n, l, k) = in_has c.lists c.documents z (lies_at c.documents list z lies m) in
      let p = z - row.first in
      let at : z ≡ row.first + p = omega (arith, l) in
      has-list (Is t) space (placed_of (read_off c.lists row)) p z n at
      (met_cell (Is t) (cell_at c.lists) row.first row.cells p (omega (arith, l, k, positive)) (cell_meets c.lists (row.first + p) t terms_rise ∙ ap (λ (x : ℕ). among x list) (sym at) ∙ here))

  from_space : (z : ℕ) → Contains (list_of space (Is t)) z → Contains list z
  from_space z m =
      let (d, n, p, e, h) = list-has (Is t) space z m in
      let (row, same, k) = has_row (λ r. Unit {0}) c.lists c.documents d (λ i r l. tt) n in
      let at : z ≡ row.first + p = subst (λ (x : Placed). z ≡ x.first + p) (sym same) e in
      let met = cell_met (Is t) (cell_at c.lists) row.first row.cells p (subst (λ (x : Placed). HasAt (Is t) x.cells p) (sym same) h) in
      among_contains z list (ap (λ (x : ℕ). among x list) at ∙ sym (cell_meets c.lists (row.first + p) t terms_rise) ∙ met.1)

  -- the list of a term is that of the documents
  pub list_read_off : list ≡ mem.list_of (added_in c) t
  list_read_off =
      one_rising list (list_of space (Is t)) lies.rising (list-rises (Is t) space (added-apart (added_in c) added_space)) to_space from_space ∙ sym (lists-same t (added_in c))
