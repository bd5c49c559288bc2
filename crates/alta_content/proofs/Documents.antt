-- The cells of a join's rows are those of its parts.
use Rattle.std.proofs.Common.{◌≡◌, ⊎_elim, ℕ, zero, suc, ◌+◌, ◌<◌, ◌≤◌, Bool, true, false, not, ◌||◌, cond, List, [], ◌∷◌, ◌++◌, map, get_or, refl, sym, ap, subst, ◌∙◌, arith}
use Rattle.std.specs.Prelude.{flat_map}
use Rattle.std.specs.List.{All, filter}
use Rattle.std.specs.List.Sorted.{IsStrictlySortedBy}
use Rattle.std.specs.Str.{bytes_eq}
use Rattle.std.proofs.lemmas.Bool.{cases_Bool, not-true}
use Rattle.std.proofs.lemmas.List.Elements.{All-nil, All-cons, All-head, All-tail, All-filter, All-weaker, filter-append, filter_passes}
use Rattle.std.proofs.lemmas.List.{map-append}
use Rattle.alta_content.specs.declared.document.DocRow.{DocRow}
use Rattle.alta_content.specs.declared.content.Content.{Content}
use Rattle.alta_content.specs.TermList.{TermList}
use Rattle.alta_content.specs.Cells.{cell_at, cells_at, locations_from, with_cells}
use Rattle.alta_content.specs.Joining.{joined_in, locations_among, parts_of, rows_in}
use Rattle.alta_content.specs.Lists.{TermsRise, locations_of, terms_of}
use Rattle.alta_content.specs.Parts.{MayJoin}
use Rattle.alta_content.specs.Rows.{end_of, ends_among, live_rows}
use Rattle.alta_content.specs.Spans.{deleted_spans, is_within}
use Rattle.alta_content.proofs.Outside.{Tells, spans_tell}
use Rattle.alta_content.proofs.Order.{After, Sorted, has, none_of, one_list, same_term}
use Rattle.alta_content.proofs.Contents.{part_rises, rows_rise}
use Rattle.alta_content.proofs.Elements.{all_left, all_right, among_filter, chosen}
use Rattle.alta_content.proofs.Gathered.{outside_locations, outside_rise}
use Rattle.alta_content.proofs.Ranges.{among, each_in, in_row, in_row_from, in_rows, own_alone}

-- ---- the cell at a location

abbrev cell_of : Bool → TermList → List TermList → ℕ → List (List ℕ)
cell_of b l ls x = map (λ (k : TermList). k.term) (cond b (l ∷ filter (λ (k : TermList). among x k.locations) ls) (filter (λ (k : TermList). among x k.locations) ls))

cell_after : (t : List ℕ) (lists : List TermList) (x : ℕ) → After t (terms_of lists) → After t (cell_at lists x)
cell_after t [] x a = tt
cell_after t (l ∷ ls) x a =
    let rest = cell_after t ls x a.1 in
    ⊎_elim
    (λ y. subst (λ b. After t (cell_of b l ls x)) (sym y) (a.0, rest))
    (λ n. subst (λ b. After t (cell_of b l ls x)) (sym n) rest)
    (cases_Bool (among x l.locations))

cell_sorted : (lists : List TermList) (x : ℕ) → TermsRise lists → Sorted (cell_at lists x)
unfolding IsStrictlySortedBy
cell_sorted [] x s = tt
cell_sorted (l ∷ ls) x s =
    let rest = cell_sorted ls x s.1 in
    ⊎_elim
    (λ y. subst (λ b. Sorted (cell_of b l ls x)) (sym y) (cell_after l.term ls x s.0, rest))
    (λ n. subst (λ b. Sorted (cell_of b l ls x)) (sym n) rest)
    (cases_Bool (among x l.locations))

-- a term is in the cell exactly where its list has the location
cell_has : (lists : List TermList) (x : ℕ) (t : List ℕ) → TermsRise lists → has t (cell_at lists x) ≡ among x (locations_of lists t)
unfolding IsStrictlySortedBy
cell_has [] x t s = refl
cell_has (l ∷ ls) x t s =
    let rest = cell_has ls x t s.1 in
    ⊎_elim
    (λ e.
    let none : has t (cell_at ls x) ≡ false = ap (λ u. has u (cell_at ls x)) (same_term t l.term e) ∙ none_of l.term (cell_at ls x) (cell_after l.term ls x s.0) in
    ⊎_elim
    (λ y. ap (λ b. has t (cell_of b l ls x)) y ∙ ap (λ b. b || has t (cell_at ls x)) e ∙ sym (ap (λ b. among x (cond b l.locations (locations_of ls t))) e ∙ y))
    (λ n. ap (λ b. has t (cell_of b l ls x)) n ∙ none ∙ sym (ap (λ b. among x (cond b l.locations (locations_of ls t))) e ∙ n))
    (cases_Bool (among x l.locations)))
    (λ o. ⊎_elim
    (λ y. ap (λ b. has t (cell_of b l ls x)) y ∙ ap (λ b. b || has t (cell_at ls x)) o ∙ rest ∙ sym (ap (λ b. among x (cond b l.locations (locations_of ls t))) o))
    (λ n. ap (λ b. has t (cell_of b l ls x)) n ∙ rest ∙ sym (ap (λ b. among x (cond b l.locations (locations_of ls t))) o))
    (cases_Bool (among x l.locations)))
    (cases_Bool (bytes_eq t l.term))

pub same_cell : (a b : List TermList) (x : ℕ) → TermsRise a → TermsRise b → ((t : List ℕ) → among x (locations_of a t) ≡ among x (locations_of b t)) → cell_at a x ≡ cell_at b x
same_cell a b x s r h =
    one_list (cell_at a x) (cell_at b x) (cell_sorted a x s) (cell_sorted b x r)
    (λ t. cell_has a x t s ∙ h t ∙ sym (cell_has b x t r))

-- ---- the cells of a row

map_from : {X : Type 0} (f g : ℕ → X) (first n : ℕ) → ((x : ℕ) → first ≤ x → x < first + n → f x ≡ g x) → map f (locations_from first n) ≡ map g (locations_from first n)
unfolding locations_from
map_from f g first zero h = refl
map_from f g first (suc n) h =
    ap (λ v. v ∷ map f (locations_from (first + 1) n)) (h first (omega arith) (omega arith))
    ∙ ap (λ l. g first ∷ l) (map_from f g (first + 1) n (λ x l m. h x (omega (arith, l)) (omega (arith, m))))

same_cells : (a b : List TermList) (row : DocRow) → ((x : ℕ) → row.first ≤ x → x ≤ end_of row → cell_at a x ≡ cell_at b x) → cells_at a row ≡ cells_at b row
same_cells a b row h =
    map_from (cell_at a) (cell_at b) row.first row.cells (λ x l m. h x l (omega (arith, m)))

all_parts : (P : DocRow → Type 0) (contents : List Content) → All P (rows_in contents) → All (λ (c : Content). All P c.documents) contents
all_parts P [] h = All-nil (λ (c : Content). All P c.documents)
all_parts P (c ∷ cs) h =
    All-cons (λ (c : Content). All P c.documents) c cs (all_left P c.documents (rows_in cs) h) (all_parts P cs (all_right P c.documents (rows_in cs) h))

-- the cells of each row that is kept are the same in the join as in the content that it came from
pub cells_kept : (contents : List Content) (dead : List ℕ) → MayJoin contents
    → All (λ (c : Content). All (λ row. cells_at (joined_in contents dead).lists row ≡ cells_at c.lists row) (live_rows dead c.documents)) contents
cells_kept contents dead h k d l =
    let c = get_or contents k d in
    let rows = rows_in contents in
    let rise = rows_rise rows h.documents in
    let spans = deleted_spans dead rows in
    let parts = parts_of contents in
    let J = (joined_in contents dead).lists in
    let live : DocRow → Bool = λ row. not (ends_among dead row) in
    let own = own_alone contents rise h.parts k d l in
    let tells : All (Tells (is_within spans) dead) c.documents = all_parts (Tells (is_within spans) dead) contents (spans_tell dead rows rise) k d l in
    let ranges = each_in c.documents in
    λ j e m.
    let row = get_or (live_rows dead c.documents) j e in
    let stays : ends_among dead row ≡ false = not-true (ends_among dead row) (filter_passes live c.documents j e m) in
    let tell : Tells (is_within spans) dead row = All-filter live (Tells (is_within spans) dead) c.documents tells j e m in
    let inside : (x : ℕ) → in_row x row ≡ true → in_rows c.documents x ≡ true = All-filter live (λ (r : DocRow). (x : ℕ) → in_row x r ≡ true → in_rows c.documents x ≡ true) c.documents ranges j e m in
    same_cells J c.lists row
    (λ x a b.
    let outside : not (is_within spans x) ≡ true = ap not (tell x a b ∙ stays) in
    same_cell J c.lists x (outside_rise spans parts) (part_rises c (h.parts k d l))
    (λ t. ap (among x) (outside_locations spans parts t)
    ∙ among_filter (λ y. not (is_within spans y)) x (locations_among parts t) outside
    ∙ (own x t (inside x (in_row_from x row a b))).1))

-- ---- the rows that are not deleted, with their cells

-- what was left out is left out again
left_again : (p q : DocRow → Bool) (rows : List DocRow) → All (λ row. q row ≡ true → p row ≡ true) rows → filter (λ row. not (p row)) (filter (λ row. not (q row)) rows) ≡ filter (λ row. not (p row)) rows
left_again p q [] h = refl
left_again p q (r ∷ rs) h =
    let P : DocRow → Type 0 = λ row. q row ≡ true → p row ≡ true in
    let f : DocRow → Bool = λ row. not (p row) in
    let g : DocRow → Bool = λ row. not (q row) in
    let rest = left_again p q rs (All-tail P r rs h) in
    ⊎_elim
    (λ y. ap (λ b. filter f (chosen (not b) r (filter g rs))) y ∙ rest ∙ sym (ap (λ b. chosen (not b) r (filter f rs)) (All-head P r rs h y)))
    (λ n. ap (λ b. filter f (chosen (not b) r (filter g rs))) n ∙ ap (λ l. chosen (f r) r l) rest)
    (cases_Bool (q r))

map_each : {X : Type 0} (f g : DocRow → X) (rows : List DocRow) → All (λ row. f row ≡ g row) rows → map f rows ≡ map g rows
map_each f g [] h = refl
map_each f g (r ∷ rs) h =
    let P : DocRow → Type 0 = λ row. f row ≡ g row in
    ap (λ v. v ∷ map f rs) (All-head P r rs h) ∙ ap (λ l. g r ∷ l) (map_each f g rs (All-tail P r rs h))

states_from : (lists : List TermList) (contents : List Content) (dead deleted : List ℕ)
    → All (λ (c : Content). All (λ row. cells_at lists row ≡ cells_at c.lists row) (live_rows dead c.documents)) contents
    → All (λ row. ends_among dead row ≡ true → ends_among deleted row ≡ true) (rows_in contents)
    → map (with_cells lists) (live_rows deleted (live_rows dead (rows_in contents))) ≡ flat_map (λ (c : Content). map (with_cells c.lists) (live_rows deleted c.documents)) contents
states_from lists [] dead deleted f h = refl
states_from lists (c ∷ cs) dead deleted f h =
    let P : DocRow → Type 0 = λ row. ends_among dead row ≡ true → ends_among deleted row ≡ true in
    let Q : Content → Type 0 = λ d. All (λ row. cells_at lists row ≡ cells_at d.lists row) (live_rows dead d.documents) in
    let live : DocRow → Bool = λ row. not (ends_among deleted row) in
    let kept : DocRow → Bool = λ row. not (ends_among dead row) in
    let rest = states_from lists cs dead deleted (All-tail Q c cs f) (all_right P c.documents (rows_in cs) h) in
    ap (λ l. map (with_cells lists) (filter live l)) (filter-append kept c.documents (rows_in cs))
    ∙ ap (map (with_cells lists)) (filter-append live (filter kept c.documents) (filter kept (rows_in cs)))
    ∙ map-append (with_cells lists) (filter live (filter kept c.documents)) (filter live (filter kept (rows_in cs)))
    ∙ ap (λ l. l ++ map (with_cells lists) (filter live (filter kept (rows_in cs))))
    (map_each (with_cells lists) (with_cells c.lists) (filter live (filter kept c.documents))
    (All-weaker (λ row. cells_at lists row ≡ cells_at c.lists row) (λ row. with_cells lists row ≡ with_cells c.lists row) (λ row e. ap (λ cells. (row, cells)) e) (filter live (filter kept c.documents))
    (All-filter live (λ row. cells_at lists row ≡ cells_at c.lists row) (filter kept c.documents) (All-head Q c cs f)))
    ∙ ap (map (with_cells c.lists)) (left_again (ends_among deleted) (ends_among dead) c.documents (all_left P c.documents (rows_in cs) h)))
    ∙ ap (λ l. map (with_cells c.lists) (live_rows deleted c.documents) ++ l) rest

pub states_kept : (contents : List Content) (dead deleted : List ℕ) → MayJoin contents → All (λ row. ends_among dead row ≡ true → ends_among deleted row ≡ true) (rows_in contents)
    → map (with_cells (joined_in contents dead).lists) (live_rows deleted (joined_in contents dead).documents)
    ≡ flat_map (λ (c : Content). map (with_cells c.lists) (live_rows deleted c.documents)) contents
states_kept contents dead deleted h all = states_from (joined_in contents dead).lists contents dead deleted (cells_kept contents dead h) all
