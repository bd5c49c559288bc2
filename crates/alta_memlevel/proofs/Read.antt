-- The documents of a content, read back from its rows and lists, are those that were added.
use Rattle.std.proofs.Common.{◌≡◌, ⊎_elim, ℕ, ◌+◌, ◌<◌, ◌≤◌, Bool, true, false, ◌||◌, cond, List, [], ◌∷◌, length, map, not, get_or, refl, sym, ap, subst, ◌∙◌, arith}
use Rattle.std.specs.Prelude.{nat_eq}
use Rattle.std.specs.List.{All, filter}
use Rattle.std.proofs.lemmas.Bool.{cases_Bool, eqb-true, or_cases, or_left, or_right, true≢false}
use Rattle.std.proofs.lemmas.List.Elements.{All-filter, All-nil, All-cons, All-head, All-tail, All-map, All-weaker}
use Rattle.alta_content.specs.declared.document.DocRow.{DocRow}
use Rattle.alta_content.specs.declared.content.Content.{Content}
use Rattle.alta_content.specs.TermList.{TermList}
use Rattle.alta_content.specs.Cells.{cell_at, locations_from}
use Rattle.alta_content.specs.Lists.{TermsRise, locations_of}
use Rattle.alta_content.specs.Rows.{RowsRise, end_of, ends_among, live_rows}
use Rattle.alta_memlevel.specs.Added.{Added, HasContent, IsSpace, list_of, live_of, places_of}
use Rattle.alta_machine.specs.Cells.{cell_holds}
use Rattle.alta_machine.specs.declared.document.Document.{Document}
use Rattle.alta_memlevel.specs.Documents.{document_of, document_in}
use Rattle.alta_content.proofs.Documents.{same_cell}
use Rattle.alta_content.proofs.Elements.{among_head}
use Rattle.alta_content.proofs.Order.{Sorted, has}
use Rattle.alta_content.proofs.Ranges.{among, any_append, in_row, in_row_from, in_rows, ranges_apart}
use Rattle.alta_memlevel.proofs.One.{holds_has, listed, listed_at, listed_terms}

-- a row of each document
abbrev pub rows_added : List Added → List DocRow
rows_added added = map (λ (a : Added). a.row) added

not_true : (b : Bool) → (b ≡ true → ⊥) → b ≡ false
not_true true h = absurd (h refl)
not_true false h = refl

or_none : (b : Bool) → (b || false) ≡ b
or_none true = refl
or_none false = refl

-- ---- where a term stands

at_first : (b : Bool) (first x : ℕ) → among x (cond b (first ∷ []) []) ≡ true → x ≡ first
at_first true first x h = ⊎_elim (λ e. eqb-true x first e) (λ n. absurd (true≢false (sym n))) (or_cases (nat_eq x first) false h)
at_first false first x h = absurd (true≢false (sym h))

own_first : (b : Bool) (first : ℕ) → among first (cond b (first ∷ []) []) ≡ b
own_first true first = among_head first []
own_first false first = refl

-- the places of a term are those of its first cell and those of the others
places_split : (first : ℕ) (t : List ℕ) (c : List (List ℕ)) (cs : List (List (List ℕ))) (x : ℕ)
    → among x (places_of first t (c ∷ cs)) ≡ (among x (cond (cell_holds t c) (first ∷ []) []) || among x (places_of (first + 1) t cs))
places_split first t c cs x = any_append (nat_eq x) (cond (cell_holds t c) (first ∷ []) []) (places_of (first + 1) t cs)

pub places_within : (first : ℕ) (t : List ℕ) (cells : List (List (List ℕ))) (x : ℕ) → among x (places_of first t cells) ≡ true → (first ≤ x) × (x < first + length cells)
places_within first t [] x h = absurd (true≢false (sym h))
places_within first t (c ∷ cs) x h =
    ⊎_elim
    (λ here. let e = at_first (cell_holds t c) first x here in (omega (arith, e), omega (arith, e)))
    (λ later. let r = places_within (first + 1) t cs x later in (omega (arith, r.0), omega (arith, r.1)))
    (or_cases (among x (cond (cell_holds t c) (first ∷ []) [])) (among x (places_of (first + 1) t cs)) (sym (places_split first t c cs x) ∙ h))

at_own_cell : (first : ℕ) (t : List ℕ) (c : List (List ℕ)) (cs : List (List (List ℕ))) → among first (places_of first t (c ∷ cs)) ≡ has t c
at_own_cell first t c cs =
    let none : among first (places_of (first + 1) t cs) ≡ false =
    not_true (among first (places_of (first + 1) t cs)) (λ m. absurd (omega (arith, (places_within (first + 1) t cs first m).0))) in
    places_split first t c cs first
    ∙ ap (λ b. among first (cond (cell_holds t c) (first ∷ []) []) || b) none
    ∙ or_none (among first (cond (cell_holds t c) (first ∷ []) []))
    ∙ own_first (cell_holds t c) first
    ∙ holds_has t c

at_later_cell : (first : ℕ) (t : List ℕ) (c : List (List ℕ)) (cs : List (List (List ℕ))) (x : ℕ) → first < x → among x (places_of first t (c ∷ cs)) ≡ among x (places_of (first + 1) t cs)
at_later_cell first t c cs x l =
    let none : among x (cond (cell_holds t c) (first ∷ []) []) ≡ false =
    not_true (among x (cond (cell_holds t c) (first ∷ []) [])) (λ m. absurd (omega (arith, l, at_first (cell_holds t c) first x m))) in
    places_split first t c cs x ∙ ap (λ b. b || among x (places_of (first + 1) t cs)) none

-- ---- the rows

pub rows_rise : (added : List Added) → IsSpace added → RowsRise (rows_added added)
rows_rise [] s = tt
rows_rise (a ∷ more) s = (
  record { positive = s.0.positive; some = s.0.some; below = s.0.below },
  All-map (λ (r : DocRow). end_of a.row < r.first) (λ (b : Added). b.row) more s.2,
  rows_rise more s.3,
)

pub list_within : (added : List Added) (t : List ℕ) (x : ℕ) → IsSpace added → among x (list_of added t) ≡ true → in_rows (rows_added added) x ≡ true
list_within [] t x s h = absurd (true≢false (sym h))
list_within (a ∷ more) t x s h =
    let d = s.0 in
    ⊎_elim
    (λ here. let w = places_within a.row.first t a.cells x here in
    or_left (in_row x a.row) (in_rows (rows_added more) x) (in_row_from x a.row w.0 (omega (arith, w.1, d.counted, d.some))))
    (λ later. or_right (in_row x a.row) (in_rows (rows_added more) x) (list_within more t x s.3 later))
    (or_cases (among x (places_of a.row.first t a.cells)) (among x (list_of more t)) (sym (any_append (nat_eq x) (places_of a.row.first t a.cells) (list_of more t)) ∙ h))

-- at a location of its own row a document alone says what stands there
abbrev IsOwn : List Added → Added → Type 0
IsOwn added a = (x : ℕ) → in_row x a.row ≡ true → (in_rows (rows_added added) x ≡ true) × ((t : List ℕ) → among x (list_of added t) ≡ among x (places_of a.row.first t a.cells))

pub each_own : (added : List Added) → IsSpace added → All (IsOwn added) added
each_own [] s = All-nil (IsOwn [])
each_own (a ∷ more) s =
    let d = s.0 in
    let rows = rows_added more in
    let rise = rows_rise (a ∷ more) s in
    let split : (x : ℕ) (t : List ℕ) → among x (list_of (a ∷ more) t) ≡ (among x (places_of a.row.first t a.cells) || among x (list_of more t)) =
    λ x t. any_append (nat_eq x) (places_of a.row.first t a.cells) (list_of more t) in
    let own : (x : ℕ) → in_row x a.row ≡ true → in_rows (a.row ∷ []) x ≡ true = λ x i. or_left (in_row x a.row) false i in
    All-cons (IsOwn (a ∷ more)) a more
    (λ x i. (
      or_left (in_row x a.row) (in_rows rows x) i,
      λ t.
          let none : among x (list_of more t) ≡ false =
          not_true (among x (list_of more t)) (λ m. true≢false (sym (list_within more t x s.3 m) ∙ ranges_apart (a.row ∷ []) rows x rise (own x i))) in
          split x t ∙ ap (λ b. among x (places_of a.row.first t a.cells) || b) none ∙ or_none (among x (places_of a.row.first t a.cells)),
    ))
    (All-weaker (IsOwn more) (IsOwn (a ∷ more))
    (λ b q x i.
    let r = q x i in (
      or_right (in_row x a.row) (in_rows rows x) r.0,
      λ t.
          let none : among x (places_of a.row.first t a.cells) ≡ false =
          not_true (among x (places_of a.row.first t a.cells))
          (λ m. let w = places_within a.row.first t a.cells x m in
          let here = in_row_from x a.row w.0 (omega (arith, w.1, d.counted, d.some)) in
          true≢false (sym r.0 ∙ ranges_apart (a.row ∷ []) rows x rise (own x here))) in
          split x t ∙ ap (λ b. b || among x (list_of more t)) none ∙ r.1 t,
    ))
    more (each_own more s.3))

-- ---- the cells

-- the lists of a cell that stands alone at a location
abbrev alone : ℕ → List (List ℕ) → List TermList
alone x cell = listed (λ t. x ∷ []) cell

alone_back : (x : ℕ) (cell : List (List ℕ)) → cell_at (alone x cell) x ≡ cell
alone_back x [] = refl
alone_back x (u ∷ us) =
    let rest = alone_back x us in
    subst (λ b. map (λ (l : TermList). l.term) (cond b (record { term = u; locations = x ∷ [] } ∷ filter (λ (l : TermList). among x l.locations) (alone x us)) (filter (λ (l : TermList). among x l.locations) (alone x us))) ≡ u ∷ us)
    (sym (among_head x [])) (ap (λ l. u ∷ l) rest)

cells_back : (lists : List TermList) (first : ℕ) (cells : List (List (List ℕ))) → TermsRise lists → All Sorted cells
    → ((x : ℕ) → first ≤ x → x < first + length cells → (t : List ℕ) → among x (locations_of lists t) ≡ among x (places_of first t cells))
    → map (cell_at lists) (locations_from first (length cells)) ≡ cells
unfolding locations_from
cells_back lists first [] r s h = refl
cells_back lists first (c ∷ cs) r s h =
    let one = alone first c in
    let sorted : TermsRise one = subst Sorted (sym (listed_terms (λ t. first ∷ []) c)) (All-head Sorted c cs s) in
    let here : cell_at lists first ≡ c =
    same_cell lists one first r sorted
    (λ t. h first (omega arith) (omega arith) t ∙ at_own_cell first t c cs ∙ sym (ap (among first) (listed_at (λ u. first ∷ []) c t) ∙ own_first (has t c) first))
    ∙ alone_back first c in
    ap (λ v. v ∷ map (cell_at lists) (locations_from (first + 1) (length cs))) here
    ∙ ap (λ l. c ∷ l)
    (cells_back lists (first + 1) cs r (All-tail Sorted c cs s)
    (λ x l m t. h x (omega (arith, l)) (omega (arith, m)) t ∙ at_later_cell first t c cs x (omega (arith, l))))

-- ---- the documents

back_each : (lists : List TermList) (added : List Added) → All (λ a. document_of lists a.row ≡ document_in a) added → map (document_of lists) (rows_added added) ≡ map document_in added
back_each lists [] h = refl
back_each lists (a ∷ more) h =
    let P : Added → Type 0 = λ b. document_of lists b.row ≡ document_in b in
    ap (λ v. v ∷ map (document_of lists) (rows_added more)) (All-head P a more h) ∙ ap (λ l. document_in a ∷ l) (back_each lists more (All-tail P a more h))

pub counted_each : (added : List Added) → IsSpace added → All (λ a. (a.row.cells ≡ length a.cells) × (1 ≤ a.row.cells)) added
counted_each [] s = All-nil (λ a. (a.row.cells ≡ length a.cells) × (1 ≤ a.row.cells))
counted_each (a ∷ more) s = All-cons (λ b. (b.row.cells ≡ length b.cells) × (1 ≤ b.row.cells)) a more (s.0.counted, s.0.some) (counted_each more s.3)

pub each_back : (added : List Added) (content : Content) → HasContent added content → All (λ a. All Sorted a.cells) added → All (λ a. document_of content.lists a.row ≡ document_in a) added
each_back added content h sorted k d l =
    let a = get_or added k d in
    let count = counted_each added h.space k d l in
    let own = each_own added h.space k d l in
    let build : List (List (List ℕ)) → Document = λ cells. record { number = a.row.number; name = a.row.name; cells = cells } in
    ap build
    (ap (λ n. map (cell_at content.lists) (locations_from a.row.first n)) count.0
    ∙ cells_back content.lists a.row.first a.cells h.sorted (sorted k d l)
    (λ x b m t. ap (among x) (h.lists t) ∙ (own x (in_row_from x a.row b (omega (arith, m, count.0, count.1)))).1 t))

pub documents_back : (added : List Added) (content : Content) → HasContent added content → All (λ a. All Sorted a.cells) added
    → map (document_of content.lists) content.documents ≡ map document_in added
documents_back added content h sorted = ap (map (document_of content.lists)) h.documents ∙ back_each content.lists added (each_back added content h sorted)

-- of those that are not deleted
rows_live : (deleted : List ℕ) (added : List Added) → live_rows deleted (rows_added added) ≡ rows_added (live_of deleted added)
rows_live deleted [] = refl
rows_live deleted (a ∷ more) =
    ⊎_elim
    (λ y. rw y (rows_live deleted more))
    (λ n. rw n (ap (λ l. a.row ∷ l) (rows_live deleted more)))
    (cases_Bool (ends_among deleted a.row))

pub live_back : (added : List Added) (content : Content) (deleted : List ℕ) → HasContent added content → All (λ a. All Sorted a.cells) added
    → map (document_of content.lists) (live_rows deleted content.documents) ≡ map document_in (live_of deleted added)
live_back added content deleted h sorted =
    ap (λ rows. map (document_of content.lists) (live_rows deleted rows)) h.documents
    ∙ ap (map (document_of content.lists)) (rows_live deleted added)
    ∙ back_each content.lists (live_of deleted added)
    (All-filter (λ (a : Added). not (ends_among deleted a.row)) (λ a. document_of content.lists a.row ≡ document_in a) added (each_back added content h sorted))
