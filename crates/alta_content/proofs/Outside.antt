-- The spans of deleted documents, and what stands outside of them.
use Rattle.std.proofs.Common.{◌≡◌, ⊎_elim, ℕ, zero, suc, ◌<◌, ◌≤◌, Bool, true, false, not, cond, List, [], ◌∷◌, ◌++◌, length, map, get_or, refl, sym, ap, subst, ◌∙◌, arith}
use Rattle.std.specs.Prelude.{nat_le, nat_lt}
use Rattle.std.specs.Cmp.Lexicographic.{nat_list_eq_equiv, slice_cmp, bytes_decides}
use Rattle.std.specs.List.{All, AllByRecursion, filter}
use Rattle.std.specs.List.Sorted.{IsStrictlySortedBy, IsNonDecreasingBy}
use Rattle.std.specs.Ordering.{nat_cmp, is_eq}
use Rattle.std.specs.declared.cmp.Ordering.TheVariants.{Less}
use Rattle.std.specs.Str.{bytes_eq}
use Rattle.std.proofs.lemmas.Bool.{cases_Bool, cond-true, cond-false, le-leb, lt-leb, leb-true, and_left, and_right, or_from, ltb-true, ltb-false}
use Rattle.std.proofs.lemmas.List.Elements.{All-nil, All-cons, All-head, All-tail, All-push, All-weaker, filter_passes}
use Rattle.std.proofs.lemmas.Map.Text.{is_eq-slice_cmp}
use Rattle.alta_content.specs.declared.document.DocRow.{DocRow}
use Rattle.alta_content.specs.TermList.{TermList}
use Rattle.alta_content.specs.declared.spans.Span.{Span}
use Rattle.alta_content.specs.Lists.{locations_of, terms_of}
use Rattle.alta_content.specs.Rows.{IsPlaced, RowsRise, end_of, ends_among}
use Rattle.alta_content.specs.Spans.{SpansRise, span_has, is_within, span_of, deleted_spans, outside_of, lists_outside}

-- ---- spans of rows
later_spans : (deleted : List ℕ) (x : ℕ) (rows : List DocRow) → All (λ r. x < r.first) rows → All (λ s. x < s.first) (deleted_spans deleted rows)
later_spans deleted x [] h = All-nil (λ s. x < s.first)
later_spans deleted x (r ∷ rs) h =
    let rest = later_spans deleted x rs (All-tail (λ r. x < r.first) r rs h) in
    ⊎_elim
    (λ y. rw y (All-cons (λ s. x < s.first) (span_of r) (deleted_spans deleted rs) (All-head (λ r. x < r.first) r rs h) rest))
    (λ n. rw n rest)
    (cases_Bool (ends_among deleted r))

pub spans_rise : (deleted : List ℕ) (rows : List DocRow) → RowsRise rows → SpansRise (deleted_spans deleted rows)
spans_rise deleted [] h = tt
spans_rise deleted (r ∷ rs) h =
    let rest = spans_rise deleted rs h.2 in
    let some : r.first ≤ end_of r = omega (arith, h.0.some) in
    ⊎_elim
    (λ y. rw y (some, later_spans deleted (end_of r) rs h.1, rest))
    (λ n. rw n rest)
    (cases_Bool (ends_among deleted r))

-- no span that begins later has the location
before_all : (x y : ℕ) (spans : List Span) → All (λ s. y < s.first) spans → x ≤ y → is_within spans x ≡ false
before_all x y [] h l = refl
before_all x y (s ∷ ss) h l =
    let lt : y < s.first = All-head (λ s. y < s.first) s ss h in
    or_from (span_has x s) (is_within ss x) (and_left (nat_le s.first x) (nat_le x s.last) (lt-leb s.first x (omega (arith, lt))))
    (before_all x y ss (All-tail (λ s. y < s.first) s ss h) l)

has_true : (x : ℕ) (s : Span) → s.first ≤ x → x ≤ s.last → span_has x s ≡ true
has_true x s l m = rw (le-leb s.first x l, le-leb x s.last m) refl

has_after : (x : ℕ) (s : Span) → s.last < x → span_has x s ≡ false
has_after x s l = and_right (nat_le s.first x) (nat_le x s.last) (lt-leb x s.last l)

-- the test answers for each location of the row whether the row is deleted
abbrev pub Tells : (ℕ → Bool) → List ℕ → DocRow → Type 0
Tells p deleted row = (x : ℕ) → row.first ≤ x → x ≤ end_of row → p x ≡ ends_among deleted row

within_own : (deleted : List ℕ) (r : DocRow) (rs : List DocRow) → All (λ s. end_of r < s.first) rs → Tells (is_within (deleted_spans deleted (r ∷ rs))) deleted r
within_own deleted r rs later x l m =
    ⊎_elim
    (λ y. rw y (rw (has_true x (span_of r) l m) refl))
    (λ n. rw n (before_all x (end_of r) (deleted_spans deleted rs) (later_spans deleted (end_of r) rs later) m))
    (cases_Bool (ends_among deleted r))

within_later : (deleted : List ℕ) (r b : DocRow) (rs : List DocRow) → end_of r < b.first → Tells (is_within (deleted_spans deleted rs)) deleted b
    → Tells (is_within (deleted_spans deleted (r ∷ rs))) deleted b
within_later deleted r b rs lt h x l m =
    ⊎_elim
    (λ y. rw y (rw (has_after x (span_of r) (omega (arith, lt, l))) (h x l m)))
    (λ n. rw n (h x l m))
    (cases_Bool (ends_among deleted r))

pub spans_tell : (deleted : List ℕ) (rows : List DocRow) → RowsRise rows → All (Tells (is_within (deleted_spans deleted rows)) deleted) rows
spans_tell deleted [] h = All-nil (Tells (is_within []) deleted)
spans_tell deleted (r ∷ rs) h =
    let rest = spans_tell deleted rs h.2 in
    All-cons (Tells (is_within (deleted_spans deleted (r ∷ rs))) deleted) r rs
    (within_own deleted r rs h.1)
    (λ k d l. within_later deleted r (get_or rs k d) rs (h.1 k d l) (rest k d l))

-- ---- a search by the last locations
spans_ordered : (spans : List Span) → SpansRise spans → All (λ s. s.first ≤ s.last) spans
spans_ordered [] h = All-nil (λ s. s.first ≤ s.last)
spans_ordered (s ∷ ss) h = All-cons (λ s. s.first ≤ s.last) s ss h.0 (spans_ordered ss h.2)

pub last_rises : (spans : List Span) → SpansRise spans → IsNonDecreasingBy (λ s. s.last) spans
last_rises [] h i j d l m = absurd (omega arith)
last_rises (s ∷ ss) h zero zero d l m = omega arith
last_rises (s ∷ ss) h zero (suc j) d l m =
    let own = (spans_ordered ss h.2) j d (omega (arith, m)) in
    let lt : s.last < (get_or ss j d).first = h.1 j d (omega (arith, m)) in
    omega (arith, own, lt)
last_rises (s ∷ ss) h (suc i) zero d l m = absurd (omega arith)
last_rises (s ∷ ss) h (suc i) (suc j) d l m = last_rises ss h.2 i j d (omega arith) (omega arith)

-- where all spans before the index end before the location and no other does, the span at the index alone may have it
pub within_at : (spans : List Span) (i x : ℕ) (d : Span) → SpansRise spans → i < length spans
    → ((k : ℕ) → k < i → (get_or spans k d).last < x) → x ≤ (get_or spans i d).last
    → is_within spans x ≡ nat_le (get_or spans i d).first x
within_at [] i x d r l before at = absurd (omega arith)
within_at (s ∷ ss) zero x d r l before at =
    ⊎_elim
    (λ y. rw (has_true x s (leb-true s.first x y) at) (sym y))
    (λ n. rw (and_left (nat_le s.first x) (nat_le x s.last) n) (before_all x s.last ss r.1 at ∙ sym n))
    (cases_Bool (nat_le s.first x))
within_at (s ∷ ss) (suc i) x d r l before at =
    rw (has_after x s (before 0 (omega arith)))
    (within_at ss i x d r.2 (omega arith) (λ k m. before (suc k) (omega (arith, m))) at)

pub within_none : (spans : List Span) (x : ℕ) (d : Span) → ((k : ℕ) → k < length spans → (get_or spans k d).last < x) → is_within spans x ≡ false
within_none [] x d before = refl
within_none (s ∷ ss) x d before =
    rw (has_after x s (before 0 (omega arith))) (within_none ss x d (λ k m. before (suc k) (omega (arith, m))))

-- ---- filters
pub filter_alike : {X : Type 0} (p q : X → Bool) (xs : List X) → All (λ x. p x ≡ q x) xs → filter p xs ≡ filter q xs
filter_alike p q [] h = refl
filter_alike {X} p q (x ∷ xs) h =
    let rest = filter_alike p q xs (All-tail (λ x. p x ≡ q x) x xs h) in
    rw (All-head (λ x. p x ≡ q x) x xs h) (ap (λ l. cond (q x) (x ∷ l) l) rest)

pub filter_all : {X : Type 0} (xs : List X) → filter (λ x. true) xs ≡ xs
filter_all [] = refl
filter_all (x ∷ xs) = ap (λ l. x ∷ l) (filter_all xs)

rows_some : (rows : List DocRow) → RowsRise rows → All (λ r. r.first ≤ end_of r) rows
rows_some [] h = All-nil (λ r. r.first ≤ end_of r)
rows_some (r ∷ rs) h = All-cons (λ r. r.first ≤ end_of r) r rs (omega (arith, h.0.some)) (rows_some rs h.2)

pub rows_outside : (deleted : List ℕ) (rows : List DocRow) → RowsRise rows
    → filter (λ r. not (is_within (deleted_spans deleted rows) r.first)) rows ≡ filter (λ r. not (ends_among deleted r)) rows
rows_outside deleted rows h =
    let p = is_within (deleted_spans deleted rows) in
    filter_alike (λ r. not (p r.first)) (λ r. not (ends_among deleted r)) rows
    (λ k d l. ap not (spans_tell deleted rows h k d l (get_or rows k d).first (omega arith) (rows_some rows h k d l)))

-- ---- the lists
abbrev TermsAfter : List ℕ → List TermList → Type 0
TermsAfter t lists = AllByRecursion (λ u. slice_cmp nat_cmp t u ≡ Less) (terms_of lists)

none_at : (t : List ℕ) (lists : List TermList) → TermsAfter t lists → locations_of lists t ≡ []
none_at t [] h = refl
none_at t (l ∷ ls) h =
    let apart : bytes_eq t l.term ≡ false = sym (is_eq-slice_cmp t l.term) ∙ ap is_eq h.0 in
    rw apart (none_at t ls h.1)

-- a list with the locations outside of the spans
abbrev pub left_of : List Span → TermList → TermList
left_of spans l = record { term = l.term; locations = outside_of spans l.locations }

pub outside_some : (spans : List Span) (l : TermList) (ls : List TermList) → nat_lt 0 (length (outside_of spans l.locations)) ≡ true
    → lists_outside spans (l ∷ ls) ≡ left_of spans l ∷ lists_outside spans ls
outside_some spans l ls y = rw y refl

pub outside_none : (spans : List Span) (l : TermList) (ls : List TermList) → nat_lt 0 (length (outside_of spans l.locations)) ≡ false
    → lists_outside spans (l ∷ ls) ≡ lists_outside spans ls
outside_none spans l ls n = rw n refl

after_outside : (spans : List Span) (t : List ℕ) (lists : List TermList) → TermsAfter t lists → TermsAfter t (lists_outside spans lists)
after_outside spans t [] h = tt
after_outside spans t (l ∷ ls) h =
    let rest = after_outside spans t ls h.1 in
    ⊎_elim
    (λ y. subst (TermsAfter t) (sym (outside_some spans l ls y)) (h.0, rest))
    (λ n. subst (TermsAfter t) (sym (outside_none spans l ls n)) rest)
    (cases_Bool (nat_lt 0 (length (outside_of spans l.locations))))

pub sorted_outside : (spans : List Span) (lists : List TermList) → IsStrictlySortedBy (slice_cmp nat_cmp) (terms_of lists) → IsStrictlySortedBy (slice_cmp nat_cmp) (terms_of (lists_outside spans lists))
unfolding IsStrictlySortedBy
sorted_outside spans [] s = tt
sorted_outside spans (l ∷ ls) s =
    let rest = sorted_outside spans ls s.1 in
    ⊎_elim
    (λ y. subst (λ k. IsStrictlySortedBy (slice_cmp nat_cmp) (terms_of k)) (sym (outside_some spans l ls y)) (after_outside spans l.term ls s.0, rest))
    (λ n. subst (λ k. IsStrictlySortedBy (slice_cmp nat_cmp) (terms_of k)) (sym (outside_none spans l ls n)) rest)
    (cases_Bool (nat_lt 0 (length (outside_of spans l.locations))))

pub some_outside : (spans : List Span) (lists : List TermList) → All (λ l. 0 < length l.locations) (lists_outside spans lists)
some_outside spans lists =
    All-weaker (λ l. nat_lt 0 (length l.locations) ≡ true) (λ l. 0 < length l.locations) (λ l y. ltb-true 0 (length l.locations) y)
    (lists_outside spans lists) (filter_passes (λ l. nat_lt 0 (length l.locations)) (map (left_of spans) lists))

no_elements : (xs : List ℕ) → nat_lt 0 (length xs) ≡ false → xs ≡ []
no_elements [] h = refl
no_elements (x ∷ xs) h = absurd (omega (arith, ltb-false 0 (length (x ∷ xs)) h))

pub locations_outside : (spans : List Span) (lists : List TermList) (t : List ℕ) → IsStrictlySortedBy (slice_cmp nat_cmp) (terms_of lists)
    → locations_of (lists_outside spans lists) t ≡ outside_of spans (locations_of lists t)
unfolding IsStrictlySortedBy
locations_outside spans [] t s = refl
locations_outside spans (l ∷ ls) t s =
    let rest = locations_outside spans ls t s.1 in
    let out = outside_of spans l.locations in
    let left = lists_outside spans ls in
    ⊎_elim
    (λ y. ap (λ k. locations_of k t) (outside_some spans l ls y) ∙ ⊎_elim
    (λ same. rw same refl)
    (λ other. rw other rest)
    (cases_Bool (bytes_eq t l.term)))
    (λ n. ap (λ k. locations_of k t) (outside_none spans l ls n) ∙ ⊎_elim
    (λ same.
    let e : t ≡ l.term = (bytes_decides t l.term).0 same in
    rw same (ap (locations_of left) e ∙ none_at l.term left (after_outside spans l.term ls s.0) ∙ sym (no_elements out n)))
    (λ other. rw other rest)
    (cases_Bool (bytes_eq t l.term)))
    (cases_Bool (nat_lt 0 (length out)))

-- ---- rows
pub rows_push : (rows : List DocRow) (row : DocRow) → RowsRise rows → IsPlaced row → All (λ r. end_of r < row.first) rows → RowsRise (rows ++ row ∷ [])
rows_push [] row h p later = (p, All-nil (λ r. end_of row < r.first), tt)
rows_push (r ∷ rs) row h p later = (
  h.0,
  All-push (λ s. end_of r < s.first) rs row h.1 (All-head (λ s. end_of s < row.first) r rs later),
  rows_push rs row h.2 p (All-tail (λ s. end_of s < row.first) r rs later),
)

pub rows_placed : (rows : List DocRow) → RowsRise rows → All IsPlaced rows
rows_placed [] h = All-nil IsPlaced
rows_placed (r ∷ rs) h = All-cons IsPlaced r rs h.0 (rows_placed rs h.2)

-- ---- each list of a content
after_each : (t : List ℕ) (lists : List TermList) → TermsAfter t lists → All (λ l. slice_cmp nat_cmp t l.term ≡ Less) lists
after_each t [] h = All-nil (λ l. slice_cmp nat_cmp t l.term ≡ Less)
after_each t (l ∷ ls) h = All-cons (λ l. slice_cmp nat_cmp t l.term ≡ Less) l ls h.0 (after_each t ls h.1)

-- the locations at a list's own term are the list's
pub own_locations : (lists : List TermList) → IsStrictlySortedBy (slice_cmp nat_cmp) (terms_of lists) → All (λ l. locations_of lists l.term ≡ l.locations) lists
unfolding IsStrictlySortedBy
own_locations [] s = All-nil (λ l. locations_of [] l.term ≡ l.locations)
own_locations (l ∷ ls) s =
    let rest = own_locations ls s.1 in
    All-cons (λ k. locations_of (l ∷ ls) k.term ≡ k.locations) l ls
    (cond-true (bytes_eq l.term l.term) l.locations (locations_of ls l.term) ((bytes_decides l.term l.term).1 refl))
    (λ k d m.
    let other = get_or ls k d in
    let apart : bytes_eq other.term l.term ≡ false =
    nat_list_eq_equiv.symm other.term l.term ∙ sym (is_eq-slice_cmp l.term other.term) ∙ ap is_eq (after_each l.term ls s.0 k d m) in
    cond-false (bytes_eq other.term l.term) l.locations (locations_of ls other.term) apart ∙ rest k d m)
