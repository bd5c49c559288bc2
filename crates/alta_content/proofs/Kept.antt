-- A join keeps the rules of a content.
use Rattle.std.proofs.Common.{◌≡◌, ⊎_elim, inl, inr, ℕ, suc, ◌<◌, ◌≤◌, Bool, true, false, not, ◌||◌, cond, IsTrue, List, [], ◌∷◌, ◌++◌, length, map, get_or, refl, sym, ap, subst, ◌∙◌, arith}
use Rattle.std.specs.Prelude.{nat_lt, nat_le, slice_index, ◌⊎◌}
use Rattle.std.specs.List.{All, AllByRecursion, filter, list_any}
use Rattle.std.specs.List.Sorted.{IsStrictlySortedBy}
use Rattle.std.specs.Str.{bytes_eq}
use Rattle.std.specs.declared.cmp.Ordering.TheVariants.{Less}
use Rattle.std.specs.Cmp.Lexicographic.{bytes_decides, nat_list_eq_equiv}
use Rattle.std.proofs.lemmas.Bool.{cases_Bool, or_cases, or_left, or_right, not-true, cond-true, cond-false, true≢false, and_parts, leb-true}
use Rattle.std.proofs.lemmas.Grind.{flat_map-append}
use Rattle.std.proofs.lemmas.List.{length-map, map-append}
use Rattle.std.proofs.lemmas.List.Elements.{All-nil, All-cons, All-head, All-tail, All-filter, All-map, All-weaker, All-from_recursion}
use Rattle.alta_codec.specs.Order.{Precedes}
use Rattle.alta_codec.specs.Rising.{IsRising}
use Rattle.alta_content.specs.declared.document.DocRow.{DocRow}
use Rattle.alta_content.specs.Joining.{gathered, in_order, joined_in, locations_among, parts_of, rows_in, terms_among, with_term}
use Rattle.alta_content.specs.Lists.{AreInRanges, AreListsBehind, IsContent, IsInRange, TermsRise, end_term, is_end_list, is_kind, locations_of, terms_of}
use Rattle.alta_content.specs.Parts.{IsEmpty, IsPart, MayJoin}
use Rattle.alta_content.specs.Rows.{AreDocuments, AreDocumentsBehind, Before, MayFollow, RowsRise, behind_row, end_of, ends_among, ends_of, live_rows, start}
use Rattle.alta_content.specs.Spans.{deleted_spans, is_within, lists_outside, outside_of}
use Rattle.alta_content.specs.declared.content.Content.{Content}
use Rattle.alta_content.specs.TermList.{TermList}
use Rattle.alta_content.proofs.Rises.{RisesAbove, above_from_rising, filter-rises, rising_from_above}
use Rattle.alta_content.specs.declared.spans.Span.{Span}
use Rattle.alta_content.proofs.Outside.{Tells, left_of, some_outside, spans_tell}
use Rattle.alta_content.proofs.Order.{After, by_order, cmp}
use Rattle.alta_content.proofs.Contents.{rows_rise}
use Rattle.alta_content.proofs.Gathered.{all_terms, list_at, outside_locations, outside_rise}
use Rattle.alta_content.proofs.Ranges.{among, any_append, in_row, in_rows, part_in, parts_in, rise_right}
use Rattle.alta_content.proofs.Elements.{all_left, all_right, among_at, among_head, among_more, filter_member, none_member}
use Rattle.alta_content.proofs.Folds.{HasSome, same_lists, told}

-- ---- the rows

lower : (before : Before) (row : DocRow) (rows : List DocRow) → MayFollow before row → AreDocumentsBehind (behind_row before row) rows → AreDocumentsBehind before rows
unfolding AreDocumentsBehind
lower before row [] f h = tt
lower before row (r ∷ rs) f h =
    let g = h.0 in (
      record {
        rises = omega (arith, f.rises, g.rises);
        number_below = g.number_below;
        starts_behind = omega (arith, f.starts_behind, f.some_cells, g.starts_behind);
        first_below = g.first_below;
        some_cells = g.some_cells;
        few_cells = g.few_cells;
        end_below = g.end_below;
        named = g.named;
      },
      h.1,
    )

entries_kept : (q : DocRow → Bool) (before : Before) (rows : List DocRow) → AreDocumentsBehind before rows → AreDocumentsBehind before (filter q rows)
unfolding AreDocumentsBehind
entries_kept q before [] h = tt
entries_kept q before (r ∷ rs) h =
    let rest = entries_kept q (behind_row before r) rs h.1 in
    ⊎_elim
    (λ y. subst (λ b. AreDocumentsBehind before (cond b (r ∷ filter q rs) (filter q rs))) (sym y) (h.0, rest))
    (λ n. subst (λ b. AreDocumentsBehind before (cond b (r ∷ filter q rs) (filter q rs))) (sym n) (lower before r (filter q rs) h.0 rest))
    (cases_Bool (q r))

pub rows_kept : (q : DocRow → Bool) (rows : List DocRow) → AreDocuments rows → AreDocuments (filter q rows)
rows_kept q rows h = entries_kept q start rows h

-- the same of the rows in the middle
entries_kept_front : (q : DocRow → Bool) (before : Before) (m a : List DocRow) → AreDocumentsBehind before (m ++ a) → AreDocumentsBehind before (filter q m ++ a)
unfolding AreDocumentsBehind
entries_kept_front q before [] a h = h
entries_kept_front q before (r ∷ rs) a h =
    let rest = entries_kept_front q (behind_row before r) rs a h.1 in
    ⊎_elim
    (λ y. subst (λ b. AreDocumentsBehind before (cond b (r ∷ filter q rs) (filter q rs) ++ a)) (sym y) (h.0, rest))
    (λ n. subst (λ b. AreDocumentsBehind before (cond b (r ∷ filter q rs) (filter q rs) ++ a)) (sym n) (lower before r (filter q rs ++ a) h.0 rest))
    (cases_Bool (q r))

entries_kept_behind : (q : DocRow → Bool) (before : Before) (b m a : List DocRow) → AreDocumentsBehind before (b ++ (m ++ a)) → AreDocumentsBehind before (b ++ (filter q m ++ a))
unfolding AreDocumentsBehind
entries_kept_behind q before [] m a h = entries_kept_front q before m a h
entries_kept_behind q before (r ∷ rs) m a h = (h.0, entries_kept_behind q (behind_row before r) rs m a h.1)

pub rows_kept_behind : (q : DocRow → Bool) (b m a : List DocRow) → AreDocuments (b ++ (m ++ a)) → AreDocuments (b ++ (filter q m ++ a))
rows_kept_behind q b m a h = entries_kept_behind q start b m a h

rows_some : (rows : List DocRow) → RowsRise rows → All (λ (r : DocRow). r.first ≤ end_of r) rows
rows_some [] h = All-nil (λ (r : DocRow). r.first ≤ end_of r)
rows_some (r ∷ rs) h = All-cons (λ (r : DocRow). r.first ≤ end_of r) r rs (omega (arith, h.0.some)) (rows_some rs h.2)

-- ---- the terms

abbrev IsTerm : List ℕ → Type 0
IsTerm t = Precedes [] t × IsTrue (is_kind (slice_index t 0)) × (length t ≤ 129)

with_all : (P : List ℕ → Type 0) (t : List ℕ) (ts : List (List ℕ)) → P t → AllByRecursion P ts → AllByRecursion P (with_term t ts)
with_all P t [] p h = (p, tt)
with_all P t (u ∷ us) p h =
    by_order (cmp t u)
    (λ e. rw e (p, h))
    (λ e. rw e h)
    (λ e. rw e (h.0, with_all P t us p h.1))

order_all : (P : List ℕ → Type 0) (ts : List (List ℕ)) → AllByRecursion P ts → AllByRecursion P (in_order ts)
order_all P [] h = tt
order_all P (t ∷ ts) h = with_all P t (in_order ts) h.0 (order_all P ts h.1)

all_append : (P : List ℕ → Type 0) (ts us : List (List ℕ)) → AllByRecursion P ts → AllByRecursion P us → AllByRecursion P (ts ++ us)
all_append P [] us h k = k
all_append P (t ∷ ts) us h k = (h.0, all_append P ts us h.1 k)

above_none : (u t : List ℕ) → cmp u t ≡ Less → Precedes [] t
above_none [] [] h = h
above_none (x ∷ xs) [] h = cc
above_none u (y ∷ ys) h = refl

lists_terms : (rows : List DocRow) (before : List ℕ) (lists : List TermList) → AreListsBehind rows before lists → AllByRecursion IsTerm (terms_of lists)
unfolding AreListsBehind
lists_terms rows before [] h = tt
lists_terms rows before (l ∷ ls) h = ((above_none before l.term h.0.rises, h.0.kind, h.0.short), lists_terms rows l.term ls h.1)

part_terms : (content : Content) → IsPart content → AllByRecursion IsTerm (terms_of content.lists)
part_terms content (inl c) = lists_terms content.documents [] content.lists c.lists_stand
part_terms content (inr e) = subst (λ l. AllByRecursion IsTerm (terms_of l)) (sym e.lists) tt

parts_terms : (contents : List Content) → All IsPart contents → AllByRecursion IsTerm (all_terms (parts_of contents))
parts_terms [] h = tt
parts_terms (c ∷ cs) h = all_append IsTerm (terms_of c.lists) (all_terms (parts_of cs)) (part_terms c (All-head IsPart c cs h)) (parts_terms cs (All-tail IsPart c cs h))

-- ---- the locations rise

later_above : (y x : ℕ) (rows : List DocRow) → All (λ (r : DocRow). y < r.first) rows → in_rows rows x ≡ true → y < x
later_above y x [] h m = absurd (true≢false (sym m))
later_above y x (r ∷ rs) h m =
    ⊎_elim
    (λ here. let p = and_parts (nat_le r.first x) (nat_le x (end_of r)) here in omega (arith, leb-true r.first x p.0, All-head (λ (r : DocRow). y < r.first) r rs h))
    (λ later. later_above y x rs (All-tail (λ (r : DocRow). y < r.first) r rs h) later)
    (or_cases (in_row x r) (in_rows rs x) m)

rows_below : (a b : List DocRow) (x y : ℕ) → RowsRise (a ++ b) → in_rows a x ≡ true → in_rows b y ≡ true → x < y
rows_below [] b x y r h k = absurd (true≢false (sym h))
rows_below (row ∷ rows) b x y r h k =
    ⊎_elim
    (λ here. let p = and_parts (nat_le row.first x) (nat_le x (end_of row)) here in
    omega (arith, leb-true x (end_of row) p.1, later_above (end_of row) y (rows ++ b) r.1 (any_append (in_row y) rows b ∙ or_right (in_rows rows y) (in_rows b y) k)))
    (λ later. rows_below rows b x y r.2 later k)
    (or_cases (in_row x row) (in_rows rows x) h)

raised : (low x : ℕ) (ys : List ℕ) → RisesAbove low ys → ((y : ℕ) → among y ys ≡ true → x < y) → RisesAbove x ys
raised low x [] r h = tt
raised low x (y ∷ ys) r h = (h y (among_head y ys), r.1, r.2)

rises_joined : (low : ℕ) (xs ys : List ℕ) → RisesAbove low xs → RisesAbove low ys → ((x y : ℕ) → among x xs ≡ true → among y ys ≡ true → x < y) → RisesAbove low (xs ++ ys)
rises_joined low [] ys r s h = s
rises_joined low (x ∷ xs) ys r s h =
    (r.0, r.1, rises_joined x xs ys r.2 (raised low x ys s (λ y m. h x y (among_head x xs) m)) (λ z y m k. h z y (among_more z x xs m) k))

lists_rising : (rows : List DocRow) (before : List ℕ) (lists : List TermList) (t : List ℕ) → AreListsBehind rows before lists → RisesAbove 0 (locations_of lists t)
unfolding AreListsBehind
lists_rising rows before [] t h = tt
lists_rising rows before (l ∷ ls) t h =
    ⊎_elim
    (λ e. subst (RisesAbove 0) (sym (cond-true (bytes_eq t l.term) l.locations (locations_of ls t) e)) (above_from_rising l.locations h.0.rising))
    (λ n. subst (RisesAbove 0) (sym (cond-false (bytes_eq t l.term) l.locations (locations_of ls t) n)) (lists_rising rows l.term ls t h.1))
    (cases_Bool (bytes_eq t l.term))

part_rising : (content : Content) (t : List ℕ) → IsPart content → RisesAbove 0 (locations_of content.lists t)
part_rising content t (inl c) = lists_rising content.documents [] content.lists t c.lists_stand
part_rising content t (inr e) = subst (λ l. RisesAbove 0 (locations_of l t)) (sym e.lists) tt

parts_rising : (contents : List Content) (t : List ℕ) → RowsRise (rows_in contents) → All IsPart contents → RisesAbove 0 (locations_among (parts_of contents) t)
parts_rising [] t r h = tt
parts_rising (c ∷ cs) t r h =
    let own = All-head IsPart c cs h in
    let rest = All-tail IsPart c cs h in
    rises_joined 0 (locations_of c.lists t) (locations_among (parts_of cs) t) (part_rising c t own) (parts_rising cs t (rise_right c.documents (rows_in cs) r) rest)
    (λ x y m k. rows_below c.documents (rows_in cs) x y r (part_in c t x own m) (parts_in cs t y rest k))

-- ---- the locations lie in the ranges of live rows

range_from : (rows : List DocRow) (x : ℕ) → in_rows rows x ≡ true → IsInRange rows x
range_from [] x h = absurd (true≢false (sym h))
range_from (r ∷ rs) x h =
    ⊎_elim
    (λ here. let p = and_parts (nat_le r.first x) (nat_le x (end_of r)) here in
    record { row = 0; within = omega arith; from = leb-true r.first x p.0; to = leb-true x (end_of r) p.1 })
    (λ later. let q = range_from rs x later in
    record { row = suc q.row; within = omega (arith, q.within); from = q.from; to = q.to })
    (or_cases (in_row x r) (in_rows rs x) h)

live_in : (p : ℕ → Bool) (dead : List ℕ) (rows : List DocRow) (x : ℕ) → All (Tells p dead) rows → in_rows rows x ≡ true → p x ≡ false → in_rows (live_rows dead rows) x ≡ true
live_in p dead [] x t h n = absurd (true≢false (sym h))
live_in p dead (r ∷ rs) x t h n =
    let left : Bool → Bool = λ b. in_rows (cond (not b) (r ∷ live_rows dead rs) (live_rows dead rs)) x in
    ⊎_elim
    (λ here.
    let stays : ends_among dead r ≡ false = sym (told p dead x r (All-head (Tells p dead) r rs t) here) ∙ n in
    ap left stays ∙ or_left (in_row x r) (in_rows (live_rows dead rs) x) here)
    (λ later.
    let rest = live_in p dead rs x (All-tail (Tells p dead) r rs t) later n in
    ⊎_elim
    (λ y. ap left y ∙ rest)
    (λ z. ap left z ∙ or_right (in_row x r) (in_rows (live_rows dead rs) x) rest)
    (cases_Bool (ends_among dead r)))
    (or_cases (in_row x r) (in_rows rs x) h)

-- ---- the term of ends

lists_ends : (rows : List DocRow) (before : List ℕ) (lists : List TermList) → AreListsBehind rows before lists → IsTrue (list_any is_end_list lists) → locations_of lists end_term ≡ ends_of rows
unfolding AreListsBehind
lists_ends rows before [] h e = absurd (true≢false (sym e))
lists_ends rows before (l ∷ ls) h e =
    let swap : bytes_eq end_term l.term ≡ bytes_eq l.term end_term = nat_list_eq_equiv.symm end_term l.term in
    ⊎_elim
    (λ y. cond-true (bytes_eq end_term l.term) l.locations (locations_of ls end_term) (swap ∙ y) ∙ h.0.ends ((bytes_decides l.term end_term).0 y))
    (λ n. cond-false (bytes_eq end_term l.term) l.locations (locations_of ls end_term) (swap ∙ n)
    ∙ lists_ends rows l.term ls h.1 (sym (ap (λ b. b || list_any is_end_list ls) n) ∙ e))
    (cases_Bool (bytes_eq l.term end_term))

part_ends : (content : Content) → IsPart content → locations_of content.lists end_term ≡ ends_of content.documents
part_ends content (inl c) = lists_ends content.documents [] content.lists c.lists_stand c.has_end
part_ends content (inr e) = ap (λ l. locations_of l end_term) e.lists ∙ sym (ap ends_of e.documents)

parts_ends : (contents : List Content) → All IsPart contents → locations_among (parts_of contents) end_term ≡ ends_of (rows_in contents)
parts_ends [] h = refl
parts_ends (c ∷ cs) h =
    ap (λ l. l ++ locations_among (parts_of cs) end_term) (part_ends c (All-head IsPart c cs h))
    ∙ ap (λ l. ends_of c.documents ++ l) (parts_ends cs (All-tail IsPart c cs h))
    ∙ sym (map-append end_of c.documents (rows_in cs))

ends_live : (p : ℕ → Bool) (dead : List ℕ) (rows : List DocRow) → All (Tells p dead) rows → All (λ (r : DocRow). r.first ≤ end_of r) rows
    → filter (λ x. not (p x)) (ends_of rows) ≡ ends_of (live_rows dead rows)
ends_live p dead [] t s = refl
ends_live p dead (r ∷ rs) t s =
    let own : p (end_of r) ≡ ends_among dead r = All-head (Tells p dead) r rs t (end_of r) (All-head (λ (r : DocRow). r.first ≤ end_of r) r rs s) (omega arith) in
    let rest = ends_live p dead rs (All-tail (Tells p dead) r rs t) (All-tail (λ (r : DocRow). r.first ≤ end_of r) r rs s) in
    let keep : Bool → List ℕ = λ b. cond (not b) (end_of r ∷ filter (λ x. not (p x)) (ends_of rs)) (filter (λ x. not (p x)) (ends_of rs)) in
    let left : Bool → List ℕ = λ b. ends_of (cond (not b) (r ∷ live_rows dead rs) (live_rows dead rs)) in
    ⊎_elim
    (λ y. ap keep (own ∙ y) ∙ rest ∙ sym (ap left y))
    (λ n. ap keep (own ∙ n) ∙ ap (λ l. end_of r ∷ l) rest ∙ sym (ap left n))
    (cases_Bool (ends_among dead r))

ends_many : (rows : List DocRow) → length (ends_of rows) ≡ length rows
ends_many rows = length-map rows end_of

found_end : (lists : List TermList) → 0 < length (locations_of lists end_term) → IsTrue (list_any is_end_list lists)
found_end [] h = absurd (omega (arith, h))
found_end (l ∷ ls) h =
    let swap : bytes_eq end_term l.term ≡ bytes_eq l.term end_term = nat_list_eq_equiv.symm end_term l.term in
    ⊎_elim
    (λ y. or_left (is_end_list l) (list_any is_end_list ls) y)
    (λ n. or_right (is_end_list l) (list_any is_end_list ls)
    (found_end ls (subst (λ (x : List ℕ). 0 < length x) (cond-false (bytes_eq end_term l.term) l.locations (locations_of ls end_term) (swap ∙ n)) h)))
    (cases_Bool (bytes_eq l.term end_term))

-- ---- lists that may stand behind one another

-- what is asked of a list, but for its place and that it is not empty
record Fits (rows : List DocRow) (l : TermList) : Type 0 where
  term : IsTerm l.term
  rising : IsRising l.locations
  within : AreInRanges rows l.locations
  ends : l.term ≡ end_term → l.locations ≡ ends_of rows

stand : (rows : List DocRow) (before : List ℕ) (lists : List TermList) → After before (terms_of lists) → TermsRise lists → All (Fits rows) lists → All HasSome lists → AreListsBehind rows before lists
unfolding AreListsBehind IsStrictlySortedBy
stand rows before [] a s f g = tt
stand rows before (l ∷ ls) a s f g =
    let own : Fits rows l = All-head (Fits rows) l ls f in (
      record {
        rises = a.0;
        kind = own.term.1;
        short = own.term.2;
        some = All-head HasSome l ls g;
        rising = own.rising;
        within = own.within;
        ends = own.ends;
      },
      stand rows l.term ls s.0 s.1 (All-tail (Fits rows) l ls f) (All-tail HasSome l ls g),
    )

after_none : (rows : List DocRow) (lists : List TermList) → All (Fits rows) lists → After [] (terms_of lists)
after_none rows [] f = tt
after_none rows (l ∷ ls) f =
    let own : Fits rows l = All-head (Fits rows) l ls f in (own.term.0, after_none rows ls (All-tail (Fits rows) l ls f))

-- ---- the join

module _ (contents : List Content) (dead : List ℕ) (h : MayJoin contents) where
  abbrev rows : List DocRow
  rows = rows_in contents

  abbrev kept : List DocRow
  kept = live_rows dead rows

  abbrev parts : List (List TermList)
  parts = parts_of contents

  abbrev spans : List Span
  spans = deleted_spans dead rows

  abbrev lists : List TermList
  lists = lists_outside spans (gathered parts)

  abbrev rise : RowsRise rows
  rise = rows_rise rows h.documents

  abbrev tells : All (Tells (is_within spans) dead) rows
  tells = spans_tell dead rows rise

  in_kept : (t : List ℕ) (x : ℕ) → among x (outside_of spans (locations_among parts t)) ≡ true → in_rows kept x ≡ true
  in_kept t x m =
      let r = filter_member (λ y. not (is_within spans y)) x (locations_among parts t) m in
      live_in (is_within spans) dead rows x tells (parts_in contents t x h.parts r.0) (not-true (is_within spans x) r.1)

  ends_kept : outside_of spans (locations_among parts end_term) ≡ ends_of kept
  ends_kept = ap (outside_of spans) (parts_ends contents h.parts) ∙ ends_live (is_within spans) dead rows tells (rows_some rows rise)

  fits_at : (t : List ℕ) → IsTerm t → Fits kept (left_of spans (list_at parts t))
  fits_at t is = record {
    term = is;
    rising = filter-rises (λ y. not (is_within spans y)) (locations_among parts t) (rising_from_above (locations_among parts t) (parts_rising contents t rise h.parts));
    within = λ k l.
        let xs = outside_of spans (locations_among parts t) in
        range_from kept (get_or xs k 0) (in_kept t (get_or xs k 0) (among_at xs k l));
    ends = λ e. ap (λ u. outside_of spans (locations_among parts u)) e ∙ ends_kept;
  }

  all_terms_fit : All IsTerm (terms_among parts)
  all_terms_fit = All-from_recursion IsTerm (terms_among parts) (order_all IsTerm (all_terms parts) (parts_terms contents h.parts))

  all_fit : All (Fits kept) lists
  all_fit =
      All-filter (λ (l : TermList). nat_lt 0 (length l.locations)) (Fits kept) (map (left_of spans) (gathered parts))
      (All-map (Fits kept) (left_of spans) (gathered parts)
      (All-map (λ l. Fits kept (left_of spans l)) (list_at parts) (terms_among parts)
      (All-weaker IsTerm (λ t. Fits kept (left_of spans (list_at parts t))) fits_at (terms_among parts) all_terms_fit)))

  keeps_content : 0 < length kept → IsContent (joined_in contents dead)
  keeps_content some = record {
    some = some;
    documents_stand = rows_kept (λ row. not (ends_among dead row)) rows h.documents;
    lists_stand = stand kept [] lists (after_none kept lists all_fit) (outside_rise spans parts) all_fit (some_outside spans (gathered parts));
    has_end = found_end lists (subst (λ (x : List ℕ). 0 < length x) (sym (outside_locations spans parts end_term ∙ ends_kept)) (omega (arith, some, ends_many kept)));
  }

  nothing_rises : TermsRise []
  unfolding IsStrictlySortedBy
  nothing_rises = tt

  keeps_empty : kept ≡ [] → IsEmpty (joined_in contents dead)
  keeps_empty none = record {
    documents = none;
    lists = same_lists lists [] (outside_rise spans parts) nothing_rises (some_outside spans (gathered parts)) (All-nil HasSome)
        (λ t. outside_locations spans parts t
        ∙ none_member (outside_of spans (locations_among parts t)) (λ x m. true≢false (sym (in_kept t x m) ∙ ap (λ r. in_rows r x) none)));
  }

  none_or_some : (r : List DocRow) → (r ≡ []) ⊎ (0 < length r)
  none_or_some [] = inl refl
  none_or_some (x ∷ xs) = inr (omega arith)

  pub join_is_part : IsPart (joined_in contents dead)
  join_is_part = ⊎_elim (λ none. inr (keeps_empty none)) (λ some. inl (keeps_content some)) (none_or_some kept)

-- ---- joins beside other contents

All-beside : {X : Type 0} (P : X → Type 0) (xs ys : List X) (x : X) → All P xs → P x → All P ys → All P (xs ++ x ∷ ys)
All-beside P [] ys x f p g = All-cons P x ys p g
All-beside P (z ∷ zs) ys x f p g = All-cons P z (zs ++ x ∷ ys) (All-head P z zs f) (All-beside P zs ys x (All-tail P z zs f) p g)

rows_of_all : (before middle after : List Content) → rows_in (before ++ (middle ++ after)) ≡ rows_in before ++ (rows_in middle ++ rows_in after)
rows_of_all before middle after =
    flat_map-append (λ (c : Content). c.documents) before (middle ++ after)
    ∙ ap (λ l. rows_in before ++ l) (flat_map-append (λ (c : Content). c.documents) middle after)

entries_front : (before : Before) (m a : List DocRow) → AreDocumentsBehind before (m ++ a) → AreDocumentsBehind before m
unfolding AreDocumentsBehind
entries_front before [] a h = tt
entries_front before (r ∷ rs) a h = (h.0, entries_front (behind_row before r) rs a h.1)

entries_rest : (before : Before) (b m : List DocRow) → AreDocumentsBehind before (b ++ m) → AreDocumentsBehind before m
unfolding AreDocumentsBehind
entries_rest before [] m h = h
entries_rest before (r ∷ rs) m h = lower before r m h.0 (entries_rest (behind_row before r) rs m h.1)

middle_stands : (b m a : List DocRow) → AreDocuments (b ++ (m ++ a)) → AreDocuments m
middle_stands b m a h = entries_front start m a (entries_rest start b (m ++ a) h)

module _ (before middle after : List Content) (dead : List ℕ) (h : MayJoin (before ++ (middle ++ after))) where
  part_of_all : MayJoin middle
  part_of_all = record {
    parts = all_left IsPart middle after (all_right IsPart before (middle ++ after) h.parts);
    documents = middle_stands (rows_in before) (rows_in middle) (rows_in after) (subst AreDocuments (rows_of_all before middle after) h.documents);
  }

  pub join_may_join : MayJoin (before ++ joined_in middle dead ∷ after)
  join_may_join = record {
    parts = All-beside IsPart before after (joined_in middle dead) (all_left IsPart before (middle ++ after) h.parts) (join_is_part middle dead part_of_all)
        (all_right IsPart middle after (all_right IsPart before (middle ++ after) h.parts));
    documents = subst AreDocuments (sym (flat_map-append (λ (c : Content). c.documents) before (joined_in middle dead ∷ after)))
        (rows_kept_behind (λ row. not (ends_among dead row)) (rows_in before) (rows_in middle) (rows_in after) (subst AreDocuments (rows_of_all before middle after) h.documents));
  }
