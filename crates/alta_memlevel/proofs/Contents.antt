-- The content of added documents: one document more, and that the locations of a term rise.
use Rattle.std.proofs.Common.{◌≡◌, ⊎_elim, ℕ, zero, suc, ◌+◌, ◌<◌, ◌≤◌, Bool, true, false, ◌||◌, cond, List, [], ◌∷◌, ◌++◌, length, map, get_or, refl, sym, ap, subst, ◌∙◌, append-nil, append_assoc, arith, lit≤}
use Rattle.std.specs.Cmp.Lexicographic.{slice_cmp}
use Rattle.std.specs.List.{All}
use Rattle.std.specs.List.Sorted.{IsStrictlySortedBy}
use Rattle.std.specs.Ordering.{nat_cmp}
use Rattle.std.specs.Map.{values_of}
use Rattle.std.specs.Str.{bytes_eq}
use Rattle.std.proofs.lemmas.Bool.{cases_Bool, or_parts, true≢false, cond-true, cond-false}
use Rattle.std.proofs.lemmas.List.Elements.{All-nil, All-cons, All-head, All-tail, All-push, All-weaker}
use Rattle.alta_codec.specs.declared.location.TheConstants.{TOP}
use Rattle.alta_codec.specs.Rising.{IsRising}
use Rattle.alta_content.proofs.Order.{Sorted, has, has_in_order, in_order_sorted}
use Rattle.alta_content.specs.Joining.{in_order}
use Rattle.alta_content.specs.declared.content.Content.{Content}
use Rattle.alta_content.specs.declared.document.DocRow.{DocRow}
use Rattle.alta_content.specs.Lists.{locations_of, terms_of}
use Rattle.alta_content.specs.Rows.{end_of}
use Rattle.alta_machine.specs.Cells.{cell_holds}
use Rattle.alta_memlevel.specs.Added.{Added, places_of, list_of, IsInSpace, IsSpace, HasContent}
use Rattle.alta_memlevel.proofs.One.{listed_at, listed_some, listed_terms}
use Rattle.alta_memlevel.specs.Lists.{Entries, Numbers, keys_in, list_in, term_lists}

-- ---- the terms in order, with their lists

not_among : (es : Entries) (t : List ℕ) → has t (keys_in es) ≡ false → list_in es t ≡ []
not_among [] t h = refl
not_among (e ∷ es) t h =
    let p = or_parts (bytes_eq t e.0.items) (has t (keys_in es)) h in
    cond-false (bytes_eq t e.0.items) e.1.items (list_in es t) p.0 ∙ not_among es t p.1

abbrev HasLocation : Numbers → Type 0
HasLocation xs = 0 < length xs.items

some_among : (es : Entries) (t : List ℕ) → All HasLocation (values_of es) → has t (keys_in es) ≡ true → 0 < length (list_in es t)
some_among [] t a h = absurd (true≢false (sym h))
some_among (e ∷ es) t a h =
    ⊎_elim
    (λ here. subst (λ l. 0 < length l) (sym (cond-true (bytes_eq t e.0.items) e.1.items (list_in es t) here)) (All-head HasLocation e.1 (values_of es) a))
    (λ other.
    let rest : has t (keys_in es) ≡ true = ap (λ b. b || has t (keys_in es)) (sym other) ∙ h in
    subst (λ l. 0 < length l) (sym (cond-false (bytes_eq t e.0.items) e.1.items (list_in es t) other)) (some_among es t (All-tail HasLocation e.1 (values_of es) a) rest))
    (cases_Bool (bytes_eq t e.0.items))

pub locations_of-term_lists : (es : Entries) (t : List ℕ) → locations_of (term_lists es) t ≡ list_in es t
locations_of-term_lists es t =
    listed_at (list_in es) (in_order (keys_in es)) t
    ∙ ap (λ b. cond b (list_in es t) []) (has_in_order t (keys_in es))
    ∙ ⊎_elim
    (λ y. ap (λ b. cond b (list_in es t) []) y)
    (λ n. ap (λ b. cond b (list_in es t) []) n ∙ sym (not_among es t n))
    (cases_Bool (has t (keys_in es)))

pub terms_of_term_lists : (es : Entries) → terms_of (term_lists es) ≡ in_order (keys_in es)
terms_of_term_lists es = listed_terms (list_in es) (in_order (keys_in es))

pub terms_rise : (es : Entries) → IsStrictlySortedBy (slice_cmp nat_cmp) (terms_of (term_lists es))
terms_rise es = subst Sorted (sym (terms_of_term_lists es)) (in_order_sorted (keys_in es))

pub some-term_lists : (es : Entries) → All (λ xs. 0 < length xs.items) (values_of es) → All (λ l. 0 < length l.locations) (term_lists es)
some-term_lists es h = listed_some (list_in es) (in_order (keys_in es)) (λ t m. some_among es t h (sym (has_in_order t (keys_in es)) ∙ m))

-- ---- no documents
pub content_empty : (rows : List DocRow) (es : Entries) → rows ≡ [] → es ≡ [] → HasContent [] record { documents = rows; lists = term_lists es }
unfolding IsStrictlySortedBy
content_empty rows es r e = rw (r, e) record {
  space = tt;
  documents = refl;
  lists = λ t. refl;
  some = All-nil (λ l. 0 < length l.locations);
  sorted = tt;
}

-- ---- one document more
pub rows-push : (added : List Added) (a : Added) → map (λ b. b.row) (added ++ a ∷ []) ≡ map (λ b. b.row) added ++ a.row ∷ []
rows-push [] a = refl
rows-push (x ∷ xs) a = ap (λ l. x.row ∷ l) (rows-push xs a)

pub list_of-push : (added : List Added) (a : Added) (t : List ℕ) → list_of (added ++ a ∷ []) t ≡ list_of added t ++ places_of a.row.first t a.cells
list_of-push [] a t = append-nil (places_of a.row.first t a.cells)
list_of-push (x ∷ xs) a t =
    ap (λ l. places_of x.row.first t x.cells ++ l) (list_of-push xs a t)
    ∙ sym (append_assoc (places_of x.row.first t x.cells) (list_of xs t) (places_of a.row.first t a.cells))

pub space-push : (added : List Added) (a : Added) → IsSpace added → IsInSpace a
    → All (λ r. r.number < a.row.number) (map (λ b. b.row) added) → All (λ r. end_of r < a.row.first) (map (λ b. b.row) added)
    → IsSpace (added ++ a ∷ [])
space-push [] a s d n p = (d, All-nil (λ b. a.row.number < b.row.number), All-nil (λ b. end_of a.row < b.row.first), tt)
space-push (x ∷ xs) a s d n p =
    let rows = map (λ b. b.row) xs in (
      s.0,
      All-push (λ b. x.row.number < b.row.number) xs a s.1 (All-head (λ r. r.number < a.row.number) x.row rows n),
      All-push (λ b. end_of x.row < b.row.first) xs a s.2 (All-head (λ r. end_of r < a.row.first) x.row rows p),
      space-push xs a s.3 d (All-tail (λ r. r.number < a.row.number) x.row rows n) (All-tail (λ r. end_of r < a.row.first) x.row rows p),
    )

pub content-push : (added : List Added) (a : Added) (old new : Content) → HasContent added old → IsInSpace a
    → All (λ r. r.number < a.row.number) old.documents → All (λ r. end_of r < a.row.first) old.documents
    → new.documents ≡ old.documents ++ a.row ∷ []
    → ((t : List ℕ) → locations_of new.lists t ≡ locations_of old.lists t ++ places_of a.row.first t a.cells)
    → All (λ l. 0 < length l.locations) new.lists
    → IsStrictlySortedBy (slice_cmp nat_cmp) (terms_of new.lists)
    → HasContent (added ++ a ∷ []) new
content-push added a old new h d n p documents lists some sorted = record {
  space = space-push added a h.space d (subst (λ rs. All (λ r. r.number < a.row.number) rs) h.documents n) (subst (λ rs. All (λ r. end_of r < a.row.first) rs) h.documents p);
  documents = documents ∙ ap (λ rs. rs ++ a.row ∷ []) h.documents ∙ sym (rows-push added a);
  lists = λ t. lists t ∙ ap (λ l. l ++ places_of a.row.first t a.cells) (h.lists t) ∙ sym (list_of-push added a t);
  some = some;
  sorted = sorted;
}

-- ---- the locations rise
-- the list rises strictly, from `low` to below `high`
abbrev pub RisesIn : ℕ → ℕ → List ℕ → Type 0
RisesIn low high [] = Unit {0}
RisesIn low high (x ∷ xs) = (low ≤ x) × (x < high) × RisesIn (x + 1) high xs

rises-wider : (low low' high high' : ℕ) (xs : List ℕ) → low' ≤ low → high ≤ high' → RisesIn low high xs → RisesIn low' high' xs
rises-wider low low' high high' [] l h r = tt
rises-wider low low' high high' (x ∷ xs) l h r = (omega (arith, r.0), omega (arith, r.1), rises-wider (x + 1) (x + 1) high high' xs (omega arith) h r.2)

rises-append : (low mid high : ℕ) (xs ys : List ℕ) → low ≤ mid → mid ≤ high → RisesIn low mid xs → RisesIn mid high ys → RisesIn low high (xs ++ ys)
rises-append low mid high [] ys l h r s = rises-wider mid low high high ys l (omega arith) s
rises-append low mid high (x ∷ xs) ys l h r s = (r.0, omega (arith, r.1), rises-append (x + 1) mid high xs ys (omega (arith, r.1)) h r.2 s)

rises-first : (b : Bool) (first high : ℕ) (xs : List ℕ) → first + 1 ≤ high → RisesIn (first + 1) high xs → RisesIn first high (cond b (first ∷ []) [] ++ xs)
rises-first true first high xs h r = (omega arith, omega arith, r)
rises-first false first high xs h r = rises-wider (first + 1) first high high xs (omega arith) (omega arith) r

rises-places : (first : ℕ) (t : List ℕ) (cells : List (List (List ℕ))) → RisesIn first (first + length cells) (places_of first t cells)
rises-places first t [] = tt
rises-places first t (c ∷ cs) =
    let high = first + length (c ∷ cs) in
    rises-first (cell_holds t c) first high (places_of (first + 1) t cs) (omega arith)
    (rises-wider (first + 1) (first + 1) (first + 1 + length cs) high (places_of (first + 1) t cs) (omega arith) (omega arith) (rises-places (first + 1) t cs))

rises-documents : (low : ℕ) (added : List Added) (t : List ℕ) → low ≤ TOP → IsSpace added → All (λ b. low ≤ b.row.first) added → RisesIn low TOP (list_of added t)
rises-documents low [] t top s h = tt
rises-documents low (a ∷ more) t top s h =
    let d = s.0 in
    let mid = a.row.first + length a.cells in
    let above : low ≤ a.row.first = All-head (λ b. low ≤ b.row.first) a more h in
    let within : mid ≤ TOP = omega (arith, d.below, d.counted, d.some, d.positive) in
    let later : All (λ b. mid ≤ b.row.first) more = All-weaker (λ b. end_of a.row < b.row.first) (λ b. mid ≤ b.row.first) (λ b lt. omega (arith, lt, d.counted, d.some)) more s.2 in
    rises-append low mid TOP (places_of a.row.first t a.cells) (list_of more t) (omega (arith, above)) within
    (rises-wider a.row.first low mid mid (places_of a.row.first t a.cells) above (omega arith) (rises-places a.row.first t a.cells))
    (rises-documents mid more t within s.3 later)

rises-at : (low high : ℕ) (xs : List ℕ) (i : ℕ) → RisesIn low high xs → i < length xs → (low ≤ get_or xs i 0) × (get_or xs i 0 < high)
rises-at low high [] i r l = absurd (omega arith)
rises-at low high (x ∷ xs) zero r l = (r.0, r.1)
rises-at low high (x ∷ xs) (suc i) r l = let q = rises-at (x + 1) high xs i r.2 (omega arith) in (omega (arith, q.0, r.0), q.1)

rises-index : (low high : ℕ) (xs : List ℕ) (i j : ℕ) → RisesIn low high xs → i < j → j < length xs → get_or xs i 0 < get_or xs j 0
rises-index low high [] i j r l m = absurd (omega arith)
rises-index low high (x ∷ xs) i zero r l m = absurd (omega arith)
rises-index low high (x ∷ xs) zero (suc j) r l m = let q = rises-at (x + 1) high xs j r.2 (omega arith) in omega (arith, q.0)
rises-index low high (x ∷ xs) (suc i) (suc j) r l m = rises-index (x + 1) high xs i j r.2 (omega arith) (omega arith)

first-positive : (added : List Added) → IsSpace added → All (λ b. 1 ≤ b.row.first) added
first-positive [] s = All-nil (λ b. 1 ≤ b.row.first)
first-positive (a ∷ more) s = All-cons (λ b. 1 ≤ b.row.first) a more s.0.positive (first-positive more s.3)

pub rising_from : (xs : List ℕ) → RisesIn 1 TOP xs → IsRising xs
rising_from xs r = record {
  rising = λ i j l m. rises-index 1 TOP xs i j r l m;
  positive = λ i l. let q = rises-at 1 TOP xs i r l in omega (arith, q.0);
  below = λ i l. (rises-at 1 TOP xs i r l).1;
}

pub list_of_rises : (added : List Added) (t : List ℕ) → IsSpace added → IsRising (list_of added t)
list_of_rises added t s = rising_from (list_of added t) (rises-documents 1 added t (lit≤ tt) s (first-positive added s))

-- the locations of each term of a content rise
pub content_rises : (added : List Added) (content : Content) (t xs : List ℕ) → HasContent added content → xs ≡ locations_of content.lists t → IsRising xs
content_rises added content t xs h e = subst IsRising (sym (e ∙ h.lists t)) (list_of_rises added t h.space)
