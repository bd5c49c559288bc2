-- The lists of a test rise one behind the other, term by term, whatever the disk tells.
use Rattle.std.proofs.Common.{◌≡◌, ⊎_elim, ℕ, zero, suc, ◌+◌, ◌<◌, ◌≤◌, true, cond, List, [], ◌∷◌, ◌++◌, length, map, get_or, drop, refl, sym, ap, subst, ◌∙◌, arith, append-nil, append_assoc}
use Rattle.std.specs.Prelude.{All, Contains, IsTrue, Option, Some, None, nat_le}
use Rattle.std.specs.Cmp.Lexicographic.{slice_cmp}
use Rattle.std.specs.List.{concat, filter}
use Rattle.std.specs.List.Sorted.{IsStrictlyIncreasing, IsStrictlySortedBy}
use Rattle.std.specs.Ordering.{nat_cmp}
use Rattle.std.proofs.lemmas.Bool.{and_parts, cases_Bool, leb-true, or_cases, or_left, or_right, true≢false}
use Rattle.std.proofs.lemmas.List.Elements.{All-nil, All-cons, All-head, All-tail, All-append, All-map, All-weaker}
use Rattle.alta_codec.specs.Rising.{IsRising}
use Rattle.alta_codec.proofs.Places.{Contains-head, Contains-tail}
use Rattle.alta_compound.specs.Unions.{RisesAbove, rises_above_from, rising_from_above}
use Rattle.alta_content.specs.Joining.{in_order}
use Rattle.alta_content.specs.Lists.{locations_of}
use Rattle.alta_content.specs.Rows.{end_of}
use Rattle.alta_content.specs.declared.content.Content.{Content}
use Rattle.alta_content.specs.declared.document.DocRow.{DocRow}
use Rattle.alta_content.proofs.Elements.{all_right, among_at}
use Rattle.alta_content.proofs.Order.{in_order_sorted}
use Rattle.alta_content.proofs.Ranges.{among, any_append, in_range, in_row, in_rows}
use Rattle.alta_meaning.specs.Opened.{table_rows}
use Rattle.alta_meaning.specs.Ordered.{Precedes, RowsPrecede}
use Rattle.alta_loading.specs.Lists.{KeepsRow}
use Rattle.alta_loading.specs.Loads.{KeepRows, Load, load_at, loads_from, number_of, row_from}
use Rattle.alta_loading.specs.Met.{all_terms, keys_met, terms_met}
use Rattle.alta_loading.specs.Snapshots.{all_rows}
use Rattle.alta_loading.specs.Terms.{KeepTerm, KeepTerms, if_some, number_if_some, term_key}
use Rattle.alta_memlevel.specs.Added.{Added, HasContent}
use Rattle.alta_memlevel.proofs.Contents.{list_of_rises}
use Rattle.alta_memlevel.proofs.Prefixes.{filter_rises}
use Rattle.alta_memlevel.proofs.Read.{list_within}
use Rattle.alta_machine.specs.declared.test.Test.{Test}
use Rattle.alta_search.specs.Lists.{AreKeys, IsCut, TermKey, term_in, test_in, test_keys}
use Rattle.alta_search.specs.Met.{MeetTest, MeetsTest}
use Rattle.alta_search.specs.Newest.{term_meets}
use Rattle.alta_search.specs.declared.lists.TestLists.{TestLists}
use Rattle.alta_table.specs.Tables.{Tables}

-- ---- lists in the ranges of rows

-- the list rises, and lies in the ranges of the rows
pub record LiesIn (rows : List DocRow) (list : List ℕ) : Type 0 where
  pub rising : IsRising list
  pub within : (i : ℕ) → i < length list → in_rows rows (get_or list i 0) ≡ true

-- the place lies below all locations of the rows
abbrev pub IsUnder : ℕ → List DocRow → Type 0
IsUnder low rows = (x : ℕ) → 0 < x → in_rows rows x ≡ true → low < x

under_first : (low : ℕ) (rows : List DocRow) → All (λ (r : DocRow). low < r.first) rows → IsUnder low rows
under_first low [] h x p m = absurd (true≢false (sym m))
under_first low (r ∷ rs) h x p m =
    let First : DocRow → Type 0 = λ s. low < s.first in
    ⊎_elim
    (λ here. omega (arith, All-head First r rs h, leb-true r.first x (and_parts (nat_le r.first x) (nat_le x (end_of r)) here).0))
    (λ later. under_first low rs (All-tail First r rs h) x p later)
    (or_cases (in_row x r) (in_rows rs x) m)

-- a location of the first rows lies below those of the others
under_next : (rows others : List DocRow) (x : ℕ) → RowsPrecede (rows ++ others) → in_rows rows x ≡ true → IsUnder x others
under_next [] others x r m = absurd (true≢false (sym m))
under_next (row ∷ rows) others x r m =
    ⊎_elim
    (λ here.
    let at : x ≤ end_of row = leb-true x (end_of row) (and_parts (nat_le row.first x) (nat_le x (end_of row)) here).1 in
    under_first x others (All-weaker (Precedes row) (λ (s : DocRow). x < s.first) (λ s p. omega (arith, p.1, at)) others (all_right (Precedes row) rows others r.0)))
    (λ later. under_next rows others x r.1 later)
    (or_cases (in_row x row) (in_rows rows x) m)

rise_right : (rows others : List DocRow) → RowsPrecede (rows ++ others) → RowsPrecede others
rise_right [] others r = r
rise_right (row ∷ rows) others r = rise_right rows others r.1

in_more : (rows others : List DocRow) (x : ℕ) → in_rows rows x ≡ true → in_rows (rows ++ others) x ≡ true
in_more rows others x m = any_append (in_row x) rows others ∙ or_left (in_rows rows x) (in_rows others x) m

in_others : (rows others : List DocRow) (x : ℕ) → in_rows others x ≡ true → in_rows (rows ++ others) x ≡ true
in_others rows others x m = any_append (in_row x) rows others ∙ or_right (in_rows rows x) (in_rows others x) m

above_low : (low : ℕ) (rows : List DocRow) (list : List ℕ) → IsUnder low rows → LiesIn rows list → RisesAbove low list
above_low low rows list under lies = rises_above_from low list lies.rising (λ i l. under (get_or list i 0) (lies.rising.positive i l) (lies.within i l))

at_place : (xs : List ℕ) (i : ℕ) (x : ℕ) → i < length xs → get_or xs i x ≡ x → get_or xs i 0 ≡ x
at_place [] i x l e = absurd (omega (arith, l))
at_place (y ∷ ys) zero x l e = e
at_place (y ∷ ys) (suc i) x l e = at_place ys i x (omega (arith, l)) e

pub lies_at : (rows : List DocRow) (list : List ℕ) (x : ℕ) → LiesIn rows list → Contains list x → in_rows rows x ≡ true
lies_at rows list x lies (i, l, e) = subst (λ (y : ℕ). in_rows rows y ≡ true) (at_place list i x l e) (lies.within i l)

-- two lists of which one rises behind the other
joined_rise : (low : ℕ) (xs ys : List ℕ) → RisesAbove low xs → RisesAbove low ys → ((x : ℕ) → Contains xs x → RisesAbove x ys) → RisesAbove low (xs ++ ys)
joined_rise low [] ys r s h = s
joined_rise low (x ∷ xs) ys (a, b, r) s h = (a, b, joined_rise x xs ys r (h x (Contains-head x xs)) (λ z m. h z (Contains-tail x xs z m)))

pub concat_some : (list : List ℕ) → concat (if_some list) ≡ list
concat_some [] = refl
concat_some (x ∷ xs) = append-nil (x ∷ xs)

row_lies : (level : Tables) (row : ℕ) (list : List ℕ) → KeepsRow level row list → LiesIn level.documents list
row_lies level row list keeps = record { rising = keeps.rising; within = λ i l. in_range level.documents (get_or list i 0) (keeps.fits.within i l) }

-- ---- the lists of a term

module _ (newest : Content) (term : List ℕ) (lies : LiesIn newest.documents (locations_of newest.lists term)) where
  abbrev last : List (List ℕ)
  last = if_some (locations_of newest.lists term)

  -- one level more in front
  level_rises : (n : ℕ) (level : Tables) (levels : List Tables) (low : ℕ) → RowsPrecede (level.documents ++ all_rows levels newest) → IsUnder low (level.documents ++ all_rows levels newest)
      → ((lists : List (List ℕ)) (x : ℕ) → IsUnder x (all_rows levels newest) → KeepRows (loads_from (n + 1) levels term) lists → RisesAbove x (concat (lists ++ last)))
      → (r : Option ℕ) (lists : List (List ℕ)) → KeepRows (load_at n level r ++ loads_from (n + 1) levels term) lists → RisesAbove low (concat (lists ++ last))
  level_rises n level levels low rise under later None lists k = later lists low (λ x p m. under x p (in_others level.documents (all_rows levels newest) x m)) k
  level_rises n level levels low rise under later (Some row) [] k = absurd k
  level_rises n level levels low rise under later (Some row) (list ∷ lists) (k, ks) =
      let rows = all_rows levels newest in
      let here = row_lies level row list k in
      joined_rise low list (concat (lists ++ last))
      (above_low low level.documents list (λ x p m. under x p (in_more level.documents rows x m)) here)
      (later lists low (λ x p m. under x p (in_others level.documents rows x m)) ks)
      (λ x m. later lists x (under_next level.documents rows x rise (lies_at level.documents list x here m)) ks)

  lists_rise : (n : ℕ) (levels : List Tables) (coded : List (List ℕ)) (low : ℕ) → RowsPrecede (all_rows levels newest) → IsUnder low (all_rows levels newest)
      → KeepRows (loads_from n levels term) coded → RisesAbove low (concat (coded ++ last))
  lists_rise n [] [] low rise under keeps = subst (RisesAbove low) (sym (concat_some (locations_of newest.lists term))) (above_low low newest.documents (locations_of newest.lists term) under lies)
  lists_rise n [] (x ∷ xs) low rise under keeps = absurd keeps
  lists_rise n (level ∷ levels) coded low rise under keeps =
      let all_are : all_rows (level ∷ levels) newest ≡ level.documents ++ all_rows levels newest = append_assoc level.documents (table_rows levels) newest.documents in
      let rises = subst RowsPrecede all_are rise in
      level_rises n level levels low rises (subst (IsUnder low) all_are under)
      (λ lists x u k. lists_rise (n + 1) levels lists x (rise_right level.documents (all_rows levels newest) rises) u k)
      (row_from 0 level.terms term) coded keeps

some_each : (loads : List Load) (lists : List (List ℕ)) → KeepRows loads lists → All (λ (list : List ℕ). 0 < length list) lists
some_each [] [] k = All-nil (λ (list : List ℕ). 0 < length list)
some_each [] (x ∷ xs) k = absurd k
some_each (l ∷ ls) [] k = absurd k
some_each (l ∷ ls) (x ∷ xs) (k, ks) = All-cons (λ (list : List ℕ). 0 < length list) x xs k.some (some_each ls xs ks)

some_last : (list : List ℕ) → All (λ (l : List ℕ). 0 < length l) (if_some list)
some_last [] = All-nil (λ (l : List ℕ). 0 < length l)
some_last (x ∷ xs) = All-cons (λ (l : List ℕ). 0 < length l) (x ∷ xs) [] (omega arith) (All-nil (λ (l : List ℕ). 0 < length l))

newest_lies : (added : List Added) (newest : Content) (term : List ℕ) → HasContent added newest → LiesIn newest.documents (locations_of newest.lists term)
newest_lies added newest term h = record {
  rising = subst IsRising (sym (h.lists term)) (list_of_rises added term h.space);
  within = λ i l.
      let list = locations_of newest.lists term in
      subst (λ (rows : List DocRow). in_rows rows (get_or list i 0) ≡ true) (sym h.documents)
      (list_within added term (get_or list i 0) h.space (ap (λ (xs : List ℕ). among (get_or list i 0) xs) (sym (h.lists term)) ∙ among_at list i l));
}

abbrev IsCutTerm : List (List ℕ) → Type 0
IsCutTerm levels = All (λ (list : List ℕ). 0 < length list) levels × IsRising (concat levels)

term_cut : (levels : List Tables) (added : List Added) (newest : Content) (term : List ℕ) (lists : List (List ℕ)) → HasContent added newest → RowsPrecede (all_rows levels newest)
    → KeepTerm levels newest term lists → IsCutTerm lists
term_cut levels added newest term lists h rise keeps =
    let last = if_some (locations_of newest.lists term) in
    subst IsCutTerm (sym keeps.lists_are) (
      All-append (λ (list : List ℕ). 0 < length list) keeps.coded last (some_each (loads_from 0 levels term) keeps.coded keeps.kept) (some_last (locations_of newest.lists term)),
      rising_from_above (concat (keeps.coded ++ last)) (lists_rise newest term (newest_lies added newest term h) 0 levels keeps.coded 0 rise (λ x p m. p) keeps.kept),
    )

-- the lists of terms
pub terms_cut : (levels : List Tables) (newest : Content) (terms : List (List ℕ)) (lists : List (List (List ℕ))) → (added : List Added) → HasContent added newest → RowsPrecede (all_rows levels newest)
    → KeepTerms levels newest terms lists → IsCut lists
terms_cut levels newest [] [] added h rise k = All-nil IsCutTerm
terms_cut levels newest [] (x ∷ xs) added h rise k = absurd k
terms_cut levels newest (t ∷ ts) [] added h rise k = absurd k
terms_cut levels newest (t ∷ ts) (x ∷ xs) added h rise (k, ks) = All-cons IsCutTerm x xs (term_cut levels added newest t x h rise k) (terms_cut levels newest ts xs added h rise ks)

-- ---- keys

-- numbers that rise, from this one on
abbrev RiseFrom : ℕ → List ℕ → Type 0
RiseFrom n [] = Unit {0}
RiseFrom n (x ∷ xs) = (n ≤ x) × RiseFrom (x + 1) xs

rise_lower : (n m : ℕ) (xs : List ℕ) → n ≤ m → RiseFrom m xs → RiseFrom n xs
rise_lower n m [] l r = tt
rise_lower n m (x ∷ xs) l (a, r) = (omega (arith, l, a), r)

rise_increases : (n : ℕ) (xs : List ℕ) → RiseFrom n xs → IsStrictlyIncreasing xs
rise_increases n [] r k l = absurd (omega (arith, l))
rise_increases n (x ∷ []) r k l = absurd (omega (arith, l))
rise_increases n (x ∷ y ∷ ys) (a, r) zero l = omega (arith, r.0)
rise_increases n (x ∷ y ∷ ys) (a, r) (suc k) l =
    let next : suc (k + 1) ≡ suc k + 1 = omega arith in
    subst (λ (j : ℕ). get_or (y ∷ ys) k 0 < get_or (x ∷ y ∷ ys) j 0) next (rise_increases (x + 1) (y ∷ ys) r k (omega (arith, l)))

level_number : (n : ℕ) (level : Tables) (more : List Load) (tail : List ℕ) (r : Option ℕ) → RiseFrom (n + 1) (map number_of more ++ tail) → RiseFrom n (map number_of (load_at n level r ++ more) ++ tail)
level_number n level more tail None rest = rise_lower n (n + 1) (map number_of more ++ tail) (omega arith) rest
level_number n level more tail (Some row) rest = (omega arith, rest)

numbers_rise : (n : ℕ) (levels : List Tables) (term : List ℕ) (tail : List ℕ) → RiseFrom (n + length levels) tail → RiseFrom n (map number_of (loads_from n levels term) ++ tail)
numbers_rise n [] term tail r = let none : n + 0 ≡ n = omega arith in subst (λ (k : ℕ). RiseFrom k tail) none r
numbers_rise n (level ∷ levels) term tail r =
    level_number n level (loads_from (n + 1) levels term) tail (row_from 0 level.terms term)
    (numbers_rise (n + 1) levels term tail (rise_lower (n + 1 + length levels) (n + length (level ∷ levels)) tail (omega arith) r))

last_rises : (n : ℕ) (list : List ℕ) → RiseFrom n (number_if_some n list)
last_rises n [] = tt
last_rises n (x ∷ xs) = (omega arith, tt)

key_rises : (levels : List Tables) (newest : Content) (term : List ℕ) → IsStrictlyIncreasing (term_key levels newest term).levels
key_rises levels newest term =
    let tail = number_if_some (length levels) (locations_of newest.lists term) in
    let none : 0 + length levels ≡ length levels = omega arith in
    rise_increases 0 (map number_of (loads_from 0 levels term) ++ tail)
    (numbers_rise 0 levels term tail (subst (λ (k : ℕ). RiseFrom k tail) (sym none) (last_rises (length levels) (locations_of newest.lists term))))

terms_back : (levels : List Tables) (newest : Content) (ts : List (List ℕ)) → map term_in (map (term_key levels newest) ts) ≡ ts
terms_back levels newest [] = refl
terms_back levels newest (t ∷ ts) = ap (λ us. t ∷ us) (terms_back levels newest ts)

pub are_keys : (levels : List Tables) (newest : Content) (test : Test) → AreKeys (keys_met levels newest test)
are_keys levels newest test = record {
  terms = subst (IsStrictlySortedBy (slice_cmp nat_cmp)) (sym (terms_back levels newest (terms_met levels newest test)))
      (filter_rises (term_meets test) (in_order (all_terms levels newest)) (in_order_sorted (all_terms levels newest)));
  levels = All-map (λ (key : TermKey). IsStrictlyIncreasing key.levels) (term_key levels newest) (terms_met levels newest test)
      (λ k d l. key_rises levels newest (get_or (terms_met levels newest test) k d));
}

pub all_keyed : (levels : List Tables) (newest : Content) (tests : List Test) → All AreKeys (map (keys_met levels newest) tests)
all_keyed levels newest tests = All-map AreKeys (keys_met levels newest) tests (λ k d l. are_keys levels newest (get_or tests k d))

-- ---- each term meets its test

terms_meet : (levels : List Tables) (newest : Content) (test : Test) (ts : List (List ℕ)) → MeetTest test (map (term_key levels newest) (filter (term_meets test) ts))
terms_meet levels newest test [] = All-nil (λ (key : TermKey). IsTrue (term_meets test (term_in key)))
terms_meet levels newest test (t ∷ ts) =
    let P : TermKey → Type 0 = λ key. IsTrue (term_meets test (term_in key)) in
    let rest = terms_meet levels newest test ts in
    ⊎_elim
    (λ yes. subst (λ b. All P (map (term_key levels newest) (cond b (t ∷ filter (term_meets test) ts) (filter (term_meets test) ts)))) (sym yes)
    (All-cons P (term_key levels newest t) (map (term_key levels newest) (filter (term_meets test) ts)) yes rest))
    (λ no. subst (λ b. All P (map (term_key levels newest) (cond b (t ∷ filter (term_meets test) ts) (filter (term_meets test) ts)))) (sym no) rest)
    (cases_Bool (term_meets test t))

pub all_meet : (levels : List Tables) (newest : Content) (loaded : List TestLists) → map test_keys loaded ≡ map (keys_met levels newest) (map test_in loaded) → All MeetsTest loaded
all_meet levels newest [] h = All-nil MeetsTest
all_meet levels newest (t ∷ ts) h =
    let first : test_keys t ≡ keys_met levels newest (test_in t) = ap (λ l. get_or l 0 []) h in
    All-cons MeetsTest t ts (subst (MeetTest (test_in t)) (sym first) (terms_meet levels newest (test_in t) (in_order (all_terms levels newest)))) (all_meet levels newest ts (ap (drop 1) h))
