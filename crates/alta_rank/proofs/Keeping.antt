-- The first answers of a list are those of the list in order.
use Rattle.std.proofs.Common.{◌≡◌, ◌≢◌, ◌⊎◌, ⊎_elim, inl, inr, ℕ, zero, suc, ◌+◌, ◌<◌, ◌≤◌, min, eqb, ltb, Bool, true, false, cond, List, [], ◌∷◌, ◌++◌, length, get_or, map, take, refl, sym, subst, ap, ◌∙◌, arith, rules, length-append}
use Rattle.std.proofs.Math.Seq.{take-append_seam}
use Rattle.std.specs.Prelude.{Contains, All, AllPairs, Option, Some, None, IsSome, IfSome, sum_by}
use Rattle.std.specs.Cmp.{IsTotalOrder, IsStrictWeakOrder}
use Rattle.std.specs.Cmp.Rules.{comparing}
use Rattle.std.specs.List.{list_any}
use Rattle.std.specs.List.Sorted.{IsPermutation, IsSortedBy}
use Rattle.std.specs.Ordering.{is_lt}
use Rattle.std.proofs.lemmas.Bool.{cases_lt, ltb-true, lt-ltb, le-ltb, or_from, or_left, or_right}
use Rattle.std.proofs.lemmas.List.{get_or-map, get_or_default, length-map, take_all, append-nil}
use Rattle.std.proofs.lemmas.List.Elements.{All-contains, Contains-append_cases}
use Rattle.std.proofs.lemmas.List.Sorted.{ranks_by, sorted_far, Contains-permutation, IsPermutation-refl, IsPermutation-sym, IsPermutation-trans, IsPermutation-cons, IsPermutation-append_left, IsPermutation-append_right, IsPermutation-middle, IsPermutation-to_front, length_permutation, sum_by-IsPermutation}
use Rattle.std.proofs.lemmas.List.Folds.{list_any_at, list_any_none}
use Rattle.std.proofs.lemmas.List.Sums.{sum_by-cons}
use Rattle.alta_rank.specs.Kept.{Replaces, left_out, taken_in, Keeps, joined, replaced, IsBest, has_place}
use Rattle.alta_machine.specs.Ranked.{by_rank, number_of, placed, ranked}
use Rattle.alta_machine.specs.declared.scored.Scored.{Scored}

-- whether the first comes before the second
abbrev pub lt : Scored → Scored → Bool
lt a b = is_lt (by_rank a b)

total : IsTotalOrder by_rank
total = search (comparing, rules)

pub order : IsStrictWeakOrder lt
order = ranks_by total (λ x. x)

-- neither of two comes before the other only where they have the same number
tie : (a b : Scored) → lt a b ≡ false → lt b a ≡ false → a.number ≡ b.number
tie a b p q = grind (arith, p, q)

has_head : (a : Scored) (rest : List Scored) → Contains (a ∷ rest) a
has_head a rest = (0, omega arith, refl)

has_tail : (b : Scored) (bs : List Scored) (a : Scored) → Contains bs a → Contains (b ∷ bs) a
has_tail b bs a (k, l, e) = (suc k, omega (arith, l), e)

has_cases : (b : Scored) (bs : List Scored) (a : Scored) → Contains (b ∷ bs) a → (b ≡ a) ⊎ Contains bs a
has_cases b bs a (zero, l, e) = inl e
has_cases b bs a (suc k, l, e) = inr (k, omega (arith, l), e)

has_none : (a : Scored) → Contains [] a → ⊥
has_none a (k, l, e) = omega (arith, l)

-- the first two in each other's place
turned : (a b : Scored) (bs : List Scored) → IsPermutation (a ∷ b ∷ bs) (b ∷ a ∷ bs)
turned a b bs = IsPermutation-middle (a ∷ []) b bs

true_or_false : (v : Bool) → (v ≡ true) ⊎ (v ≡ false)
true_or_false true = inl refl
true_or_false false = inr refl

same_or_not : (n m : ℕ) → (n ≡ m) ⊎ (n ≢ m)
same_or_not n m = ⊎_elim (λ l. inr (λ e. omega (arith, l, e))) (λ g. ⊎_elim (λ l. inr (λ e. omega (arith, l, e))) (λ h. inl (omega arith)) (cases_lt m n)) (cases_lt n m)

full_or_none : (count n m : ℕ) → n ≡ min count (n + m) → (count ≡ n) ⊎ (m ≡ 0)
full_or_none count n m e = ⊎_elim (λ l. inl (omega (arith, e, l))) (λ g. inr (omega (arith, e, g))) (cases_lt count (n + m))

-- none comes before one in front of it
abbrev pub Falls : List Scored → Type 0
Falls [] = Unit {0}
Falls (a ∷ rest) = ((b : Scored) → Contains rest b → lt b a ≡ false) × Falls rest

-- no two have the same number
abbrev pub Differ : List Scored → Type 0
Differ [] = Unit {0}
Differ (a ∷ rest) = ((b : Scored) → Contains rest b → a.number ≢ b.number) × Differ rest

-- two lists in order of the same answers are the same
pub same_falling : (xs ys : List Scored) → Falls xs → Falls ys → Differ xs → Differ ys
    → ((z : Scored) → Contains xs z → Contains ys z) → ((z : Scored) → Contains ys z → Contains xs z) → xs ≡ ys
same_falling [] [] a b d e f g = refl
same_falling [] (y ∷ ys) a b d e f g = absurd (has_none y (g y (has_head y ys)))
same_falling (x ∷ xs) [] a b d e f g = absurd (has_none x (f x (has_head x xs)))
same_falling (x ∷ xs) (y ∷ ys) (a, r) (b, s) (d, t) (e, u) f g =
    let same : x ≡ y =
    ⊎_elim (λ h. sym h)
    (λ n. ⊎_elim (λ h. h) (λ m. absurd (d y m (tie x y (b x n) (a y m)))) (has_cases x xs y (g y (has_head y ys))))
    (has_cases y ys x (f x (has_head x xs))) in
    let rest : xs ≡ ys = same_falling xs ys r s t u
    (λ z m. ⊎_elim (λ h. absurd (d z m (ap number_of (same ∙ h)))) (λ n. n) (has_cases y ys z (f z (has_tail x xs z m))))
    (λ z m. ⊎_elim (λ h. absurd (e z m (ap number_of (sym same ∙ h)))) (λ n. n) (has_cases x xs z (g z (has_tail y ys z m)))) in
    ap (λ v. v ∷ xs) same ∙ ap (λ l. y ∷ l) rest

-- 1 for the same number, else 0
abbrev tally : ℕ → ℕ → ℕ
tally n m = cond (eqb n m) 1 0

-- how many answers have a number
abbrev with_number : ℕ → List Scored → ℕ
with_number n xs = sum_by (λ s. tally s.number n) xs

one_if : (n m : ℕ) → n ≡ m → tally n m ≡ 1
one_if n m e = grind (arith, e)

none_if : (n m : ℕ) → n ≢ m → tally n m ≡ 0
none_if n m e = grind (arith, e)

one_at_most : (n m : ℕ) → tally n m ≤ 1
one_at_most n m = grind arith

with-cons : (n : ℕ) (a : Scored) (xs : List Scored) → with_number n (a ∷ xs) ≡ tally a.number n + with_number n xs
with-cons n a xs = sum_by-cons (λ s. tally s.number n) a xs

with-none : (n : ℕ) (xs : List Scored) → ((b : Scored) → Contains xs b → n ≢ b.number) → with_number n xs ≡ 0
with-none n [] h = refl
with-none n (x ∷ xs) h =
    omega (arith, with-cons n x xs, none_if x.number n (λ e. h x (has_head x xs) (sym e)), with-none n xs (λ b m. h b (has_tail x xs b m)))

with-some : (n : ℕ) (xs : List Scored) (b : Scored) → Contains xs b → n ≡ b.number → 1 ≤ with_number n xs
with-some n [] b m e = absurd (has_none b m)
with-some n (x ∷ xs) b m e =
    ⊎_elim (λ h. omega (arith, with-cons n x xs, one_if x.number n (ap number_of h ∙ sym e)))
    (λ t. omega (arith, with-cons n x xs, with-some n xs b t e)) (has_cases x xs b m)

differ-once : (xs : List Scored) (n : ℕ) → Differ xs → with_number n xs ≤ 1
differ-once [] n d = omega arith
differ-once (x ∷ xs) n (h, d) =
    ⊎_elim (λ e. omega (arith, with-cons n x xs, one_at_most x.number n, with-none n xs (λ b m. subst (λ v. v ≢ b.number) e (h b m))))
    (λ ne. omega (arith, with-cons n x xs, none_if x.number n ne, differ-once xs n d)) (same_or_not x.number n)

once-differ : (xs : List Scored) → ((n : ℕ) → with_number n xs ≤ 1) → Differ xs
once-differ [] h = tt
once-differ (x ∷ xs) h = (
  λ b m e. omega (arith, h x.number, with-cons x.number x xs, one_if x.number x.number refl, with-some x.number xs b m e),
  once-differ xs (λ n. omega (arith, h n, with-cons n x xs)),
)

pub differ-permutation : (xs ys : List Scored) → IsPermutation xs ys → Differ xs → Differ ys
differ-permutation xs ys p d =
    once-differ ys (λ n. omega (arith, sum_by-IsPermutation (λ s. tally s.number n) xs ys p, differ-once xs n d))

pub differ-from_pairs : (xs : List Scored) → AllPairs ◌≢◌ (map number_of xs) → Differ xs
differ-from_pairs [] h = tt
differ-from_pairs (x ∷ xs) h = (
  λ b (k, l, e) same. h 0 (suc k) 0 (omega arith) (omega (arith, l, length-map xs number_of)) (same ∙ sym (get_or-map number_of xs k b 0 l ∙ ap number_of e)),
  differ-from_pairs xs (λ i j d a b. h (suc i) (suc j) d (omega arith) (omega arith)),
)

-- an answer placed among others
pub placed-permutation : (a : Scored) (bs : List Scored) → IsPermutation (a ∷ bs) (placed a bs)
unfolding placed
placed-permutation a [] = IsPermutation-refl (a ∷ [])
placed-permutation a (b ∷ bs) =
    elim (lt b a) as (λ v. IsPermutation (a ∷ b ∷ bs) (cond v (b ∷ placed a bs) (a ∷ b ∷ bs))) [
      | true ↦ IsPermutation-trans (a ∷ b ∷ bs) (b ∷ a ∷ bs) (b ∷ placed a bs) (turned a b bs) (IsPermutation-cons b (a ∷ bs) (placed a bs) (placed-permutation a bs))
      | false ↦ IsPermutation-refl (a ∷ b ∷ bs)
    ]

pub ranked-permutation : (xs : List Scored) → IsPermutation xs (ranked xs)
unfolding ranked
ranked-permutation [] = IsPermutation-refl []
ranked-permutation (x ∷ xs) =
    IsPermutation-trans (x ∷ xs) (x ∷ ranked xs) (placed x (ranked xs)) (IsPermutation-cons x xs (ranked xs) (ranked-permutation xs)) (placed-permutation x (ranked xs))

placed-has : (a : Scored) (bs : List Scored) (z : Scored) → Contains (placed a bs) z → (a ≡ z) ⊎ Contains bs z
placed-has a bs z m = has_cases a bs z (Contains-permutation (placed a bs) (a ∷ bs) z (IsPermutation-sym (a ∷ bs) (placed a bs) (placed-permutation a bs)) m)

placed-yes : (a b : Scored) (bs : List Scored) → lt b a ≡ true → placed a (b ∷ bs) ≡ b ∷ placed a bs
unfolding placed
placed-yes a b bs h = ap (λ v. cond v (b ∷ placed a bs) (a ∷ b ∷ bs)) h

placed-no : (a b : Scored) (bs : List Scored) → lt b a ≡ false → placed a (b ∷ bs) ≡ a ∷ b ∷ bs
unfolding placed
placed-no a b bs h = ap (λ v. cond v (b ∷ placed a bs) (a ∷ b ∷ bs)) h

placed-nil : (a : Scored) → placed a [] ≡ a ∷ []
unfolding placed
placed-nil a = refl

placed-falls : (a : Scored) (bs : List Scored) → Falls bs → Falls (placed a bs)
placed-falls a [] f = subst Falls (sym (placed-nil a)) (λ b m. absurd (has_none b m), tt)
placed-falls a (b ∷ bs) (h, f) =
    ⊎_elim
    (λ yes. subst Falls (sym (placed-yes a b bs yes))
    (λ z m. ⊎_elim (λ e. subst (λ v. lt v b ≡ false) e (order.one_way b a yes)) (λ n. h z n) (placed-has a bs z m), placed-falls a bs f))
    (λ no. subst Falls (sym (placed-no a b bs no))
    (λ z m. ⊎_elim (λ e. subst (λ v. lt v a ≡ false) e no) (λ n. order.chain z b a (h z n) no) (has_cases b bs z m), (h, f)))
    (true_or_false (lt b a))

pub ranked-falls : (xs : List Scored) → Falls (ranked xs)
unfolding ranked
ranked-falls [] = tt
ranked-falls (x ∷ xs) = placed-falls x (ranked xs) (ranked-falls xs)

-- order by recursion, and by neighbours
pub falls-from_sorted : (xs : List Scored) → IsSortedBy lt xs → Falls xs
falls-from_sorted [] s = tt
falls-from_sorted (x ∷ xs) s = (
  λ b (k, l, e). subst (λ v. lt v x ≡ false) e (sorted_far lt order (x ∷ xs) s 0 (suc k) b (omega arith) (omega (arith, l))),
  falls-from_sorted xs (λ k d a b. let e : suc k + 1 ≡ suc (k + 1) = omega arith in
      subst (λ n. lt (get_or (x ∷ xs) n d) (get_or xs k d) ≡ false) e (s (suc k) d (omega arith) (omega (arith, b)))),
)

pub sorted-from_falls : (xs : List Scored) → Falls xs → IsSortedBy lt xs
sorted-from_falls [] f k d a b = absurd (omega (arith, b))
sorted-from_falls (x ∷ []) f k d a b = absurd (omega (arith, b))
sorted-from_falls (x ∷ y ∷ ys) (h, f) zero d a b = h y (has_head y ys)
sorted-from_falls (x ∷ y ∷ ys) (h, f) (suc k) d a b =
    let e : suc (k + 1) ≡ suc k + 1 = omega arith in
    subst (λ n. lt (get_or (x ∷ y ∷ ys) n d) (get_or (y ∷ ys) k d) ≡ false) e (sorted-from_falls (y ∷ ys) f k d (omega arith) (omega (arith, b)))

falls-append : (xs ys : List Scored) → Falls xs → Falls ys → ((a b : Scored) → Contains xs a → Contains ys b → lt b a ≡ false) → Falls (xs ++ ys)
falls-append [] ys f g h = g
falls-append (x ∷ xs) ys (a, f) g h = (
  λ z m. ⊎_elim (λ n. a z n) (λ n. h x z (has_head x xs) n) (Contains-append_cases xs ys z m),
  falls-append xs ys f g (λ b c m n. h b c (has_tail x xs b m) n),
)

pub best-none : (count : ℕ) → IsBest count [] []
best-none count = record { dropped = []; same = IsPermutation-refl []; size = omega arith; behind = λ a b m n. absurd (has_none b n) }

counts : (count : ℕ) (every kept : List Scored) (b : IsBest count every kept) → length every ≡ length kept + length b.dropped
counts count every kept b = omega (arith, length_permutation every (kept ++ b.dropped) b.same, length-append kept b.dropped)

none_of : (b : Scored) (bs : List Scored) → length bs ≡ 0 → Contains bs b → ⊥
none_of b bs e (k, l, s) = omega (arith, l, e)

module _ (count : ℕ) (every kept : List Scored) (a : Scored) (best : IsBest count every kept) where
  -- one more in front of those that are there
  ahead : IsPermutation (every ++ a ∷ []) (a ∷ (kept ++ best.dropped))
  ahead = IsPermutation-trans (every ++ a ∷ []) (a ∷ every) (a ∷ (kept ++ best.dropped)) (IsPermutation-to_front every a) (IsPermutation-cons a every (kept ++ best.dropped) best.same)

  longer : length (every ++ a ∷ []) ≡ length every + 1
  longer = length-append every (a ∷ [])

  joins : (new : List Scored) → length kept < count → IsPermutation (a ∷ kept) new → IsBest count (every ++ a ∷ []) new
  joins new room p =
      let none : length best.dropped ≡ 0 = omega (arith, counts count every kept best, best.size, room) in
      record {
        dropped = best.dropped;
        same = IsPermutation-trans (every ++ a ∷ []) ((a ∷ kept) ++ best.dropped) (new ++ best.dropped) ahead (IsPermutation-append_left best.dropped (a ∷ kept) new p);
        size = omega (arith, length_permutation (a ∷ kept) new p, longer, best.size, room);
        behind = λ x y m n. absurd (none_of y best.dropped none n);
      }

  leaves : count ≤ length kept → All (λ b. lt a b ≡ false) kept → IsBest count (every ++ a ∷ []) kept
  leaves full h =
      record {
        dropped = a ∷ best.dropped;
        same = IsPermutation-trans (every ++ a ∷ []) (a ∷ (kept ++ best.dropped)) (kept ++ a ∷ best.dropped) ahead
            (IsPermutation-sym (kept ++ a ∷ best.dropped) (a ∷ (kept ++ best.dropped)) (IsPermutation-middle kept a best.dropped));
        size = omega (arith, longer, best.size, full);
        behind = λ x y m n. ⊎_elim (λ e. subst (λ v. lt v x ≡ false) e (All-contains (λ b. lt a b ≡ false) kept x h m)) (λ t. best.behind x y m t) (has_cases a best.dropped y n);
      }

  takes : (last : Scored) (rest new : List Scored) → count ≤ length kept → IsPermutation kept (last ∷ rest) → IsPermutation (a ∷ rest) new
      → lt a last ≡ true → All (λ b. lt last b ≡ false) kept → IsBest count (every ++ a ∷ []) new
  takes last rest new full p q before least =
      let d = best.dropped in
      let one = IsPermutation-cons a (kept ++ d) (last ∷ (rest ++ d)) (IsPermutation-append_left d kept (last ∷ rest) p) in
      let two = IsPermutation-cons last (a ∷ (rest ++ d)) (new ++ d) (IsPermutation-append_left d (a ∷ rest) new q) in
      let three = IsPermutation-sym (new ++ last ∷ d) (last ∷ (new ++ d)) (IsPermutation-middle new last d) in
      let after : lt last a ≡ false = order.one_way a last before in
      let in_kept : Contains kept last = Contains-permutation (last ∷ rest) kept last (IsPermutation-sym kept (last ∷ rest) p) (has_head last rest) in
      let old = λ (x : Scored) (m : Contains rest x). Contains-permutation (last ∷ rest) kept x (IsPermutation-sym kept (last ∷ rest) p) (has_tail last rest x m) in
      record {
        dropped = last ∷ d;
        same = IsPermutation-trans (every ++ a ∷ []) (a ∷ (kept ++ d)) (new ++ last ∷ d) ahead
            (IsPermutation-trans (a ∷ (kept ++ d)) (a ∷ last ∷ (rest ++ d)) (new ++ last ∷ d) one
            (IsPermutation-trans (a ∷ last ∷ (rest ++ d)) (last ∷ a ∷ (rest ++ d)) (new ++ last ∷ d) (turned a last (rest ++ d))
            (IsPermutation-trans (last ∷ a ∷ (rest ++ d)) (last ∷ (new ++ d)) (new ++ last ∷ d) two three)));
        size = omega (arith, longer, best.size, full, length_permutation kept (last ∷ rest) p, length_permutation (a ∷ rest) new q);
        behind = λ x y m n.
            ⊎_elim
            (λ e. ⊎_elim (λ s. subst (λ v. lt v x ≡ false) s (subst (λ w. lt last w ≡ false) e after))
            (λ t. subst (λ w. lt y w ≡ false) e (order.chain y last a (best.behind last y in_kept t) after)) (has_cases last d y n))
            (λ r. ⊎_elim (λ s. subst (λ v. lt v x ≡ false) s (All-contains (λ b. lt last b ≡ false) kept x least (old x r)))
            (λ t. best.behind x y (old x r) t) (has_cases last d y n))
            (has_cases a rest x (Contains-permutation new (a ∷ rest) x (IsPermutation-sym (a ∷ rest) new q) m));
      }

-- with one answer more
pub best-more : (count : ℕ) (every kept new : List Scored) (a : Scored) → IsBest count every kept → Keeps count kept a new
    → IsBest count (every ++ a ∷ []) new
best-more count every kept new a b (joined room p) = joins count every kept a b new room p
best-more count every kept new a b (replaced full (left_out e h)) =
    subst (λ l. IsBest count (every ++ a ∷ []) l) (sym e) (leaves count every kept a b full h)
best-more count every kept new a b (replaced full (taken_in last rest p q before least)) =
    takes count every kept a b last rest new full p q before least

length-zero : (xs : List Scored) → length xs ≡ 0 → xs ≡ []
length-zero [] e = refl
length-zero (x ∷ xs) e = absurd (omega (arith, e))

take-front : (count : ℕ) (xs ys : List Scored) → length xs ≡ min count (length (xs ++ ys)) → take count (xs ++ ys) ≡ xs
take-front count xs ys e =
    let l = length-append xs ys in
    ⊎_elim
    (λ full. ap (λ n. take n (xs ++ ys)) full ∙ take-append_seam xs ys)
    (λ none. take_all count (xs ++ ys) (omega (arith, l, none, e)) ∙ ap (λ t. xs ++ t) (length-zero ys none) ∙ append-nil xs)
    (full_or_none count (length xs) (length ys) (omega (arith, e, l)))

-- the best in order are the first of all in order
pub best-sorted : (count : ℕ) (every kept out : List Scored) → AllPairs ◌≢◌ (map number_of every) → IsBest count every kept
    → IsPermutation kept out → IsSortedBy lt out → out ≡ take count (ranked every)
best-sorted count every kept out distinct best p s =
    let d = best.dropped in let tail = ranked d in
    let all : IsPermutation every (out ++ tail) =
    IsPermutation-trans every (kept ++ d) (out ++ tail) best.same
    (IsPermutation-trans (kept ++ d) (out ++ d) (out ++ tail) (IsPermutation-append_left d kept out p) (IsPermutation-append_right out d tail (ranked-permutation d))) in
    let differ = differ-from_pairs every distinct in
    let front : Falls (out ++ tail) =
    falls-append out tail (falls-from_sorted out s) (ranked-falls d)
    (λ a b m n. best.behind a b (Contains-permutation out kept a (IsPermutation-sym kept out p) m) (Contains-permutation tail d b (IsPermutation-sym d tail (ranked-permutation d)) n)) in
    let whole : out ++ tail ≡ ranked every =
    same_falling (out ++ tail) (ranked every) front (ranked-falls every) (differ-permutation every (out ++ tail) all differ)
    (differ-permutation every (ranked every) (ranked-permutation every) differ)
    (λ z m. Contains-permutation every (ranked every) z (ranked-permutation every) (Contains-permutation (out ++ tail) every z (IsPermutation-sym every (out ++ tail) all) m))
    (λ z m. Contains-permutation every (out ++ tail) z all (Contains-permutation (ranked every) every z (IsPermutation-sym every (ranked every) (ranked-permutation every)) m)) in
    sym (ap (take count) (sym whole) ∙ take-front count out tail (omega (arith, best.size, length_permutation kept out p, length_permutation every (out ++ tail) all)))

-- what a pop of the last, and a push of an answer that comes before it, leave
pub popped : (old rest new : List Scored) (a last : Scored) (o : Option Scored) → IsSome o → IfSome o (λ x. IsPermutation old (x ∷ rest))
    → IfSome o (λ x. x ≡ get_or old 0 x) → last ≡ get_or old 0 last → 0 < length old → lt a last ≡ true → All (λ b. lt last b ≡ false) old
    → IsPermutation (a ∷ rest) new → Replaces old a new
popped old rest new a last None some p top first l before least q = cc some
popped old rest new a last (Some x) some p top first l before least q =
    let same : x ≡ last = top ∙ get_or_default old 0 x last l ∙ sym first in
    taken_in last rest (subst (λ y. IsPermutation old (y ∷ rest)) same p) q before least

-- an answer that comes before none of those that are kept is left out
pub best-left_out : (count : ℕ) (every kept : List Scored) (a last : Scored) → IsBest count every kept → count ≤ length kept
    → lt a last ≡ false → All (λ b. lt last b ≡ false) kept → IsBest count (every ++ a ∷ []) kept
best-left_out count every kept a last best full after least =
    leaves count every kept a best full (λ k d l. order.chain a last (get_or kept k d) after (least k d l))

-- it does so where its score is less, or the same and its number no lesser
pub after_score : (a last : Scored) → a.score ≤ last.score → eqb last.score a.score ≡ false → lt a last ≡ false
after_score a last l h = grind (arith, l, h)

pub after_number : (a last : Scored) → last.score ≡ a.score → ltb a.number last.number ≡ false → lt a last ≡ false
after_number a last e h = grind (arith, e, h)

-- where none may be kept, none is
pub best-none_kept : (count : ℕ) (every kept : List Scored) (a : Scored) → IsBest count every kept → count ≤ length kept → (0 < length kept → ⊥)
    → IsBest count (every ++ a ∷ []) kept
best-none_kept count every kept a best full none = leaves count every kept a best full (λ k d l. absurd (none (omega (arith, l))))

pub before_number : (a last : Scored) → last.score ≡ a.score → a.number < last.number → lt a last ≡ true
before_number a last e l = grind (arith, e, l)

module _ (count number score : ℕ) (kept : List Scored) where
  abbrev answer : Scored
  answer = record { number = number; name = []; score = score }

  -- an answer has a place where fewer are kept than may be
  pub place_free : length kept < count → has_place (record { count = count; kept = kept }) number score ≡ true
  place_free room = or_left (ltb (length kept) count) (list_any (lt answer) kept) (lt-ltb (length kept) count room)

  -- or where it comes before the last of them
  pub place_of_last : (last : Scored) → 0 < length kept → last ≡ get_or kept 0 last → lt answer last ≡ true → has_place (record { count = count; kept = kept }) number score ≡ true
  place_of_last last some first before =
      or_right (ltb (length kept) count) (list_any (lt answer) kept) (list_any_at (lt answer) kept 0 last some (subst (λ (b : Scored). lt answer b ≡ true) first before))

  -- and nowhere else
  pub no_place : (last : Scored) → count ≤ length kept → lt answer last ≡ false → All (λ b. lt last b ≡ false) kept → has_place (record { count = count; kept = kept }) number score ≡ false
  no_place last full after least =
      or_from (ltb (length kept) count) (list_any (lt answer) kept) (le-ltb (length kept) count full)
      (list_any_none (lt answer) kept (λ k d l. order.chain answer last (get_or kept k d) after (least k d l)))

  pub no_place_for_none : count ≤ length kept → (0 < length kept → ⊥) → has_place (record { count = count; kept = kept }) number score ≡ false
  no_place_for_none full none =
      or_from (ltb (length kept) count) (list_any (lt answer) kept) (le-ltb (length kept) count full) (list_any_none (lt answer) kept (λ k d l. absurd (none (omega (arith, l)))))

  -- of the same score, it is decided by the numbers
  pub place_by_number : (last : Scored) → 0 < length kept → count ≤ length kept → last ≡ get_or kept 0 last → last.score ≡ score → All (λ b. lt last b ≡ false) kept
      → ltb number last.number ≡ has_place (record { count = count; kept = kept }) number score
  place_by_number last some full first same least = ⊎_elim
      (λ before. before ∙ sym (place_of_last last some first (before_number answer last same (ltb-true number last.number before))))
      (λ behind. behind ∙ sym (no_place last full (after_number answer last same behind) least))
      (true_or_false (ltb number last.number))
