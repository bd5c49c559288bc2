-- The terms that begin with a prefix, picked out of entries in any order, and sorted.
use Rattle.std.proofs.Common.{◌≡◌, ⊎_elim, ℕ, ◌+◌, ◌<◌, ◌≤◌, suc, Bool, true, false, ◌&&◌, ◌||◌, nat_eq, List, [], ◌∷◌, ◌++◌, drop, get_or, length, map, take, refl, sym, ap, subst, ◌∙◌, append-nil, append_assoc, arith}
use Rattle.std.specs.Borrow.{Bor}
use Rattle.std.specs.Cmp.Lexicographic.{nat_list_eq_equiv, slice_cmp}
use Rattle.std.specs.List.{filter, list_any, starts_with, AllByRecursion, IsDistinct}
use Rattle.std.specs.List.Sorted.{IsPermutation, IsSorted, IsStrictlySortedBy}
use Rattle.std.specs.Map.{keys_of}
use Rattle.std.specs.Ordering.{is_eq, is_lt, nat_cmp}
use Rattle.std.specs.Str.{bytes_eq}
use Rattle.std.specs.declared.cmp.Ordering.TheVariants.{Less}
use Rattle.std.proofs.lemmas.Bool.{cases_Bool, cond-true, cond-false, true≢false}
use Rattle.std.proofs.lemmas.List.{drop_all, drop_more, map_more, take_all}
use Rattle.std.proofs.lemmas.List.Sorted.{IsPermutation-map, list_any-IsPermutation}
use Rattle.std.proofs.lemmas.Map.Keys.{IsDistinct-IsPermutation, IsDistinct-head, IsDistinct-tail}
use Rattle.std.proofs.lemmas.Map.Text.{is_eq-slice_cmp}
use Rattle.std.proofs.lemmas.Map.Views.{any-filter_same}
use Rattle.alta_content.specs.Joining.{in_order}
use Rattle.alta_content.proofs.Order.{Sorted, after_weaker, by_order, cmp, greater_less, has, has_in_order, in_order_sorted, one_list, same_term}
use Rattle.alta_memlevel.specs.Lists.{Entries, Numbers, bytes_in, keys_in, same_key}

-- whether the term begins so
abbrev pub begins : List ℕ → List ℕ → Bool
begins prefix t = starts_with nat_eq t prefix

begins_all : (t : List ℕ) → begins [] t ≡ true
begins_all [] = refl
begins_all (x ∷ xs) = refl

-- each term begins with nothing
pub all_begin : (ts : List (List ℕ)) → filter (begins []) ts ≡ ts
all_begin [] = refl
all_begin (t ∷ ts) = cond-true (begins [] t) (t ∷ filter (begins []) ts) (filter (begins []) ts) (begins_all t) ∙ ap (λ l. t ∷ l) (all_begin ts)

-- ---- the pick

-- the terms found, and what is left of the entries
abbrev pub Picking : List ℕ → List (List ℕ) → Entries → Entries → Type 0
Picking prefix found left all = found ++ filter (begins prefix) (keys_in left) ≡ filter (begins prefix) (keys_in all)

pub picking-start : (prefix : List ℕ) (found : List (List ℕ)) (left all : Entries) → found ≡ [] → left ≡ all → Picking prefix found left all
picking-start prefix found left all none is =
    ap (λ l. l ++ filter (begins prefix) (keys_in left)) none ∙ ap (λ es. filter (begins prefix) (keys_in es)) is

pub picking-skip : (prefix : List ℕ) (found : List (List ℕ)) (e : Numbers × Numbers) (left all : Entries)
    → Picking prefix found (e ∷ left) all → begins prefix e.0.items ≡ false → Picking prefix found left all
picking-skip prefix found e left all p other =
    let rest = filter (begins prefix) (keys_in left) in
    ap (λ l. found ++ l) (sym (cond-false (begins prefix e.0.items) (e.0.items ∷ rest) rest other)) ∙ p

pub picking-more : (prefix : List ℕ) (found new : List (List ℕ)) (e : Numbers × Numbers) (left all : Entries)
    → Picking prefix found (e ∷ left) all → begins prefix e.0.items ≡ true → new ≡ found ++ e.0.items ∷ [] → Picking prefix new left all
picking-more prefix found new e left all p begun put =
    let rest = filter (begins prefix) (keys_in left) in
    ap (λ l. l ++ rest) put ∙ append_assoc found (e.0.items ∷ []) rest
    ∙ ap (λ l. found ++ l) (sym (cond-true (begins prefix e.0.items) (e.0.items ∷ rest) rest begun)) ∙ p

pub picking-end : (prefix : List ℕ) (found : List (List ℕ)) (left all : Entries) → Picking prefix found left all → left ≡ []
    → found ≡ filter (begins prefix) (keys_in all)
picking-end prefix found left all p none =
    sym (append-nil found) ∙ ap (λ es. found ++ filter (begins prefix) (keys_in es)) (sym none) ∙ p

-- ---- no term is found twice

none_again : (p : List ℕ → Bool) (k : Numbers) (es : Entries) → AllByRecursion (λ y. same_key k y ≡ false) (keys_of es)
    → AllByRecursion (λ u. bytes_eq k.items u ≡ false) (filter p (keys_in es))
none_again p k [] h = tt
none_again p k (e ∷ es) h =
    ⊎_elim (λ y. rw y (h.0, none_again p k es h.1)) (λ n. rw n (none_again p k es h.1)) (cases_Bool (p e.0.items))

pub found_apart : (p : List ℕ → Bool) (es : Entries) → IsDistinct same_key (keys_of es) → IsDistinct bytes_eq (filter p (keys_in es))
unfolding IsDistinct
found_apart p [] h = tt
found_apart p (e ∷ es) h =
    ⊎_elim (λ y. rw y (none_again p e.0 es h.0, found_apart p es h.1)) (λ n. rw n (found_apart p es h.1)) (cases_Bool (p e.0.items))

-- ---- the terms in order

after_filter : (p : List ℕ → Bool) (t : List ℕ) (ts : List (List ℕ)) → AllByRecursion (λ u. slice_cmp nat_cmp t u ≡ Less) ts → AllByRecursion (λ u. slice_cmp nat_cmp t u ≡ Less) (filter p ts)
after_filter p t [] h = tt
after_filter p t (u ∷ us) h =
    ⊎_elim (λ y. rw y (h.0, after_filter p t us h.1)) (λ n. rw n (after_filter p t us h.1)) (cases_Bool (p u))

pub filter_rises : (p : List ℕ → Bool) (ts : List (List ℕ)) → IsStrictlySortedBy (slice_cmp nat_cmp) ts → IsStrictlySortedBy (slice_cmp nat_cmp) (filter p ts)
unfolding IsStrictlySortedBy
filter_rises p [] s = tt
filter_rises p (t ∷ ts) s =
    ⊎_elim (λ y. rw y (after_filter p t ts s.0, filter_rises p ts s.1)) (λ n. rw n (filter_rises p ts s.1)) (cases_Bool (p t))

has_any : (z : List ℕ) (ts : List (List ℕ)) → has z ts ≡ list_any (bytes_eq z) ts
has_any z [] = refl
has_any z (t ∷ ts) = ap (λ b. bytes_eq z t || b) (has_any z ts)

has_filter : (p : List ℕ → Bool) (z : List ℕ) (ts : List (List ℕ)) → has z (filter p ts) ≡ (p z && has z ts)
has_filter p z ts =
    has_any z (filter p ts) ∙ any-filter_same (bytes_eq z) p (p z) (λ k e. ap p (sym (same_term z k e))) ts ∙ ap (λ b. p z && b) (sym (has_any z ts))

-- a term that is not above another and is another one stands before it
stands_before : (t u : List ℕ) → is_lt (cmp u t) ≡ false → bytes_eq t u ≡ false → cmp t u ≡ Less
stands_before t u h n =
    by_order (cmp t u)
    (λ e. e)
    (λ e. absurd (true≢false (sym (sym (is_eq-slice_cmp t u) ∙ ap is_eq e) ∙ n)))
    (λ e. absurd (true≢false (sym (ap is_lt (greater_less t u e)) ∙ h)))

-- what is sorted by terms of which none stands twice rises
module _ {X : Type 0} (f : X → List ℕ) where
  terms_rise : (xs : List X) → IsSorted (λ x y. slice_cmp nat_cmp (f x) (f y)) xs → IsDistinct bytes_eq (map f xs) → Sorted (map f xs)
  unfolding IsStrictlySortedBy
  terms_rise [] s d = tt
  terms_rise (x ∷ []) s d = (tt, tt)
  terms_rise (x ∷ (y ∷ ys)) s d =
      let apart = IsDistinct-head bytes_eq (f x) (f y ∷ map f ys) d in
      let later : IsSorted (λ x y. slice_cmp nat_cmp (f x) (f y)) (y ∷ ys) =
      λ k e l m. let next : suc k + 1 ≡ suc (k + 1) = omega arith in
      subst (λ n. is_lt (slice_cmp nat_cmp (f (get_or (x ∷ (y ∷ ys)) n e)) (f (get_or (y ∷ ys) k e))) ≡ false) next (s (suc k) e (omega arith) (omega (arith, m))) in
      let rest = terms_rise (y ∷ ys) later (IsDistinct-tail bytes_eq (f x) (f y ∷ map f ys) d) in
      let first : cmp (f x) (f y) ≡ Less = stands_before (f x) (f y) (s 0 x (omega arith) (omega arith)) apart.0 in
      ((first, after_weaker (f x) (f y) (map f ys) first rest.0), rest)

  -- the terms that a test picked, sorted, are those in order that pass it
  pub sorted_pick : (p : List ℕ → Bool) (ts : List (List ℕ)) (xs ys : List X) → map f xs ≡ filter p ts → IsDistinct bytes_eq (map f xs)
      → IsPermutation xs ys → IsSorted (λ x y. slice_cmp nat_cmp (f x) (f y)) ys → map f ys ≡ filter p (in_order ts)
  sorted_pick p ts xs ys is apart moved sorted =
      let moves : IsPermutation (map f xs) (map f ys) = IsPermutation-map f xs ys moved in
      let same : (z : List ℕ) → has z (map f ys) ≡ has z (filter p (in_order ts)) =
      λ z. has_any z (map f ys) ∙ sym (list_any-IsPermutation (bytes_eq z) (map f xs) (map f ys) moves) ∙ sym (has_any z (map f xs))
      ∙ ap (has z) is ∙ has_filter p z ts ∙ ap (λ b. p z && b) (sym (has_in_order z ts)) ∙ sym (has_filter p z (in_order ts)) in
      one_list (map f ys) (filter p (in_order ts))
      (terms_rise ys sorted (IsDistinct-IsPermutation bytes_eq nat_list_eq_equiv.symm (map f xs) (map f ys) moves apart))
      (filter_rises p (in_order ts) (in_order_sorted ts)) same

-- ---- slices one behind the other

-- what has the bytes of the slices so far has them with one more
pub bytes_more : (slices : List (Bor (List ℕ))) (i : ℕ) (d : Bor (List ℕ)) (found new : List (List ℕ)) (t : List ℕ) → i < length slices
    → found ≡ bytes_in (take i slices) → new ≡ found ++ t ∷ [] → t ≡ (get_or slices i d).now → new ≡ bytes_in (take (i + 1) slices)
bytes_more slices i d found new t l so_far put at =
    put ∙ ap (λ u. found ++ u ∷ []) at ∙ ap (λ ts. ts ++ (get_or slices i d).now ∷ []) so_far ∙ sym (map_more (λ (s : Bor (List ℕ)). s.now) slices i d l)

pub bytes_all : (slices : List (Bor (List ℕ))) (i : ℕ) (found : List (List ℕ)) → length slices ≤ i → found ≡ bytes_in (take i slices) → found ≡ bytes_in slices
bytes_all slices i found l so_far = so_far ∙ ap bytes_in (take_all i slices l)

-- the bytes of the slices that are left
pub left_more : (slices : List (Bor (List ℕ))) (i : ℕ) (d : Bor (List ℕ)) → i < length slices
    → bytes_in (drop i slices) ≡ (get_or slices i d).now ∷ bytes_in (drop (i + 1) slices)
left_more slices i d l = ap bytes_in (drop_more slices i d l)

pub left_none : (slices : List (Bor (List ℕ))) (i : ℕ) → length slices ≤ i → bytes_in (drop i slices) ≡ []
left_none slices i l = ap bytes_in (drop_all i slices l)
