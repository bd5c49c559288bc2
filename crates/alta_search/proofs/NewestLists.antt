-- The lists that the terms of a level's content have: those of the space of its documents.
use Rattle.std.proofs.Common.{◌≡◌, ◌⊎◌, ⊎_elim, inl, inr, ℕ, zero, suc, ◌+◌, ◌<◌, ◌≤◌, Bool, true, false, cond, ◌||◌, List, [], ◌∷◌, ◌++◌, map, refl, sym, subst, ap, ◌∙◌, arith, append-nil}
use Rattle.std.specs.Prelude.{Contains}
use Rattle.std.specs.Cmp.Lexicographic.{bytes_decides}
use Rattle.std.specs.List.{concat, filter, list_any}
use Rattle.std.specs.Str.{bytes_eq}
use Rattle.std.proofs.lemmas.Bool.{or_cases, true≢false}
use Rattle.alta_codec.specs.Rising.{IsRising}
use Rattle.alta_codec.proofs.Places.{Contains-head, Contains-tail, Contains-cases, not-Contains-nil}
use Rattle.alta_compile.specs.Space.{Placed, AreApart, locations, list_of}
use Rattle.alta_compile.proofs.Parts.{union-nil, union-both}
use Rattle.alta_compile.proofs.Spaces.{HasAt, list-has, has-list, list-rises}
use Rattle.alta_compound.specs.Union.{union_of}
use Rattle.alta_compound.specs.Unions.{RisesAbove, above_from_rising, union-rises}
use Rattle.alta_content.specs.Lists.{locations_of, terms_of}
use Rattle.alta_content.specs.TermList.{TermList}
use Rattle.alta_docread.specs.KeptLaws.{true_or_false}
use Rattle.alta_memlevel.specs.Added.{Added, places_of}
use Rattle.alta_memlevel.specs.Added as mem
use Rattle.alta_machine.specs.Cells.{cell_holds}
use Rattle.alta_machine.specs.Patterns.{meets}
use Rattle.alta_machine.specs.declared.test.Test.{Test}
use Rattle.alta_machine.specs.declared.test.Test.TheVariants.{Is, Begins}
use Rattle.alta_search.specs.Lists.{test_list}
use Rattle.alta_search.specs.Newest.{term_meets, terms_met, newest_list, newest_lists}

-- ---- the space of documents

-- a document by its first location and its cells
abbrev pub placed_of : Added → Placed
placed_of a = record { first = a.row.first; cells = a.cells }

abbrev pub space_of : List Added → List Placed
space_of added = map placed_of added

-- the locations of a term are those of the test for it
places-same : (term : List ℕ) (first : ℕ) (cells : List (List (List ℕ))) → places_of first term cells ≡ locations (Is term) first cells
unfolding locations
places-same term first [] = refl
places-same term first (cell ∷ cells) =
    let later = locations (Is term) (first + 1) cells in
    let rest = places-same term (first + 1) cells in
    ap (λ l. cond (cell_holds term cell) (first ∷ []) [] ++ l) rest ∙ one-more (cell_holds term cell) first later
  where
    one-more : (b : Bool) (x : ℕ) (xs : List ℕ) → cond b (x ∷ []) [] ++ xs ≡ cond b (x ∷ xs) xs
    one-more true x xs = refl
    one-more false x xs = refl

pub lists-same : (term : List ℕ) (added : List Added) → mem.list_of added term ≡ list_of (space_of added) (Is term)
unfolding list_of
lists-same term [] = refl
lists-same term (a ∷ more) =
    ap (λ l. l ++ mem.list_of more term) (places-same term a.row.first a.cells)
    ∙ ap (λ l. locations (Is term) a.row.first a.cells ++ l) (lists-same term more)

-- ---- the terms of a cell that meet a test

meets-any : (test : Test) (cell : List (List ℕ)) → meets test cell ≡ list_any (term_meets test) cell
meets-any (Is wanted) cell = refl
meets-any (Begins start) cell = refl

or-right : (a b : Bool) → b ≡ true → (a || b) ≡ true
or-right true b h = refl
or-right false b h = h

-- a cell that holds a term of which this is true has one
any-held : (p : List ℕ → Bool) (term : List ℕ) (cell : List (List ℕ)) → cell_holds term cell ≡ true → p term ≡ true → list_any p cell ≡ true
any-held p term [] h k = absurd (true≢false (sym h))
any-held p term (t ∷ ts) h k =
    ⊎_elim
    (λ e. let same : t ≡ term = (bytes_decides t term).0 e in ap (λ b. b || list_any p ts) (ap p same ∙ k))
    (λ n. or-right (p t) (list_any p ts) (any-held p term ts n k))
    (or_cases (bytes_eq t term) (cell_holds term ts) h)

-- a cell that has a term of which this is true holds that term
held-any : (p : List ℕ → Bool) (cell : List (List ℕ)) → list_any p cell ≡ true → (term : List ℕ) × (cell_holds term cell ≡ true) × (p term ≡ true)
held-any p [] h = absurd (true≢false (sym h))
held-any p (t ∷ ts) h =
    ⊎_elim
    (λ e. (t, ap (λ b. b || cell_holds t ts) ((bytes_decides t t).1 refl), e))
    (λ n. let (u, m, k) = held-any p ts n in (u, or-right (bytes_eq t u) (cell_holds u ts) m, k))
    (or_cases (p t) (list_any p ts) h)

at-held : (test : Test) (term : List ℕ) → term_meets test term ≡ true → (cells : List (List (List ℕ))) (p : ℕ) → HasAt (Is term) cells p → HasAt test cells p
at-held test term k [] p h = absurd h
at-held test term k (c ∷ cs) zero h = meets-any test c ∙ any-held (term_meets test) term c h k
at-held test term k (c ∷ cs) (suc p) h = at-held test term k cs p h

held-at : (test : Test) (cells : List (List (List ℕ))) (p : ℕ) → HasAt test cells p → (term : List ℕ) × HasAt (Is term) cells p × (term_meets test term ≡ true)
held-at test [] p h = absurd h
held-at test (c ∷ cs) zero h = held-any (term_meets test) c (sym (meets-any test c) ∙ h)
held-at test (c ∷ cs) (suc p) h = held-at test cs p h

-- ---- terms that are among others

abbrev pub Among : List ℕ → List (List ℕ) → Type 0
Among t [] = ⊥
Among t (u ∷ us) = (u ≡ t) ⊎ Among t us

filter-yes : (p : List ℕ → Bool) (t : List ℕ) (ts : List (List ℕ)) → p t ≡ true → filter p (t ∷ ts) ≡ t ∷ filter p ts
filter-yes p t ts h = ap (λ b. cond b (t ∷ filter p ts) (filter p ts)) h

filter-no : (p : List ℕ → Bool) (t : List ℕ) (ts : List (List ℕ)) → p t ≡ false → filter p (t ∷ ts) ≡ filter p ts
filter-no p t ts h = ap (λ b. cond b (t ∷ filter p ts) (filter p ts)) h

filter-among : (p : List ℕ → Bool) (t : List ℕ) (ts : List (List ℕ)) → Among t (filter p ts) → Among t ts × (p t ≡ true)
filter-among p t [] m = absurd m
filter-among p t (u ∷ us) m =
    ⊎_elim
    (λ yes. ⊎_elim
    (λ e. (inl e, subst (λ x. p x ≡ true) e yes))
    (λ n. let (a, b) = filter-among p t us n in (inr a, b))
    (subst (Among t) (filter-yes p u us yes) m))
    (λ no. let (a, b) = filter-among p t us (subst (Among t) (filter-no p u us no) m) in (inr a, b))
    (true_or_false (p u))

among-filter : (p : List ℕ → Bool) (t : List ℕ) (ts : List (List ℕ)) → Among t ts → p t ≡ true → Among t (filter p ts)
among-filter p t [] m h = absurd m
among-filter p t (u ∷ us) m h =
    ⊎_elim
    (λ e. subst (Among t) (sym (filter-yes p u us (subst (λ x. p x ≡ true) (sym e) h))) (inl e))
    (λ n. let rest = among-filter p t us n h in
    ⊎_elim
    (λ yes. subst (Among t) (sym (filter-yes p u us yes)) (inr rest))
    (λ no. subst (Among t) (sym (filter-no p u us no)) rest)
    (true_or_false (p u)))
    m

-- a term that has a location is among the terms
located-among : (t : List ℕ) (z : ℕ) (lists : List TermList) → Contains (locations_of lists t) z → Among t (terms_of lists)
located-among t z [] m = absurd (not-Contains-nil z m)
located-among t z (l ∷ ls) m =
    ⊎_elim
    (λ yes. inl (sym ((bytes_decides t l.term).0 yes)))
    (λ no. inr (located-among t z ls (subst (λ b. Contains (cond b l.locations (locations_of ls t)) z) no m)))
    (true_or_false (bytes_eq t l.term))

-- ---- the union of the lists of terms

module _ (f : List ℕ → List ℕ) where
  union-from : (ts : List (List ℕ)) (z : ℕ) → Contains (union_of (map f ts)) z → (t : List ℕ) × Among t ts × Contains (f t) z
  union-from [] z m = absurd (union-nil z m)
  union-from (t ∷ ts) z m =
      ⊎_elim (λ h. (t, inl refl, h)) (λ n. let (u, a, h) = union-from ts z n in (u, inr a, h)) ((union-both (f t) (map f ts) z).0 m)

  union-has : (ts : List (List ℕ)) (t : List ℕ) (z : ℕ) → Among t ts → Contains (f t) z → Contains (union_of (map f ts)) z
  union-has [] t z a h = absurd a
  union-has (u ∷ us) t z a h =
      (union-both (f u) (map f us) z).1
      (⊎_elim (λ e. inl (subst (λ x. Contains (f x) z) (sym e) h)) (λ n. inr (union-has us t z n h)) a)

  union-above : ((t : List ℕ) → IsRising (f t)) → (ts : List (List ℕ)) → RisesAbove 0 (union_of (map f ts))
  unfolding union_of
  union-above r [] = tt
  union-above r (t ∷ ts) = union-rises (f t) (union_of (map f ts)) 0 (above_from_rising (f t) (r t)) (union-above r ts)

-- ---- two rising lists with the same elements are one

above-all : (low : ℕ) (ys : List ℕ) (z : ℕ) → RisesAbove low ys → Contains ys z → low < z
above-all low [] z r m = absurd (not-Contains-nil z m)
above-all low (y ∷ ys) z (a, b, r) m =
    ⊎_elim (λ e. omega (arith, a, e)) (λ n. omega (arith, a, above-all y ys z r n)) (Contains-cases y ys z m)

one-list : (low : ℕ) (xs ys : List ℕ) → RisesAbove low xs → RisesAbove low ys
    → ((z : ℕ) → Contains xs z → Contains ys z) → ((z : ℕ) → Contains ys z → Contains xs z) → xs ≡ ys
one-list low [] [] r s h k = refl
one-list low [] (y ∷ ys) r s h k = absurd (not-Contains-nil y (k y (Contains-head y ys)))
one-list low (x ∷ xs) [] r s h k = absurd (not-Contains-nil x (h x (Contains-head x xs)))
one-list low (x ∷ xs) (y ∷ ys) (a, b, r) (c, d, s) h k =
    let below : y ≤ x = ⊎_elim (λ e. omega (arith, e)) (λ n. omega (arith, above-all y ys x s n)) (Contains-cases y ys x (h x (Contains-head x xs))) in
    let above : x ≤ y = ⊎_elim (λ e. omega (arith, e)) (λ n. omega (arith, above-all x xs y r n)) (Contains-cases x xs y (k y (Contains-head y ys))) in
    let same : x ≡ y = omega (arith, below, above) in
    let there : (z : ℕ) → Contains xs z → Contains ys z =
    λ z m. ⊎_elim (λ e. absurd (omega (arith, e, below, above, above-all x xs z r m))) (λ n. n) (Contains-cases y ys z (h z (Contains-tail x xs z m))) in
    let back : (z : ℕ) → Contains ys z → Contains xs z =
    λ z m. ⊎_elim (λ e. absurd (omega (arith, e, below, above, above-all y ys z s m))) (λ n. n) (Contains-cases x xs z (k z (Contains-tail y ys z m))) in
    ap (λ v. v ∷ xs) same ∙ ap (λ l. y ∷ l) (one-list y xs ys (subst (λ v. RisesAbove v xs) same r) s there back)

-- ---- the lists of a test

module _ (added : List Added) (lists : List TermList) (h : (term : List ℕ) → locations_of lists term ≡ mem.list_of added term) where
  -- what a term has in the space
  abbrev in_space : List ℕ → List ℕ
  in_space term = list_of (space_of added) (Is term)

  joined-same : (ts : List (List ℕ)) → map concat (map (newest_list lists) ts) ≡ map in_space ts
  joined-same [] = refl
  joined-same (t ∷ ts) =
      ap (λ l. l ∷ map concat (map (newest_list lists) ts)) (append-nil (locations_of lists t) ∙ h t ∙ lists-same t added)
      ∙ ap (λ ls. in_space t ∷ ls) (joined-same ts)

  module _ (test : Test) where
    from-terms : (z : ℕ) → Contains (union_of (map in_space (terms_met lists test))) z → Contains (list_of (space_of added) test) z
    from-terms z m =
        let (t, a, c) = union-from in_space (terms_met lists test) z m in
        let (d, n, p, e, k) = list-has (Is t) (space_of added) z c in
        has-list test (space_of added) d p z n e (at-held test t (filter-among (term_meets test) t (terms_of lists) a).1 d.cells p k)

    to-terms : (z : ℕ) → Contains (list_of (space_of added) test) z → Contains (union_of (map in_space (terms_met lists test))) z
    to-terms z m =
        let (d, n, p, e, k) = list-has test (space_of added) z m in
        let (t, held, met) = held-at test d.cells p k in
        let c : Contains (in_space t) z = has-list (Is t) (space_of added) d p z n e held in
        let among : Among t (terms_of lists) = located-among t z lists (subst (λ l. Contains l z) (sym (h t ∙ lists-same t added)) c) in
        union-has in_space (terms_met lists test) t z (among-filter (term_meets test) t (terms_of lists) among met) c

    -- the lists of the terms that meet a test make up the list of the test
    pub newest-list : AreApart 1 (space_of added) → test_list (newest_lists lists test) ≡ list_of (space_of added) test
    newest-list apart =
        ap union_of (joined-same (terms_met lists test))
        ∙ one-list 0 (union_of (map in_space (terms_met lists test))) (list_of (space_of added) test)
        (union-above in_space (λ t. list-rises (Is t) (space_of added) apart) (terms_met lists test))
        (above_from_rising (list_of (space_of added) test) (list-rises test (space_of added) apart))
        from-terms to-terms
