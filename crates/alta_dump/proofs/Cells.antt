-- What the lists of terms tell of the cells of documents.
use Rattle.std.proofs.Common.{◌≡◌, ⊎_elim, ℕ, suc, ◌+◌, ◌<◌, ◌≤◌, Bool, true, false, ◌||◌, ◌&&◌, cond, List, [], ◌∷◌, length, map, get_or, refl, sym, ap, subst, ◌∙◌, arith}
use Rattle.std.specs.Prelude.{Contains}
use Rattle.std.specs.List.{All, filter, list_any}
use Rattle.std.specs.Str.{bytes_eq}
use Rattle.std.proofs.lemmas.Bool.{cases_Bool, or_cases, true≢false}
use Rattle.std.proofs.lemmas.List.Elements.{All-nil, All-cons, All-head, All-tail}
use Rattle.alta_compile.specs.Space.{Placed}
use Rattle.alta_compile.proofs.Spaces.{Has, HasAt, apart_two, at_met, at_within, has-list, list-has, met_at}
use Rattle.alta_content.proofs.Order.{Sorted, has, iff_same, one_list, same_term}
use Rattle.alta_gather.specs.Holding as gather
use Rattle.alta_gather.specs.Holding.{held_by, held_in, holders_from}
use Rattle.alta_gather.proofs.Marking.{contains_has, has_contains}
use Rattle.alta_memlevel.specs.Added.{Added, IsSpace, list_of}
use Rattle.alta_memlevel.proofs.One.{holds_has}
use Rattle.alta_memlevel.proofs.Prefixes.{filter_rises}
use Rattle.alta_machine.specs.Cells.{cell_holds}
use Rattle.alta_machine.specs.declared.test.Test.TheVariants.{Is}
use Rattle.alta_search.proofs.NewestAnswers.{added-apart}
use Rattle.alta_search.proofs.NewestLists.{lists-same, placed_of, space_of}
use Rattle.alta_dump.specs.Seen.{AreFoldings, is_held}

-- ---- a term at a place of a document

module _ (added : List Added) (space : IsSpace added) (a : Added) (m : Has (space_of added) (placed_of a)) (p : ℕ) (t : List ℕ) (within : p < length a.cells) where
  abbrev at : ℕ
  at = a.row.first + p

  same_document : (d : Placed) (q : ℕ) → Has (space_of added) d → at ≡ d.first + q → HasAt (Is t) d.cells q → cell_holds t (get_or a.cells p []) ≡ true
  same_document d q n e h =
      let below : q < length d.cells = at_within (Is t) d.cells q h in
      ⊎_elim
      (λ same.
      let here = subst (λ (y : Placed). (at ≡ y.first + q) × HasAt (Is t) y.cells q) same (e, h) in
      let place : q ≡ p = omega (arith, here.0) in
      subst (λ (n : ℕ). cell_holds t (get_or a.cells n []) ≡ true) place (met_at (Is t) a.cells q here.1).1)
      (λ two. ⊎_elim (λ low. absurd (omega (arith, low, e, below))) (λ high. absurd (omega (arith, high, e, within))) two)
      (apart_two (space_of added) 1 d (placed_of a) (added-apart added space) n m)

  there : Contains (list_of added t) at → cell_holds t (get_or a.cells p []) ≡ true
  there c =
      let (d, n, q, e, h) = list-has (Is t) (space_of added) at (subst (λ (xs : List ℕ). Contains xs at) (lists-same t added) c) in same_document d q n e h

  pub is_in : cell_holds t (get_or a.cells p []) ≡ true → Contains (list_of added t) at
  is_in h =
      subst (λ (xs : List ℕ). Contains xs at) (sym (lists-same t added)) (has-list (Is t) (space_of added) (placed_of a) p at m refl (at_met (Is t) a.cells p (within, h)))

  -- the list of a term has a place exactly where the cell there holds the term
  pub list_tells : gather.has (list_of added t) (a.row.first + p) ≡ cell_holds t (get_or a.cells p [])
  list_tells =
      iff_same (gather.has (list_of added t) at) (cell_holds t (get_or a.cells p [])) (λ h. there (has_contains (list_of added t) at h)) (λ h. contains_has (list_of added t) at (is_in h))

-- ---- the terms that pass a test, by their indices

abbrev pub picks : (List ℕ → Bool) → ℕ → List (List ℕ) → List ℕ
picks h i [] = []
picks h i (t ∷ ts) = cond (h t) (i ∷ picks h (i + 1) ts) (picks h (i + 1) ts)

holders_are : (list : List ℕ → List ℕ) (x : ℕ) (h : List ℕ → Bool) → ((t : List ℕ) → gather.has (list t) x ≡ h t) → (i : ℕ) (ts : List (List ℕ))
    → holders_from i (map list ts) x ≡ picks h i ts
holders_are list x h same i [] = refl
holders_are list x h same i (t ∷ ts) =
    ap (λ (b : Bool). cond b (i ∷ holders_from (i + 1) (map list ts) x) (holders_from (i + 1) (map list ts) x)) (same t)
    ∙ ap (λ (ks : List ℕ). cond (h t) (i ∷ ks) ks) (holders_are list x h same (i + 1) ts)

map_cond : {X : Type 0} (f : ℕ → X) (b : Bool) (i : ℕ) (x : X) (ks : List ℕ) → f i ≡ x → map f (cond b (i ∷ ks) ks) ≡ cond b (x ∷ map f ks) (map f ks)
map_cond f true i x ks e = λ j. e j ∷ map f ks
map_cond f false i x ks e = refl

-- they are the terms at their indices
picks_point : (h : List ℕ → Bool) (all : List (List ℕ)) (i : ℕ) (ts : List (List ℕ)) → ((k : ℕ) → k < length ts → get_or all (i + k) [] ≡ get_or ts k [])
    → map (λ k. get_or all k []) (picks h i ts) ≡ filter h ts
picks_point h all i [] is = refl
picks_point h all i (t ∷ ts) is =
    let first : get_or all i [] ≡ t = ap (λ (n : ℕ). get_or all n []) (let e : i ≡ i + 0 = omega arith in e) ∙ is 0 (omega arith) in
    map_cond (λ (k : ℕ). get_or all k []) (h t) i t (picks h (i + 1) ts) first
    ∙ ap (λ (us : List (List ℕ)). cond (h t) (t ∷ us) us)
    (picks_point h all (i + 1) ts (λ k l. ap (λ (n : ℕ). get_or all n []) (let e : i + 1 + k ≡ i + suc k = omega arith in e) ∙ is (suc k) (omega (arith, l))))

cond_All : (P : ℕ → Type 0) (b : Bool) (i : ℕ) (ks : List ℕ) → P i → All P ks → All P (cond b (i ∷ ks) ks)
cond_All P true i ks here rest = All-cons P i ks here rest
cond_All P false i ks here rest = rest

picks_below : (h : List ℕ → Bool) (n i : ℕ) (ts : List (List ℕ)) → i + length ts ≤ n → All (λ k. k < n) (picks h i ts)
picks_below h n i [] le = All-nil (λ (k : ℕ). k < n)
picks_below h n i (t ∷ ts) le = cond_All (λ (k : ℕ). k < n) (h t) i (picks h (i + 1) ts) (omega (arith, le)) (picks_below h n (i + 1) ts (omega (arith, le)))

foldings_by : (all : List (List ℕ)) (ks : List ℕ) (foldings : List (List ℕ)) → map (λ k. get_or all k []) ks ≡ foldings → All (λ k. k < length all) ks → AreFoldings all (held_by ks) foldings
foldings_by all [] foldings e below = sym e
foldings_by all (k ∷ []) foldings e below = (All-head (λ (k : ℕ). k < length all) k [] below, sym e)
foldings_by all (k ∷ j ∷ ks) foldings e below = omega (arith, ap length e)

-- what a place tells of the terms of a kind is what the cell there has of it
pub tells_foldings : (list : List ℕ → List ℕ) (x : ℕ) (h : List ℕ → Bool) (ts foldings : List (List ℕ)) → ((t : List ℕ) → gather.has (list t) x ≡ h t) → filter h ts ≡ foldings
    → AreFoldings ts (held_in (map list ts) x) foldings
tells_foldings list x h ts foldings same passed =
    subst (λ (ks : List ℕ). AreFoldings ts (held_by ks) foldings) (sym (holders_are list x h same 0 ts))
    (foldings_by ts (picks h 0 ts) foldings (picks_point h ts 0 ts (λ k l. ap (λ (n : ℕ). get_or ts n []) (let e : 0 + k ≡ k = omega arith in e)) ∙ passed)
    (picks_below h (length ts) 0 ts (omega arith)))

some_held : (i : ℕ) (ks : List ℕ) → is_held (held_by (i ∷ ks)) ≡ true
some_held i [] = refl
some_held i (k ∷ ks) = refl

held_some : (h : List ℕ → Bool) (i : ℕ) (ts : List (List ℕ)) → is_held (held_by (picks h i ts)) ≡ list_any h ts
held_some h i [] = refl
held_some h i (t ∷ ts) =
    let rest = picks h (i + 1) ts in
    ⊎_elim
    (λ yes. ap (λ (b : Bool). is_held (held_by (cond b (i ∷ rest) rest))) yes ∙ some_held i rest ∙ sym (ap (λ (b : Bool). b || list_any h ts) yes))
    (λ no. ap (λ (b : Bool). is_held (held_by (cond b (i ∷ rest) rest))) no ∙ held_some h (i + 1) ts ∙ sym (ap (λ (b : Bool). b || list_any h ts) no))
    (cases_Bool (h t))

-- ---- the terms of a kind

and_end : (b : Bool) → (b && true) ≡ b
and_end true = refl
and_end false = refl

none_and : (b : Bool) → (b && false) ≡ false
none_and true = refl
none_and false = refl

has_cond : (t u : List ℕ) (c : Bool) (us : List (List ℕ)) → has t (cond c (u ∷ us) us) ≡ cond c (bytes_eq t u || has t us) (has t us)
has_cond t u true us = refl
has_cond t u false us = refl

passes : (b c d x y : Bool) → (b ≡ true → c ≡ d) → x ≡ (d && y) → cond c (b || x) x ≡ (d && (b || y))
passes true true d x y same e = ap (λ (z : Bool). z && true) (same refl)
passes true false d x y same e = e ∙ ap (λ (z : Bool). z && y) (sym (same refl)) ∙ ap (λ (z : Bool). z && true) (same refl)
passes false true d x y same e = e
passes false false d x y same e = e

has_filter : (p : List ℕ → Bool) (t : List ℕ) (ts : List (List ℕ)) → has t (filter p ts) ≡ (p t && has t ts)
has_filter p t [] = sym (none_and (p t))
has_filter p t (u ∷ us) =
    has_cond t u (p u) (filter p us) ∙ passes (bytes_eq t u) (p u) (p t) (has t (filter p us)) (has t us) (λ e. ap p (sym (same_term t u e))) (has_filter p t us)

crossed : (b x y : Bool) → (b ≡ true → x ≡ y) → (b && x) ≡ (y && b)
crossed true x y same = same refl ∙ sym (and_end y)
crossed false x y same = sym (none_and y)

-- of terms in order, those that a cell holds are all that it has of them
pub held_terms : (ts cell : List (List ℕ)) (p : List ℕ → Bool) → Sorted ts → Sorted cell → ((t : List ℕ) → has t cell ≡ true → has t ts ≡ p t)
    → filter (λ t. cell_holds t cell) ts ≡ filter p cell
held_terms ts cell p sorted cell_sorted among =
    one_list (filter (λ (t : List ℕ). cell_holds t cell) ts) (filter p cell) (filter_rises (λ (t : List ℕ). cell_holds t cell) ts sorted) (filter_rises p cell cell_sorted)
    (λ z. has_filter (λ (t : List ℕ). cell_holds t cell) z ts ∙ ap (λ (b : Bool). b && has z ts) (holds_has z cell)
    ∙ crossed (has z cell) (has z ts) (p z) (among z) ∙ sym (has_filter p z cell))

-- ---- one term

any_only : (h : List ℕ → Bool) (only : List ℕ) (ts : List (List ℕ)) → All (λ t. bytes_eq t only ≡ true) ts → list_any h ts ≡ true → h only ≡ true
any_only h only [] all some = absurd (true≢false (sym some))
any_only h only (t ∷ ts) all some =
    let Is_ : List ℕ → Type 0 = λ u. bytes_eq u only ≡ true in
    ⊎_elim (λ here. subst (λ (u : List ℕ). h u ≡ true) (same_term t only (All-head Is_ t ts all)) here) (λ later. any_only h only ts (All-tail Is_ t ts all) later)
    (or_cases (h t) (list_any h ts) some)

any_there : (h : List ℕ → Bool) (only : List ℕ) (ts : List (List ℕ)) → has only ts ≡ true → h only ≡ true → list_any h ts ≡ true
any_there h only [] there passes = absurd (true≢false (sym there))
any_there h only (t ∷ ts) there passes =
    ⊎_elim (λ here. ap (λ (b : Bool). b || list_any h ts) (ap h (sym (same_term only t here)) ∙ passes)) (λ later. or_right (h t) (list_any h ts) (any_there h only ts later passes))
    (or_cases (bytes_eq only t) (has only ts) there)
  where
    or_right : (a b : Bool) → b ≡ true → (a || b) ≡ true
    or_right true b e = refl
    or_right false b e = e

-- where the terms are this one at most, a place tells whether the cell holds it
pub tells_one : (list : List ℕ → List ℕ) (x : ℕ) (h : List ℕ → Bool) (only : List ℕ) (ts : List (List ℕ)) → ((t : List ℕ) → gather.has (list t) x ≡ h t)
    → All (λ t. bytes_eq t only ≡ true) ts → (h only ≡ true → has only ts ≡ true) → is_held (held_in (map list ts) x) ≡ h only
tells_one list x h only ts same all there =
    ap (λ (ks : List ℕ). is_held (held_by ks)) (holders_are list x h same 0 ts) ∙ held_some h 0 ts
    ∙ iff_same (list_any h ts) (h only) (any_only h only ts all) (λ passes. any_there h only ts (there passes) passes)
