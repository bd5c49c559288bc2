-- Lists one behind the other, of which one is being read.
use Rattle.std.proofs.Common.{◌≡◌, ◌≢◌, ⊎_elim, inl, inr, ℕ, zero, suc, ◌+◌, ◌<◌, ◌≤◌, List, [], ◌∷◌, ◌++◌, length, get_or, refl, sym, subst, ap, ◌∙◌, arith, length-append}
use Rattle.std.specs.Prelude.{Contains}
use Rattle.std.specs.List.{concat}
use Rattle.std.proofs.lemmas.Bool.{cases_lt}
use Rattle.std.proofs.lemmas.List.{get_or_past, get_or_default, get_or_append_left, get_or-append-add}
use Rattle.std.proofs.lemmas.List.Elements.{Contains-append_cases, Contains-append_left, Contains-append_right}
use Rattle.alta_codec.specs.declared.location.TheConstants.{TOP}
use Rattle.alta_codec.specs.Rising.{IsRising, IsPlace, first_from, pred_of, count_from}
use Rattle.alta_codec.proofs.ByIndex.{element}
use Rattle.alta_codec.proofs.Places.{not-Contains-nil, first_from-is, first_from-least, first_from-above, first_from-place, first_from-le_top, pred_of-is, pred_of-greatest, pred_of-place, pred_of-below}

-- The lists, one behind the other, rise; the one at `at` is being read, and those behind it were not moved.
pub record IsChain (lists : List (List ℕ)) (places : List ℕ) (at : ℕ) : Type 0 where
  pub rising : IsRising (concat lists)
  pub sized : length places ≡ length lists
  pub within : at ≤ length lists
  pub here : at < length lists → Contains (get_or lists at []) (get_or places at 0)
  pub later : (k : ℕ) → at < k → k < length lists → get_or places k 0 ≡ first_from (get_or lists k []) 0

pub in_concat : (ls : List (List ℕ)) (z : ℕ) → Contains (concat ls) z
    → (k : ℕ) × (k < length ls) × Contains (get_or ls k []) z
in_concat [] z m = absurd (not-Contains-nil z m)
in_concat (l ∷ ls) z m =
    ⊎_elim (λ a. (zero, omega arith, a)) (λ n. let (k, w, b) = in_concat ls z n
    in (suc k, omega arith, b)) (Contains-append_cases l (concat ls) z m)

pub of_concat : (ls : List (List ℕ)) (k z : ℕ) → k < length ls → Contains (get_or ls k []) z → Contains (concat ls) z
of_concat [] k z w m = absurd (omega arith)
of_concat (l ∷ ls) zero z w m = Contains-append_left l (concat ls) z m
of_concat (l ∷ ls) (suc k) z w m = Contains-append_right l (concat ls) z (of_concat ls k z (omega arith) m)

rising_rest : (xs ys : List ℕ) → IsRising (xs ++ ys) → IsRising ys
rising_rest xs ys r = record {
  rising = λ i j h l. omega (
    arith,
    get_or-append-add xs ys i 0,
    get_or-append-add xs ys j 0,
    r.rising (length xs + i)
        (length xs + j) (omega arith) (omega (arith, length-append xs ys)),
  );
  positive = λ i l. omega (
    arith,
    get_or-append-add xs ys i 0,
    r.positive (length xs + i)
        (omega (arith, length-append xs ys)),
  );
  below = λ i l. omega (
    arith,
    get_or-append-add xs ys i 0,
    r.below (length xs + i)
        (omega (arith, length-append xs ys)),
  );
}

parts_rise : (xs ys : List ℕ) (x y : ℕ) → IsRising (xs ++ ys) → Contains xs x → Contains ys y → x < y
parts_rise xs ys x y r m n =
    let (i, a, e) = element xs x m in
    let (j, b, f) = element ys y n in
    omega (
      arith,
      e,
      f,
      get_or_append_left xs ys 0 i a,
      get_or-append-add xs ys j 0,
      r.rising i (length xs + j)
          (omega arith) (omega (arith, length-append xs ys)),
    )

-- an element of one list is below those of later ones
pub in_order : (ls : List (List ℕ)) (i k x y : ℕ) → IsRising (concat ls) → i < k → k < length ls
    → Contains (get_or ls i []) x → Contains (get_or ls k []) y → x < y
in_order [] i k x y r h w m n = absurd (omega arith)
in_order (l ∷ ls) zero zero x y r h w m n = absurd (omega arith)
in_order (l ∷ ls) zero (suc k) x y r h w m n = parts_rise l (concat ls) x y r m (of_concat ls k y (omega arith) n)
in_order (l ∷ ls) (suc i) zero x y r h w m n = absurd (omega arith)
in_order (l ∷ ls) (suc i) (suc k) x y r h w m n =
    in_order ls i k x y (rising_rest l (concat ls) r) (omega arith) (omega arith) m n

-- what stands first from a place in the one list that reaches it is first of all
pub first_in_chain : (ls : List (List ℕ)) (at to : ℕ) → IsRising (concat ls) → to ≤ TOP → at < length ls
    → ((k z : ℕ) → k < at → Contains (get_or ls k []) z → z < to)
    → Contains (get_or ls at []) (first_from (get_or ls at []) to)
    → first_from (get_or ls at []) to ≡ first_from (concat ls) to
first_in_chain ls at to r top w before m =
    first_from-is (concat ls) to (first_from (get_or ls at []) to) (inl (of_concat ls at _ w m))
    (first_from-le_top (get_or ls at []) to) (first_from-above (get_or ls at []) to top)
    (λ z n h. let (k, l, c) = in_concat ls z n in
    ⊎_elim (λ lt. absurd (omega (arith, before k z lt c)))
    (λ ge. ⊎_elim (λ more. omega (arith, in_order ls at k (first_from (get_or ls at []) to) z r more l m c))
    (λ le. let e : k ≡ at = omega arith in first_from-least (get_or ls at []) to z (subst
    (λ i. Contains (get_or ls i []) z) e c) h) (cases_lt at k))
    (cases_lt k at))

-- where no list reaches a place, nothing is there
pub none_in_chain : (ls : List (List ℕ)) (to : ℕ) → to ≤ TOP
    → ((k z : ℕ) → k < length ls → Contains (get_or ls k []) z → z < to) → TOP ≡ first_from (concat ls) to
none_in_chain ls to top before =
    ⊎_elim (λ m. let (k, l, c) = in_concat ls (first_from (concat ls) to) m in
    absurd (omega (arith, before k (first_from (concat ls) to) l c, first_from-above (concat ls) to top)))
    (λ e. sym e) (first_from-place (concat ls) to)

pub in_bounds : (ls : List (List ℕ)) (k z : ℕ) → IsRising (concat ls) → k < length ls → Contains (get_or ls k []) z
    → (0 < z) × (z < TOP)
in_bounds ls k z r l m =
    let (i, w, e) = element (concat ls) z (of_concat ls k z l m)
    in (omega (arith, e, r.positive i w), omega (arith, e, r.below i w))

-- where the chain stands
pub chain_place : (ls : List (List ℕ)) (hs : List ℕ) (at : ℕ) → IsChain ls hs at
    → IsPlace (concat ls) (get_or hs at TOP)
chain_place ls hs at c =
    ⊎_elim (λ l. inl (subst (λ v. Contains (concat ls) v) (get_or_default hs at 0 TOP (omega (arith, c.sized)))
    (of_concat ls at (get_or hs at 0) l (c.here l))))
    (λ g. inr (get_or_past hs at TOP (omega (arith, c.sized)))) (cases_lt at (length ls))

module _ (ls : List (List ℕ)) (hs : List ℕ) (at to next : ℕ) (c : IsChain ls hs at) (above : get_or hs at TOP < to)
    (top : to ≤ TOP) (from : at ≤ next)
    (skipped : (k : ℕ) → at ≤ k → k < next → pred_of (get_or ls k []) TOP < to) where
  inside : at < length ls
  inside = ⊎_elim (λ l. l) (λ g. absurd (omega (arith, get_or_past hs at TOP (omega (arith, c.sized)))))
      (cases_lt at (length ls))

  place_here : get_or hs at TOP ≡ get_or hs at 0
  place_here = get_or_default hs at TOP 0 (omega (arith, c.sized, inside))

  pub all_passed : next ≤ length ls → (k z : ℕ) → k < next → Contains (get_or ls k []) z → z < to
  all_passed w k z l m =
      ⊎_elim (λ lt. omega (
        arith,
        above,
        place_here,
        in_order ls k at z
            (get_or hs at 0) c.rising lt inside m (c.here inside),
      ))
      (λ ge. omega (
        arith,
        skipped k ge l,
        pred_of-greatest (get_or ls k []) TOP z m
            (in_bounds ls k z c.rising (omega arith) m).1,
      )) (cases_lt k at)

  -- the next list holds a place there
  pub reached : next < length ls → to ≤ pred_of (get_or ls next []) TOP
      → Contains (get_or ls next []) (first_from (get_or ls next []) to)
  reached w found =
      let l = get_or ls next [] in
      ⊎_elim
      (λ m. ⊎_elim (λ n. n)
      (λ t. absurd (omega (
        arith,
        t,
        first_from-least l to (pred_of l TOP) m found,
        pred_of-below l TOP
            (omega arith),
      ))) (first_from-place l to))
      (λ z. absurd (omega (arith, z, found, above))) (pred_of-place l TOP)

  -- the next list's reader is not behind the chain
  pub not_behind : next < length ls → get_or hs at TOP ≤ get_or hs next 0
  not_behind w =
      ⊎_elim (λ lt. ⊎_elim
      (λ m. omega (
        arith,
        place_here,
        c.later next lt w,
        in_order ls at next (get_or hs at 0)
            (first_from (get_or ls next []) 0) c.rising lt w (c.here inside) m,
      ))
      (λ t. omega (arith, c.later next lt w, t, above, top)) (first_from-place (get_or ls next []) 0))
      (λ ge. let e : next ≡ at = omega arith in omega (arith, place_here, ap (λ i. get_or hs i 0) e)) (cases_lt at next)

  -- one that is there already stands where it is to go
  pub stays : next < length ls → to ≤ get_or hs next 0 → get_or hs next 0 ≡ first_from (get_or ls next []) to
  stays w le =
      ⊎_elim (λ lt. let l = get_or ls next [] in let e = c.later next lt w in
      first_from-is l to (get_or hs next 0) (subst (λ v. IsPlace l v) (sym e) (first_from-place l 0))
      (omega (arith, e, first_from-le_top l 0)) le
      (λ z m h. omega (arith, e, first_from-least l 0 z m (omega arith))))
      (λ ge. let e : next ≡ at = omega arith in absurd (omega
      (arith, above, place_here, le, ap (λ i. get_or hs i 0) e))) (cases_lt at next)

  pub chain_goes : (new : List ℕ) → next < length ls → to ≤ pred_of (get_or ls next []) TOP → length new ≡ length hs
      → get_or new next 0 ≡ first_from (get_or ls next []) to → ((k : ℕ) → k ≢ next → get_or new k 0 ≡ get_or hs k 0)
      → IsChain ls new next × (get_or new next TOP ≡ first_from (concat ls) to)
  chain_goes new w found size moved others =
      let m = reached w found in (
        record {
          rising = c.rising;
          sized = size ∙ c.sized;
          within = omega arith;
          here = λ _. subst (λ v. Contains (get_or ls next []) v) (sym moved) m;
          later = λ k h l. others k (λ e. omega arith) ∙ c.later k (omega arith) l;
        },
        get_or_default new next TOP 0 (omega (arith, size, c.sized)) ∙ moved
            ∙ first_in_chain ls next to c.rising top w (all_passed (omega arith)) m,
      )

  pub chain_ends : length ls ≤ next → next ≤ length ls → IsChain ls hs next
      × (get_or hs next TOP ≡ first_from (concat ls) to)
  chain_ends past w = (
    record {
      rising = c.rising;
      sized = c.sized;
      within = w;
      here = λ l. absurd (omega arith);
      later = λ k h l. absurd (omega arith);
    },
    get_or_past hs next TOP (omega (arith, c.sized))
        ∙ none_in_chain ls to top (λ k z l m. all_passed w k z (omega arith) m),
  )

pub count_from-append : (xs ys : List ℕ) (t : ℕ) → count_from (xs ++ ys) t ≡ count_from xs t + count_from ys t
unfolding count_from
count_from-append [] ys t = omega arith
count_from-append (x ∷ xs) ys t = grind (arith, count_from-append xs ys t)

-- the last element of the nearest list before that has one
module _ (ls : List (List ℕ)) (hs : List ℕ) (at k : ℕ) (c : IsChain ls hs at)
    (first : at < length ls → pred_of (get_or ls at []) (get_or hs at 0) ≡ 0)
    (empty : (i : ℕ) → k ≤ i → i < at → pred_of (get_or ls i []) TOP ≡ 0) where
  -- nothing below the place stands in a list from k on
  none_from : (i z : ℕ) → k ≤ i → i < length ls → Contains (get_or ls i []) z → z < get_or hs at TOP → ⊥
  none_from i z low l m h =
      let b = in_bounds ls i z c.rising l m in
      ⊎_elim (λ lt. omega (arith, empty i low lt, pred_of-greatest (get_or ls i []) TOP z m b.1, b.0))
      (λ ge. let inside : at < length ls = omega arith in
      let e : get_or hs at TOP ≡ get_or hs at 0 = get_or_default hs at TOP 0 (omega (arith, c.sized)) in
      ⊎_elim (λ more. omega (arith, e, in_order ls at i (get_or hs at 0) z c.rising more l (c.here inside) m))
      (λ le. let same : i ≡ at = omega arith in
      omega (
        arith,
        first inside,
        pred_of-greatest (get_or ls at []) (get_or hs at 0) z
            (subst (λ n. Contains (get_or ls n []) z) same m) (omega (arith, e)),
        b.0,
      )) (cases_lt at i))
      (cases_lt i at)

  positive_place : 0 < get_or hs at TOP
  positive_place =
      ⊎_elim (λ l. omega (
        arith,
        get_or_default hs at TOP 0 (omega (arith, c.sized)),
        (in_bounds ls at (get_or hs at 0) c.rising l (c.here l)).0,
      ))
      (λ g. omega (arith, get_or_past hs at TOP (omega (arith, c.sized)))) (cases_lt at (length ls))

  pub prev_none : k ≡ 0 → 0 ≡ pred_of (concat ls) (get_or hs at TOP)
  prev_none start =
      pred_of-is (concat ls) (get_or hs at TOP) 0 (inr refl) positive_place positive_place
      (λ z n h. let (i, w, q) = in_concat ls z n in absurd (none_from i z (omega arith) w q h))

  pub prev_before : (j : ℕ) → j + 1 ≡ k → k ≤ at → 0 < pred_of (get_or ls j []) TOP
      → pred_of (get_or ls j []) TOP ≡ pred_of (concat ls) (get_or hs at TOP)
  prev_before j one low positive =
      let xs = get_or ls j [] in let p = pred_of xs TOP in
      let w : j < length ls = omega (arith, c.within) in
      let m : Contains xs p = ⊎_elim (λ m. m) (λ z. absurd (omega (arith, z))) (pred_of-place xs TOP) in
      let below : p < get_or hs at TOP =
      ⊎_elim (λ l. omega (
        arith,
        get_or_default hs at TOP 0 (omega (arith, c.sized)),
        in_order ls j at p
            (get_or hs at 0) c.rising (omega arith) l m (c.here l),
      ))
      (λ g. omega (arith, get_or_past hs at TOP (omega (arith, c.sized)), (in_bounds ls j p c.rising w m).1))
      (cases_lt at (length ls)) in
      pred_of-is (concat ls) (get_or hs at TOP) p (inl (of_concat ls j p w m)) positive_place below
      (λ z n h. let (i, l, q) = in_concat ls z n in
      ⊎_elim (λ lt. omega (arith, in_order ls i j z p c.rising lt w q m))
      (λ ge. ⊎_elim (λ more. absurd (none_from i z (omega arith) l q h))
      (λ le. let same : i ≡ j = omega arith in
      pred_of-greatest xs TOP z (subst (λ n. Contains (get_or ls n []) z) same q)
      (in_bounds ls i z c.rising l q).1) (cases_lt j i))
      (cases_lt i j))
