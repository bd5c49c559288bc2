-- How a chain begins, and what falls as it goes on.
use Rattle.std.proofs.Common.{◌≡◌, ⊎_elim, inl, ℕ, zero, suc, ◌+◌, ◌<◌, ◌≤◌, List, [], ◌∷◌, map, length, get_or, sym, subst, ◌∙◌, arith}
use Rattle.std.specs.Prelude.{Contains, All, ◌↔◌}
use Rattle.std.specs.List.{concat}
use Rattle.std.proofs.lemmas.Bool.{cases_lt}
use Rattle.std.proofs.lemmas.List.{get_or_past, get_or_default}
use Rattle.std.proofs.lemmas.List.Elements.{All-head, All-tail, Contains-append_cases, Contains-append_left, Contains-append_right}
use Rattle.alta_codec.specs.declared.location.TheConstants.{TOP}
use Rattle.alta_codec.specs.Rising.{IsRising, IsPlace, first_from, pred_of, count_from}
use Rattle.alta_codec.proofs.Places.{first_from-least, first_from-above, first_from-place, pred_of-is, pred_of-greatest, pred_of-place, pred_of-below, count_from-mono, count_from-falls}
use Rattle.alta_words.specs.Chain.{IsChain, in_concat, of_concat, in_order, first_in_chain, none_in_chain, in_bounds, count_from-append}

-- what one list loses, all lose
pub count_gap : (ms : List (List ℕ)) (j x y : ℕ) → j < length ms → x ≤ y
    → count_from (concat ms) y + count_from (get_or ms j []) x ≤ count_from (concat ms) x + count_from (get_or ms j []) y
count_gap [] j x y l h = absurd (omega arith)
count_gap (a ∷ ms) zero x y l h =
    omega (arith, count_from-append a (concat ms) x, count_from-append a (concat ms) y, count_from-mono (concat ms) x y h)
count_gap (a ∷ ms) (suc j) x y l h =
    omega (arith, count_from-append a (concat ms) x, count_from-append a (concat ms) y, count_from-mono a x y h, count_gap ms j x y (omega arith) h)

-- the element before, in the list that is being read
pub prev_here : (ls : List (List ℕ)) (hs : List ℕ) (at : ℕ) → IsChain ls hs at → at < length ls → 0 < pred_of (get_or ls at []) (get_or hs at 0)
    → pred_of (get_or ls at []) (get_or hs at 0) ≡ pred_of (concat ls) (get_or hs at TOP)
prev_here ls hs at c l positive =
    let xs = get_or ls at [] in let x = get_or hs at 0 in let p = pred_of xs x in
    let e : get_or hs at TOP ≡ x = get_or_default hs at TOP 0 (omega (arith, c.sized)) in
    let m : Contains xs p = ⊎_elim (λ m. m) (λ z. absurd (omega (arith, z))) (pred_of-place xs x) in
    let pos = in_bounds ls at x c.rising l (c.here l) in
    pred_of-is (concat ls) (get_or hs at TOP) p (inl (of_concat ls at p l m)) (omega (arith, e, pos.0)) (omega (arith, e, pred_of-below xs x pos.0))
    (λ z n h. let (k, w, q) = in_concat ls z n in
    ⊎_elim (λ lt. omega (arith, in_order ls k at z p c.rising lt l q m))
    (λ ge. ⊎_elim (λ more. absurd (omega (arith, e, in_order ls at k x z c.rising more w (c.here l) q)))
    (λ le. let same : k ≡ at = omega arith in pred_of-greatest xs x z (subst (λ i. Contains (get_or ls i []) z) same q) (omega (arith, e))) (cases_lt at k))
    (cases_lt k at))

-- the chain at its start is at the first list that is not empty
pub chain_starts : (ls : List (List ℕ)) (hs : List ℕ) (at : ℕ) → IsRising (concat ls) → length hs ≡ length ls → at ≤ length ls
    → ((k : ℕ) → k < length ls → get_or hs k 0 ≡ first_from (get_or ls k []) 0)
    → ((k : ℕ) → k < at → pred_of (get_or ls k []) TOP ≡ 0) → (at < length ls → 0 < pred_of (get_or ls at []) TOP)
    → IsChain ls hs at × (get_or hs at TOP ≡ first_from (concat ls) 0)
chain_starts ls hs at r size within unmoved empty some =
    let none : (k z : ℕ) → k < at → Contains (get_or ls k []) z → ⊥ = λ k z l m.
    omega (arith, empty k l, pred_of-greatest (get_or ls k []) TOP z m (in_bounds ls k z r (omega arith) m).1, (in_bounds ls k z r (omega arith) m).0) in
    let first : at < length ls → Contains (get_or ls at []) (first_from (get_or ls at []) 0) = λ l.
    let xs = get_or ls at [] in
    ⊎_elim (λ m. ⊎_elim (λ n. n) (λ t. absurd (omega (arith, t, first_from-least xs 0 (pred_of xs TOP) m (omega arith), pred_of-below xs TOP (omega arith)))) (first_from-place xs 0))
    (λ z. absurd (omega (arith, z, some l))) (pred_of-place xs TOP) in (
      record {
        rising = r;
        sized = size;
        within = within;
        here = λ l. subst (λ v. Contains (get_or ls at []) v) (sym (unmoved at l)) (first l);
        later = λ k h l. unmoved k l;
      },
      ⊎_elim
          (λ l. get_or_default hs at TOP 0 (omega (arith, size)) ∙ unmoved at l
          ∙ first_in_chain ls at 0 r (omega arith) l (λ k z w m. absurd (none k z w m)) (first l))
          (λ g. get_or_past hs at TOP (omega (arith, size)) ∙ none_in_chain ls 0 (omega arith) (λ k z w m. absurd (none k z (omega arith) m)))
          (cases_lt at (length ls)),
    )

-- the members of all leaves are the elements of the joined list
pub concat_members : {R : Type 0} (f a : R → List ℕ) (rs : List R) → All (λ r. (x : ℕ) → Contains (a r) x ↔ Contains (f r) x) rs
    → (x : ℕ) → Contains (concat (map a rs)) x ↔ Contains (concat (map f rs)) x
concat_members f a [] h x = (λ m. m, λ m. m)
concat_members f a (r ∷ rs) h x =
    let here = All-head (λ r. (x : ℕ) → Contains (a r) x ↔ Contains (f r) x) r rs h x in
    let rest = concat_members f a rs (All-tail (λ r. (x : ℕ) → Contains (a r) x ↔ Contains (f r) x) r rs h) x in (
      λ m. ⊎_elim (λ l. Contains-append_left (f r) (concat (map f rs)) x (here.0 l)) (λ n. Contains-append_right (f r) (concat (map f rs)) x (rest.0 n)) (Contains-append_cases (a r) (concat (map a rs)) x m),
      λ m. ⊎_elim (λ l. Contains-append_left (a r) (concat (map a rs)) x (here.1 l)) (λ n. Contains-append_right (a r) (concat (map a rs)) x (rest.1 n)) (Contains-append_cases (f r) (concat (map f rs)) x m),
    )

-- a move from a place that all have to the first from a higher one leaves fewer at or above
pub chain_falls : (ls ms : List (List ℕ)) (x y to : ℕ) → IsPlace (concat ls) x → ((z : ℕ) → Contains (concat ms) z ↔ Contains (concat ls) z) → x < to → to ≤ TOP
    → y ≡ first_from (concat ls) to → count_from (concat ms) y < count_from (concat ms) x
chain_falls ls ms x y to p members h top e =
    ⊎_elim (λ m. count_from-falls (concat ms) x y ((members x).1 m) (omega (arith, e, first_from-above (concat ls) to top))) (λ t. absurd (omega (arith, t))) p

-- what holds of a list and a place of each reader holds at an index
pub both_at : {R : Type 0} (f : R → List ℕ) (h : R → ℕ) (P : List ℕ → ℕ → Type 0) (rs : List R) (j : ℕ)
    → All (λ r. P (f r) (h r)) rs → j < length rs → P (get_or (map f rs) j []) (get_or (map h rs) j 0)
both_at f h P [] j a l = absurd (omega arith)
both_at f h P (r ∷ rs) zero a l = All-head (λ r. P (f r) (h r)) r rs a
both_at f h P (r ∷ rs) (suc j) a l = both_at f h P rs j (All-tail (λ r. P (f r) (h r)) r rs a) (omega arith)
