-- What a solution is made of, and where its places stand.
use Rattle.std.proofs.Common.{◌≡◌, ⊎_elim, inl, inr, ℕ, zero, suc, ◌+◌, ◌<◌, ◌≤◌, Bool, true, ◌&&◌, nat_eq, List, [], ◌∷◌, ◌++◌, length, refl, sym, subst, ap, ◌∙◌, arith}
use Rattle.std.specs.Prelude.{Contains, All, slice_index, ◌↔◌}
use Rattle.std.specs.List.{list_any}
use Rattle.std.proofs.lemmas.List.{get_or_default}
use Rattle.std.proofs.lemmas.List.Elements.{All-nil, All-cons, Contains-append_cases}
use Rattle.alta_codec.specs.declared.location.TheConstants.{TOP}
use Rattle.alta_codec.specs.Rising.{IsPlace, pred_of}
use Rattle.alta_codec.proofs.Places.{Contains-head, Contains-tail, Contains-cases, not-Contains-nil, pred_of-greatest}
use Rattle.alta_codec.specs.Inequality.{Inequality}
use Rattle.alta_codec.specs.declared.form.Form.TheVariants.{LocLoc, PrevLoc}
use Rattle.alta_solver.specs.Solution.{low_side, high_side, list_at, MeetsBound, IsSolution}
use Rattle.alta_docread.specs.KeptLaws.{true_or_false, filter-has}
use Rattle.alta_docread.specs.Solutions.{some_row, keeps_all, leads, found_list, Leads, IsHeld, Walk, IsSoundWalk}
use Rattle.alta_docread.specs.SolutionLaws.{IsRow, leads-found}

any-has : (p : ℕ → Bool) (xs : List ℕ) → list_any p xs ≡ true → (x : ℕ) × Contains xs x × (p x ≡ true)
any-has p [] h = absurd cc
any-has p (x ∷ xs) h =
    ⊎_elim (λ yes. (x, Contains-head x xs, yes))
    (λ no. let rest : list_any p xs ≡ true = grind (arith, h, no) in let (z, m, e) = any-has p xs rest in (z, Contains-tail x xs z m, e))
    (true_or_false (p x))

place-in : (l : List ℕ) (x : ℕ) → Contains (l ++ TOP ∷ []) x → IsPlace l x
place-in l x m =
    ⊎_elim (λ n. inl n) (λ t. inr (⊎_elim (λ e. sym e) (λ n. absurd (not-Contains-nil x n)) (Contains-cases TOP [] x t)))
    (Contains-append_cases l (TOP ∷ []) x m)

some_row-has : (ls : List (List ℕ)) (p : List ℕ → Bool) → some_row ls p ≡ true → (x : List ℕ) × IsRow ls x × (p x ≡ true)
unfolding some_row
some_row-has [] p h = ([], tt, h)
some_row-has (l ∷ ls) p h =
    let (x, m, e) = any-has (λ x. some_row ls (λ row. p (x ∷ row))) (l ++ TOP ∷ []) h in
    let (row, r, f) = some_row-has ls (λ row. p (x ∷ row)) e in
    (x ∷ row, (place-in l x m, r), f)

row-sized : (ls : List (List ℕ)) (x : List ℕ) → IsRow ls x → length x ≡ length ls
row-sized [] [] r = refl
row-sized [] (x ∷ xs) r = absurd r
row-sized (l ∷ ls) [] r = absurd r
row-sized (l ∷ ls) (x ∷ xs) (m, r) = omega (arith, row-sized ls xs r)

row-places : (ls : List (List ℕ)) (x : List ℕ) → IsRow ls x → (i : ℕ) → i < length ls → IsPlace (list_at ls i) (slice_index x i)
row-places [] x r i l = absurd (omega arith)
row-places (l ∷ ls) [] r i w = absurd r
row-places (l ∷ ls) (x ∷ xs) (m, r) zero w = m
row-places (l ∷ ls) (x ∷ xs) (m, r) (suc i) w = row-places ls xs r i (omega arith)

keeps-holds : (lists : List (List ℕ)) (x : List ℕ) (bs : List Inequality) → keeps_all lists x bs ≡ true → All (λ b. MeetsBound lists x b) bs
unfolding keeps_all
keeps-holds lists x [] h = All-nil (λ b. MeetsBound lists x b)
keeps-holds lists x (b ∷ bs) h =
    All-cons (λ b. MeetsBound lists x b) b bs (grind (arith, h)) (keeps-holds lists x bs (grind (arith, h)))

-- the list has the first places of all solutions, and no others
pub found-leads : (lists : List (List ℕ)) (bounds : List Inequality) (e : ℕ) → Contains (found_list lists bounds) e → Leads lists bounds e
unfolding found_list
found-leads lists bounds e m =
    let k = filter-has (leads lists bounds) (list_at lists 0) e m in
    let below : e < TOP = grind (arith, k.1) in
    let some : some_row lists (λ x. nat_eq (slice_index x 0) e && keeps_all lists x bounds) ≡ true = grind (arith, k.1) in
    let (x, row, h) = some_row-has lists (λ x. nat_eq (slice_index x 0) e && keeps_all lists x bounds) some in
    let here : slice_index x 0 ≡ e = grind (arith, h) in
    let all : keeps_all lists x bounds ≡ true = grind (arith, h) in (
      x,
      record {
        sized = row-sized lists x row;
        places = row-places lists x row;
        led = omega (arith, here, below);
        bounded = keeps-holds lists x bounds all;
      },
      here,
    )

pub found-is : (lists : List (List ℕ)) (bounds : List Inequality) → 0 < length lists → (e : ℕ) → Contains (found_list lists bounds) e ↔ Leads lists bounds e
found-is lists bounds some e = (
  found-leads lists bounds e,
  λ (x, s, at). subst (λ v. Contains (found_list lists bounds) v) at (leads-found lists bounds x some s),
)

bound_below : (lists : List (List ℕ)) (x : List ℕ) (b : Inequality) (i : ℕ) → b.form ≡ LocLoc → b.i ≡ i → b.j ≡ 0 → b.plus ≡ b.minus → MeetsBound lists x b
    → slice_index x i ≤ slice_index x 0
bound_below lists x b i form low high same h =
    let l : low_side b.form (list_at lists b.i) (slice_index x b.i) ≡ slice_index x i =
    ap (λ f. low_side f (list_at lists b.i) (slice_index x b.i)) form ∙ ap (λ k. slice_index x k) low in
    let r : high_side b.form (list_at lists b.j) (slice_index x b.j) ≡ slice_index x 0 =
    ap (λ f. high_side f (list_at lists b.j) (slice_index x b.j)) form ∙ ap (λ k. slice_index x k) high in
    omega (arith, h, l, r, same)

-- at a solution no reader stands above the first
pub solution_below : (lists : List (List ℕ)) (bounds : List Inequality) (x : List ℕ) (i : ℕ) → IsHeld (length lists) bounds → IsSolution lists bounds x
    → i < length lists → slice_index x i ≤ slice_index x 0
solution_below lists bounds x zero h s l = omega arith
solution_below lists bounds x (suc i) h s l =
    let (k, b, w, e, (form, low, high, same)) = h.upper (suc i) (omega arith) l in
    bound_below lists x b (suc i) form low high same (subst (λ c. MeetsBound lists x c) e (s.bounded k b w))

-- below TOP the readers of a walk stand at its place or before it
pub walk_within : (w : Walk) → IsSoundWalk w → 0 < w.at → w.at < TOP → All (λ x. x ≤ w.at) w.places
walk_within w s begun below k d l =
    let (x, e) = s.walking.stands begun below in
    omega (arith, e, get_or_default w.places k d 0 l, solution_below w.lists w.bounds w.places k s.held x (omega (arith, l, x.sized)))

bound_above : (lists : List (List ℕ)) (x : List ℕ) (b : Inequality) (i : ℕ) → b.form ≡ PrevLoc → b.i ≡ 0 → b.j ≡ i → b.minus ≡ b.plus + 1 → MeetsBound lists x b
    → pred_of (list_at lists 0) (slice_index x 0) < slice_index x i
bound_above lists x b i form low high same h =
    let l : low_side b.form (list_at lists b.i) (slice_index x b.i) ≡ pred_of (list_at lists 0) (slice_index x 0) =
    ap (λ f. low_side f (list_at lists b.i) (slice_index x b.i)) form ∙ ap (λ k. pred_of (list_at lists k) (slice_index x k)) low in
    let r : high_side b.form (list_at lists b.j) (slice_index x b.j) ≡ slice_index x i =
    ap (λ f. high_side f (list_at lists b.j) (slice_index x b.j)) form ∙ ap (λ k. slice_index x k) high in
    omega (arith, h, l, r, same)

-- at a solution each other reader stands above each element of the first list that is below the first place
pub solution_above : (lists : List (List ℕ)) (bounds : List Inequality) (x : List ℕ) (i at : ℕ) → IsHeld (length lists) bounds → IsSolution lists bounds x
    → 0 < i → i < length lists → Contains (list_at lists 0) at → at < slice_index x 0 → at < slice_index x i
solution_above lists bounds x i at h s some l m lt =
    let (k, b, w, e, (form, low, high, same)) = h.lower i some l in
    omega (
      arith,
      bound_above lists x b i form low high same (subst (λ c. MeetsBound lists x c) e (s.bounded k b w)),
      pred_of-greatest (list_at lists 0) (slice_index x 0) at m lt,
    )
