-- Laws of the first places of all solutions.
use Rattle.std.proofs.Common.{◌≡◌, ⊎_elim, inl, inr, ℕ, zero, suc, ◌<◌, Bool, true, ◌&&◌, nat_eq, List, [], ◌∷◌, ◌++◌, length, refl, sym, subst, ap, ◌∙◌, arith}
use Rattle.std.specs.Prelude.{Contains, All, slice_index}
use Rattle.std.specs.List.{list_any}
use Rattle.std.proofs.lemmas.List.Elements.{All-head, All-tail, Contains-append_left, Contains-append_right}
use Rattle.std.proofs.lemmas.Bool.{cases_lt}
use Rattle.alta_codec.specs.declared.location.TheConstants.{TOP}
use Rattle.alta_codec.specs.Rising.{IsRising, IsPlace}
use Rattle.alta_codec.proofs.Places.{Contains-head, Contains-cases, not-Contains-nil}
use Rattle.alta_codec.specs.Inequality.{Inequality}
use Rattle.alta_solver.specs.Solution.{list_at, MeetsBound, IsSolution}
use Rattle.alta_docread.specs.KeptLaws.{filter-keeps, filter-rises}
use Rattle.alta_docread.specs.Solutions.{some_row, keeps_all, leads, found_list, Walk, walk_list, IsSoundWalk}

has-any : (p : ℕ → Bool) (xs : List ℕ) (x : ℕ) → Contains xs x → p x ≡ true → list_any p xs ≡ true
has-any p [] x m h = absurd (not-Contains-nil x m)
has-any p (y ∷ ys) x m h =
    ⊎_elim (λ e. let here : p y ≡ true = ap p e ∙ h in grind (arith, here)) (λ n. grind (arith, has-any p ys x n h))
    (Contains-cases y ys x m)

-- a place of each list
abbrev pub IsRow : List (List ℕ) → List ℕ → Type 0
IsRow [] [] = Unit {0}
IsRow [] (x ∷ xs) = ⊥
IsRow (l ∷ ls) [] = ⊥
IsRow (l ∷ ls) (x ∷ xs) = IsPlace l x × IsRow ls xs

in-place : (l : List ℕ) (x : ℕ) → IsPlace l x → Contains (l ++ TOP ∷ []) x
in-place l x p =
    ⊎_elim (λ m. Contains-append_left l (TOP ∷ []) x m)
    (λ t. Contains-append_right l (TOP ∷ []) x (subst (λ v. Contains (TOP ∷ []) v) (sym t) (Contains-head TOP []))) p

has-some_row : (ls : List (List ℕ)) (p : List ℕ → Bool) (x : List ℕ) → IsRow ls x → p x ≡ true → some_row ls p ≡ true
unfolding some_row
has-some_row [] p [] r h = h
has-some_row [] p (x ∷ xs) r h = absurd r
has-some_row (l ∷ ls) p [] r h = absurd r
has-some_row (l ∷ ls) p (x ∷ xs) (m, r) h =
    has-any (λ x. some_row ls (λ row. p (x ∷ row))) (l ++ TOP ∷ []) x (in-place l x m)
    (has-some_row ls (λ row. p (x ∷ row)) xs r h)

row-from : (ls : List (List ℕ)) (x : List ℕ) → length x ≡ length ls
    → ((i : ℕ) → i < length ls → IsPlace (list_at ls i) (slice_index x i)) → IsRow ls x
row-from [] [] e h = tt
row-from [] (x ∷ xs) e h = absurd (omega (arith, e))
row-from (l ∷ ls) [] e h = absurd (omega (arith, e))
row-from (l ∷ ls) (x ∷ xs) e h = (
  h zero (omega arith),
  row-from ls xs (omega (arith, e))
      (λ i w. h (suc i) (omega arith)),
)

holds-keeps : (lists : List (List ℕ)) (x : List ℕ) (bs : List Inequality) → All (λ b. MeetsBound lists x b) bs
    → keeps_all lists x bs ≡ true
unfolding keeps_all
holds-keeps lists x [] h = refl
holds-keeps lists x (b ∷ bs) h =
    let here = All-head (λ b. MeetsBound lists x b) b bs h in
    grind (arith, here, holds-keeps lists x bs (All-tail (λ b. MeetsBound lists x b) b bs h))

pub leads-found : (lists : List (List ℕ)) (bounds : List Inequality) (x : List ℕ) → 0 < length lists
    → IsSolution lists bounds x
    → Contains (found_list lists bounds) (slice_index x 0)
unfolding found_list
leads-found lists bounds x some s =
    let e = slice_index x 0 in
    let here : nat_eq (slice_index x 0) e ≡ true = grind arith in
    let all : keeps_all lists x bounds ≡ true = holds-keeps lists x bounds s.bounded in
    let row : some_row lists (λ y. nat_eq (slice_index y 0) e && keeps_all lists y bounds) ≡ true =
    has-some_row lists (λ y. nat_eq (slice_index y 0) e && keeps_all lists y bounds) x
    (row-from lists x s.sized s.places) (grind (arith, here, all)) in
    let below : e < TOP = s.led in
    filter-keeps (leads lists bounds) (list_at lists 0) e
    (⊎_elim (λ m. m) (λ t. absurd (omega (arith, t, s.led))) (s.places 0 some)) (grind (arith, below, row))

pub found-rises : (lists : List (List ℕ)) (bounds : List Inequality) → IsRising (list_at lists 0)
    → IsRising (found_list lists bounds)
unfolding found_list
found-rises lists bounds r = filter-rises (leads lists bounds) (list_at lists 0) r

-- a walk that has begun stands at a first place of a solution, or at TOP
pub walk_place : (w : Walk) → IsSoundWalk w → 0 < w.at → IsPlace (walk_list w) w.at
walk_place w s begun =
    ⊎_elim (λ l. let (x, e) = s.walking.stands begun l
    in inl (subst (λ v. Contains (walk_list w) v) e (leads-found w.lists w.bounds w.places s.some x)))
    (λ ge. let top : w.at ≡ TOP = omega (arith, ge, s.top) in inr top) (cases_lt w.at TOP)

pub walk_rises : (w : Walk) → IsSoundWalk w → IsRising (walk_list w)
walk_rises w s = found-rises w.lists w.bounds s.rising
