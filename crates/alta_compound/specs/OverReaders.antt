-- The union over a list of readers, each seen as its list, its place and its members.
use Rattle.std.proofs.Common.{◌≡◌, ⊎_elim, inl, inr, ℕ, ◌<◌, ◌≤◌, min, List, [], ◌∷◌, map, length, get_or, refl, sym, subst, ap, ◌∙◌, arith}
use Rattle.std.specs.Prelude.{Contains, All, sum_by, ◌↔◌}
use Rattle.std.specs.List.{concat}
use Rattle.std.proofs.lemmas.List.{get_or-map, length-map}
use Rattle.std.proofs.lemmas.List.Sums.{sum_by-cons}
use Rattle.std.proofs.lemmas.List.Elements.{Contains-get_or, All-head, All-tail, Contains-append_cases, Contains-append_left, Contains-append_right}
use Rattle.alta_codec.specs.declared.location.TheConstants.{TOP}
use Rattle.alta_codec.specs.Rising.{IsRising, IsPlace, first_from, count_from}
use Rattle.alta_codec.proofs.Places.{first_from-nil, first_from-least, first_from-place, first_from-above}
use Rattle.alta_compound.specs.Gathered.{gathered}
use Rattle.alta_compound.specs.Same.{count_from-append, count_from-nil, sorted-count, sorted-members}
use Rattle.alta_compound.specs.Union.{union_of, least_of, IsInStep}
use Rattle.alta_compound.specs.Unions.{union-first, union-has, union-keeps, union-rises, above_from_rising, rising_from_above, count_same}

pub least_of-le_top : (xs : List ℕ) → least_of xs ≤ TOP
least_of-le_top [] = omega arith
least_of-le_top (x ∷ xs) = omega (arith, least_of-le_top xs)

module _ {R : Type 0} (f : R → List ℕ) where
  pub union_of-rises : (rs : List R) → All (λ r. IsRising (f r)) rs → IsRising (union_of (map f rs))
  unfolding union_of
  union_of-rises [] a = rising_from_above [] tt
  union_of-rises (r ∷ rs) a =
      rising_from_above _ (union-rises (f r) (union_of (map f rs)) 0
      (above_from_rising (f r) (All-head (λ r. IsRising (f r)) r rs a))
      (above_from_rising _ (union_of-rises rs (All-tail (λ r. IsRising (f r)) r rs a))))

  pub union_of-first : (rs : List R) (t : ℕ) → first_from (union_of (map f rs)) t
      ≡ least_of (map (λ r. first_from (f r) t) rs)
  unfolding union_of
  union_of-first [] t = first_from-nil t
  union_of-first (r ∷ rs) t = union-first (f r) (union_of (map f rs)) t
      ∙ ap (λ x. min (first_from (f r) t) x) (union_of-first rs t)

pub has_place : {R : Type 0} (h : R → ℕ) (rs : List R) (k : ℕ) (d : R) → k < length rs
    → Contains (map h rs) (h (get_or rs k d))
has_place h rs k d l = subst (λ v. Contains (map h rs) v) (get_or-map h rs k d 0 l)
    (Contains-get_or (map h rs) k 0 (rw length-map l))

-- maps that agree on each reader
pub map_agree : {R : Type 0} (f h : R → ℕ) (rs : List R) → All (λ r. f r ≡ h r) rs → map f rs ≡ map h rs
map_agree f h [] a = refl
map_agree f h (r ∷ rs) a = ap (λ x. x ∷ map f rs) (All-head (λ r. f r ≡ h r) r rs a)
    ∙ ap (λ l. h r ∷ l) (map_agree f h rs (All-tail (λ r. f r ≡ h r) r rs a))

-- readers in step stand, as one, at the first of the union from there
pub in_step_at : {R : Type 0} (f : R → List ℕ) (h : R → ℕ) (rs : List R) (m : ℕ) → IsInStep f h rs m
    → m ≡ first_from (union_of (map f rs)) m
in_step_at f h rs m s =
    s.least ∙ ap least_of (map_agree h (λ r. first_from (f r) m) rs s.each) ∙ sym (union_of-first f rs m)

pub in_step-le_top : {R : Type 0} (f : R → List ℕ) (h : R → ℕ) (rs : List R) (m : ℕ) → IsInStep f h rs m → m ≤ TOP
in_step-le_top f h rs m s = omega (arith, s.least, least_of-le_top (map h rs))

pub in_step_place : {R : Type 0} (f : R → List ℕ) (h : R → ℕ) (rs : List R) (m : ℕ) → IsInStep f h rs m
    → IsPlace (union_of (map f rs)) m
in_step_place f h rs m s =
    subst (λ v. IsPlace (union_of (map f rs)) v) (sym (in_step_at f h rs m s))
    (first_from-place (union_of (map f rs)) m)

union_of-members : {R : Type 0} (f a : R → List ℕ) (rs : List R)
    → All (λ r. (x : ℕ) → Contains (a r) x ↔ Contains (f r) x) rs
    → (x : ℕ) → Contains (concat (map a rs)) x ↔ Contains (union_of (map f rs)) x
unfolding union_of
union_of-members f a [] h x = (λ m. m, λ m. m)
union_of-members f a (r ∷ rs) h x =
    let here = All-head (λ r. (x : ℕ) → Contains (a r) x ↔ Contains (f r) x) r rs h x in
    let rest = union_of-members f a rs (All-tail (λ r. (x : ℕ) → Contains (a r) x ↔ Contains (f r) x) r rs h) x in (
      λ m. union-keeps (f r) (union_of (map f rs)) x
          (⊎_elim (λ l. inl (here.0 l)) (λ n. inr (rest.0 n)) (Contains-append_cases (a r) (concat (map a rs)) x m)),
      λ m. ⊎_elim (λ l. Contains-append_left (a r) (concat (map a rs)) x (here.1 l))
          (λ n. Contains-append_right (a r) (concat (map a rs)) x (rest.1 n))
          (union-has (f r) (union_of (map f rs)) x m),
    )

counts : {R : Type 0} (a : R → List ℕ) (g : R → ℕ) (rs : List R) (m : ℕ) → All (λ r. g r ≡ count_from (a r) m) rs
    → sum_by g rs ≡ count_from (concat (map a rs)) m
counts a g [] m h = sym (count_from-nil m)
counts a g (r ∷ rs) m h =
    let here : g r ≡ count_from (a r) m = All-head (λ r. g r ≡ count_from (a r) m) r rs h in
    let rest = counts a g rs m (All-tail (λ r. g r ≡ count_from (a r) m) r rs h) in
    omega (arith, sum_by-cons g r rs, here, rest, count_from-append (a r) (concat (map a rs)) m)

-- one reader's count is the same from its own place
pub count_in_step : (l all : List ℕ) (m y : ℕ) → y ≡ first_from l m → m ≤ TOP
    → ((x : ℕ) → Contains all x ↔ Contains l x)
    → count_from all y ≡ count_from all m
count_in_step l all m y e top h =
    count_same all m y (omega (arith, e, first_from-above l m top))
    (λ z n le. omega (arith, e, first_from-least l m z ((h z).0 n) le))

-- each reader's count is the same from the least place
count_each : {R : Type 0} (f a : R → List ℕ) (h g : R → ℕ) (rs : List R) (m : ℕ) → IsInStep f h rs m
    → All (λ r. (x : ℕ) → Contains (a r) x ↔ Contains (f r) x) rs → All (λ r. g r ≡ count_from (a r) (h r)) rs
    → All (λ r. g r ≡ count_from (a r) m) rs
count_each f a h g rs m s members counted k d l =
    counted k d l ∙ count_in_step (f (get_or rs k d)) (a (get_or rs k d)) m (h (get_or rs k d)) (s.each k d l)
    (in_step-le_top f h rs m s) (members k d l)

-- the members of all readers are the elements of the union
pub gathered-members : {R : Type 0} (f a : R → List ℕ) (rs : List R)
    → All (λ r. (x : ℕ) → Contains (a r) x ↔ Contains (f r) x) rs
    → (x : ℕ) → Contains (gathered (map a rs)) x ↔ Contains (union_of (map f rs)) x
gathered-members f a rs h x =
    let s = sorted-members (concat (map a rs)) x in let u = union_of-members f a rs h x in
    (λ m. u.0 (s.0 m), λ m. s.1 (u.1 m))

-- what is left of each is, together, what is left of all
pub gathered-left : {R : Type 0} (f a : R → List ℕ) (h g : R → ℕ) (rs : List R) (m : ℕ) → IsInStep f h rs m
    → All (λ r. (x : ℕ) → Contains (a r) x ↔ Contains (f r) x) rs → All (λ r. g r ≡ count_from (a r) (h r)) rs
    → sum_by g rs ≡ count_from (gathered (map a rs)) m
gathered-left f a h g rs m s members counted =
    counts a g rs m (count_each f a h g rs m s members counted) ∙ sym (sorted-count (concat (map a rs)) m)
