-- What the uses of tests read.
use Rattle.std.proofs.Common.{◌≡◌, ℕ, zero, suc, List, [], ◌∷◌, length, map, get_or, refl, sym}
use Rattle.std.specs.Prelude.{All}
use Rattle.alta_search.specs.Readers.{Each}
use Rattle.std.proofs.lemmas.List.Elements.{All-nil, All-cons, All-head, All-tail}

-- what holds of all, and of the value past the last, holds of what is read at an index
pub at_index : {X : Type 0} (P : X → Type 0) (xs : List X) (d : X) (i : ℕ) → P d → All P xs → P (get_or xs i d)
at_index P [] d i pd h = pd
at_index P (x ∷ xs) d zero pd h = All-head P x xs h
at_index P (x ∷ xs) d (suc i) pd h = at_index P xs d i pd (All-tail P x xs h)

-- what holds of all, and of the value past the last, holds of what is read at each index
pub all_at : {X : Type 0} (P : X → Type 0) (xs : List X) (d : X) (is : List ℕ) → P d → All P xs → All P (map (λ i. get_or xs i d) is)
all_at P xs d [] pd h = All-nil P
all_at P xs d (i ∷ is) pd h = All-cons P (get_or xs i d) (map (λ i. get_or xs i d) is) (at_index P xs d i pd h) (all_at P xs d is pd h)

-- what is read at an index, of what past the last one stands for
pub read_used : {X : Type 0} (f : ℕ → X) (none : ℕ) (d : X) → f none ≡ d → (uses : List ℕ) (i : ℕ) → get_or (map f uses) i d ≡ f (get_or uses i none)
read_used f none d is [] i = sym is
read_used f none d is (u ∷ us) zero = refl
read_used f none d is (u ∷ us) (suc i) = read_used f none d is us i

-- what stands past the last
pub read_past : {X Y : Type 0} (f : X → Y) (xs : List X) (d : Y) → get_or (map f xs) (length xs) d ≡ d
read_past f [] d = refl
read_past f (x ∷ xs) d = read_past f xs d

-- where a relation holds of what stands at the same place of two lists, it holds of what is read at an index
pub each_at : {X R : Type 0} (P : X → R → Type 0) (x : X) (r : R) (xs : List X) (rs : List R) (i : ℕ) → P x r → Each P xs rs → P (get_or xs i x) (get_or rs i r)
each_at P x r [] [] i past each = past
each_at P x r [] (s ∷ ss) i past each = absurd each
each_at P x r (y ∷ ys) [] i past each = absurd each
each_at P x r (y ∷ ys) (s ∷ ss) zero past each = each.0
each_at P x r (y ∷ ys) (s ∷ ss) (suc i) past each = each_at P x r ys ss i past each.1
