-- What is left of all readers counts all elements from a place on that no reader has passed.
use Rattle.std.proofs.Common.{◌≡◌, ℕ, ◌≤◌, List, [], ◌∷◌, map, length, sym, subst, arith}
use Rattle.std.specs.Prelude.{All, sum_by, slice_index}
use Rattle.std.specs.List.{concat}
use Rattle.std.proofs.lemmas.List.{get_or-map, length-map}
use Rattle.std.proofs.lemmas.List.Sums.{sum_by-cons}
use Rattle.std.proofs.lemmas.List.Elements.{All-head, All-tail}
use Rattle.alta_codec.specs.Rising.{count_from}
use Rattle.alta_codec.proofs.Places.{count_from-mono}
use Rattle.alta_compound.specs.Same.{count_from-append, count_from-nil}
use Rattle.alta_codec.specs.Inequality.{Inequality}
use Rattle.alta_solver.specs.Solution.{IsSolution}
use Rattle.alta_docread.specs.Solutions.{IsHeld}
use Rattle.alta_docread.proofs.Solved.{solution_below}

-- the count of each from a place at or above its own is at most what is left of it
pub left_counts : {R : Type 0} (all : R → List ℕ) (place left : R → ℕ) (rs : List R) (at : ℕ)
    → All (λ r. left r ≡ count_from (all r) (place r)) rs → All (λ r. place r ≤ at) rs → sum_by (λ r. count_from (all r) at) rs ≤ sum_by left rs
left_counts all place left [] at h p = omega arith
left_counts all place left (r ∷ rs) at h p =
    let here : left r ≡ count_from (all r) (place r) = All-head (λ r. left r ≡ count_from (all r) (place r)) r rs h in
    let low : place r ≤ at = All-head (λ r. place r ≤ at) r rs p in
    let rest = left_counts all place left rs at (All-tail (λ r. left r ≡ count_from (all r) (place r)) r rs h) (All-tail (λ r. place r ≤ at) r rs p) in
    omega (arith, here, rest, count_from-mono (all r) (place r) at low, sum_by-cons left r rs, sum_by-cons (λ r. count_from (all r) at) r rs)

concat_counts : {R : Type 0} (all : R → List ℕ) (rs : List R) (at : ℕ) → count_from (concat (map all rs)) at ≡ sum_by (λ r. count_from (all r) at) rs
concat_counts all [] at = count_from-nil at
concat_counts all (r ∷ rs) at =
    omega (arith, count_from-append (all r) (concat (map all rs)) at, concat_counts all rs at, sum_by-cons (λ r. count_from (all r) at) r rs)

pub counts_left : {R : Type 0} (all : R → List ℕ) (place left : R → ℕ) (rs : List R) (at : ℕ)
    → All (λ r. left r ≡ count_from (all r) (place r)) rs → All (λ r. place r ≤ at) rs → count_from (concat (map all rs)) at ≤ sum_by left rs
counts_left all place left rs at h p = omega (arith, left_counts all place left rs at h p, concat_counts all rs at)

-- at a solution the readers have passed no element at or above the first place
pub solution_counts : {R : Type 0} (list all : R → List ℕ) (place left : R → ℕ) (rs : List R) (bounds : List Inequality) (at : ℕ)
    → IsHeld (length rs) bounds → IsSolution (map list rs) bounds (map place rs) → at ≡ slice_index (map place rs) 0
    → All (λ r. left r ≡ count_from (all r) (place r)) rs → count_from (concat (map all rs)) at ≤ sum_by left rs
solution_counts list all place left rs bounds at held s e h =
    let lists = map list rs in let places = map place rs in
    let bound : IsHeld (length lists) bounds = subst (λ n. IsHeld n bounds) (sym (length-map rs list)) held in
    counts_left all place left rs at h
    (λ k d l. omega (arith, sym (get_or-map place rs k d 0 l), solution_below lists bounds places k bound s (omega (arith, l, length-map rs list)), e))
