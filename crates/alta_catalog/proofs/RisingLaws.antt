-- Rising ends, put one behind the other.
use Rattle.std.proofs.Common.{◌≡◌, ⊎_elim, ℕ, ◌+◌, ◌<◌, ◌≤◌, Bool, true, false, List, [], ◌∷◌, ◌++◌, length, get_or, take, refl, sym, ◌∙◌, ap, subst, arith}
use Rattle.std.specs.Prelude.{Contains, nat_lt}
use Rattle.std.specs.List.{All, filter}
use Rattle.std.proofs.lemmas.Bool.{lt-ltb}
use Rattle.std.proofs.lemmas.Bool.Decides.{nat_tests}
use Rattle.std.proofs.lemmas.List.{get_or-take, get_or_default, length-take-le, take_more}
use Rattle.std.proofs.lemmas.List.Elements.{All-head, All-tail}
use Rattle.alta_codec.specs.Rising.{IsRising}
use Rattle.alta_content.proofs.Rises.{Contains-cases, Contains-head, Contains-tail, RisesAbove}
use Rattle.alta_catalog.specs.Ends.{with_end}
use Rattle.alta_meaning.proofs.Tests.{filter_drop, filter_keep}
use Rattle.alta_catalog.proofs.EndLaws.{no_member}

all_pass : (p : ℕ → Bool) (xs : List ℕ) → All (λ x. p x ≡ true) xs → filter p xs ≡ xs
all_pass p [] all = refl
all_pass p (x ∷ xs) all = filter_keep p x xs (All-head (λ y. p y ≡ true) x xs all) ∙ ap (λ (ys : List ℕ). x ∷ ys) (all_pass p xs (All-tail (λ y. p y ≡ true) x xs all))

none_pass : (p : ℕ → Bool) (xs : List ℕ) → All (λ x. p x ≡ false) xs → filter p xs ≡ []
none_pass p [] all = refl
none_pass p (x ∷ xs) all = filter_drop p x xs (All-head (λ y. p y ≡ false) x xs all) ∙ none_pass p xs (All-tail (λ y. p y ≡ false) x xs all)

not_above : (m n : ℕ) → m < n → nat_lt n m ≡ false
not_above m n less = grind (arith, nat_tests)

before_next : (ends : List ℕ) (i : ℕ) → IsRising ends → i < length ends → All (λ x. x < get_or ends i 0) (take i ends)
before_next ends i rising inside = λ k d within.
    let long : length (take i ends) ≡ i = length-take-le i ends (omega (arith, inside)) in
    let here : k < i = omega (arith, within, long) in
    let is : get_or (take i ends) k d ≡ get_or ends k 0 = get_or-take i ends k d here ∙ get_or_default ends k d 0 (omega (arith, here, inside)) in
    let up : get_or ends k 0 < get_or ends i 0 = rising.rising k i here inside in
    omega (arith, is, up)

-- the next end stands behind those before it
pub end_next : (ends : List ℕ) (i end : ℕ) → IsRising ends → i < length ends → end ≡ get_or ends i 0 → with_end end (take i ends) ≡ take (i + 1) ends
end_next ends i end rising inside is =
    let low : All (λ x. x < end) (take i ends) = λ k d within. omega (arith, is, before_next ends i rising inside k d within) in
    ap (λ (front : List ℕ). front ++ end ∷ filter (λ x. nat_lt end x) (take i ends)) (all_pass (λ x. nat_lt x end) (take i ends) (λ k d within. lt-ltb (get_or (take i ends) k d) end (low k d within)))
    ∙ ap (λ (behind : List ℕ). take i ends ++ end ∷ behind) (none_pass (λ x. nat_lt end x) (take i ends) (λ k d within. not_above (get_or (take i ends) k d) end (low k d within)))
    ∙ ap (λ (e : ℕ). take i ends ++ e ∷ []) is
    ∙ sym (take_more ends i 0 inside)

-- ---- rising lists with the same members

above_all : (low : ℕ) (ys : List ℕ) (z : ℕ) → RisesAbove low ys → Contains ys z → low < z
above_all low [] z rise has = absurd (no_member z has)
above_all low (y ∷ ys) z rise has = ⊎_elim (λ e. omega (arith, rise.0, e)) (λ more. omega (arith, rise.0, above_all y ys z rise.2 more)) (Contains-cases y ys z has)

pub one_from : (low : ℕ) (xs ys : List ℕ) → RisesAbove low xs → RisesAbove low ys → ((z : ℕ) → Contains xs z → Contains ys z) → ((z : ℕ) → Contains ys z → Contains xs z) → xs ≡ ys
one_from low [] [] r s h k = refl
one_from low [] (y ∷ ys) r s h k = absurd (no_member y (k y (Contains-head y ys)))
one_from low (x ∷ xs) [] r s h k = absurd (no_member x (h x (Contains-head x xs)))
one_from low (x ∷ xs) (y ∷ ys) r s h k =
    let below : y ≤ x = ⊎_elim (λ e. omega (arith, e)) (λ more. omega (arith, above_all y ys x s.2 more)) (Contains-cases y ys x (h x (Contains-head x xs))) in
    let above : x ≤ y = ⊎_elim (λ e. omega (arith, e)) (λ more. omega (arith, above_all x xs y r.2 more)) (Contains-cases x xs y (k y (Contains-head y ys))) in
    let same : x ≡ y = omega (arith, below, above) in
    let onward : (z : ℕ) → Contains xs z → Contains ys z =
    λ z has. ⊎_elim (λ e. absurd (omega (arith, e, below, above, above_all x xs z r.2 has))) (λ more. more) (Contains-cases y ys z (h z (Contains-tail x xs z has))) in
    let back : (z : ℕ) → Contains ys z → Contains xs z =
    λ z has. ⊎_elim (λ e. absurd (omega (arith, e, below, above, above_all y ys z s.2 has))) (λ more. more) (Contains-cases x xs z (k z (Contains-tail y ys z has))) in
    ap (λ v. v ∷ xs) same ∙ ap (λ (l : List ℕ). y ∷ l) (one_from y xs ys (subst (λ v. RisesAbove v xs) same r.2) s.2 onward back)
