-- The laws of a plan's nodes in std's words.
use Rattle.std.proofs.Common.{◌≡◌, ap, ◌⊎◌, ⊎_elim, inl, inr, ℕ, zero, suc, List, [], ◌∷◌, refl, sym, subst, arith}
use Rattle.std.specs.Prelude.{Contains, All, Any, ◌↔◌}
use Rattle.std.specs.List.{filter}
use Rattle.std.proofs.lemmas.List.Elements.{All-cons, All-head, All-tail}
use Rattle.alta_codec.proofs.Places.{not-Contains-nil}
use Rattle.alta_compound.specs.Union.{union_of}
use Rattle.alta_compound.specs.Unions.{union-has, union-keeps}
use Rattle.alta_docread.specs.Kept.{common, each_has}
use Rattle.alta_docread.specs.KeptLaws.{common-has, common-keeps}

-- what all of one list have is that list
filter-each : (l : List ℕ) → filter (each_has []) l ≡ l
unfolding each_has
filter-each [] = refl
filter-each (x ∷ xs) = ap (λ ys. x ∷ ys) (filter-each xs)

pub common-one : (l : List ℕ) → common (l ∷ []) ≡ l
unfolding common
common-one l = filter-each l

pub common-all : (l : List ℕ) (ls : List (List ℕ)) (z : ℕ) → Contains (common (l ∷ ls)) z ↔ All (λ m. Contains m z) (l ∷ ls)
common-all l ls z = (common-has (l ∷ ls) z, common-keeps (l ∷ ls) z (omega arith))

pub common-both : (l m : List ℕ) (ls : List (List ℕ)) (z : ℕ) → Contains (common (l ∷ m ∷ ls)) z ↔ (Contains l z × Contains (common (m ∷ ls)) z)
common-both l m ls z =
    let both = common-all l (m ∷ ls) z in let rest = common-all m ls z in (
      λ h. let all = both.0 h in (All-head (λ k. Contains k z) l (m ∷ ls) all, rest.1 (All-tail (λ k. Contains k z) l (m ∷ ls) all)),
      λ (h, k). both.1 (All-cons (λ n. Contains n z) l (m ∷ ls) h (rest.0 k)),
    )

pub union-nil : (z : ℕ) → Contains (union_of []) z → ⊥
unfolding union_of
union-nil z h = not-Contains-nil z h

pub union-both : (l : List ℕ) (ls : List (List ℕ)) (z : ℕ) → Contains (union_of (l ∷ ls)) z ↔ (Contains l z ⊎ Contains (union_of ls) z)
unfolding union_of
union-both l ls z = (λ h. union-has l (union_of ls) z h, λ h. union-keeps l (union_of ls) z h)

any-front : (P : List ℕ → Type 0) (l : List ℕ) (ls : List (List ℕ)) → Any P (l ∷ ls) → P l ⊎ Any P ls
any-front P l ls (zero, x, i, e, p) = inl (subst P (sym e) p)
any-front P l ls (suc k, x, i, e, p) = inr (k, x, omega (arith, i), e, p)

any-cons : (P : List ℕ → Type 0) (l : List ℕ) (ls : List (List ℕ)) → Any P (l ∷ ls) ↔ (P l ⊎ Any P ls)
any-cons P l ls =
    (any-front P l ls, λ h. ⊎_elim (λ p. (zero, l, omega arith, refl, p)) (λ (k, x, i, e, p). (suc k, x, omega (arith, i), e, p)) h)

pub union-any : (ls : List (List ℕ)) (z : ℕ) → Contains (union_of ls) z ↔ Any (λ m. Contains m z) ls
union-any [] z = (λ h. absurd (union-nil z h), λ (k, x, i, e, p). absurd (omega (arith, i)))
union-any (l ∷ ls) z =
    let both = union-both l ls z in let rest = union-any ls z in let step = any-cons (λ m. Contains m z) l ls in (
      λ h. step.1 (⊎_elim (λ a. inl a) (λ b. inr (rest.0 b)) (both.0 h)),
      λ h. both.1 (⊎_elim (λ a. inl a) (λ b. inr (rest.1 b)) (step.0 h)),
    )
