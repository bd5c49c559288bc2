-- What a search in a rising list finds.
use Rattle.std.proofs.Common.{◌≡◌, ⊎_elim, ℕ, ◌<◌, ◌≤◌, false, nat_eq, List, length, get_or, sym, subst, arith}
use Rattle.std.specs.declared.result.Result.{Result}
use Rattle.std.specs.List.{list_any}
use Rattle.std.specs.List.Sorted.{IsBinarySearchResult}
use Rattle.std.specs.Ordering.{nat_cmp}
use Rattle.std.specs.Result.{MatchResult, is_ok}
use Rattle.std.specs.declared.result.Result.TheVariants.{Ok, Err}
use Rattle.std.proofs.lemmas.Bool.{eq-eqb, ne_eqb, cases_lt}
use Rattle.std.proofs.lemmas.List.{get_or_default}
use Rattle.std.proofs.lemmas.List.Folds.{list_any_at, list_any_none}
use Rattle.std.proofs.lemmas.List.Sorted.{searched}
use Rattle.alta_codec.specs.Rising.{IsRising}

at_any : (xs : List ℕ) (k x d : ℕ) → k < length xs → (get_or xs k 0 ≡ x → ⊥) → nat_eq (get_or xs k d) x ≡ false
at_any xs k x d l h = rw (get_or_default xs k d 0 l) (ne_eqb (get_or xs k 0) x h)

found : (xs : List ℕ) (x : ℕ) (r : Result ℕ ℕ)
    → MatchResult r (λ i. (i < length xs) × (get_or xs i 0 ≡ x)) (λ i. (i ≤ length xs) × ((k : ℕ) → k < i → get_or xs k 0 < x) × ((k : ℕ) → i ≤ k → k < length xs → x < get_or xs k 0))
    → is_ok r ≡ list_any (λ y. nat_eq y x) xs
found xs x (Ok i) h = sym (list_any_at (λ y. nat_eq y x) xs i 0 h.0 (eq-eqb (get_or xs i 0) x h.1))
found xs x (Err i) h =
    sym (list_any_none (λ y. nat_eq y x) xs
    (λ k d l.
    ⊎_elim
    (λ m. let lt : get_or xs k 0 < x = h.1 k m in at_any xs k x d l (λ e. absurd (omega (arith, lt, e))))
    (λ m. let lt : x < get_or xs k 0 = h.2 k m l in at_any xs k x d l (λ e. absurd (omega (arith, lt, e))))
    (cases_lt k i)))

-- it finds a location exactly where the list has it
pub found_rising : (xs : List ℕ) (x : ℕ) (r : Result ℕ ℕ) → IsRising xs → IsBinarySearchResult (λ y. nat_cmp y x) xs r → is_ok r ≡ list_any (λ y. nat_eq y x) xs
found_rising xs x r s h =
    found xs x r (searched xs x r h (λ i j l m. ⊎_elim (λ n. let up = s.rising i j n m in omega arith) (λ n. let same : i ≡ j = omega arith in subst (λ k. get_or xs i 0 ≤ get_or xs k 0) same (omega arith)) (cases_lt i j)))
