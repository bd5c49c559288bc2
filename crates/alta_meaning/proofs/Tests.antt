-- Tests and their answers, and what a filter keeps.
use Rattle.std.proofs.Common.{◌≡◌, ◌≢◌, ⊎_elim, ℕ, ◌<◌, Bool, true, false, cond, not, List, [], ◌∷◌, refl, sym, ◌∙◌, ap, arith, rules}
use Rattle.std.specs.Prelude.{◌||◌, ◌&&◌, ◌==◌, nat_lt}
use Rattle.std.specs.List.{list_any, filter}
use Rattle.std.specs.Str.{bytes_eq}
use Rattle.std.proofs.lemmas.Bool.{cases_lt, le-ltb, false≢true}
use Rattle.std.proofs.lemmas.Bool.Decides.{nat_tests}
use Rattle.std.proofs.lemmas.Slice.Eq.{bytes_eq-Decides}

-- one case for each answer of a test
pub by_test : {P : Type 0} (b : Bool) → (b ≡ true → P) → (b ≡ false → P) → P
by_test true if_true if_false = if_true refl
by_test false if_true if_false = if_false refl

pub equal_test : (a b : ℕ) → a ≡ b → (a == b) ≡ true
equal_test a b e = grind (arith, nat_tests)

pub equal_from : (a b : ℕ) → (a == b) ≡ true → a ≡ b
equal_from a b e = grind (arith, nat_tests)

pub apart_test : (a b : ℕ) → a ≢ b → (a == b) ≡ false
apart_test a b e = by_test (a == b) (λ holds. absurd (e (equal_from a b holds))) (λ fails. fails)

pub bytes_from : (xs ys : List ℕ) → bytes_eq xs ys ≡ true → xs ≡ ys
bytes_from xs ys e = search (rules, bytes_eq-Decides xs ys)

pub bytes_same : (xs : List ℕ) → bytes_eq xs xs ≡ true
bytes_same xs = search (rules, bytes_eq-Decides xs xs)

pub or_right : (a b : Bool) → b ≡ true → (a || b) ≡ true
or_right true b e = refl
or_right false b e = e

pub or_left : (a b : Bool) → (a || b) ≡ true → b ≡ false → a ≡ true
or_left true b e fails = refl
or_left false b e fails = absurd (false≢true (sym fails ∙ e))

pub or_first : (a b : Bool) → a ≡ true → (a || b) ≡ true
or_first true b e = refl
or_first false b e = absurd (false≢true e)

pub or_last : (a b : Bool) → a ≡ false → (a || b) ≡ b
or_last true b e = absurd (false≢true (sym e))
or_last false b e = refl

pub or_neither : (a b : Bool) → a ≡ false → b ≡ false → (a || b) ≡ false
or_neither true b e f = e
or_neither false b e f = f

pub or_both : (a b : Bool) → (a || b) ≡ false → (a ≡ false) × (b ≡ false)
or_both true b e = absurd (false≢true (sym e))
or_both false b e = (refl, e)

pub and_left : (a b : Bool) → (a && b) ≡ true → a ≡ true
and_left true b e = refl
and_left false b e = absurd (false≢true e)

pub and_right : (a b : Bool) → (a && b) ≡ true → b ≡ true
and_right true b e = e
and_right false b e = absurd (false≢true e)

pub and_both : (a b : Bool) → a ≡ true → b ≡ true → (a && b) ≡ true
and_both true b e f = f
and_both false b e f = e

pub not_true : (b : Bool) → not b ≡ true → b ≡ false
not_true true e = absurd (false≢true e)
not_true false e = refl

pub below_from : (a b : ℕ) → nat_lt a b ≡ true → a < b
below_from a b e = ⊎_elim (λ below. below) (λ above. absurd (false≢true (sym (le-ltb a b above) ∙ e))) (cases_lt a b)

-- an element that passes is kept, and another is dropped
pub filter_keep : {X : Type 0} (p : X → Bool) (x : X) (xs : List X) → p x ≡ true → filter p (x ∷ xs) ≡ x ∷ filter p xs
filter_keep p x xs e = ap (λ (b : Bool). cond b (x ∷ filter p xs) (filter p xs)) e

pub filter_drop : {X : Type 0} (p : X → Bool) (x : X) (xs : List X) → p x ≡ false → filter p (x ∷ xs) ≡ filter p xs
filter_drop p x xs e = ap (λ (b : Bool). cond b (x ∷ filter p xs) (filter p xs)) e

-- where none passes all others are kept
pub none_left : {X : Type 0} (p : X → Bool) (xs : List X) → list_any p xs ≡ false → filter (λ x. not (p x)) xs ≡ xs
none_left p [] e = refl
none_left {X} p (x ∷ xs) e =
    by_test (p x) (λ holds. absurd (false≢true (sym e ∙ ap (λ (b : Bool). b || list_any p xs) holds)))
    (λ fails. filter_keep (λ y. not (p y)) x xs (ap not fails) ∙ ap (λ (ys : List X). x ∷ ys) (none_left p xs (sym (ap (λ (b : Bool). b || list_any p xs) fails) ∙ e)))
