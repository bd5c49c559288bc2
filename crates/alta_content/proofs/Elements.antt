-- Parts of lists, and what a test leaves of one.
use Rattle.std.proofs.Common.{◌≡◌, ⊎_elim, ℕ, ◌<◌, Bool, true, false, ◌&&◌, ◌||◌, cond, List, [], ◌∷◌, ◌++◌, length, get_or, refl, sym, ap, ◌∙◌}
use Rattle.std.specs.Prelude.{nat_eq}
use Rattle.std.specs.List.{All, filter}
use Rattle.std.proofs.lemmas.Bool.{cases_Bool, or_left, or_right, or_cases, eq-eqb, eqb-true, true≢false}
use Rattle.std.proofs.lemmas.List.Elements.{All-nil, All-cons, All-head, All-tail}
use Rattle.std.proofs.lemmas.List.Folds.{list_any_at}
use Rattle.alta_content.proofs.Ranges.{among}

pub all_left : {X : Type 0} (P : X → Type 0) (xs ys : List X) → All P (xs ++ ys) → All P xs
all_left P [] ys h = All-nil P
all_left P (x ∷ xs) ys h = All-cons P x xs (All-head P x (xs ++ ys) h) (all_left P xs ys (All-tail P x (xs ++ ys) h))

pub all_right : {X : Type 0} (P : X → Type 0) (xs ys : List X) → All P (xs ++ ys) → All P ys
all_right P [] ys h = h
all_right P (x ∷ xs) ys h = all_right P xs ys (All-tail P x (xs ++ ys) h)

abbrev pub chosen : {X : Type 0} → Bool → X → List X → List X
chosen b x xs = cond b (x ∷ xs) xs

-- a location that passes a test is left where it was
pub among_filter : (p : ℕ → Bool) (x : ℕ) (xs : List ℕ) → p x ≡ true → among x (filter p xs) ≡ among x xs
among_filter p x [] h = refl
among_filter p x (y ∷ ys) h =
    let rest = among_filter p x ys h in
    ⊎_elim
    (λ e. ap (λ b. among x (chosen b y (filter p ys))) e ∙ ap (λ b. nat_eq x y || b) rest)
    (λ n.
    let other : nat_eq x y ≡ false = ⊎_elim (λ z. absurd (true≢false (sym h ∙ ap p (eqb-true x y z) ∙ n))) (λ z. z) (cases_Bool (nat_eq x y)) in
    ap (λ b. among x (chosen b y (filter p ys))) n ∙ rest ∙ sym (ap (λ b. b || among x ys) other))
    (cases_Bool (p y))

pub among_itself : (x : ℕ) → nat_eq x x ≡ true
among_itself x = eq-eqb x x refl

pub among_head : (x : ℕ) (xs : List ℕ) → among x (x ∷ xs) ≡ true
among_head x xs = or_left (nat_eq x x) (among x xs) (among_itself x)

pub among_more : (x y : ℕ) (ys : List ℕ) → among x ys ≡ true → among x (y ∷ ys) ≡ true
among_more x y ys h = or_right (nat_eq x y) (among x ys) h

pub among_at : (xs : List ℕ) (k : ℕ) → k < length xs → among (get_or xs k 0) xs ≡ true
among_at xs k l = list_any_at (nat_eq (get_or xs k 0)) xs k 0 l (among_itself (get_or xs k 0))

-- what a test leaves was there, and passes
pub filter_member : (p : ℕ → Bool) (x : ℕ) (xs : List ℕ) → among x (filter p xs) ≡ true → (among x xs ≡ true) × (p x ≡ true)
filter_member p x [] h = absurd (true≢false (sym h))
filter_member p x (y ∷ ys) h =
    ⊎_elim
    (λ e. ⊎_elim
    (λ z. let same = eqb-true x y z in (or_left (nat_eq x y) (among x ys) z, ap p same ∙ e))
    (λ m. let r = filter_member p x ys m in (among_more x y ys r.0, r.1))
    (or_cases (nat_eq x y) (among x (filter p ys)) (sym (ap (λ b. among x (chosen b y (filter p ys))) e) ∙ h)))
    (λ n. let r = filter_member p x ys (sym (ap (λ b. among x (chosen b y (filter p ys))) n) ∙ h) in (among_more x y ys r.0, r.1))
    (cases_Bool (p y))

-- tests that agree at each element leave the same
pub filter_among : (p q : ℕ → Bool) (xs : List ℕ) → ((x : ℕ) → among x xs ≡ true → p x ≡ q x) → filter p xs ≡ filter q xs
filter_among p q [] h = refl
filter_among p q (x ∷ xs) h =
    ap (λ b. chosen b x (filter p xs)) (h x (among_head x xs)) ∙ ap (λ l. chosen (q x) x l) (filter_among p q xs (λ y m. h y (among_more y x xs m)))

and_true : (b : Bool) → (b && true) ≡ b
and_true true = refl
and_true false = refl

and_false : (b : Bool) → (b && false) ≡ false
and_false true = refl
and_false false = refl

-- one test behind another leaves what passes both
pub filter_twice : (p q r : ℕ → Bool) (xs : List ℕ) → ((x : ℕ) → among x xs ≡ true → (p x && q x) ≡ r x) → filter p (filter q xs) ≡ filter r xs
filter_twice p q r [] h = refl
filter_twice p q r (x ∷ xs) h =
    let rest = filter_twice p q r xs (λ y m. h y (among_more y x xs m)) in
    let own = h x (among_head x xs) in
    ⊎_elim
    (λ e. let is : p x ≡ r x = sym (ap (λ b. p x && b) e ∙ and_true (p x)) ∙ own in
    ap (λ b. filter p (chosen b x (filter q xs))) e ∙ ap (λ b. chosen b x (filter p (filter q xs))) is ∙ ap (λ l. chosen (r x) x l) rest)
    (λ n. let is : r x ≡ false = sym own ∙ ap (λ b. p x && b) n ∙ and_false (p x) in
    ap (λ b. filter p (chosen b x (filter q xs))) n ∙ rest ∙ sym (ap (λ b. chosen b x (filter r xs)) is))
    (cases_Bool (q x))

pub none_member : (xs : List ℕ) → ((x : ℕ) → among x xs ≡ true → ⊥) → xs ≡ []
none_member [] h = refl
none_member (x ∷ xs) h = absurd (h x (among_head x xs))

pub filter_again : {X : Type 0} (p : X → Bool) (xs : List X) → filter p (filter p xs) ≡ filter p xs
filter_again p [] = refl
filter_again p (x ∷ xs) =
    ⊎_elim
    (λ e. ap (λ b. filter p (chosen b x (filter p xs))) e ∙ ap (λ b. chosen b x (filter p (filter p xs))) e ∙ ap (λ l. x ∷ l) (filter_again p xs) ∙ sym (ap (λ b. chosen b x (filter p xs)) e))
    (λ n. ap (λ b. filter p (chosen b x (filter p xs))) n ∙ filter_again p xs ∙ sym (ap (λ b. chosen b x (filter p xs)) n))
    (cases_Bool (p x))
