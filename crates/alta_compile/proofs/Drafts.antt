-- Steps of the loops that gather bounds.
use Rattle.std.proofs.Common.{◌≡◌, ⊎_elim, ℕ, zero, suc, ◌+◌, ◌<◌, ◌≤◌, List, [], ◌∷◌, ◌++◌, length, drop, map, refl, sym, ap, ◌∙◌, arith, append_assoc}
use Rattle.std.specs.Prelude.{Contains}
use Rattle.std.proofs.lemmas.Bool.{cases_lt}
use Rattle.std.proofs.lemmas.List.{append-nil}
use Rattle.std.proofs.lemmas.List.Elements.{All-nil, All-cons, All-append, Contains-append_left, Contains-append_right}
use Rattle.alta_docread.specs.Solutions.{IsHeld}
use Rattle.alta_machine.specs.Patterns.{Bound, neighbours, near_pattern}
use Rattle.alta_machine.specs.declared.test.Test.{Test}
use Rattle.alta_codec.specs.Inequality.{Inequality, upper, lower}
use Rattle.alta_solver.specs.Bounds.{IsNamed}
use Rattle.alta_codec.specs.declared.form.Form.{Form}
use Rattle.alta_codec.specs.declared.form.Form.TheVariants.{LocLoc, PrevLoc}
use Rattle.alta_compile.specs.Drafted.{placed}
use Rattle.alta_machine.specs.PlanOf.{held}

abbrev row : Form → ℕ → ℕ → ℕ → ℕ → Inequality
row form i j plus minus = record { form = form; i = i; j = j; plus = plus; minus = minus }

row-same : (form : Form) (i i' j j' plus minus : ℕ) → i ≡ i' → j ≡ j' → row form i j plus minus ≡ row form i' j' plus minus
row-same form i i' j j' plus minus e f = ap (λ x. row form x j plus minus) e ∙ ap (λ x. row form i' x plus minus) f

-- one more variable is held
pub held_step : (old out mid new : List Inequality) (x y : Inequality) (i : ℕ) → out ≡ old ++ held i
    → x ≡ row LocLoc (i + 1) 0 0 0 → y ≡ row PrevLoc 0 (i + 1) 0 1 → mid ≡ out ++ x ∷ [] → new ≡ mid ++ y ∷ [] → new ≡ old ++ held (i + 1)
unfolding held
held_step old out mid new x y i e ex ey em en =
    let s : i + 1 ≡ suc i = omega arith in
    en
    ∙ ap (λ v. v ++ y ∷ []) em
    ∙ append_assoc out (x ∷ []) (y ∷ [])
    ∙ ap (λ v. v ++ x ∷ y ∷ []) e
    ∙ append_assoc old (held i) (x ∷ y ∷ [])
    ∙ ap (λ v. old ++ (held i ++ v ∷ y ∷ [])) ex
    ∙ ap (λ v. old ++ (held i ++ row LocLoc (i + 1) 0 0 0 ∷ v ∷ [])) ey
    ∙ ap (λ n. old ++ (held i ++ row LocLoc n 0 0 0 ∷ row PrevLoc 0 n 0 1 ∷ [])) s
    ∙ ap (λ n. old ++ held n) (sym s)

pub held_start : (old : List Inequality) → old ≡ old ++ held 0
unfolding held
held_start old = sym (append-nil old)

-- the two bounds of each variable
has_upper : (n i : ℕ) → 0 < i → i ≤ n → Contains (held n) (upper i)
unfolding held
has_upper zero i a b = absurd (omega arith)
has_upper (suc n) i a b =
    ⊎_elim (λ l. Contains-append_left (held n) (upper (suc n) ∷ lower (suc n) ∷ []) (upper i) (has_upper n i a (omega arith)))
    (λ ge. let e : suc n ≡ i = omega arith in Contains-append_right (held n) (upper (suc n) ∷ lower (suc n) ∷ []) (upper i) (zero, omega arith, ap upper e))
    (cases_lt i (suc n))

has_lower : (n i : ℕ) → 0 < i → i ≤ n → Contains (held n) (lower i)
unfolding held
has_lower zero i a b = absurd (omega arith)
has_lower (suc n) i a b =
    ⊎_elim (λ l. Contains-append_left (held n) (upper (suc n) ∷ lower (suc n) ∷ []) (lower i) (has_lower n i a (omega arith)))
    (λ ge. let e : suc n ≡ i = omega arith in Contains-append_right (held n) (upper (suc n) ∷ lower (suc n) ∷ []) (lower i) (suc zero, omega arith, ap lower e))
    (cases_lt i (suc n))

pub held_is : (n : ℕ) (bs : List Inequality) → IsHeld (suc n) (held n ++ bs)
held_is n bs = record {
  upper = λ i a b. let (k, l, e) = Contains-append_left (held n) bs (upper i) (has_upper n i a (omega arith)) in (k, upper i, l, e, (refl, refl, refl, refl));
  lower = λ i a b. let (k, l, e) = Contains-append_left (held n) bs (lower i) (has_lower n i a (omega arith)) in (k, lower i, l, e, (refl, refl, refl, refl));
}

held_each : (n m : ℕ) → n ≤ m → IsNamed (suc m) (held n)
unfolding held
held_each zero m h = All-nil (λ (b : Inequality). (b.i < suc m) × (b.j < suc m))
held_each (suc n) m h =
    All-append (λ (b : Inequality). (b.i < suc m) × (b.j < suc m)) (held n) (upper (suc n) ∷ lower (suc n) ∷ []) (held_each n m (omega arith))
    (All-cons (λ (b : Inequality). (b.i < suc m) × (b.j < suc m)) (upper (suc n)) (lower (suc n) ∷ []) (omega arith, omega arith)
    (All-cons (λ (b : Inequality). (b.i < suc m) × (b.j < suc m)) (lower (suc n)) [] (omega arith, omega arith) (All-nil (λ (b : Inequality). (b.i < suc m) × (b.j < suc m)))))

-- the bounds of a plan name its variables
pub held_named : (n : ℕ) (bs : List Inequality) → IsNamed (suc n) bs → IsNamed (suc n) (held n ++ bs)
held_named n bs h = All-append (λ (b : Inequality). (b.i < suc n) × (b.j < suc n)) (held n) bs (held_each n n (omega arith)) h

-- the bounds between the words from one on
neighbours_more : (n : ℕ) (ts : List Test) (k : ℕ) → suc k < length ts
    → neighbours n (drop k ts)
    ≡ record { first = n; behind = 1; second = suc n; ahead = 0 } ∷ record { first = suc n; behind = 0; second = n; ahead = 1 } ∷ neighbours (suc n) (drop (suc k) ts)
neighbours_more n [] k l = absurd (omega arith)
neighbours_more n (t ∷ []) k l = absurd (omega arith)
neighbours_more n (t ∷ u ∷ ts) zero l = refl
neighbours_more n (t ∷ u ∷ ts) (suc k) l = neighbours_more n (u ∷ ts) k (omega (arith, l))

neighbours_none : (n : ℕ) (ts : List Test) (k : ℕ) → length ts ≤ suc k → neighbours n (drop k ts) ≡ []
neighbours_none n [] zero l = refl
neighbours_none n [] (suc k) l = refl
neighbours_none n (t ∷ []) zero l = refl
neighbours_none n (t ∷ u ∷ ts) zero l = absurd (omega (arith, l))
neighbours_none n (t ∷ ts) (suc k) l = neighbours_none n ts k (omega (arith, l))

-- what is gathered and what is left make the whole
abbrev pub IsLeft : List Inequality → List Inequality → ℕ → ℕ → List Test → Type 0
IsLeft old out base i words =
    (k : ℕ) → i ≡ suc k → out ++ map (placed base) (neighbours k (drop k words)) ≡ old ++ map (placed base) (neighbours 0 words)

pub neighbours_step : (old out mid new : List Inequality) (x y : Inequality) (base i : ℕ) (words : List Test) → 1 ≤ i → i < length words
    → IsLeft old out base i words → x ≡ row LocLoc (base + i) (base + i + 1) 0 1 → y ≡ row LocLoc (base + i + 1) (base + i) 1 0
    → mid ≡ out ++ x ∷ [] → new ≡ mid ++ y ∷ [] → IsLeft old new base (i + 1) words
neighbours_step old out mid new x y base zero words some within h ex ey em en k e = absurd (omega arith)
neighbours_step old out mid new x y base (suc j) words some within h ex ey em en k e =
    let s : k ≡ suc j = omega (arith, e) in
    let b : Bound = record { first = j; behind = 1; second = suc j; ahead = 0 } in let c : Bound = record { first = suc j; behind = 0; second = j; ahead = 1 } in
    let rest = map (placed base) (neighbours (suc j) (drop (suc j) words)) in
    let same_x : x ≡ placed base b = ex ∙ row-same LocLoc _ _ _ _ 0 1 (omega arith) (omega arith) in
    let same_y : y ≡ placed base c = ey ∙ row-same LocLoc _ _ _ _ 1 0 (omega arith) (omega arith) in
    ap (λ n. new ++ map (placed base) (neighbours n (drop n words))) s
    ∙ ap (λ v. v ++ rest) (en ∙ ap (λ v. v ++ y ∷ []) em)
    ∙ append_assoc (out ++ x ∷ []) (y ∷ []) rest
    ∙ append_assoc out (x ∷ []) (y ∷ rest)
    ∙ ap (λ v. out ++ v ∷ y ∷ rest) same_x
    ∙ ap (λ v. out ++ placed base b ∷ v ∷ rest) same_y
    ∙ sym (ap (λ v. out ++ map (placed base) v) (neighbours_more j words j within))
    ∙ h j refl

pub neighbours_end : (old out : List Inequality) (base i : ℕ) (words : List Test) → 1 ≤ i → length words ≤ i → IsLeft old out base i words
    → out ≡ old ++ map (placed base) (neighbours 0 words)
neighbours_end old out base zero words some all h = absurd (omega arith)
neighbours_end old out base (suc j) words some all h =
    sym (append-nil out) ∙ sym (ap (λ v. out ++ map (placed base) v) (neighbours_none j words j all)) ∙ h j refl

-- two members were pushed
two_pushed : {X : Type 0} (old mid new : List X) (x y : X) → mid ≡ old ++ x ∷ [] → new ≡ mid ++ y ∷ [] → new ≡ old ++ x ∷ y ∷ []
two_pushed old mid new x y e f = f ∙ ap (λ l. l ++ y ∷ []) e ∙ append_assoc old (x ∷ []) (y ∷ [])

-- the two tests of a NEAR, and its two bounds
pub near_tests : (old mid new : List Test) (x y left right : Test) → mid ≡ old ++ x ∷ [] → new ≡ mid ++ y ∷ [] → x ≡ left → y ≡ right → new ≡ old ++ left ∷ right ∷ []
near_tests old mid new x y left right e f is_left is_right = two_pushed old mid new x y e f ∙ ap (λ t. old ++ t ∷ y ∷ []) is_left ∙ ap (λ t. old ++ left ∷ t ∷ []) is_right

pub near_bounds : (old mid new : List Inequality) (x y : Inequality) (base m n distance : ℕ) (left right : Test) → mid ≡ old ++ x ∷ [] → new ≡ mid ++ y ∷ [] → base ≡ m → m ≡ n
    → x ≡ row LocLoc (base + 1) (base + 2) distance 0 → y ≡ row LocLoc (base + 2) (base + 1) distance 0 → new ≡ old ++ map (placed n) (near_pattern left distance right).bounds
near_bounds old mid new x y base m n distance left right e f size len is_x is_y =
    let first : x ≡ row LocLoc (suc (n + 0)) (suc (n + 1)) distance 0 = is_x ∙ row-same LocLoc (base + 1) (suc (n + 0)) (base + 2) (suc (n + 1)) distance 0 (omega arith) (omega arith) in
    let second : y ≡ row LocLoc (suc (n + 1)) (suc (n + 0)) distance 0 = is_y ∙ row-same LocLoc (base + 2) (suc (n + 1)) (base + 1) (suc (n + 0)) distance 0 (omega arith) (omega arith) in
    two_pushed old mid new x y e f ∙ ap (λ b. old ++ b ∷ y ∷ []) first ∙ ap (λ b. old ++ row LocLoc (suc (n + 0)) (suc (n + 1)) distance 0 ∷ b ∷ []) second
