-- Where the lines of the generated run stand.
use Rattle.std.proofs.Common.{◌≡◌, ◌⊎◌, ⊎_elim, inl, inr, ℕ, zero, suc, ◌+◌, ◌*◌, ◌/◌, ◌%◌, ◌<◌, ◌≤◌, eqb, true, false, cond, List, [], ◌∷◌, ◌++◌, length, refl, ap, ◌∙◌, arith, length-append}
use Rattle.std.specs.Prelude.{codes, slice_get, Some, None}
use Rattle.std.proofs.lemmas.Bool.{cases_lt}
use Rattle.std.proofs.lemmas.Option.{slice_get_past}
use Rattle.alta_make.specs.Script.{add_line, delete_line, behind, adds, deletes}

get-front : (xs ys : List (List ℕ)) (i : ℕ) → i < length xs → slice_get (xs ++ ys) i ≡ slice_get xs i
get-front [] ys i l = absurd (omega (arith, l))
get-front (x ∷ xs) ys zero l = refl
get-front (x ∷ xs) ys (suc i) l = get-front xs ys i (omega (arith, l))

pub get-back : (xs ys : List (List ℕ)) (i j : ℕ) → j ≡ length xs + i → slice_get (xs ++ ys) j ≡ slice_get ys i
get-back [] ys i j e = ap (λ k. slice_get ys k) (omega (arith, e))
get-back (x ∷ xs) ys i zero e = absurd (omega (arith, e))
get-back (x ∷ xs) ys i (suc j) e = get-back xs ys i j (omega (arith, e))

pub none-past : (xs : List (List ℕ)) (i : ℕ) → slice_get xs i ≡ None → length xs ≤ i
none-past [] i e = omega arith
none-past (x ∷ xs) zero e = cc
none-past (x ∷ xs) (suc i) e = omega (arith, none-past xs i e)

pub within-front : (xs ys : List (List ℕ)) (i : ℕ) (x : List ℕ) → slice_get xs i ≡ Some x → slice_get (xs ++ ys) i ≡ Some x
within-front [] ys i x e = cc
within-front (y ∷ xs) ys zero x e = e
within-front (y ∷ xs) ys (suc i) x e = within-front xs ys i x e

same : (n m : ℕ) → n ≡ m → eqb n m ≡ true
same n m e = grind (arith, e)

other : (n m : ℕ) → n < m → eqb m n ≡ false
other n m l = grind (arith, l)

behind-yes : (i : ℕ) → i % 100 ≡ 0 → behind i ≡ codes "flush" ∷ codes "step 50" ∷ []
behind-yes i e = ap (λ b. cond b (codes "flush" ∷ codes "step 50" ∷ []) []) (same (i % 100) 0 e)

behind-no : (i : ℕ) → 0 < i % 100 → behind i ≡ []
behind-no i l = ap (λ b. cond b (codes "flush" ∷ codes "step 50" ∷ []) []) (other 0 (i % 100) l)

adds-next : (i : ℕ) → adds (suc i) ≡ adds i ++ add_line (suc i) ∷ behind (suc i)
unfolding adds
adds-next i = refl

adds-none : adds zero ≡ []
unfolding adds
adds-none = refl

-- what is added for a number that a hundred divides, and for another
zero_or_more : (n : ℕ) → (n ≡ 0) ⊎ (0 < n)
zero_or_more zero = inl refl
zero_or_more (suc n) = inr (omega arith)

pub length-adds : (n : ℕ) → length (adds n) ≡ n + 2 * (n / 100)
length-adds zero = ap length adds-none
length-adds (suc i) =
    let all = ap length (adds-next i) ∙ length-append (adds i) (add_line (suc i) ∷ behind (suc i)) in
    ⊎_elim (λ e. omega (arith, all, length-adds i, ap length (behind-yes (suc i) e), e))
    (λ l. omega (arith, all, length-adds i, ap length (behind-no (suc i) l), l)) (zero_or_more (suc i % 100))

-- the line of a document
pub get-add : (n i j : ℕ) → i < n → j ≡ i + 2 * (i / 100) → slice_get (adds n) j ≡ Some (add_line (suc i))
get-add zero i j l e = absurd (omega (arith, l))
get-add (suc m) i j l e =
    ap (λ xs. slice_get xs j) (adds-next m)
    ∙ ⊎_elim
    (λ before. get-front (adds m) (add_line (suc m) ∷ behind (suc m)) j (omega (arith, length-adds m, before, e)) ∙ get-add m i j before e)
    (λ ge. let last : m ≡ i = omega arith in
    get-back (adds m) (add_line (suc m) ∷ behind (suc m)) 0 j (omega (arith, length-adds m, e, last)) ∙ ap (λ k. Some (add_line (suc k))) last)
    (cases_lt i m)

-- the lines behind a hundredth document
pub get-behind : (n q k j : ℕ) → 100 * (q + 1) ≤ n → k < 2 → j ≡ 102 * q + 100 + k
    → slice_get (adds n) j ≡ slice_get (codes "flush" ∷ codes "step 50" ∷ []) k
get-behind zero q k j l s e = absurd (omega (arith, l))
get-behind (suc m) q k j l s e =
    ap (λ xs. slice_get xs j) (adds-next m)
    ∙ ⊎_elim
    (λ here. get-back (adds m) (add_line (suc m) ∷ behind (suc m)) (suc k) j (omega (arith, length-adds m, e, l, here))
    ∙ ap (λ xs. slice_get xs k) (behind-yes (suc m) (omega (arith, l, here))))
    (λ ge. get-front (adds m) (add_line (suc m) ∷ behind (suc m)) j (omega (arith, length-adds m, e, ge, s)) ∙ get-behind m q k j ge s e)
    (cases_lt m (100 * (q + 1)))

pub past-adds : (n j : ℕ) → n + 2 * (n / 100) ≤ j → slice_get (adds n) j ≡ None
past-adds n j l = slice_get_past (adds n) j (omega (arith, length-adds n, l))

abbrev fifth : ℕ → List (List ℕ)
fifth i = cond (eqb (i % 5) 0) (delete_line i ∷ []) []

fifth-yes : (i : ℕ) → i % 5 ≡ 0 → fifth i ≡ delete_line i ∷ []
fifth-yes i e = ap (λ b. cond b (delete_line i ∷ []) []) (same (i % 5) 0 e)

fifth-no : (i : ℕ) → 0 < i % 5 → fifth i ≡ []
fifth-no i l = ap (λ b. cond b (delete_line i ∷ []) []) (other 0 (i % 5) l)

deletes-next : (i : ℕ) → deletes (suc i) ≡ deletes i ++ fifth (suc i)
unfolding deletes
deletes-next i = refl

deletes-none : deletes zero ≡ []
unfolding deletes
deletes-none = refl

pub length-deletes : (n : ℕ) → length (deletes n) ≡ n / 5
length-deletes zero = ap length deletes-none
length-deletes (suc i) =
    let all = ap length (deletes-next i) ∙ length-append (deletes i) (fifth (suc i)) in
    ⊎_elim (λ e. omega (arith, all, length-deletes i, ap length (fifth-yes (suc i) e), e))
    (λ l. omega (arith, all, length-deletes i, ap length (fifth-no (suc i) l), l)) (zero_or_more (suc i % 5))

pub get-delete : (n j : ℕ) → 5 * (j + 1) ≤ n → slice_get (deletes n) j ≡ Some (delete_line (5 * (j + 1)))
get-delete zero j l = absurd (omega (arith, l))
get-delete (suc m) j l =
    ap (λ xs. slice_get xs j) (deletes-next m)
    ∙ ⊎_elim
    (λ here. let last : suc m ≡ 5 * (j + 1) = omega (arith, l, here) in
    get-back (deletes m) (fifth (suc m)) 0 j (omega (arith, length-deletes m, last))
    ∙ ap (λ xs. slice_get xs 0) (fifth-yes (suc m) (omega (arith, last))) ∙ ap (λ k. Some (delete_line k)) last)
    (λ ge. get-front (deletes m) (fifth (suc m)) j (omega (arith, length-deletes m, ge)) ∙ get-delete m j ge)
    (cases_lt m (5 * (j + 1)))

pub closing-delete : (n j : ℕ) → j < n / 5 → slice_get (deletes n ++ codes "merge" ∷ []) j ≡ Some (delete_line (5 * (j + 1)))
closing-delete n j l = within-front (deletes n) (codes "merge" ∷ []) j (delete_line (5 * (j + 1))) (get-delete n j (omega (arith, l)))

pub closing-merge : (n j : ℕ) → j ≡ n / 5 → slice_get (deletes n ++ codes "merge" ∷ []) j ≡ Some (codes "merge")
closing-merge n j e = get-back (deletes n) (codes "merge" ∷ []) 0 j (omega (arith, length-deletes n, e))

pub closing-past : (n j : ℕ) → n / 5 < j → slice_get (deletes n ++ codes "merge" ∷ []) j ≡ None
closing-past n j l =
    slice_get_past (deletes n ++ codes "merge" ∷ []) j (omega (arith, length-append (deletes n) (codes "merge" ∷ []), length-deletes n, l))
