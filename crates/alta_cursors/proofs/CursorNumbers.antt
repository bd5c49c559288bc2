-- The numbers of open cursors: the least free one is free, and is at most one more than they are.
use Rattle.std.proofs.Common.{◌≡◌, ◌≢◌, ⊎_elim, ℕ, zero, suc, ◌+◌, ◌<◌, ◌≤◌, true, false, not, List, [], ◌∷◌, ◌++◌, map, length, get_or, refl, sym, subst, ap, ◌∙◌, arith}
use Rattle.std.specs.Prelude.{Some, None, IsSome, is_some, filter, ◌==◌}
use Rattle.std.proofs.lemmas.Bool.{eqb-true, eq-eqb, ne_eqb, cases_eq, cases_lt, cases_Bool, both_ways, cond_both, cond-true, cond-false, or_cases, or_left, or_right}
use Rattle.std.proofs.lemmas.List.Elements.{All-push}
use Rattle.std.proofs.lemmas.List.Quantifiers.{all_pairs_push}
use Rattle.alta_machine.specs.OpenAnswers.{OpenAnswers, IsLeastFree, is_taken, first_free, least_free, left_of, number_of}
use Rattle.alta_cursors.specs.Open.{AreNumbers}
use Rattle.alta_machine.specs.declared.cursors.TheConstants.{CURSORS}

-- ---- numbers from 1 on that are all taken are no more than the list is long

abbrev others : ℕ → List ℕ → List ℕ
others x ns = filter (λ n. not (n == x)) ns

others_hit : (x n : ℕ) (ns : List ℕ) → n ≡ x → others x (n ∷ ns) ≡ others x ns
others_hit x n ns e = cond-false (not (n == x)) (n ∷ others x ns) (others x ns) (ap not (eq-eqb n x e))

others_miss : (x n : ℕ) (ns : List ℕ) → (n ≡ x → ⊥) → others x (n ∷ ns) ≡ n ∷ others x ns
others_miss x n ns e = cond-true (not (n == x)) (n ∷ others x ns) (others x ns) (ap not (ne_eqb n x e))

taken_head : (x n : ℕ) (ns : List ℕ) → n ≡ x → is_taken x (n ∷ ns) ≡ true
taken_head x n ns e = or_left (n == x) (is_taken x ns) (eq-eqb n x e)

taken_tail : (x n : ℕ) (ns : List ℕ) → is_taken x ns ≡ true → is_taken x (n ∷ ns) ≡ true
taken_tail x n ns h = or_right (n == x) (is_taken x ns) h

still_taken : (x m : ℕ) (ns : List ℕ) → (m ≡ x → ⊥) → is_taken m ns ≡ true → is_taken m (others x ns) ≡ true
still_taken x m [] ne h = h
still_taken x m (n ∷ ns) ne h =
    ⊎_elim
    (λ hit. let here : n ≡ m = eqb-true n m hit in
    subst (λ l. is_taken m l ≡ true) (sym (others_miss x n ns (λ e. ne (sym here ∙ e)))) (taken_head m n (others x ns) here))
    (λ rest. let kept = still_taken x m ns ne rest in
    ⊎_elim
    (λ e. subst (λ l. is_taken m l ≡ true) (sym (others_hit x n ns e)) kept)
    (λ e. subst (λ l. is_taken m l ≡ true) (sym (others_miss x n ns e)) (taken_tail m n (others x ns) kept))
    (cases_eq n x))
    (or_cases (n == m) (is_taken m ns) h)

others_shorter : (x : ℕ) (ns : List ℕ) → length (others x ns) ≤ length ns
others_shorter x [] = omega arith
others_shorter x (n ∷ ns) =
    let rest = others_shorter x ns in
    ⊎_elim
    (λ e. let l = ap length (others_hit x n ns e) in omega (arith, rest, l))
    (λ e. let l = ap length (others_miss x n ns e) in omega (arith, rest, l))
    (cases_eq n x)

taken_shorter : (x : ℕ) (ns : List ℕ) → is_taken x ns ≡ true → length (others x ns) < length ns
taken_shorter x [] h = absurd cc
taken_shorter x (n ∷ ns) h =
    ⊎_elim
    (λ e. let l = ap length (others_hit x n ns e) in omega (arith, others_shorter x ns, l))
    (λ e. let l = ap length (others_miss x n ns e) in
    let rest : is_taken x ns ≡ true = ⊎_elim (λ hit. absurd (e (eqb-true n x hit))) (λ r. r) (or_cases (n == x) (is_taken x ns) h) in
    omega (arith, taken_shorter x ns rest, l))
    (cases_eq n x)

all_taken : (k : ℕ) (ns : List ℕ) → ((m : ℕ) → 1 ≤ m → m ≤ k → is_taken m ns ≡ true) → k ≤ length ns
all_taken zero ns h = omega arith
all_taken (suc k) ns h =
    let rest = all_taken k (others (suc k) ns) (λ m one le. still_taken (suc k) m ns (λ e. absurd (omega (arith, e, le))) (h m one (omega (arith, le)))) in
    let last = taken_shorter (suc k) ns (h (suc k) (omega arith) (omega arith)) in
    omega (arith, rest, last)

-- ---- the first free number

record IsWalked (tries n : ℕ) (ns : List ℕ) (r : ℕ) : Type 0 where
  from : n ≤ r
  upto : r ≤ n + tries
  below : (m : ℕ) → 1 ≤ m → m < r → is_taken m ns ≡ true
  ends : is_taken r ns ≡ true → r ≡ n + tries

walked : (tries n : ℕ) (ns : List ℕ) → ((m : ℕ) → 1 ≤ m → m < n → is_taken m ns ≡ true) → IsWalked tries n ns (first_free tries n ns)
walked zero n ns h = record { from = omega arith; upto = omega arith; below = h; ends = λ _. omega arith }
walked (suc tries) n ns h =
    cond_both (is_taken n ns) (first_free tries (n + 1) ns) n (IsWalked (suc tries) n ns)
    (λ taken.
    let rest = walked tries (n + 1) ns (λ m one lt. ⊎_elim (λ l. h m one l) (λ l. let e : n ≡ m = omega (arith, l, lt) in subst (λ x. is_taken x ns ≡ true) e taken) (cases_lt m n)) in
    record {
      from = omega (arith, rest.from);
      upto = omega (arith, rest.upto);
      below = rest.below;
      ends = λ t. omega (arith, rest.ends t);
    })
    (λ free. record { from = omega arith; upto = omega arith; below = h; ends = λ t. absurd (both_ways (is_taken n ns) free t) })

abbrev free_of : List ℕ → ℕ
free_of ns = first_free (length ns) 1 ns

free_walked : (ns : List ℕ) → IsWalked (length ns) 1 ns (free_of ns)
free_walked ns = walked (length ns) 1 ns (λ m one lt. absurd (omega (arith, one, lt)))

pub free_from_one : (ns : List ℕ) → 1 ≤ first_free (length ns) 1 ns
free_from_one ns = (free_walked ns).from

pub free_small : (ns : List ℕ) → first_free (length ns) 1 ns ≤ length ns + 1
free_small ns = let l = (free_walked ns).upto in omega (arith, l)

pub below_free : (ns : List ℕ) (m : ℕ) → 1 ≤ m → m < first_free (length ns) 1 ns → is_taken m ns ≡ true
below_free ns m one lt = (free_walked ns).below m one lt

pub free_is_free : (ns : List ℕ) → is_taken (first_free (length ns) 1 ns) ns ≡ false
free_is_free ns =
    let w = free_walked ns in
    ⊎_elim
    (λ taken.
    let last : free_of ns ≡ 1 + length ns = w.ends taken in
    let most = all_taken (free_of ns) ns (λ m one le. ⊎_elim (λ l. w.below m one l) (λ l. let e : free_of ns ≡ m = omega (arith, l, le) in subst (λ x. is_taken x ns ≡ true) e taken) (cases_lt m (free_of ns))) in
    absurd (omega (arith, most, last)))
    (λ free. free)
    (cases_Bool (is_taken (free_of ns) ns))

-- ---- a number that is not taken is another one than each

not_taken : (x : ℕ) (ns : List ℕ) → is_taken x ns ≡ false → (k : ℕ) (d : ℕ) → k < length ns → get_or ns k d ≢ x
not_taken x [] h k d l = absurd (omega (arith, l))
not_taken x (n ∷ ns) h zero d l = λ e. both_ways (is_taken x (n ∷ ns)) h (taken_head x n ns e)
not_taken x (n ∷ ns) h (suc k) d l =
    not_taken x ns (⊎_elim (λ t. absurd (both_ways (is_taken x (n ∷ ns)) h (taken_tail x n ns t))) (λ f. f) (cases_Bool (is_taken x ns))) k d (omega (arith, l))

-- the numbers with the free one behind them
pub numbers_push : (ns : List ℕ) → AreNumbers ns → length ns < CURSORS → AreNumbers (ns ++ first_free (length ns) 1 ns ∷ [])
numbers_push ns h few = record {
  within = All-push (λ n. (1 ≤ n) × (n ≤ CURSORS)) ns (free_of ns) h.within (free_from_one ns, let l = free_small ns in omega (arith, l, few));
  different = all_pairs_push (λ a b. a ≢ b) ns (free_of ns) h.different (not_taken (free_of ns) ns (free_is_free ns));
}

-- ---- in words of cursors

left_free : (x : ℕ) (cs : List OpenAnswers) → is_taken x (map number_of cs) ≡ false → left_of x cs ≡ None
left_free x [] h = refl
left_free x (c ∷ cs) h =
    ⊎_elim
    (λ e. absurd (both_ways (is_taken x (map number_of (c ∷ cs))) h (taken_head x c.number (map number_of cs) e)))
    (λ e. cond-false (c.number == x) (Some c.left) (left_of x cs) (ne_eqb c.number x e)
    ∙ left_free x cs (⊎_elim (λ t. absurd (both_ways (is_taken x (map number_of (c ∷ cs))) h (taken_tail x c.number (map number_of cs) t))) (λ f. f) (cases_Bool (is_taken x (map number_of cs)))))
    (cases_eq c.number x)

pub left_taken : (x : ℕ) (cs : List OpenAnswers) → is_taken x (map number_of cs) ≡ true → IsSome (left_of x cs)
left_taken x [] h = absurd cc
left_taken x (c ∷ cs) h =
    cond_both (c.number == x) (Some c.left) (left_of x cs) IsSome
    (λ _. refl)
    (λ no. left_taken x cs (⊎_elim (λ yes. absurd (both_ways (c.number == x) no yes)) (λ t. t) (or_cases (c.number == x) (is_taken x (map number_of cs)) h)))

pub taken_left : (x : ℕ) (cs : List OpenAnswers) → IsSome (left_of x cs) → is_taken x (map number_of cs) ≡ true
taken_left x cs some =
    ⊎_elim (λ t. t) (λ f. absurd (let none = left_free x cs f in let bad : is_some (left_of x cs) ≡ false = ap is_some none in both_ways (is_some (left_of x cs)) bad some)) (cases_Bool (is_taken x (map number_of cs)))

length_numbers : (cs : List OpenAnswers) → length (map number_of cs) ≡ length cs
length_numbers [] = refl
length_numbers (c ∷ cs) = ap suc (length_numbers cs)

pub least_is : (cs : List OpenAnswers) → IsLeastFree (least_free cs) cs
least_is cs =
    let ns = map number_of cs in
    let made : IsLeastFree (free_of ns) cs =
    record {
      from_one = free_from_one ns;
      free = left_free (free_of ns) cs (free_is_free ns);
      least = λ n one lt. left_taken n cs (below_free ns n one lt);
    } in
    subst (λ k. IsLeastFree (first_free k 1 ns) cs) (length_numbers cs) made
