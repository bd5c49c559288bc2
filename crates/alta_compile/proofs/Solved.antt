-- Cells satisfy a pattern exactly where the end of their document is the first place of a solution of the pattern's bounds.
use Rattle.std.proofs.Common.{◌≡◌, ⊎_elim, inl, ℕ, zero, suc, ◌+◌, ◌<◌, ◌≤◌, List, [], ◌∷◌, ◌++◌, map, length, refl, subst, arith}
use Rattle.std.specs.Prelude.{Contains, All, ◌↔◌, slice_index}
use Rattle.std.proofs.lemmas.Bool.{cases_lt}
use Rattle.std.proofs.lemmas.List.{length-map}
use Rattle.std.proofs.lemmas.List.Elements.{All-nil, All-cons, All-head, All-tail}
use Rattle.alta_codec.specs.Rising.{IsPlace, pred_of}
use Rattle.alta_machine.specs.Patterns.{Bound, Pattern, AreMet, Satisfies}
use Rattle.alta_machine.specs.declared.test.Test.{Test}
use Rattle.alta_codec.specs.Inequality.{Inequality, upper, lower}
use Rattle.alta_solver.specs.Solution.{list_at, MeetsBound, IsSolution}
use Rattle.alta_docread.specs.Solutions.{found_list, Leads}
use Rattle.alta_docread.specs.SolutionLaws.{leads-found}
use Rattle.alta_docread.proofs.Solved.{found-leads}
use Rattle.alta_compile.specs.Space.{Placed, end_of, list_of, ends_of, IsSpace}
use Rattle.alta_machine.specs.PlanOf.{held, between, found_of}
use Rattle.alta_compile.proofs.Joins.{AreKept, AreNamed, Meets, meets_satisfies}
use Rattle.alta_compile.proofs.Spaces.{Has, HasAt, at_met, met_at, apart_one, at_within, has-list, end-in, before, within}

-- what holds at 0 and behind it holds at each index
by_index : (P : ℕ → Type 0) (n : ℕ) → P zero → ((i : ℕ) → i < n → P (suc i)) → (i : ℕ) → i < suc n → P i
by_index P n here rest zero l = here
by_index P n here rest (suc i) l = rest i (omega arith)

-- each bound holds, by recursion
abbrev EachHolds : List (List ℕ) → List ℕ → List Inequality → Type 0
EachHolds lists x [] = Unit {0}
EachHolds lists x (b ∷ bs) = MeetsBound lists x b × EachHolds lists x bs

each-split : (lists : List (List ℕ)) (x : List ℕ) (cs bs : List Inequality) → EachHolds lists x (cs ++ bs) → EachHolds lists x cs × EachHolds lists x bs
each-split lists x [] bs h = (tt, h)
each-split lists x (a ∷ cs) bs (h, r) = let (p, q) = each-split lists x cs bs r in ((h, p), q)

each-join : (lists : List (List ℕ)) (x : List ℕ) (cs bs : List Inequality) → EachHolds lists x cs → EachHolds lists x bs → EachHolds lists x (cs ++ bs)
each-join lists x [] bs h k = k
each-join lists x (a ∷ cs) bs (h, r) k = (h, each-join lists x cs bs r k)

each-from : (lists : List (List ℕ)) (x : List ℕ) (bs : List Inequality) → All (λ b. MeetsBound lists x b) bs → EachHolds lists x bs
each-from lists x [] h = tt
each-from lists x (b ∷ bs) h = (All-head (λ b. MeetsBound lists x b) b bs h, each-from lists x bs (All-tail (λ b. MeetsBound lists x b) b bs h))

from-each : (lists : List (List ℕ)) (x : List ℕ) (bs : List Inequality) → EachHolds lists x bs → All (λ b. MeetsBound lists x b) bs
from-each lists x [] h = All-nil (λ b. MeetsBound lists x b)
from-each lists x (b ∷ bs) (h, r) = All-cons (λ b. MeetsBound lists x b) b bs h (from-each lists x bs r)

-- a variable between the end before and the end
abbrev IsBetween : List (List ℕ) → List ℕ → ℕ → Type 0
IsBetween lists x k = (slice_index x k ≤ slice_index x 0) × (pred_of (list_at lists 0) (slice_index x 0) + 1 ≤ slice_index x k)

held-each : (lists : List (List ℕ)) (x : List ℕ) (n : ℕ) → EachHolds lists x (held n) → (k : ℕ) → 0 < k → k ≤ n → IsBetween lists x k
unfolding held
held-each lists x zero h k a b = absurd (omega arith)
held-each lists x (suc n) h k a b =
    let (rest, (u, (l, t))) = each-split lists x (held n) (upper (suc n) ∷ lower (suc n) ∷ []) h in
    ⊎_elim (λ lt. held-each lists x n rest k a (omega arith))
    (λ ge. let e : suc n ≡ k = omega arith in subst (λ j. IsBetween lists x j) e (omega (arith, u), omega (arith, l))) (cases_lt k (suc n))

each-held : (lists : List (List ℕ)) (x : List ℕ) (n : ℕ) → ((k : ℕ) → 0 < k → k ≤ n → IsBetween lists x k) → EachHolds lists x (held n)
unfolding held
each-held lists x zero h = tt
each-held lists x (suc n) h =
    let (u, l) = h (suc n) (omega arith) (omega arith) in
    each-join lists x (held n) (upper (suc n) ∷ lower (suc n) ∷ []) (each-held lists x n (λ k a b. h k a (omega arith))) (omega (arith, u), (omega (arith, l), tt))

kept-from : (lists : List (List ℕ)) (first e n : ℕ) (xs ps : List ℕ) (bs : List Bound) → AreNamed n bs
    → ((i : ℕ) → i < n → slice_index xs i ≡ first + slice_index ps i) → EachHolds lists (e ∷ xs) (map between bs) → AreKept ps bs
kept-from lists first e n xs ps [] a h k = tt
kept-from lists first e n xs ps (b ∷ bs) (f, s, r) h (k, ks) = (omega (arith, k, h b.first f, h b.second s), kept-from lists first e n xs ps bs r h ks)

from-kept : (lists : List (List ℕ)) (first e n : ℕ) (xs ps : List ℕ) (bs : List Bound) → AreNamed n bs
    → ((i : ℕ) → i < n → slice_index xs i ≡ first + slice_index ps i) → AreKept ps bs → EachHolds lists (e ∷ xs) (map between bs)
from-kept lists first e n xs ps [] a h k = tt
from-kept lists first e n xs ps (b ∷ bs) (f, s, r) h (k, ks) = (omega (arith, k, h b.first f, h b.second s), from-kept lists first e n xs ps bs r h ks)

-- the lists of a pattern's variables
abbrev pub lists_of : List Placed → Pattern → List (List ℕ)
lists_of space q = ends_of space ∷ map (list_of space) q.tests

module _ (space : List Placed) (s : IsSpace space) (d : Placed) (m : Has space d) where
  -- the positions of places between the end before and the document's end
  positions : (ts : List Test) (xs : List ℕ) → length xs ≡ length ts
      → ((i : ℕ) → i < length ts → IsPlace (list_at (map (list_of space) ts) i) (slice_index xs i))
      → ((i : ℕ) → i < length ts → slice_index xs i ≤ end_of d)
      → ((i : ℕ) → i < length ts → pred_of (ends_of space) (end_of d) + 1 ≤ slice_index xs i)
      → (ps : List ℕ) × AreMet d.cells ts ps × ((i : ℕ) → i < length ts → slice_index xs i ≡ d.first + slice_index ps i)
  positions [] [] e p u l = ([], tt, λ i k. absurd (omega arith))
  positions [] (x ∷ xs) e p u l = absurd (omega (arith, e))
  positions (t ∷ ts) [] e p u l = absurd (omega (arith, e))
  positions (t ∷ ts) (x ∷ xs) e p u l =
      let (ps, a, h) = positions ts xs (omega (arith, e)) (λ i k. p (suc i) (omega arith)) (λ i k. u (suc i) (omega arith)) (λ i k. l (suc i) (omega arith)) in
      let (low, some, top) = apart_one space 1 d s.apart m in
      let high : x ≤ end_of d = u zero (omega arith) in
      let n : Contains (list_of space t) x = ⊎_elim (λ n. n) (λ q. absurd (omega (arith, q, high, top, some))) (p zero (omega arith)) in
      let (q, at, here) = within space s t d x m n (l zero (omega arith)) high in
      (q ∷ ps, (met_at t d.cells q here, a), by_index (λ i. slice_index (x ∷ xs) i ≡ d.first + slice_index (q ∷ ps) i) (length ts) at h)

  -- the place of a position
  abbrev IsPut : List Test → List ℕ → List ℕ → ℕ → Type 0
  IsPut ts ps xs i =
      IsPlace (list_at (map (list_of space) ts) i) (slice_index xs i) × (d.first ≤ slice_index xs i) × (slice_index xs i ≤ end_of d)
      × (slice_index xs i ≡ d.first + slice_index ps i)

  places : (ts : List Test) (ps : List ℕ) → AreMet d.cells ts ps → (xs : List ℕ) × (length xs ≡ length ts) × ((i : ℕ) → i < length ts → IsPut ts ps xs i)
  places [] [] a = ([], refl, λ i k. absurd (omega arith))
  places [] (p ∷ ps) a = absurd a
  places (t ∷ ts) [] a = absurd a
  places (t ∷ ts) (p ∷ ps) (h, a) =
      let (xs, e, r) = places ts ps a in
      let at : HasAt t d.cells p = at_met t d.cells p h in
      let inside : p < length d.cells = at_within t d.cells p at in
      let (low, some, top) = apart_one space 1 d s.apart m in (
        (d.first + p) ∷ xs,
        omega (arith, e),
        by_index (IsPut (t ∷ ts) (p ∷ ps) ((d.first + p) ∷ xs)) (length ts)
            (inl (has-list t space d p (d.first + p) m refl at), omega arith, omega (arith, inside), refl) r,
      )

  module _ (q : Pattern) (named : AreNamed (length q.tests) q.bounds) where
    met_at_solution : (x : List ℕ) → IsSolution (lists_of space q) (found_of q).bounds x → slice_index x 0 ≡ end_of d → Meets d.cells q
    met_at_solution [] v e = absurd (omega (arith, v.sized))
    met_at_solution (x ∷ xs) v e =
        let ls = lists_of space q in let n = length q.tests in
        let size : length xs ≡ n = omega (arith, v.sized, length-map q.tests (list_of space)) in
        let (inside, linked) = each-split ls (x ∷ xs) (held n) (map between q.bounds) (each-from ls (x ∷ xs) (found_of q).bounds v.bounded) in
        let (ps, a, h) = positions q.tests xs size
        (λ i k. v.places (suc i) (omega (arith, k, length-map q.tests (list_of space))))
        (λ i k. omega (arith, (held-each ls (x ∷ xs) n inside (suc i) (omega arith) (omega arith)).0, e))
        (λ i k. subst (λ y. pred_of (ends_of space) y + 1 ≤ slice_index xs i) e (held-each ls (x ∷ xs) n inside (suc i) (omega arith) (omega arith)).1) in
        (ps, a, kept-from ls d.first x n xs ps q.bounds named h linked)

    meets_led : Leads (lists_of space q) (found_of q).bounds (end_of d) → Meets d.cells q
    meets_led (x, v, e) = met_at_solution x v e

    led_meets : Meets d.cells q → Leads (lists_of space q) (found_of q).bounds (end_of d)
    led_meets (ps, a, kept) =
        let ls = lists_of space q in let n = length q.tests in let e = end_of d in
        let (low, some, top) = apart_one space 1 d s.apart m in
        let (xs, size, put) = places q.tests ps a in
        let sized : length (e ∷ xs) ≡ length ls = omega (arith, size, length-map q.tests (list_of space)) in
        let under : pred_of (ends_of space) e < d.first = before space s d m in (
          e ∷ xs,
          record {
            sized = sized;
            places = λ i k. by_index (λ j. IsPlace (list_at ls j) (slice_index (e ∷ xs) j)) n (inl (end-in space s d m)) (λ j l. (put j l).0) i
                (omega (arith, k, length-map q.tests (list_of space)));
            led = omega (arith, top, some);
            bounded = from-each ls (e ∷ xs) (found_of q).bounds
                (each-join ls (e ∷ xs) (held n) (map between q.bounds)
                (each-held ls (e ∷ xs) n (λ k f g. by_index (λ j. 0 < j → IsBetween ls (e ∷ xs) j) n (λ z. absurd (omega arith))
                (λ j l z. let (p, b, c, w) = put j l in (c, omega (arith, b, under))) k (omega arith) f))
                (from-kept ls d.first e n xs ps q.bounds named (λ i k. let (p, b, c, w) = put i k in w) kept));
          },
          refl,
        )

    -- the theorem of one pattern
    pub found_satisfies : Contains (found_list (lists_of space q) (found_of q).bounds) (end_of d) ↔ Satisfies d.cells q
    found_satisfies =
        let whole = meets_satisfies d.cells q in (
          λ n. whole.1 (meets_led (found-leads (lists_of space q) (found_of q).bounds (end_of d) n)),
          λ h. let (x, v, e) = led_meets (whole.0 h) in
              subst (λ y. Contains (found_list (lists_of space q) (found_of q).bounds) y) e (leads-found (lists_of space q) (found_of q).bounds x (omega arith) v),
        )
