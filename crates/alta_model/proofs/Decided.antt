-- Trying every place decides whether cells match.
use Rattle.std.proofs.Common.{rules, ◌≡◌, ℕ, zero, suc, ◌+◌, ◌≤◌, ◌<◌, List, [], ◌∷◌, ◌++◌, append-nil, append_assoc, length, refl, ap, sym, subst, ◌∙◌, arith, Bool, true, false, inl, inr}
use Rattle.std.specs.Prelude.{◌&&◌, ◌||◌, not, ◌⊎◌, get_or, IsTrue, ◌↔◌, nat_le, Option, Some, None, MatchOption}
use Rattle.std.specs.List.{All, list_all, list_any, range_with_len}
use Rattle.std.proofs.lemmas.Bool.{false≢true, cases_lt, or_cases, leb-true}
use Rattle.std.proofs.lemmas.Bool.Decides.{nat_tests}
use Rattle.std.proofs.lemmas.List.Elements.{All-nil, All-cons, All-head, All-tail}
use Rattle.alta_machine.specs.Matches.{Matches, AllMatch, AnyMatches}
use Rattle.alta_machine.specs.Patterns.{Bound, Pattern, IsMet, AreMet, IsKept, IsAnswer, Satisfies, SatisfiesOne, meets, pattern_of, numbers_in, value_patterns}
use Rattle.alta_machine.specs.Shape.{Shape, Shapes, atom, all, any, negated, none, more}
use Rattle.alta_machine.specs.declared.test.Test.{Test}
use Rattle.alta_machine.specs.Deciding.{is_kept, is_answered, is_satisfied, is_value_match, is_match, all_match, any_matches}
use Rattle.alta_model.proofs.Counts.{both}

and_true : (a b : Bool) → a ≡ true → b ≡ true → (a && b) ≡ true
and_true true b h k = k
and_true false b h k = absurd (false≢true h)

or_first : (a b : Bool) → a ≡ true → (a || b) ≡ true
or_first true b h = refl
or_first false b h = absurd (false≢true h)

or_second : (a b : Bool) → b ≡ true → (a || b) ≡ true
or_second true b h = refl
or_second false b h = h

-- one of n numbers from a on
any_from : (f : ℕ → Bool) (a n : ℕ) → list_any f (range_with_len a n) ≡ true → (p : ℕ) × (a ≤ p) × (p < a + n) × (f p ≡ true)
any_from f a zero h = absurd (false≢true h)
any_from f a (suc n) h = split (or_cases (f a) (list_any f (range_with_len (a + 1) n)) h) (any_from f (a + 1) n)
  where
    split : (f a ≡ true) ⊎ (list_any f (range_with_len (a + 1) n) ≡ true)
        → (list_any f (range_with_len (a + 1) n) ≡ true → (p : ℕ) × (a + 1 ≤ p) × (p < a + 1 + n) × (f p ≡ true)) → (p : ℕ) × (a ≤ p) × (p < a + suc n) × (f p ≡ true)
    split (inl here) on = (a, omega arith, omega arith, here)
    split (inr later) on =
        let k = on later in
        (k.0, omega (arith, k.1), omega (arith, k.2), k.3)

from_any : (f : ℕ → Bool) (a n p : ℕ) → a ≤ p → p < a + n → f p ≡ true → list_any f (range_with_len a n) ≡ true
from_any f a zero p low high h = absurd (omega arith)
from_any f a (suc n) p low high h = split (cases_lt a p) (λ le. from_any f (a + 1) n p le (omega arith) h)
  where
    split : (a < p) ⊎ (p ≤ a) → (a + 1 ≤ p → list_any f (range_with_len (a + 1) n) ≡ true) → list_any f (range_with_len a (suc n)) ≡ true
    split (inl low') later = or_second (f a) (list_any f (range_with_len (a + 1) n)) (later (omega arith))
    split (inr le) later = or_first (f a) (list_any f (range_with_len (a + 1) n)) (let e : a ≡ p = omega arith in ap f e ∙ h)

true_le : (m n : ℕ) → m ≤ n → nat_le m n ≡ true
true_le m n h = grind (arith, nat_tests)

bounds_kept : (places : List ℕ) (bounds : List Bound) → list_all (is_kept places) bounds ≡ true → All (IsKept places) bounds
bounds_kept places [] h = All-nil (IsKept places)
bounds_kept places (b ∷ bs) h =
    let k = both (is_kept places b) (list_all (is_kept places) bs) h in
    All-cons (IsKept places) b bs (leb-true _ _ k.0) (bounds_kept places bs k.1)

kept_bounds : (places : List ℕ) (bounds : List Bound) → All (IsKept places) bounds → list_all (is_kept places) bounds ≡ true
kept_bounds places [] h = refl
kept_bounds places (b ∷ bs) h =
    and_true (is_kept places b) (list_all (is_kept places) bs) (true_le _ _ (All-head (IsKept places) b bs h)) (kept_bounds places bs (All-tail (IsKept places) b bs h))

-- the tests are met behind these places, and all places keep the bounds
record Goes (cells : List (List (List ℕ))) (bounds : List Bound) (places : List ℕ) (tests : List Test) : Type 0 where
  further : List ℕ
  met : AreMet cells tests further
  kept : All (IsKept (places ++ further)) bounds

tried : List (List (List ℕ)) → List Bound → List ℕ → Test → List Test → ℕ → Bool
tried cells bounds places test tests place = meets test (get_or cells place []) && is_answered cells bounds (places ++ place ∷ []) tests

answered_goes : (cells : List (List (List ℕ))) (bounds : List Bound) (places : List ℕ) (tests : List Test) → is_answered cells bounds places tests ≡ true → Goes cells bounds places tests
answered_goes cells bounds places [] h =
    record { further = []; met = tt; kept = subst (λ l. All (IsKept l) bounds) (sym (append-nil places)) (bounds_kept places bounds h) }
answered_goes cells bounds places (test ∷ tests) h =
    let k = any_from (λ place. meets test (get_or cells place []) && is_answered cells bounds (places ++ place ∷ []) tests) 0 (length cells) h in
    let p = k.0 in
    let two = both (meets test (get_or cells p [])) (is_answered cells bounds (places ++ p ∷ []) tests) k.3 in
    let rest = answered_goes cells bounds (places ++ p ∷ []) tests two.1 in
    record {
      further = p ∷ rest.further;
      met = ((omega (arith, k.2), two.0), rest.met);
      kept = subst (λ l. All (IsKept l) bounds) (append_assoc places (p ∷ []) rest.further) rest.kept;
    }

goes_answered : (cells : List (List (List ℕ))) (bounds : List Bound) (places : List ℕ) (tests : List Test) (further : List ℕ) → AreMet cells tests further
    → All (IsKept (places ++ further)) bounds → is_answered cells bounds places tests ≡ true
goes_answered cells bounds places [] [] met kept = kept_bounds places bounds (subst (λ l. All (IsKept l) bounds) (append-nil places) kept)
goes_answered cells bounds places [] (p ∷ further) met kept = absurd met
goes_answered cells bounds places (test ∷ tests) [] met kept = absurd met
goes_answered cells bounds places (test ∷ tests) (p ∷ further) met kept =
    let rest = goes_answered cells bounds (places ++ p ∷ []) tests further met.1 (subst (λ l. All (IsKept l) bounds) (sym (append_assoc places (p ∷ []) further)) kept) in
    from_any (λ place. meets test (get_or cells place []) && is_answered cells bounds (places ++ place ∷ []) tests) 0 (length cells) p (omega arith) (omega (arith, met.0.0))
    (and_true (meets test (get_or cells p [])) (is_answered cells bounds (places ++ p ∷ []) tests) met.0.1 rest)

not_true : (b : Bool) → (b ≡ true → ⊥) → not b ≡ true
not_true true h = absurd (h refl)
not_true false h = refl

true_not : (b : Bool) → not b ≡ true → b ≡ true → ⊥
true_not true h k = false≢true h
true_not false h k = false≢true k

either_is : {A B C D : Type 0} → A ⊎ B → (A → C) → (B → D) → C ⊎ D
either_is (inl a) f g = inl (f a)
either_is (inr b) f g = inr (g b)

-- ---- patterns

decided_pattern : (cells : List (List (List ℕ))) (pattern : Pattern) → is_satisfied cells pattern ≡ true → Satisfies cells pattern
decided_pattern cells pattern h = let k = answered_goes cells pattern.bounds [] pattern.tests h in (k.further, record { met = k.met; kept = k.kept })

pattern_decided : (cells : List (List (List ℕ))) (pattern : Pattern) → Satisfies cells pattern → is_satisfied cells pattern ≡ true
pattern_decided cells pattern (places, answer) = goes_answered cells pattern.bounds [] pattern.tests places answer.met answer.kept

decided_one : (cells : List (List (List ℕ))) (patterns : List Pattern) → list_any (is_satisfied cells) patterns ≡ true → SatisfiesOne cells patterns
decided_one cells [] h = absurd (false≢true h)
decided_one cells (p ∷ ps) h = either_is (or_cases (is_satisfied cells p) (list_any (is_satisfied cells) ps) h) (decided_pattern cells p) (decided_one cells ps)

one_decided : (cells : List (List (List ℕ))) (patterns : List Pattern) → SatisfiesOne cells patterns → list_any (is_satisfied cells) patterns ≡ true
one_decided cells [] h = absurd h
one_decided cells (p ∷ ps) (inl here) = or_first (is_satisfied cells p) (list_any (is_satisfied cells) ps) (pattern_decided cells p here)
one_decided cells (p ∷ ps) (inr later) = or_second (is_satisfied cells p) (list_any (is_satisfied cells) ps) (one_decided cells ps later)

abbrev IsValueMatch : List (List (List ℕ)) → Pattern → Option (ℕ × ℕ) → Type 0
IsValueMatch cells pattern numbers = MatchOption numbers (Satisfies cells pattern) (λ n. SatisfiesOne cells (value_patterns n.0 n.1))

decided_value : (cells : List (List (List ℕ))) (pattern : Pattern) (numbers : Option (ℕ × ℕ)) → is_value_match cells pattern numbers ≡ true → IsValueMatch cells pattern numbers
decided_value cells pattern None h = decided_pattern cells pattern h
decided_value cells pattern (Some n) h = decided_one cells (value_patterns n.0 n.1) h

value_decided : (cells : List (List (List ℕ))) (pattern : Pattern) (numbers : Option (ℕ × ℕ)) → IsValueMatch cells pattern numbers → is_value_match cells pattern numbers ≡ true
value_decided cells pattern None h = pattern_decided cells pattern h
value_decided cells pattern (Some n) h = one_decided cells (value_patterns n.0 n.1) h

mutual
  decided_match : (cells : List (List (List ℕ))) (q : Shape) → is_match cells q ≡ true → Matches cells q
  decided_match cells (atom a) h = decided_value cells (pattern_of a) (numbers_in a) h
  decided_match cells (all qs) h = decided_all cells qs h
  decided_match cells (any qs) h = decided_any cells qs h
  decided_match cells (negated q) h = λ m. true_not (is_match cells q) h (match_decided cells q m)

  match_decided : (cells : List (List (List ℕ))) (q : Shape) → Matches cells q → is_match cells q ≡ true
  match_decided cells (atom a) h = value_decided cells (pattern_of a) (numbers_in a) h
  match_decided cells (all qs) h = all_decided cells qs h
  match_decided cells (any qs) h = any_decided cells qs h
  match_decided cells (negated q) h = not_true (is_match cells q) (λ b. h (decided_match cells q b))

  decided_all : (cells : List (List (List ℕ))) (qs : Shapes) → all_match cells qs ≡ true → AllMatch cells qs
  decided_all cells none h = tt
  decided_all cells (more q qs) h =
      let k = both (is_match cells q) (all_match cells qs) h in
      (decided_match cells q k.0, decided_all cells qs k.1)

  all_decided : (cells : List (List (List ℕ))) (qs : Shapes) → AllMatch cells qs → all_match cells qs ≡ true
  all_decided cells none h = refl
  all_decided cells (more q qs) h = and_true (is_match cells q) (all_match cells qs) (match_decided cells q h.0) (all_decided cells qs h.1)

  decided_any : (cells : List (List (List ℕ))) (qs : Shapes) → any_matches cells qs ≡ true → AnyMatches cells qs
  decided_any cells none h = absurd (false≢true h)
  decided_any cells (more q qs) h = either_is (or_cases (is_match cells q) (any_matches cells qs) h) (decided_match cells q) (decided_any cells qs)

  any_decided : (cells : List (List (List ℕ))) (qs : Shapes) → AnyMatches cells qs → any_matches cells qs ≡ true
  any_decided cells none h = absurd h
  any_decided cells (more q qs) (inl here) = or_first (is_match cells q) (any_matches cells qs) (match_decided cells q here)
  any_decided cells (more q qs) (inr later) = or_second (is_match cells q) (any_matches cells qs) (any_decided cells qs later)

pub match_is : (cells : List (List (List ℕ))) (q : Shape) → (is_match cells q ≡ true) ↔ Matches cells q
match_is cells q = (decided_match cells q, match_decided cells q)

pub answer_decided : (cells : List (List (List ℕ))) (q : Shape) (b : Bool) → IsTrue b ↔ Matches cells q → b ≡ is_match cells q
answer_decided cells q b h = same b (is_match cells q) (λ e. match_decided cells q (h.0 e)) (λ e. h.1 (decided_match cells q e))
  where
    same : (b d : Bool) → (IsTrue b → d ≡ true) → (d ≡ true → IsTrue b) → b ≡ d
    same true d go back = sym (go (search rules))
    same false true go back = absurd (false≢true (back refl))
    same false false go back = refl
