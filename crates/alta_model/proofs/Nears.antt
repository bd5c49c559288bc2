-- The last places of two tests show whether two places are close.
use Rattle.std.proofs.Common.{rules, ◌≡◌, ℕ, ◌+◌, ◌≤◌, ◌<◌, List, [], ◌∷◌, length, sym, subst, arith, Bool, true, false}
use Rattle.std.specs.Prelude.{nat_le, get_or, if◌then◌else◌, Option, Some, None}
use Rattle.std.specs.List.{All}
use Rattle.std.proofs.lemmas.Bool.{leb-true, false≢true}
use Rattle.std.proofs.lemmas.List.Elements.{All-nil, All-cons, All-head, All-tail}
use Rattle.alta_model.specs.Near.{is_close, IsLast, AreApart}
use Rattle.alta_machine.specs.Patterns.{Bound, IsKept, Satisfies, meets, near_pattern}
use Rattle.alta_machine.specs.declared.test.Test.{Test}
use Rattle.alta_model.proofs.Counts.{both}

-- one cell further
pub last_on : (cells : List (List (List ℕ))) (test : Test) (end : ℕ) (last : Option ℕ) (b : Bool) → end < length cells → meets test (get_or cells end []) ≡ b
    → IsLast cells test end last → IsLast cells test (end + 1) (if b then Some end else last)
last_on cells test end last true within e h = (omega arith, (within, e), λ p low high. absurd (omega arith))
last_on cells test end None false within e h = λ p low met. search (rules, h, e, met)
last_on cells test end (Some last) false within e h = (omega arith, h.1, λ p low high met. search (rules, h, e, met))

abbrev first_bound : ℕ → Bound
first_bound distance = record { first = 0; behind = 0; second = 1; ahead = distance }

abbrev second_bound : ℕ → Bound
second_bound distance = record { first = 1; behind = 0; second = 0; ahead = distance }

two_kept : (places : List ℕ) (b d : Bound) → IsKept places b → IsKept places d → All (IsKept places) (b ∷ d ∷ [])
two_kept places b d h k = All-cons (IsKept places) b (d ∷ []) h (All-cons (IsKept places) d [] k (All-nil (IsKept places)))

pub close_found : (cells : List (List (List ℕ))) (left : Test) (distance : ℕ) (right : Test) (end : ℕ) (l r : Option ℕ)
    → IsLast cells left end l → IsLast cells right end r → is_close l r distance ≡ true → Satisfies cells (near_pattern left distance right)
close_found cells left distance right end None r hl hr h = absurd (false≢true h)
close_found cells left distance right end (Some p) None hl hr h = absurd (false≢true h)
close_found cells left distance right end (Some p) (Some q) hl hr h =
    let k = both (nat_le p (q + distance)) (nat_le q (p + distance)) h in
    let a : p ≤ q + distance = leb-true p (q + distance) k.0 in
    let b : q ≤ p + distance = leb-true q (p + distance) k.1 in
    let first : p + 0 ≤ q + distance = omega arith in
    let second : q + 0 ≤ p + distance = omega arith in
    (p ∷ q ∷ [], record { met = (hl.1, (hr.1, tt)); kept = two_kept (p ∷ q ∷ []) (first_bound distance) (second_bound distance) first second })

pub near_found : (cells : List (List (List ℕ))) (left : Test) (distance : ℕ) (right : Test) (end : ℕ) (l r l' r' : Option ℕ) (a b : Bool) → end < length cells
    → a ≡ meets left (get_or cells end []) → b ≡ meets right (get_or cells end []) → IsLast cells left end l → IsLast cells right end r
    → l' ≡ (if a then Some end else l) → r' ≡ (if b then Some end else r) → is_close l' r' distance ≡ true → Satisfies cells (near_pattern left distance right)
near_found cells left distance right end l r l' r' a b within ea eb hl hr el er h =
    close_found cells left distance right (end + 1) l' r'
    (subst (IsLast cells left (end + 1)) (sym el) (last_on cells left end l a within (sym ea) hl))
    (subst (IsLast cells right (end + 1)) (sym er) (last_on cells right end r b within (sym eb) hr)) h

pub none_close : (cells : List (List (List ℕ))) (left : Test) (distance : ℕ) (right : Test) → AreApart cells left distance right (length cells)
    → ¬ (Satisfies cells (near_pattern left distance right))
none_close cells left distance right apart ([], answer) = absurd answer.met
none_close cells left distance right apart (p ∷ [], answer) = absurd answer.met.1
none_close cells left distance right apart (p ∷ (q ∷ []), answer) =
    let places : List ℕ = p ∷ q ∷ [] in
    let first : p + 0 ≤ q + distance = All-head (IsKept places) (first_bound distance) (second_bound distance ∷ []) answer.kept in
    let second : q + 0 ≤ p + distance = All-head (IsKept places) (second_bound distance) [] (All-tail (IsKept places) (first_bound distance) (second_bound distance ∷ []) answer.kept) in
    apart p q answer.met.0.0 answer.met.1.0.0 answer.met.0 answer.met.1.0 (omega arith) (omega arith)
none_close cells left distance right apart (p ∷ (q ∷ (r ∷ rest)), answer) = absurd answer.met.1.1
