-- The test of each use of a query is one of its plan's tests.
use Rattle.std.proofs.Common.{ℕ, zero, suc, Bool, true, false, List, [], ◌∷◌, ◌++◌, map, refl, arith}
use Rattle.std.specs.Prelude.{Contains, Option, Some, None}
use Rattle.std.proofs.lemmas.List.Elements.{Contains-append_left, Contains-append_right}
use Rattle.alta_machine.specs.Joined.{joint_pattern}
use Rattle.alta_machine.specs.PlanOf.{plan_of, plans_of, atoms_in, others_of, all_plan, with_pattern, with_value, atom_plan}
use Rattle.alta_compile.specs.Space.{document_end}
use Rattle.alta_machine.specs.Plans.{Trees, no_more, also}
use Rattle.alta_machine.specs.Patterns.{Pattern, pattern_of, numbers_in, titled, phrase_pattern, test_of, title_end}
use Rattle.alta_machine.specs.Shape.{words, prefix, name, value, Atom, lone, near, Shape, Shapes, atom, all, any, negated, none, more}
use Rattle.alta_machine.specs.Words.{name_test}
use Rattle.alta_machine.specs.declared.test.Test.{Test}
use Rattle.alta_machine.specs.Uses.{use_of, atom_uses, uses_of, uses_in}
use Rattle.alta_machine.specs.declared.usage.Use.{Use}
use Rattle.alta_search.specs.Plans.{tests_of, tests_in}

-- the test of each use is one of these
abbrev pub AreAmong : List Use → List Test → Type 0
AreAmong [] ts = Unit {0}
AreAmong (u ∷ us) ts = Contains ts u.test × AreAmong us ts

-- each of the first tests is one of the second
abbrev IsWithin : List Test → List Test → Type 0
IsWithin ts rs = (t : Test) → Contains ts t → Contains rs t

head_in : (t : Test) (ts : List Test) → Contains (t ∷ ts) t
head_in t ts = (zero, omega arith, refl)

tail_in : (t : Test) (ts : List Test) → IsWithin ts (t ∷ ts)
tail_in t ts x (k, l, e) = (suc k, omega (arith, l), e)

none_in : (x : Test) (ts : List Test) → Contains [] x → Contains ts x
none_in x ts (k, l, e) = absurd (omega (arith, l))

left_in : (ts rs : List Test) → IsWithin ts (ts ++ rs)
left_in ts rs x m = Contains-append_left ts rs x m

right_in : (ts rs : List Test) → IsWithin rs (ts ++ rs)
right_in ts rs x m = Contains-append_right ts rs x m

among_more : (us : List Use) (ts rs : List Test) → IsWithin ts rs → AreAmong us ts → AreAmong us rs
among_more [] ts rs h a = tt
among_more (u ∷ us) ts rs h (m, a) = (h u.test m, among_more us ts rs h a)

-- more tests behind them
pub among_front : (us : List Use) (ts rs : List Test) → AreAmong us ts → AreAmong us (ts ++ rs)
among_front us ts rs a = among_more us ts (ts ++ rs) (left_in ts rs) a

among_append : (us vs : List Use) (ts : List Test) → AreAmong us ts → AreAmong vs ts → AreAmong (us ++ vs) ts
among_append [] vs ts a b = b
among_append (u ∷ us) vs ts (m, a) b = (m, among_append us vs ts a b)

among_tests : (title : Bool) (ts : List Test) → AreAmong (map (use_of title) ts) ts
among_tests title [] = tt
among_tests title (t ∷ ts) = (head_in t ts, among_more (map (use_of title) ts) ts (t ∷ ts) (tail_in t ts) (among_tests title ts))

-- a pattern in the title has its tests too
titled_in : (title : Bool) (p : Pattern) → IsWithin p.tests (titled title p).tests
titled_in true p = left_in p.tests (title_end ∷ [])
titled_in false p = λ x m. m

-- an atom's uses are of its pattern's tests; a value has none
atom_among : (a : Atom) → AreAmong (atom_uses a) (pattern_of a).tests
atom_among (lone (words title text tests)) = among_more (map (use_of title) tests) tests (titled title (phrase_pattern tests)).tests (titled_in title (phrase_pattern tests)) (among_tests title tests)
atom_among (lone (prefix title text test)) = (titled_in title (phrase_pattern (test ∷ [])) test (head_in test []), tt)
atom_among (lone (name text)) = (head_in (name_test text) [], tt)
atom_among (lone (value low high)) = tt
atom_among (near left distance right) = (head_in (test_of left) (test_of right ∷ []), (tail_in (test_of left) (test_of right ∷ []) (test_of right) (head_in (test_of right) []), tt))

-- one that is no value is planned by its pattern
plan_among : (a : Atom) → AreAmong (atom_uses a) (tests_of (atom_plan (pattern_of a) (numbers_in a)))
plan_among (lone (words title text tests)) =
    let ts = (pattern_of (lone (words title text tests))).tests in among_more (atom_uses (lone (words title text tests))) ts (document_end ∷ ts) (tail_in document_end ts) (atom_among (lone (words title text tests)))
plan_among (lone (prefix title text test)) =
    let ts = (pattern_of (lone (prefix title text test))).tests in among_more (atom_uses (lone (prefix title text test))) ts (document_end ∷ ts) (tail_in document_end ts) (atom_among (lone (prefix title text test)))
plan_among (lone (name text)) =
    let ts = (pattern_of (lone (name text))).tests in among_more (atom_uses (lone (name text))) ts (document_end ∷ ts) (tail_in document_end ts) (atom_among (lone (name text)))
plan_among (lone (value low high)) = tt
plan_among (near left distance right) =
    let ts = (pattern_of (near left distance right)).tests in among_more (atom_uses (near left distance right)) ts (document_end ∷ ts) (tail_in document_end ts) (atom_among (near left distance right))

-- the plan of an and has the tests of its atoms, and those of its other members
joint_in : (ps : List Pattern) (ts : Trees) → IsWithin (joint_pattern ps).tests (tests_of (all_plan ps ts))
joint_in ps no_more = tail_in document_end (joint_pattern ps).tests
joint_in [] (also t ts) = λ x m. none_in x (tests_of t ++ tests_in ts) m
joint_in (p ∷ ps) (also t ts) = λ x m.
    let js = (joint_pattern (p ∷ ps)).tests in left_in (document_end ∷ js) (tests_of t ++ tests_in ts) x (tail_in document_end js x m)

others_in : (ps : List Pattern) (ts : Trees) → IsWithin (tests_in ts) (tests_of (all_plan ps ts))
others_in ps no_more = λ x m. none_in x (document_end ∷ (joint_pattern ps).tests) m
others_in [] (also t ts) = λ x m. m
others_in (p ∷ ps) (also t ts) = λ x m. right_in (document_end ∷ (joint_pattern (p ∷ ps)).tests) (tests_of t ++ tests_in ts) x m

-- an atom of an and
member_among : (a : Atom) (ps : List Pattern) (rs : List Test) → IsWithin (joint_pattern (with_pattern (pattern_of a) (numbers_in a) ps)).tests rs → AreAmong (atom_uses a) rs
member_among (lone (words title text tests)) ps rs h =
    let ts = (pattern_of (lone (words title text tests))).tests in among_more (atom_uses (lone (words title text tests))) ts rs (λ x m. h x (left_in ts (joint_pattern ps).tests x m)) (atom_among (lone (words title text tests)))
member_among (lone (prefix title text test)) ps rs h =
    let ts = (pattern_of (lone (prefix title text test))).tests in among_more (atom_uses (lone (prefix title text test))) ts rs (λ x m. h x (left_in ts (joint_pattern ps).tests x m)) (atom_among (lone (prefix title text test)))
member_among (lone (name text)) ps rs h =
    let ts = (pattern_of (lone (name text))).tests in among_more (atom_uses (lone (name text))) ts rs (λ x m. h x (left_in ts (joint_pattern ps).tests x m)) (atom_among (lone (name text)))
member_among (lone (value low high)) ps rs h = tt
member_among (near left distance right) ps rs h =
    let ts = (pattern_of (near left distance right)).tests in among_more (atom_uses (near left distance right)) ts rs (λ x m. h x (left_in ts (joint_pattern ps).tests x m)) (atom_among (near left distance right))

-- the patterns and the plans of the members behind an atom
later_joint : (p : Pattern) (o : Option (ℕ × ℕ)) (ps : List Pattern) → IsWithin (joint_pattern ps).tests (joint_pattern (with_pattern p o ps)).tests
later_joint p None ps = λ x m. right_in p.tests (joint_pattern ps).tests x m
later_joint p (Some numbers) ps = λ x m. m

later_others : (p : Pattern) (o : Option (ℕ × ℕ)) (ts : Trees) → IsWithin (tests_in ts) (tests_in (with_value p o ts))
later_others p None ts = λ x m. m
later_others p (Some numbers) ts = λ x m. right_in (tests_of (atom_plan p (Some numbers))) (tests_in ts) x m

mutual
  pub uses_among : (q : Shape) → AreAmong (uses_of q) (tests_of (plan_of q))
  uses_among (atom a) = plan_among a
  uses_among (all qs) = and_among qs (tests_of (plan_of (all qs))) (joint_in (atoms_in qs) (others_of qs)) (others_in (atoms_in qs) (others_of qs))
  uses_among (any qs) = or_among qs
  uses_among (negated q) = tt

  -- the members of an and
  and_among : (qs : Shapes) (rs : List Test) → IsWithin (joint_pattern (atoms_in qs)).tests rs → IsWithin (tests_in (others_of qs)) rs → AreAmong (uses_in qs) rs
  and_among none rs h k = tt
  and_among (more (atom a) qs) rs h k =
      among_append (atom_uses a) (uses_in qs) rs (member_among a (atoms_in qs) rs h)
      (and_among qs rs (λ x m. h x (later_joint (pattern_of a) (numbers_in a) (atoms_in qs) x m)) (λ x m. k x (later_others (pattern_of a) (numbers_in a) (others_of qs) x m)))
  and_among (more (all ps) qs) rs h k =
      among_append (uses_of (all ps)) (uses_in qs) rs (among_more (uses_of (all ps)) (tests_of (plan_of (all ps))) rs (λ x m. k x (left_in (tests_of (plan_of (all ps))) (tests_in (others_of qs)) x m)) (uses_among (all ps)))
      (and_among qs rs h (λ x m. k x (right_in (tests_of (plan_of (all ps))) (tests_in (others_of qs)) x m)))
  and_among (more (any ps) qs) rs h k =
      among_append (uses_of (any ps)) (uses_in qs) rs (among_more (uses_of (any ps)) (tests_of (plan_of (any ps))) rs (λ x m. k x (left_in (tests_of (plan_of (any ps))) (tests_in (others_of qs)) x m)) (uses_among (any ps)))
      (and_among qs rs h (λ x m. k x (right_in (tests_of (plan_of (any ps))) (tests_in (others_of qs)) x m)))
  and_among (more (negated p) qs) rs h k = and_among qs rs h (λ x m. k x (right_in (tests_of (plan_of (negated p))) (tests_in (others_of qs)) x m))

  -- the members of an or
  or_among : (qs : Shapes) → AreAmong (uses_in qs) (tests_in (plans_of qs))
  or_among none = tt
  or_among (more q qs) =
      let first = tests_of (plan_of q) in let rest = tests_in (plans_of qs) in
      among_append (uses_of q) (uses_in qs) (first ++ rest) (among_more (uses_of q) first (first ++ rest) (left_in first rest) (uses_among q))
      (among_more (uses_in qs) rest (first ++ rest) (right_in first rest) (or_among qs))
