-- Steps of the loops over the members of a query.
use Rattle.std.proofs.Common.{◌≡◌, ℕ, Bool, zero, suc, ◌+◌, ◌<◌, ◌≤◌, true, false, List, [], ◌∷◌, ◌++◌, length, drop, get_or, map, refl, sym, subst, ap, ◌∙◌, arith, add-one, append_assoc, Option, Some, None}
use Rattle.std.specs.Prelude.{nat_eq, is_none, MatchOption}
use Rattle.std.proofs.lemmas.Bool.Decides.{nat_tests}
use Rattle.std.proofs.Math.Seq.{drop-cons}
use Rattle.std.proofs.lemmas.List.{append-nil}
use Rattle.std.proofs.lemmas.List.Elements.{All-nil, All-cons}
use Rattle.alta_machine.specs.Patterns.{Bound, Pattern, pattern_of, numbers_in}
use Rattle.alta_machine.specs.Shape.{Shape, Shapes, atom, all, any, negated, more, shapes_of}
use Rattle.alta_query.specs.View.{shape}
use Rattle.alta_query.specs.declared.query.Query.{Query}
use Rattle.alta_machine.specs.declared.test.Test.{Test}
use Rattle.alta_codec.specs.Inequality.{Inequality}
use Rattle.alta_solver.specs.Bounds.{IsNamed}
use Rattle.alta_compile.specs.Drafted.{placed, IsAdded, IsDraftOf, is_atom, AddsMember}
use Rattle.alta_machine.specs.Joined.{shifted, joint_pattern}
use Rattle.alta_machine.specs.PlanOf.{between, found_of, atom_plan, with_pattern, with_value, atoms_in, all_plan, plan_of, plans_of, others_of}
use Rattle.alta_machine.specs.Plans.{FoundTree, Tree, found, all_of, Trees, no_more, also, trees_of}
use Rattle.alta_compile.specs.View.{tree}
use Rattle.alta_compile.specs.declared.draft.Draft.{Draft}
use Rattle.alta_compile.specs.declared.plan.Plan.{Plan}
use Rattle.alta_compile.proofs.Joins.{AreNamed}

-- bounds behind others that are behind others
map-join : {X Y : Type 0} (f : X → Y) (xs ys : List X) → map f (xs ++ ys) ≡ map f xs ++ map f ys
map-join f [] ys = refl
map-join f (x ∷ xs) ys = ap (λ r. f x ∷ r) (map-join f xs ys)

length-join : {X : Type 0} (xs ys : List X) → length (xs ++ ys) ≡ length xs + length ys
length-join [] ys = omega arith
length-join (x ∷ xs) ys = omega (arith, length-join xs ys)

abbrev put : ℕ → ℕ → Bound → Inequality
put i j b = record { form = (between b).form; i = i; j = j; plus = b.ahead; minus = b.behind }

put-same : (i i' j j' : ℕ) (b : Bound) → i ≡ i' → j ≡ j' → put i j b ≡ put i' j' b
put-same i i' j j' b e f = ap (λ x. put x j b) e ∙ ap (λ x. put i' x b) f

placed-zero : (b : Bound) → placed 0 b ≡ between b
placed-zero b = put-same (suc (0 + b.first)) (suc b.first) (suc (0 + b.second)) (suc b.second) b (omega arith) (omega arith)

placed-shifted : (n k : ℕ) (b : Bound) → placed n (shifted k b) ≡ placed (n + k) b
placed-shifted n k b =
    put-same (suc (n + (k + b.first))) (suc ((n + k) + b.first)) (suc (n + (k + b.second))) (suc ((n + k) + b.second)) b (omega arith) (omega arith)

placed-zeros : (bs : List Bound) → map (placed 0) bs ≡ map between bs
placed-zeros [] = refl
placed-zeros (b ∷ bs) = ap (λ x. x ∷ map (placed 0) bs) (placed-zero b) ∙ ap (λ r. between b ∷ r) (placed-zeros bs)

placed-shifteds : (n k : ℕ) (bs : List Bound) → map (placed n) (map (shifted k) bs) ≡ map (placed (n + k)) bs
placed-shifteds n k [] = refl
placed-shifteds n k (b ∷ bs) =
    ap (λ x. x ∷ map (placed n) (map (shifted k) bs)) (placed-shifted n k b) ∙ ap (λ r. placed (n + k) b ∷ r) (placed-shifteds n k bs)

-- what the draft holds and what is left make the whole
pub record IsGathered (d : Draft) (rest : List Pattern) (whole : Pattern) : Type 0 where
  pub tests : d.tests.items ++ (joint_pattern rest).tests ≡ whole.tests
  pub bounds : d.bounds.items ++ map (placed (length d.tests.items)) (joint_pattern rest).bounds ≡ map between whole.bounds

pub gathered_start : (d : Draft) (rest : List Pattern) → d.tests.items ≡ [] → d.bounds.items ≡ [] → IsGathered d rest (joint_pattern rest)
gathered_start d rest e f = record {
  tests = ap (λ ts. ts ++ (joint_pattern rest).tests) e;
  bounds = ap (λ bs. bs ++ map (placed (length d.tests.items)) (joint_pattern rest).bounds) f ∙ ap (λ (ts : List Test). map (placed (length ts)) (joint_pattern rest).bounds) e ∙ placed-zeros (joint_pattern rest).bounds;
}

gathered_more : (old new : Draft) (p : Pattern) (rest : List Pattern) (whole : Pattern) → IsAdded old new p → IsGathered old (p ∷ rest) whole → IsGathered new rest whole
gathered_more old new p rest whole a g =
    let r = joint_pattern rest in let n = length old.tests.items in let k = length p.tests in
    let size : length new.tests.items ≡ n + k = ap length a.tests ∙ length-join old.tests.items p.tests in
    record {
      tests = ap (λ ts. ts ++ r.tests) a.tests ∙ append_assoc old.tests.items p.tests r.tests ∙ g.tests;
      bounds = ap (λ m. new.bounds.items ++ map (placed m) r.bounds) size
          ∙ ap (λ bs. bs ++ map (placed (n + k)) r.bounds) a.bounds
          ∙ append_assoc old.bounds.items (map (placed n) p.bounds) (map (placed (n + k)) r.bounds)
          ∙ ap (λ bs. old.bounds.items ++ (map (placed n) p.bounds ++ bs)) (sym (placed-shifteds n k r.bounds))
          ∙ ap (λ bs. old.bounds.items ++ bs) (sym (map-join (placed n) p.bounds (map (shifted k) r.bounds)))
          ∙ g.bounds;
    }

-- the pattern of an atom that is no value, or nothing
gathered_atom : (old new : Draft) (p : Pattern) (numbers : Option (ℕ × ℕ)) (rest : List Pattern) (whole : Pattern) → MatchOption numbers (IsAdded old new p) (λ n. new ≡ old)
    → IsGathered old (with_pattern p numbers rest) whole → IsGathered new rest whole
gathered_atom old new p None rest whole h g = gathered_more old new p rest whole h g
gathered_atom old new p (Some n) rest whole h g = subst (λ d. IsGathered d rest whole) (sym h) g

gathered_next : (old new : Draft) (q : Shape) (qs : Shapes) (whole : Pattern) → AddsMember old new q → IsGathered old (atoms_in (more q qs)) whole
    → IsGathered new (atoms_in qs) whole
gathered_next old new (atom a) qs whole h g = gathered_atom old new (pattern_of a) (numbers_in a) (atoms_in qs) whole h g
gathered_next old new (all rs) qs whole h g = subst (λ d. IsGathered d (atoms_in qs) whole) (sym h) g
gathered_next old new (any rs) qs whole h g = subst (λ d. IsGathered d (atoms_in qs) whole) (sym h) g
gathered_next old new (negated r) qs whole h g = subst (λ d. IsGathered d (atoms_in qs) whole) (sym h) g

pub drop-next : (items : List Query) (i : ℕ) (q : Query) → i < length items → get_or items i q ≡ q → drop i items ≡ q ∷ drop (i + 1) items
drop-next items i q within is = drop-cons items i q within ∙ rw (is, add-one i) refl

pub drop-none : (items : List Query) (i : ℕ) → length items ≤ i → drop i items ≡ []
drop-none [] zero l = refl
drop-none [] (suc i) l = refl
drop-none (q ∷ items) zero l = absurd (omega (arith, l))
drop-none (q ∷ items) (suc i) l = drop-none items i (omega (arith, l))

pub gathered_step : (items : List Query) (i : ℕ) (q : Query) (old new : Draft) (whole : Pattern) → i < length items → get_or items i q ≡ q
    → AddsMember old new (shape q) → IsGathered old (atoms_in (shapes_of (map shape (drop i items)))) whole
    → IsGathered new (atoms_in (shapes_of (map shape (drop (i + 1) items)))) whole
gathered_step items i q old new whole within is h g =
    gathered_next old new (shape q) (shapes_of (map shape (drop (i + 1) items))) whole h
    (subst (λ qs. IsGathered old (atoms_in (shapes_of (map shape qs))) whole) (drop-next items i q within is) g)

pub gathered_end : (items : List Query) (i : ℕ) (d : Draft) (whole : Pattern) → length items ≤ i
    → IsGathered d (atoms_in (shapes_of (map shape (drop i items)))) whole → IsDraftOf d whole
gathered_end items i d whole past g =
    let h : IsGathered d [] whole = subst (λ qs. IsGathered d (atoms_in (shapes_of (map shape qs))) whole) (drop-none items i past) g in
    record { tests = sym (append-nil d.tests.items) ∙ h.tests; bounds = sym (append-nil d.bounds.items) ∙ h.bounds }

-- the plan of what a draft holds
pub draft_first : (old new : Draft) (p : Pattern) → old.tests.items ≡ [] → old.bounds.items ≡ [] → IsAdded old new p → IsDraftOf new p
draft_first old new p e f a = record {
  tests = a.tests ∙ ap (λ ts. ts ++ p.tests) e;
  bounds = a.bounds ∙ ap (λ bs. bs ++ map (placed (length old.tests.items)) p.bounds) f ∙ ap (λ (ts : List Test). map (placed (length ts)) p.bounds) e ∙ placed-zeros p.bounds;
}

named_between : (n : ℕ) (bs : List Bound) → AreNamed n bs → IsNamed (suc n) (map between bs)
named_between n [] h = All-nil (λ (b : Inequality). (b.i < suc n) × (b.j < suc n))
named_between n (b ∷ bs) (f, s, r) =
    All-cons (λ (b : Inequality). (b.i < suc n) × (b.j < suc n)) (between b) (map between bs) (omega arith, omega arith) (named_between n bs r)

pub draft_named : (d : Draft) (p : Pattern) → IsDraftOf d p → AreNamed (length p.tests) p.bounds → IsNamed (suc (length d.tests.items)) d.bounds.items
draft_named d p h n =
    subst (λ bs. IsNamed (suc (length d.tests.items)) bs) (sym h.bounds)
    (subst (λ (ts : List Test). IsNamed (suc (length ts)) (map between p.bounds)) (sym h.tests) (named_between (length p.tests) p.bounds n))

-- trees before others
abbrev pub trees_then : List Tree → Trees → Trees
trees_then [] rest = rest
trees_then (t ∷ ts) rest = also t (trees_then ts rest)

trees-join : (ts us : List Tree) (rest : Trees) → trees_then (ts ++ us) rest ≡ trees_then ts (trees_then us rest)
trees-join [] us rest = refl
trees-join (t ∷ ts) us rest = ap (λ r. also t r) (trees-join ts us rest)

trees-end : (ts : List Tree) → trees_then ts no_more ≡ trees_of ts
trees-end [] = refl
trees-end (t ∷ ts) = ap (λ r. also t r) (trees-end ts)

one-more : (old new : List Plan) (p : Plan) (rest : Trees) → new ≡ old ++ p ∷ [] → trees_then (map tree new) rest ≡ trees_then (map tree old) (also (tree p) rest)
one-more old new p rest e =
    ap (λ ps. trees_then (map tree ps) rest) e ∙ ap (λ ts. trees_then ts rest) (map-join tree old (p ∷ [])) ∙ trees-join (map tree old) (tree p ∷ []) rest

pub each_step : (items : List Query) (i : ℕ) (q : Query) (old new : List Plan) (p : Plan) (whole : Trees) → i < length items → get_or items i q ≡ q
    → tree p ≡ plan_of (shape q) → new ≡ old ++ p ∷ []
    → trees_then (map tree old) (plans_of (shapes_of (map shape (drop i items)))) ≡ whole
    → trees_then (map tree new) (plans_of (shapes_of (map shape (drop (i + 1) items)))) ≡ whole
each_step items i q old new p whole within is planned e same =
    let rest = plans_of (shapes_of (map shape (drop (i + 1) items))) in
    one-more old new p rest e
    ∙ ap (λ t. trees_then (map tree old) (also t rest)) planned
    ∙ sym (ap (λ qs. trees_then (map tree old) (plans_of (shapes_of (map shape qs)))) (drop-next items i q within is))
    ∙ same

pub each_end : (items : List Query) (i : ℕ) (ps : List Plan) (whole : Trees) → length items ≤ i
    → trees_then (map tree ps) (plans_of (shapes_of (map shape (drop i items)))) ≡ whole → trees_of (map tree ps) ≡ whole
each_end items i ps whole past same =
    sym (trees-end (map tree ps)) ∙ sym (ap (λ qs. trees_then (map tree ps) (plans_of (shapes_of (map shape qs)))) (drop-none items i past)) ∙ same

value_yes : (p : Pattern) (numbers : Option (ℕ × ℕ)) (ts : Trees) → is_none numbers ≡ false → with_value p numbers ts ≡ also (atom_plan p numbers) ts
value_yes p None ts h = absurd cc
value_yes p (Some n) ts h = refl

value_no : (p : Pattern) (numbers : Option (ℕ × ℕ)) (ts : Trees) → is_none numbers ≡ true → with_value p numbers ts ≡ ts
value_no p None ts h = refl
value_no p (Some n) ts h = absurd cc

-- a member that is a value or no atom, and one that is an atom
other-yes : (q : Shape) (qs : Shapes) → is_atom q ≡ false → others_of (more q qs) ≡ also (plan_of q) (others_of qs)
other-yes (atom a) qs h = value_yes (pattern_of a) (numbers_in a) (others_of qs) h
other-yes (all rs) qs h = refl
other-yes (any rs) qs h = refl
other-yes (negated r) qs h = refl

other-no : (q : Shape) (qs : Shapes) → is_atom q ≡ true → others_of (more q qs) ≡ others_of qs
other-no (atom a) qs h = value_no (pattern_of a) (numbers_in a) (others_of qs) h
other-no (all rs) qs h = absurd cc
other-no (any rs) qs h = absurd cc
other-no (negated r) qs h = absurd cc

pub other_step : (items : List Query) (i : ℕ) (q : Query) (old new : List Plan) (p : Plan) (whole : Trees) → i < length items → get_or items i q ≡ q
    → is_atom (shape q) ≡ false → tree p ≡ plan_of (shape q) → new ≡ old ++ p ∷ []
    → trees_then (map tree old) (others_of (shapes_of (map shape (drop i items)))) ≡ whole
    → trees_then (map tree new) (others_of (shapes_of (map shape (drop (i + 1) items)))) ≡ whole
other_step items i q old new p whole within is other planned e same =
    let qs = shapes_of (map shape (drop (i + 1) items)) in
    one-more old new p (others_of qs) e
    ∙ ap (λ t. trees_then (map tree old) (also t (others_of qs))) planned
    ∙ sym (ap (λ r. trees_then (map tree old) r) (other-yes (shape q) qs other))
    ∙ sym (ap (λ qs. trees_then (map tree old) (others_of (shapes_of (map shape qs)))) (drop-next items i q within is))
    ∙ same

pub atom_step : (items : List Query) (i : ℕ) (q : Query) (ps : List Plan) (whole : Trees) → i < length items → get_or items i q ≡ q
    → is_atom (shape q) ≡ true
    → trees_then (map tree ps) (others_of (shapes_of (map shape (drop i items)))) ≡ whole
    → trees_then (map tree ps) (others_of (shapes_of (map shape (drop (i + 1) items)))) ≡ whole
atom_step items i q ps whole within is here same =
    let qs = shapes_of (map shape (drop (i + 1) items)) in
    sym (ap (λ r. trees_then (map tree ps) r) (other-no (shape q) qs here))
    ∙ sym (ap (λ qs. trees_then (map tree ps) (others_of (shapes_of (map shape qs)))) (drop-next items i q within is))
    ∙ same

pub others_end : (items : List Query) (i : ℕ) (ps : List Plan) (whole : Trees) → length items ≤ i
    → trees_then (map tree ps) (others_of (shapes_of (map shape (drop i items)))) ≡ whole → trees_of (map tree ps) ≡ whole
others_end items i ps whole past same =
    sym (trees-end (map tree ps)) ∙ sym (ap (λ qs. trees_then (map tree ps) (others_of (shapes_of (map shape qs)))) (drop-none items i past)) ∙ same

-- how many there are
abbrev size : Trees → ℕ
size no_more = 0
size (also t ts) = suc (size ts)

size-trees : (ts : List Tree) → size (trees_of ts) ≡ length ts
size-trees [] = refl
size-trees (t ∷ ts) = omega (arith, size-trees ts)

value-or-not : (p : Pattern) (numbers : Option (ℕ × ℕ)) (ts : Trees) (ps : List Pattern) (n : ℕ) → size ts + length ps ≡ n
    → size (with_value p numbers ts) + length (with_pattern p numbers ps) ≡ suc n
value-or-not p None ts ps n e = omega (arith, e)
value-or-not p (Some m) ts ps n e = omega (arith, e)

all-or-some : (qs : List Shape) → size (others_of (shapes_of qs)) + length (atoms_in (shapes_of qs)) ≡ length qs
all-or-some [] = refl
all-or-some (atom a ∷ qs) = value-or-not (pattern_of a) (numbers_in a) (others_of (shapes_of qs)) (atoms_in (shapes_of qs)) (length qs) (all-or-some qs)
all-or-some (all rs ∷ qs) = omega (arith, all-or-some qs)
all-or-some (any rs ∷ qs) = omega (arith, all-or-some qs)
all-or-some (negated r ∷ qs) = omega (arith, all-or-some qs)

all-others : (ps : List Pattern) (ts : Trees) → length ps ≡ 0 → 0 < size ts → all_plan ps ts ≡ all_of ts
all-others [] no_more e l = absurd (omega arith)
all-others [] (also t ts) e l = refl
all-others (p ∷ ps) ts e l = absurd (omega (arith, e))

some-atoms : (ps : List Pattern) (ts : Trees) → 0 < length ps → 0 < size ts → all_plan ps ts ≡ all_of (also (found (found_of (joint_pattern ps))) ts)
some-atoms [] ts e l = absurd (omega (arith, e))
some-atoms (p ∷ ps) no_more e l = absurd (omega arith)
some-atoms (p ∷ ps) (also t ts) e l = refl

no-others : (ps : List Pattern) (ts : Trees) → size ts ≡ 0 → all_plan ps ts ≡ found (found_of (joint_pattern ps))
no-others [] no_more e = refl
no-others (p ∷ ps) no_more e = refl
no-others ps (also t ts) e = absurd (omega (arith, e))

module _ (qs : List Shape) (ts : List Tree) (others : trees_of ts ≡ others_of (shapes_of qs)) where
  pub atoms_alone : (r : Tree) (f : FoundTree) → length ts ≡ 0 → f ≡ found_of (joint_pattern (atoms_in (shapes_of qs))) → r ≡ found f → r ≡ plan_of (all (shapes_of qs))
  atoms_alone r f e h g =
      g ∙ ap found h
      ∙ sym (no-others (atoms_in (shapes_of qs)) (others_of (shapes_of qs)) (sym (ap size others) ∙ size-trees ts ∙ e))

  pub others_alone : (r : Tree) → 0 < length ts → length ts ≡ length qs → r ≡ all_of (trees_of ts) → r ≡ plan_of (all (shapes_of qs))
  others_alone r l e g =
      let s : size (others_of (shapes_of qs)) ≡ length ts = sym (ap size others) ∙ size-trees ts in
      g ∙ ap all_of others
      ∙ sym (all-others (atoms_in (shapes_of qs)) (others_of (shapes_of qs)) (omega (arith, all-or-some qs, s, e)) (omega (arith, s, l)))

  pub atoms_and_others : (r : Tree) (f : FoundTree) → 0 < length ts → (length ts ≡ length qs → ⊥) → f ≡ found_of (joint_pattern (atoms_in (shapes_of qs)))
      → r ≡ all_of (trees_of (found f ∷ ts)) → r ≡ plan_of (all (shapes_of qs))
  atoms_and_others r f l n h g =
      let s : size (others_of (shapes_of qs)) ≡ length ts = sym (ap size others) ∙ size-trees ts in
      g ∙ ap (λ t. all_of (also t (trees_of ts))) (ap found h)
      ∙ ap (λ os. all_of (also (found (found_of (joint_pattern (atoms_in (shapes_of qs))))) os)) others
      ∙ sym (some-atoms (atoms_in (shapes_of qs)) (others_of (shapes_of qs)) (omega (arith, all-or-some qs, s, n)) (omega (arith, s, l)))

-- a list that is not empty
pub some_items : (n k : ℕ) (b : Bool) → b ≡ nat_eq n 0 → b ≡ false → n ≡ k → 0 < k
some_items n k b e is len = grind (arith, nat_tests)
