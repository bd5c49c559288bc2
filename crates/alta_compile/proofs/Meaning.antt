-- A document's end is in the list of a query's plan exactly where the document matches the query.
use Rattle.std.proofs.Common.{◌⊎◌, ⊎_elim, inl, inr, ℕ, length, List, [], ◌∷◌, map, sym, subst, Option, Some, None}
use Rattle.std.specs.Prelude.{Contains, ◌↔◌, MatchOption}
use Rattle.alta_docread.specs.KeptLaws.{less-has}
use Rattle.alta_machine.specs.Patterns.{Pattern, Satisfies, SatisfiesOne, pattern_of, numbers_in, range_pattern, value_patterns}
use Rattle.alta_machine.specs.Shape.{Atom, Shape, Shapes, atom, all, any, negated, none, more}
use Rattle.alta_machine.specs.Matches.{Matches, AllMatch, AnyMatches}
use Rattle.alta_machine.specs.Covers.{cover_of}
use Rattle.alta_machine.specs.declared.range.Range.{Range}
use Rattle.alta_compile.specs.Space.{Placed, IsSpace, end_of, ends_of}
use Rattle.alta_machine.specs.Joined.{joint_pattern, SatisfiesEach}
use Rattle.alta_machine.specs.Plans.{Tree, found, all_of, any_of, without, Trees, no_more, also, trees_of}
use Rattle.alta_compile.specs.Listing.{plan_list, plan_lists}
use Rattle.alta_machine.specs.PlanOf.{found_of, range_plan, either_of, atom_plan, with_pattern, with_value, atoms_in, all_plan, plan_of, plans_of, others_of}
use Rattle.alta_compile.proofs.Joins.{AreNamed, EachNamed, joined_satisfies, joined_named, pattern_named}
use Rattle.alta_compile.proofs.Parts.{common-both, union-nil, union-both, common-one}
use Rattle.alta_compile.proofs.Spaces.{Has, end-in}
use Rattle.alta_compile.proofs.Solved.{found_satisfies}

pub each_named : (atoms : List Atom) → EachNamed (map pattern_of atoms)
each_named [] = tt
each_named (a ∷ atoms) = (pattern_named a, each_named atoms)

with_named : (p : Pattern) (numbers : Option (ℕ × ℕ)) (ps : List Pattern) → AreNamed (length p.tests) p.bounds → EachNamed ps → EachNamed (with_pattern p numbers ps)
with_named p None ps h k = (h, k)
with_named p (Some n) ps h k = k

pub atoms_named : (qs : Shapes) → EachNamed (atoms_in qs)
atoms_named none = tt
atoms_named (more (atom a) qs) = with_named (pattern_of a) (numbers_in a) (atoms_in qs) (pattern_named a) (atoms_named qs)
atoms_named (more (all rs) qs) = atoms_named qs
atoms_named (more (any rs) qs) = atoms_named qs
atoms_named (more (negated r) qs) = atoms_named qs

module _ (space : List Placed) (s : IsSpace space) (d : Placed) (m : Has space d) where
  -- the document's end is in the plan's list
  abbrev pub In : Tree → Type 0
  In t = Contains (plan_list space t) (end_of d)

  abbrev pub InEach : Trees → Type 0
  InEach no_more = Unit {0}
  InEach (also t ts) = In t × InEach ts

  -- one atom
  pub atom_law : (a : Atom) → In (found (found_of (pattern_of a))) ↔ Satisfies d.cells (pattern_of a)
  atom_law a = found_satisfies space s d m (pattern_of a) (pattern_named a)

  -- a list of atoms as one Found
  pub atoms_law : (ps : List Pattern) → EachNamed ps → In (found (found_of (joint_pattern ps))) ↔ SatisfiesEach d.cells ps
  atoms_law ps n =
      let one = found_satisfies space s d m (joint_pattern ps) (joined_named ps n) in let each = joined_satisfies ps d.cells n in
      (λ h. each.0 (one.0 h), λ h. one.1 (each.1 h))

  -- all parts of one at least
  pub all_law : (t : Tree) (ts : Trees) → In (all_of (also t ts)) ↔ InEach (also t ts)
  all_law t no_more = (
    λ h. (subst (λ x. Contains x (end_of d)) (common-one (plan_list space t)) h, tt),
    λ (h, k). subst (λ x. Contains x (end_of d)) (sym (common-one (plan_list space t))) h,
  )
  all_law t (also u ts) =
      let both = common-both (plan_list space t) (plan_list space u) (plan_lists space ts) (end_of d) in let rest = all_law u ts in
      (λ h. ((both.0 h).0, rest.0 (both.0 h).1), λ (h, k). both.1 (h, rest.1 k))

  -- some part
  pub any_law : (t : Tree) (ts : Trees) → In (any_of (also t ts)) ↔ (In t ⊎ In (any_of ts))
  any_law t ts = union-both (plan_list space t) (plan_lists space ts) (end_of d)

  pub none_law : In (any_of no_more) → ⊥
  none_law h = union-nil (end_of d) h

  -- one of some ranges
  range_law : (r : Range) → In (range_plan r) ↔ Satisfies d.cells (range_pattern r)
  range_law r = found_satisfies space s d m (range_pattern r) tt

  ranges_law : (ranges : List Range) → In (any_of (trees_of (map range_plan ranges))) ↔ SatisfiesOne d.cells (map range_pattern ranges)
  ranges_law [] = (λ k. none_law k, λ k. absurd k)
  ranges_law (r ∷ ranges) =
      let here = range_law r in let rest = ranges_law ranges in let both = any_law (range_plan r) (trees_of (map range_plan ranges)) in (
        λ k. ⊎_elim (λ l. inl (here.0 l)) (λ o. inr (rest.0 o)) (both.0 k),
        λ k. both.1 (⊎_elim (λ l. inl (here.1 l)) (λ o. inr (rest.1 o)) k),
      )

  either_law : (ranges : List Range) → In (either_of (map range_plan ranges)) ↔ SatisfiesOne d.cells (map range_pattern ranges)
  either_law [] = (λ k. none_law k, λ k. absurd k)
  either_law (r ∷ []) = let here = range_law r in (λ k. inl (here.0 k), λ k. here.1 (⊎_elim (λ l. l) (λ n. absurd n) k))
  either_law (r ∷ next ∷ ranges) = ranges_law (r ∷ next ∷ ranges)

  -- an atom, a value or not
  abbrev Asked : Pattern → Option (ℕ × ℕ) → Type 0
  Asked p numbers = MatchOption numbers (Satisfies d.cells p) (λ n. SatisfiesOne d.cells (value_patterns n.0 n.1))

  value_law : (p : Pattern) → AreNamed (length p.tests) p.bounds → (numbers : Option (ℕ × ℕ)) → In (atom_plan p numbers) ↔ Asked p numbers
  value_law p named None = found_satisfies space s d m p named
  value_law p named (Some n) = either_law (cover_of n.0 n.1)

  -- it before the other members of an and
  atom_first : (p : Pattern) → AreNamed (length p.tests) p.bounds → (numbers : Option (ℕ × ℕ)) (ps : List Pattern) (ts : Trees) (qs : Shapes) → (SatisfiesEach d.cells ps × InEach ts) ↔ AllMatch d.cells qs
      → (SatisfiesEach d.cells (with_pattern p numbers ps) × InEach (with_value p numbers ts)) ↔ (Asked p numbers × AllMatch d.cells qs)
  atom_first p named None ps ts qs rest = (λ ((h, k), l). (h, rest.0 (k, l)), λ (h, k). let (a, b) = rest.1 k in ((h, a), b))
  atom_first p named (Some n) ps ts qs rest =
      let here = value_law p named (Some n) in
      (λ (k, (l, o)). (here.0 l, rest.0 (k, o)), λ (k, l). let (a, b) = rest.1 l in (a, (here.1 k, b)))

  -- not the part
  pub not_law : (t : Tree) → In (without t) ↔ (In t → ⊥)
  not_law t =
      let law = less-has (ends_of space) (plan_list space t) (end_of d) in
      (λ k n. (law.0 k).1 n, λ k. law.1 (end-in space s d m, k))

  -- the atoms of an and as one Found, and the other parts
  and_law : (ps : List Pattern) → EachNamed ps → (ts : Trees) → In (all_plan ps ts) ↔ (SatisfiesEach d.cells ps × InEach ts)
  and_law ps n no_more = let one = atoms_law ps n in (λ h. (one.0 h, tt), λ (h, k). one.1 h)
  and_law [] n (also t ts) = let parts = all_law t ts in (λ h. (tt, parts.0 h), λ (h, k). parts.1 k)
  and_law (p ∷ ps) n (also t ts) =
      let one = atoms_law (p ∷ ps) n in let parts = all_law (found (found_of (joint_pattern (p ∷ ps)))) (also t ts) in
      (λ h. let (a, b) = parts.0 h in (one.0 a, b), λ (h, k). parts.1 (one.1 h, k))

  mutual
    -- the whole tree
    pub plan_matches : (q : Shape) → In (plan_of q) ↔ Matches d.cells q
    plan_matches (atom a) = value_law (pattern_of a) (pattern_named a) (numbers_in a)
    plan_matches (all qs) =
        let one = and_law (atoms_in qs) (atoms_named qs) (others_of qs) in let rest = all_match qs in
        (λ h. rest.0 (one.0 h), λ h. one.1 (rest.1 h))
    plan_matches (any qs) = any_match qs
    plan_matches (negated q) =
        let rest = plan_matches q in let law = not_law (plan_of q) in
        (λ k n. law.0 k (rest.1 n), λ k. law.1 (λ n. k (rest.0 n)))

    all_match : (qs : Shapes) → (SatisfiesEach d.cells (atoms_in qs) × InEach (others_of qs)) ↔ AllMatch d.cells qs
    all_match none = (λ h. tt, λ h. (tt, tt))
    all_match (more (atom a) qs) = atom_first (pattern_of a) (pattern_named a) (numbers_in a) (atoms_in qs) (others_of qs) qs (all_match qs)
    all_match (more (all rs) qs) =
        let here = plan_matches (all rs) in let rest = all_match qs in
        (λ (k, (l, n)). (here.0 l, rest.0 (k, n)), λ (k, l). let (a, b) = rest.1 l in (a, (here.1 k, b)))
    all_match (more (any rs) qs) =
        let here = plan_matches (any rs) in let rest = all_match qs in
        (λ (k, (l, n)). (here.0 l, rest.0 (k, n)), λ (k, l). let (a, b) = rest.1 l in (a, (here.1 k, b)))
    all_match (more (negated r) qs) =
        let here = plan_matches (negated r) in let rest = all_match qs in
        (λ (k, (l, n)). (here.0 l, rest.0 (k, n)), λ (k, l). let (a, b) = rest.1 l in (a, (here.1 k, b)))

    any_match : (qs : Shapes) → In (any_of (plans_of qs)) ↔ AnyMatches d.cells qs
    any_match none = (λ k. none_law k, λ k. absurd k)
    any_match (more q qs) =
        let here = plan_matches q in let rest = any_match qs in let both = any_law (plan_of q) (plans_of qs) in (
          λ k. ⊎_elim (λ l. inl (here.0 l)) (λ r. inr (rest.0 r)) (both.0 k),
          λ k. both.1 (⊎_elim (λ l. inl (here.1 l)) (λ r. inr (rest.1 r)) k),
        )
