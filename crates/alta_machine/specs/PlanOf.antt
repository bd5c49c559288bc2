-- The plan of a query.
use Rattle.std.specs.Prelude.{ℕ, zero, suc, List, [], ◌∷◌, ◌++◌, length, map, Option, Some, None}
use Rattle.alta_machine.specs.Patterns.{Bound, Pattern, pattern_of, numbers_in, range_pattern}
use Rattle.alta_machine.specs.Shape.{Shape, Shapes, atom, all, any, negated, none, more}
use Rattle.alta_machine.specs.Covers.{cover_of}
use Rattle.alta_machine.specs.declared.range.Range.{Range}
use Rattle.alta_codec.specs.Inequality.{Inequality, upper, lower}
use Rattle.alta_codec.specs.declared.form.Form.TheVariants.{LocLoc}
use Rattle.alta_machine.specs.Joined.{joint_pattern}
use Rattle.alta_machine.specs.Plans.{FoundTree, Tree, found, all_of, any_of, without, Trees, no_more, also, trees_of}

-- n variables behind variable 0 lie in the document
unfoldable pub held : ℕ → List Inequality
held zero = []
held (suc n) = held n ++ upper (suc n) ∷ lower (suc n) ∷ []

-- a bound between places as one between variables: variable 0 is the end, so that test i has variable i + 1
abbrev pub between : Bound → Inequality
between b = record { form = LocLoc; i = suc b.first; j = suc b.second; plus = b.ahead; minus = b.behind }

-- the plan of a pattern
abbrev pub found_of : Pattern → FoundTree
found_of p = record { tests = p.tests; bounds = held (length p.tests) ++ map between p.bounds }

-- the plan of a range
abbrev pub range_plan : Range → Tree
range_plan range = found (found_of (range_pattern range))

-- what one of these finds; of one alone it is that one
abbrev pub either_of : List Tree → Tree
either_of [] = any_of no_more
either_of (t ∷ []) = t
either_of (t ∷ next ∷ ts) = any_of (trees_of (t ∷ next ∷ ts))

-- the plan of an atom: of a value what one of the ranges finds that cover its numbers, of any other what its pattern finds
abbrev pub atom_plan : Pattern → Option (ℕ × ℕ) → Tree
atom_plan pattern None = found (found_of pattern)
atom_plan pattern (Some numbers) = either_of (map range_plan (cover_of numbers.0 numbers.1))

-- the pattern of an atom that is no value, before others
abbrev pub with_pattern : Pattern → Option (ℕ × ℕ) → List Pattern → List Pattern
with_pattern pattern None patterns = pattern ∷ patterns
with_pattern pattern (Some numbers) patterns = patterns

-- the plan of an atom that is a value, before others
abbrev pub with_value : Pattern → Option (ℕ × ℕ) → Trees → Trees
with_value pattern None plans = plans
with_value pattern (Some numbers) plans = also (atom_plan pattern (Some numbers)) plans

-- the patterns of the members that are atoms, but for values
abbrev pub atoms_in : Shapes → List Pattern
atoms_in none = []
atoms_in (more (atom a) qs) = with_pattern (pattern_of a) (numbers_in a) (atoms_in qs)
atoms_in (more (all rs) qs) = atoms_in qs
atoms_in (more (any rs) qs) = atoms_in qs
atoms_in (more (negated r) qs) = atoms_in qs

-- all atoms of an and but its values make one Found; it is the plan where there is no other member, else the first part
abbrev pub all_plan : List Pattern → Trees → Tree
all_plan ps no_more = found (found_of (joint_pattern ps))
all_plan [] (also t ts) = all_of (also t ts)
all_plan (p ∷ ps) (also t ts) = all_of (also (found (found_of (joint_pattern (p ∷ ps)))) (also t ts))

abbrev mutual
  pub plan_of : Shape → Tree
  plan_of (atom a) = atom_plan (pattern_of a) (numbers_in a)
  plan_of (all qs) = all_plan (atoms_in qs) (others_of qs)
  plan_of (any qs) = any_of (plans_of qs)
  plan_of (negated q) = without (plan_of q)

  pub plans_of : Shapes → Trees
  plans_of none = no_more
  plans_of (more q qs) = also (plan_of q) (plans_of qs)

  -- the plans of the members that are values or no atoms
  pub others_of : Shapes → Trees
  others_of none = no_more
  others_of (more (atom a) qs) = with_value (pattern_of a) (numbers_in a) (others_of qs)
  others_of (more (all rs) qs) = also (plan_of (all rs)) (others_of qs)
  others_of (more (any rs) qs) = also (plan_of (any rs)) (others_of qs)
  others_of (more (negated r) qs) = also (plan_of (negated r)) (others_of qs)
