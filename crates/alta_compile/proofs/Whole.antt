-- The plan of a query that was read has a part in each AllOf and each AnyOf.
use Rattle.std.proofs.Common.{ℕ, ◌^◌, ◌<◌, ◌≤◌, List, [], ◌∷◌, ◌++◌, length, map, subst, sym, arith, length-append, Option, Some, None}
use Rattle.std.specs.Prelude.{All, MatchOption}
use Rattle.std.proofs.lemmas.List.Elements.{All-nil, All-cons, All-head, All-tail, All-push}
use Rattle.alta_machine.specs.Grammar.{IsUnary, alone, two_sides, behind_not, in_parens, IsAnd, first_unary, beside_and, behind_and, IsOr, first_and, behind_or, ReadsQuery}
use Rattle.alta_machine.specs.Matches.{HasOrderedValues, HaveOrderedValues}
use Rattle.alta_machine.specs.Patterns.{Pattern, pattern_of, numbers_in}
use Rattle.alta_machine.specs.Shape.{Shape, Shapes, atom, all, any, negated, none, more, shapes_of, all_of as all_shape, any_of as any_shape}
use Rattle.alta_machine.specs.Token.{Token}
use Rattle.alta_machine.specs.PlanOf.{range_plan, either_of, atom_plan, with_value, plan_of, plans_of, others_of, atoms_in, all_plan}
use Rattle.alta_machine.specs.Covers.{Covers, cover_of}
use Rattle.alta_machine.specs.declared.range.Range.{Range}
use Rattle.alta_machine.proofs.Made.{cover_covers}
use Rattle.alta_machine.specs.Plans.{Trees, no_more, also, trees_of}
use Rattle.alta_compile.specs.Whole.{IsWhole, AreWhole}

-- each And and each Or has a member
abbrev HasMember : Shapes → Type 0
HasMember none = ⊥
HasMember (more q qs) = Unit {0}

abbrev mutual
  IsFilled : Shape → Type 0
  IsFilled (atom a) = Unit {0}
  IsFilled (all qs) = HasMember qs × AreFilled qs
  IsFilled (any qs) = HasMember qs × AreFilled qs
  IsFilled (negated q) = IsFilled q

  AreFilled : Shapes → Type 0
  AreFilled none = Unit {0}
  AreFilled (more q qs) = IsFilled q × AreFilled qs

-- one member at least, and each is filled
record AreMembers (qs : List Shape) : Type 0 where
  pub some : 0 < length qs
  pub filled : All IsFilled qs

filled_each : (qs : List Shape) → All IsFilled qs → AreFilled (shapes_of qs)
filled_each [] h = tt
filled_each (q ∷ qs) h = (All-head IsFilled q qs h, filled_each qs (All-tail IsFilled q qs h))

all_filled : (qs : List Shape) → AreMembers qs → IsFilled (all_shape qs)
all_filled [] m = absurd (omega (arith, m.some))
all_filled (q ∷ []) m = All-head IsFilled q [] m.filled
all_filled (q ∷ r ∷ qs) m = (tt, filled_each (q ∷ r ∷ qs) m.filled)

any_filled : (qs : List Shape) → AreMembers qs → IsFilled (any_shape qs)
any_filled [] m = absurd (omega (arith, m.some))
any_filled (q ∷ []) m = All-head IsFilled q [] m.filled
any_filled (q ∷ r ∷ qs) m = (tt, filled_each (q ∷ r ∷ qs) m.filled)

one_member : (q : Shape) → IsFilled q → AreMembers (q ∷ [])
one_member q h = record { some = omega arith; filled = All-cons IsFilled q [] h (All-nil IsFilled) }

more_members : (qs : List Shape) (q : Shape) → AreMembers qs → IsFilled q → AreMembers (qs ++ q ∷ [])
more_members qs q m h = record { some = omega (arith, length-append qs (q ∷ []), m.some); filled = All-push IsFilled qs q m.filled h }

mutual
  unary_filled : {d : ℕ} {ts : List Token} {q : Shape} → IsUnary d ts q → IsFilled q
  unary_filled alone = tt
  unary_filled (two_sides l r) = tt
  unary_filled (behind_not x) = unary_filled x
  unary_filled (in_parens {qs = qs} x) = any_filled qs (or_filled x)

  and_filled : {d : ℕ} {ts : List Token} {qs : List Shape} → IsAnd d ts qs → AreMembers qs
  and_filled (first_unary {q = q} x) = one_member q (unary_filled x)
  and_filled (beside_and {qs = qs} {q = q} x y) = more_members qs q (and_filled x) (unary_filled y)
  and_filled (behind_and {qs = qs} {q = q} x y) = more_members qs q (and_filled x) (unary_filled y)

  or_filled : {d : ℕ} {ts : List Token} {qs : List Shape} → IsOr d ts qs → AreMembers qs
  or_filled (first_and {rs = rs} x) = one_member (all_shape rs) (all_filled rs (and_filled x))
  or_filled (behind_or {qs = qs} {rs = rs} x y) = more_members qs (all_shape rs) (or_filled x) (all_filled rs (and_filled y))

all_whole : (ps : List Pattern) (ts : Trees) → AreWhole ts → IsWhole (all_plan ps ts)
all_whole [] no_more w = tt
all_whole (p ∷ ps) no_more w = tt
all_whole [] (also t ts) w = (tt, w)
all_whole (p ∷ ps) (also t ts) w = (tt, (tt, w))

ranges_whole : (ranges : List Range) → AreWhole (trees_of (map range_plan ranges))
ranges_whole [] = tt
ranges_whole (r ∷ ranges) = (tt, ranges_whole ranges)

-- a cover of numbers in order has a range
either_whole : (ranges : List Range) (low high : ℕ) → low ≤ high → Covers low high ranges → IsWhole (either_of (map range_plan ranges))
either_whole [] low high le covers = absurd (omega (arith, covers))
either_whole (r ∷ []) low high le covers = tt
either_whole (r ∷ next ∷ ranges) low high le covers = (tt, ranges_whole (r ∷ next ∷ ranges))

abbrev AreInOrder : Option (ℕ × ℕ) → Type 0
AreInOrder numbers = MatchOption numbers (Unit {0}) (λ n. (n.0 ≤ n.1) × (n.1 < 2 ^ 32))

value_whole : (p : Pattern) (numbers : Option (ℕ × ℕ)) → AreInOrder numbers → IsWhole (atom_plan p numbers)
value_whole p None o = tt
value_whole p (Some n) o = either_whole (cover_of n.0 n.1) n.0 n.1 o.0 (cover_covers n.0 n.1 o.1)

with_whole : (p : Pattern) (numbers : Option (ℕ × ℕ)) (ts : Trees) → AreInOrder numbers → AreWhole ts → AreWhole (with_value p numbers ts)
with_whole p None ts o w = w
with_whole p (Some n) ts o w = (value_whole p (Some n) o, w)

mutual
  filled_whole : (q : Shape) → IsFilled q → HasOrderedValues q → IsWhole (plan_of q)
  filled_whole (atom a) f o = value_whole (pattern_of a) (numbers_in a) o
  filled_whole (all qs) f o = all_whole (atoms_in qs) (others_of qs) (others_whole qs f.1 o)
  filled_whole (any none) f o = absurd f.0
  filled_whole (any (more q qs)) f o = (tt, (filled_whole q f.1.0 o.0, plans_whole qs f.1.1 o.1))
  filled_whole (negated q) f o = filled_whole q f o

  plans_whole : (qs : Shapes) → AreFilled qs → HaveOrderedValues qs → AreWhole (plans_of qs)
  plans_whole none f o = tt
  plans_whole (more q qs) f o = (filled_whole q f.0 o.0, plans_whole qs f.1 o.1)

  others_whole : (qs : Shapes) → AreFilled qs → HaveOrderedValues qs → AreWhole (others_of qs)
  others_whole none f o = tt
  others_whole (more (atom a) qs) f o = with_whole (pattern_of a) (numbers_in a) (others_of qs) o.0 (others_whole qs f.1 o.1)
  others_whole (more (all rs) qs) f o = (filled_whole (all rs) f.0 o.0, others_whole qs f.1 o.1)
  others_whole (more (any rs) qs) f o = (filled_whole (any rs) f.0 o.0, others_whole qs f.1 o.1)
  others_whole (more (negated r) qs) f o = (filled_whole (negated r) f.0 o.0, others_whole qs f.1 o.1)

pub read_whole : (ts : List Token) (q : Shape) → ReadsQuery ts q → HasOrderedValues q → IsWhole (plan_of q)
read_whole ts q r o = filled_whole q (subst IsFilled (sym r.is_any) (any_filled r.members (or_filled r.spelled))) o
