-- A query that is read has two members at least in each And and Or.
use Rattle.std.proofs.Common.{ℕ, ◌≤◌, List, [], ◌∷◌, ◌++◌, length, sym, subst, arith, length-append}
use Rattle.std.specs.List.{All}
use Rattle.std.proofs.lemmas.List.Elements.{All-nil, All-cons, All-head, All-tail, All-push}
use Rattle.alta_machine.specs.Shape.{Shape, shapes_of, all_of, any_of}
use Rattle.alta_machine.specs.Token.{Token}
use Rattle.alta_machine.specs.Grammar.{IsUnary, alone, two_sides, behind_not, in_parens, IsAnd, first_unary, beside_and, behind_and, IsOr, first_and, behind_or, ReadsQuery}
use Rattle.alta_machine.specs.Matches.{HasMembers, HaveMembers}

-- some queries, each of which has members
record AreSome (qs : List Shape) : Type 0 where
  some : 1 ≤ length qs
  each : All HasMembers qs

shapes_have : (qs : List Shape) → All HasMembers qs → HaveMembers (shapes_of qs)
shapes_have [] each = tt
shapes_have (q ∷ qs) each = (All-head HasMembers q qs each, shapes_have qs (All-tail HasMembers q qs each))

all_has : (qs : List Shape) → AreSome qs → HasMembers (all_of qs)
all_has [] are = absurd (omega (arith, are.some))
all_has (q ∷ []) are = All-head HasMembers q [] are.each
all_has (q ∷ r ∷ qs) are = (omega arith, shapes_have (q ∷ r ∷ qs) are.each)

any_has : (qs : List Shape) → AreSome qs → HasMembers (any_of qs)
any_has [] are = absurd (omega (arith, are.some))
any_has (q ∷ []) are = All-head HasMembers q [] are.each
any_has (q ∷ r ∷ qs) are = (omega arith, shapes_have (q ∷ r ∷ qs) are.each)

one : (q : Shape) → HasMembers q → AreSome (q ∷ [])
one q has = record { some = omega arith; each = All-cons HasMembers q [] has (All-nil HasMembers) }

one_more : (qs : List Shape) (q : Shape) → AreSome qs → HasMembers q → AreSome (qs ++ q ∷ [])
one_more qs q are has = record { some = omega (arith, length-append qs (q ∷ [])); each = All-push HasMembers qs q are.each has }

mutual
  unary_has : {d : ℕ} {ts : List Token} {q : Shape} → IsUnary d ts q → HasMembers q
  unary_has alone = tt
  unary_has (two_sides l r) = tt
  unary_has (behind_not x) = unary_has x
  unary_has (in_parens {qs = qs} x) = any_has qs (or_has x)

  and_has : {d : ℕ} {ts : List Token} {qs : List Shape} → IsAnd d ts qs → AreSome qs
  and_has (first_unary {q = q} x) = one q (unary_has x)
  and_has (beside_and {qs = qs} {q = q} x y) = one_more qs q (and_has x) (unary_has y)
  and_has (behind_and {qs = qs} {q = q} x y) = one_more qs q (and_has x) (unary_has y)

  or_has : {d : ℕ} {ts : List Token} {qs : List Shape} → IsOr d ts qs → AreSome qs
  or_has (first_and {rs = rs} x) = one (all_of rs) (all_has rs (and_has x))
  or_has (behind_or {qs = qs} {rs = rs} x y) = one_more qs (all_of rs) (or_has x) (all_has rs (and_has y))

pub read_has : (ts : List Token) (q : Shape) → ReadsQuery ts q → HasMembers q
read_has ts q reads = subst HasMembers (sym reads.is_any) (any_has reads.members (or_has reads.spelled))
