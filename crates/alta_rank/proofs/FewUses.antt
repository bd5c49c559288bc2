-- A query that is read has no more uses than its tokens have words.
use Rattle.std.proofs.Common.{◌≡◌, ℕ, ◌+◌, ◌≤◌, true, false, List, [], ◌∷◌, ◌++◌, length, refl, sym, subst, arith, length-append}
use Rattle.std.specs.Prelude.{Some}
use Rattle.std.proofs.lemmas.List.{length-map}
use Rattle.alta_machine.specs.Shape.{Side, Lone, words, prefix, name, value, lone, Shape, shapes_of, all_of, any_of}
use Rattle.alta_machine.specs.Token.{Token, close_paren, and_word, or_word, operand, side_of, weight, total_weight}
use Rattle.alta_machine.specs.Grammar.{IsUnary, alone, two_sides, behind_not, in_parens, IsAnd, first_unary, beside_and, behind_and, IsOr, first_and, behind_or, ReadsQuery}
use Rattle.alta_query.proofs.Complete.{total_weight-append}
use Rattle.alta_machine.specs.Uses.{use_of, atom_uses, uses_of, uses_in}

-- how many uses some queries have
abbrev count_in : List Shape → ℕ
count_in qs = length (uses_in (shapes_of qs))

in_push : (qs : List Shape) (q : Shape) → count_in (qs ++ q ∷ []) ≡ count_in qs + length (uses_of q)
in_push [] q = omega (arith, length-append (uses_of q) [])
in_push (r ∷ qs) q =
    omega (
      arith,
      length-append (uses_of r) (uses_in (shapes_of (qs ++ q ∷ []))),
      length-append (uses_of r) (uses_in (shapes_of qs)),
      in_push qs q,
    )

of_all : (qs : List Shape) → length (uses_of (all_of qs)) ≡ count_in qs
of_all [] = refl
of_all (q ∷ []) = omega (arith, length-append (uses_of q) [])
of_all (q ∷ r ∷ qs) = refl

of_any : (qs : List Shape) → length (uses_of (any_of qs)) ≡ count_in qs
of_any [] = refl
of_any (q ∷ []) = omega (arith, length-append (uses_of q) [])
of_any (q ∷ r ∷ qs) = refl

lone_few : (a : Lone) → length (atom_uses (lone a)) ≤ weight (operand a)
lone_few (words title text tests) = omega (arith, length-map tests (use_of title))
lone_few (prefix title text test) = omega arith
lone_few (name text) = omega arith
lone_few (value low high) = omega arith

side_weight : (a : Lone) (l : Side) → side_of a ≡ Some l → weight (operand a) ≡ 1
side_weight (words true text tests) l h = absurd (cc)
side_weight (words false text []) l h = absurd (cc)
side_weight (words false text (test ∷ [])) l h = refl
side_weight (words false text (test ∷ second ∷ tests)) l h = absurd (cc)
side_weight (prefix true text test) l h = absurd (cc)
side_weight (prefix false text test) l h = refl
side_weight (name text) l h = absurd (cc)
side_weight (value low high) l h = absurd (cc)

mutual
  unary_few : {d : ℕ} {ts : List Token} {q : Shape} → IsUnary d ts q → length (uses_of q) ≤ total_weight ts
  unary_few (alone {a = a}) = omega (arith, lone_few a)
  unary_few (two_sides {a = a} {b = b} {l = l} {r = r} x y) = omega (arith, side_weight a l x, side_weight b r y)
  unary_few (behind_not x) = omega arith
  unary_few (in_parens {ts = ts} {qs = qs} x) = omega (arith, total_weight-append ts (close_paren ∷ []), or_few x, of_any qs)

  and_few : {d : ℕ} {ts : List Token} {qs : List Shape} → IsAnd d ts qs → count_in qs ≤ total_weight ts
  and_few (first_unary {q = q} x) = omega (arith, unary_few x, length-append (uses_of q) [])
  and_few (beside_and {ts = ts} {us = us} {qs = qs} {q = q} x y) = omega (arith, total_weight-append ts us, in_push qs q, and_few x, unary_few y)
  and_few (behind_and {ts = ts} {us = us} {qs = qs} {q = q} x y) = omega (arith, total_weight-append ts (and_word ∷ us), in_push qs q, and_few x, unary_few y)

  or_few : {d : ℕ} {ts : List Token} {qs : List Shape} → IsOr d ts qs → count_in qs ≤ total_weight ts
  or_few (first_and {rs = rs} x) = omega (arith, and_few x, of_all rs, length-append (uses_of (all_of rs)) [])
  or_few (behind_or {ts = ts} {us = us} {qs = qs} {rs = rs} x y) = omega (arith, total_weight-append ts (or_word ∷ us), in_push qs (all_of rs), of_all rs, or_few x, and_few y)

pub read_few : (ts : List Token) (q : Shape) → ReadsQuery ts q → length (uses_of q) ≤ 64
read_few ts q reads =
    subst (λ x. length (uses_of x) ≤ 64) (sym reads.is_any) (omega (arith, of_any reads.members, or_few reads.spelled, reads.few_words))
