-- The canonical tokens of a query that some tokens spell spell it too.
use Rattle.std.proofs.Common.{◌≡◌, ℕ, suc, ◌+◌, List, [], ◌∷◌, ◌++◌, refl, sym, ap, ◌∙◌, subst, Some, true, false, arith}
use Rattle.std.proofs.lemmas.List.{append_assoc, append-nil}
use Rattle.alta_machine.specs.Shape.{Side, word, stem, Lone, words, prefix, name, value, Atom, lone, near, Shape, Shapes, atom, all, any, negated, none, more, shapes_of, all_of, any_of}
use Rattle.alta_machine.specs.Token.{Token, close_paren, and_word, or_word, operand, side_of, weight, total_weight}
use Rattle.alta_machine.specs.Grammar.{IsUnary, alone, two_sides, behind_not, in_parens, IsAnd, first_unary, beside_and, behind_and, IsOr, first_and, behind_or, ReadsQuery}
use Rattle.alta_machine.specs.Canon.{is_any, is_compound, parens_if, of_side, canon, canon_all, canon_any, canon_behind_or}
use Rattle.alta_query.proofs.Complete.{total_weight-append}

-- one more may be open
mutual
  unary_deeper : {d : ℕ} {ts : List Token} {q : Shape} → IsUnary d ts q → IsUnary (suc d) ts q
  unary_deeper alone = alone
  unary_deeper (two_sides l r) = two_sides l r
  unary_deeper (behind_not x) = behind_not (unary_deeper x)
  unary_deeper (in_parens x) = in_parens (or_deeper x)

  and_deeper : {d : ℕ} {ts : List Token} {qs : List Shape} → IsAnd d ts qs → IsAnd (suc d) ts qs
  and_deeper (first_unary x) = first_unary (unary_deeper x)
  and_deeper (beside_and x y) = beside_and (and_deeper x) (unary_deeper y)
  and_deeper (behind_and x y) = behind_and (and_deeper x) (unary_deeper y)

  or_deeper : {d : ℕ} {ts : List Token} {qs : List Shape} → IsOr d ts qs → IsOr (suc d) ts qs
  or_deeper (first_and x) = first_and (and_deeper x)
  or_deeper (behind_or x y) = behind_or (or_deeper x) (and_deeper y)

-- the canonical tokens at the level of the query's own rule
abbrev Own : ℕ → Shape → Type 0
Own d (atom a) = IsUnary d (canon (atom a)) (atom a)
Own d (all qs) = (rs : List Shape) × IsAnd d (canon (all qs)) rs × (all qs ≡ all_of rs)
Own d (any qs) = (rs : List Shape) × IsOr d (canon (any qs)) rs × (any qs ≡ any_of rs)
Own d (negated q) = IsUnary d (canon (negated q)) (negated q)

abbrev unary_level : Shape → List Token
unary_level q = parens_if (is_compound q) (canon q)

abbrev and_level : Shape → List Token
and_level q = parens_if (is_any q) (canon q)

own_deeper : (d : ℕ) (q : Shape) → Own d q → Own (suc d) q
own_deeper d (atom a) x = unary_deeper x
own_deeper d (all qs) x = (x.0, and_deeper x.1, x.2)
own_deeper d (any qs) x = (x.0, or_deeper x.1, x.2)
own_deeper d (negated q) x = unary_deeper x

-- behind one more parenthesis
own_unary : (d : ℕ) (q : Shape) → Own d q → IsUnary (suc d) (unary_level q) q
own_unary d (atom a) x = unary_deeper x
own_unary d (all qs) x = subst (IsUnary (suc d) (unary_level (all qs))) (sym x.2) (in_parens (first_and x.1))
own_unary d (any qs) x = subst (IsUnary (suc d) (unary_level (any qs))) (sym x.2) (in_parens x.1)
own_unary d (negated q) x = unary_deeper x

record Unaried (d : ℕ) (q : Shape) : Type 0 where
  own : Own d q
  unary : IsUnary d (unary_level q) q

record Anded (d : ℕ) (q : Shape) : Type 0 where
  own : Own d q
  members : List Shape
  spelled : IsAnd d (and_level q) members
  is_all : q ≡ all_of members

anded : (d : ℕ) (q : Shape) → Unaried d q → Anded d q
anded d (atom a) x = record { own = x.own; members = atom a ∷ []; spelled = first_unary x.own; is_all = refl }
anded d (all qs) x = record { own = x.own; members = x.own.0; spelled = x.own.1; is_all = x.own.2 }
anded d (any qs) x = record { own = x.own; members = any qs ∷ []; spelled = first_unary x.unary; is_all = refl }
anded d (negated q) x = record { own = x.own; members = negated q ∷ []; spelled = first_unary x.own; is_all = refl }

-- each member of a list that is not empty
data Each (P : Shape → Type 0) : List Shape → Type 0 where
  one : {q : Shape} → P q → Each P (q ∷ [])
  next : {q : Shape} {qs : List Shape} → P q → Each P qs → Each P (q ∷ qs)

each_push : {P : Shape → Type 0} {qs : List Shape} {q : Shape} → Each P qs → P q → Each P (qs ++ q ∷ [])
each_push (one x) y = next x (one y)
each_push (next x xs) y = next x (each_push xs y)

-- the members of an and, one beside the other
and_join : {d : ℕ} {ts : List Token} {rs qs : List Shape} → IsAnd d ts rs → Each (Unaried d) qs → IsAnd d (ts ++ canon_all (shapes_of qs)) (rs ++ qs)
and_join {d = d} {ts = ts} {rs = rs} x (one {q = q} u) =
    subst (λ l. IsAnd d (ts ++ l) (rs ++ q ∷ [])) (sym (append-nil (unary_level q))) (beside_and x u.unary)
and_join {d = d} {ts = ts} {rs = rs} x (next {q = q} {qs = qs} u us) =
    let y = and_join (beside_and x u.unary) us in
    let e = append_assoc ts (unary_level q) (canon_all (shapes_of qs)) in
    let f = append_assoc rs (q ∷ []) qs in
    subst (λ l. IsAnd d (ts ++ (unary_level q ++ canon_all (shapes_of qs))) l) f (subst (λ l. IsAnd d l ((rs ++ q ∷ []) ++ qs)) e y)

and_members : {d : ℕ} {qs : List Shape} → Each (Unaried d) qs → IsAnd d (canon_all (shapes_of qs)) qs
and_members {d = d} (one {q = q} u) = subst (λ l. IsAnd d l (q ∷ [])) (sym (append-nil (unary_level q))) (first_unary u.unary)
and_members (next u us) = and_join (first_unary u.unary) us

or_first : {d : ℕ} {q : Shape} → Anded d q → IsOr d (and_level q) (q ∷ [])
or_first {d = d} {q = q} a = subst (λ x. IsOr d (and_level q) (x ∷ [])) (sym a.is_all) (first_and a.spelled)

or_next : {d : ℕ} {ts : List Token} {ps : List Shape} {q : Shape} → IsOr d ts ps → Anded d q → IsOr d (ts ++ or_word ∷ and_level q) (ps ++ q ∷ [])
or_next {d = d} {ts = ts} {ps = ps} {q = q} x a = subst (λ r. IsOr d (ts ++ or_word ∷ and_level q) (ps ++ r ∷ [])) (sym a.is_all) (behind_or x a.spelled)

or_join : {d : ℕ} {ts : List Token} {ps qs : List Shape} → IsOr d ts ps → Each (Anded d) qs → IsOr d (ts ++ canon_behind_or (shapes_of qs)) (ps ++ qs)
or_join {d = d} {ts = ts} {ps = ps} x (one {q = q} a) =
    subst (λ l. IsOr d (ts ++ or_word ∷ l) (ps ++ q ∷ [])) (sym (append-nil (and_level q))) (or_next x a)
or_join {d = d} {ts = ts} {ps = ps} x (next {q = q} {qs = qs} a more_of) =
    let y = or_join (or_next x a) more_of in
    let e = append_assoc ts (or_word ∷ and_level q) (canon_behind_or (shapes_of qs)) in
    let f = append_assoc ps (q ∷ []) qs in
    subst (λ l. IsOr d (ts ++ or_word ∷ (and_level q ++ canon_behind_or (shapes_of qs))) l) f (subst (λ l. IsOr d l ((ps ++ q ∷ []) ++ qs)) e y)

or_members : {d : ℕ} {qs : List Shape} → Each (Anded d) qs → IsOr d (canon_any (shapes_of qs)) qs
or_members {d = d} (one {q = q} a) = subst (λ l. IsOr d l (q ∷ [])) (sym (append-nil (and_level q))) (or_first a)
or_members (next a more_of) = or_join (or_first a) more_of

all_anded : {d : ℕ} {qs : List Shape} → Each (Unaried d) qs → Anded d (all_of qs)
all_anded {d = d} (one {q = q} u) = anded d q u
all_anded (next {q = q} u (one {q = r} v)) = record {
  own = (q ∷ r ∷ [], and_members (next u (one v)), refl);
  members = q ∷ r ∷ [];
  spelled = and_members (next u (one v));
  is_all = refl;
}
all_anded (next {q = q} u (next {q = r} {qs = rs} v vs)) = record {
  own = (q ∷ r ∷ rs, and_members (next u (next v vs)), refl);
  members = q ∷ r ∷ rs;
  spelled = and_members (next u (next v vs));
  is_all = refl;
}

any_own : {d : ℕ} {qs : List Shape} → Each (Anded d) qs → Own d (any_of qs)
any_own (one a) = a.own
any_own (next {q = q} a (one {q = r} b)) = (q ∷ r ∷ [], or_members (next a (one b)), refl)
any_own (next {q = q} a (next {q = r} {qs = rs} b bs)) = (q ∷ r ∷ rs, or_members (next a (next b bs)), refl)

-- a side of a NEAR, as it is spelled
side_again : (a : Lone) (l : Side) → side_of a ≡ Some l → side_of (of_side l) ≡ Some l
side_again (words true text tests) l h = absurd (cc)
side_again (words false text []) l h = absurd (cc)
side_again (words false text (test ∷ [])) l h = let e : word text test ≡ l = cc in subst (λ x. side_of (of_side x) ≡ Some x) e refl
side_again (words false text (test ∷ second ∷ tests)) l h = absurd (cc)
side_again (prefix true text test) l h = absurd (cc)
side_again (prefix false text test) l h = let e : stem text test ≡ l = cc in subst (λ x. side_of (of_side x) ≡ Some x) e refl
side_again (name text) l h = absurd (cc)
side_again (value low high) l h = absurd (cc)

mutual
  unary_canon : {d : ℕ} {ts : List Token} {q : Shape} → IsUnary d ts q → Unaried d q
  unary_canon alone = record { own = alone; unary = alone }
  unary_canon (two_sides {a = a} {b = b} {l = l} {r = r} x y) =
      record { own = two_sides (side_again a l x) (side_again b r y); unary = two_sides (side_again a l x) (side_again b r y) }
  unary_canon (behind_not x) = let u = unary_canon x in record { own = behind_not u.unary; unary = behind_not u.unary }
  unary_canon (in_parens {d = d} {qs = qs} x) =
      let o = any_own (or_canon x) in record { own = own_deeper d (any_of qs) o; unary = own_unary d (any_of qs) o }

  and_canon : {d : ℕ} {ts : List Token} {qs : List Shape} → IsAnd d ts qs → Each (Unaried d) qs
  and_canon (first_unary x) = one (unary_canon x)
  and_canon (beside_and x y) = each_push (and_canon x) (unary_canon y)
  and_canon (behind_and x y) = each_push (and_canon x) (unary_canon y)

  or_canon : {d : ℕ} {ts : List Token} {qs : List Shape} → IsOr d ts qs → Each (Anded d) qs
  or_canon (first_and x) = one (all_anded (and_canon x))
  or_canon (behind_or x y) = each_push (or_canon x) (all_anded (and_canon y))

own_or : (d : ℕ) (q : Shape) → Own d q → (ms : List Shape) × IsOr d (canon q) ms × (q ≡ any_of ms)
own_or d (atom a) x = (atom a ∷ [], first_and (first_unary x), refl)
own_or d (all qs) x = (all_of x.0 ∷ [], first_and x.1, x.2)
own_or d (any qs) x = x
own_or d (negated q) x = (negated q ∷ [], first_and (first_unary x), refl)

-- how many words a query has
abbrev atom_words : Atom → ℕ
atom_words (lone a) = weight (operand a)
atom_words (near l k r) = 2

abbrev mutual
  shape_words : Shape → ℕ
  shape_words (atom a) = atom_words a
  shape_words (all qs) = shapes_words qs
  shape_words (any qs) = shapes_words qs
  shape_words (negated q) = shape_words q

  shapes_words : Shapes → ℕ
  shapes_words none = 0
  shapes_words (more q qs) = shape_words q + shapes_words qs

words_push : (qs : List Shape) (q : Shape) → shapes_words (shapes_of (qs ++ q ∷ [])) ≡ shapes_words (shapes_of qs) + shape_words q
words_push [] q = omega arith
words_push (r ∷ qs) q = omega (arith, words_push qs q)

words_all : (qs : List Shape) → shape_words (all_of qs) ≡ shapes_words (shapes_of qs)
words_all [] = refl
words_all (q ∷ []) = omega arith
words_all (q ∷ r ∷ qs) = refl

words_any : (qs : List Shape) → shape_words (any_of qs) ≡ shapes_words (shapes_of qs)
words_any [] = refl
words_any (q ∷ []) = omega arith
words_any (q ∷ r ∷ qs) = refl

side_weight : (a : Lone) (l : Side) → side_of a ≡ Some l → weight (operand a) ≡ 1
side_weight (words true text tests) l h = absurd (cc)
side_weight (words false text []) l h = absurd (cc)
side_weight (words false text (test ∷ [])) l h = refl
side_weight (words false text (test ∷ second ∷ tests)) l h = absurd (cc)
side_weight (prefix true text test) l h = absurd (cc)
side_weight (prefix false text test) l h = refl
side_weight (name text) l h = absurd (cc)
side_weight (value low high) l h = absurd (cc)

mutual
  unary_words : {d : ℕ} {ts : List Token} {q : Shape} → IsUnary d ts q → total_weight ts ≡ shape_words q
  unary_words alone = omega arith
  unary_words (two_sides {a = a} {b = b} {l = l} {r = r} x y) = omega (arith, side_weight a l x, side_weight b r y)
  unary_words (behind_not x) = omega (arith, unary_words x)
  unary_words (in_parens {ts = ts} {qs = qs} x) = omega (arith, total_weight-append ts (close_paren ∷ []), or_words x, words_any qs)

  and_words : {d : ℕ} {ts : List Token} {qs : List Shape} → IsAnd d ts qs → total_weight ts ≡ shapes_words (shapes_of qs)
  and_words (first_unary x) = omega (arith, unary_words x)
  and_words (beside_and {ts = ts} {us = us} {qs = qs} {q = q} x y) = omega (arith, total_weight-append ts us, words_push qs q, and_words x, unary_words y)
  and_words (behind_and {ts = ts} {us = us} {qs = qs} {q = q} x y) = omega (arith, total_weight-append ts (and_word ∷ us), words_push qs q, and_words x, unary_words y)

  or_words : {d : ℕ} {ts : List Token} {qs : List Shape} → IsOr d ts qs → total_weight ts ≡ shapes_words (shapes_of qs)
  or_words (first_and {rs = rs} x) = omega (arith, and_words x, words_all rs)
  or_words (behind_or {ts = ts} {us = us} {qs = qs} {rs = rs} x y) = omega (arith, total_weight-append ts (or_word ∷ us), words_push qs (all_of rs), words_all rs, or_words x, and_words y)

-- the canonical tokens spell the query
pub canon_reads : (ts : List Token) (q : Shape) → ReadsQuery ts q → ReadsQuery (canon q) q
canon_reads ts q r =
    let own : Own 32 q = subst (Own 32) (sym r.is_any) (any_own (or_canon r.spelled)) in
    let x = own_or 32 q own in
    let a : total_weight (canon q) ≡ shapes_words (shapes_of x.0) = or_words x.1 in
    let b : shape_words q ≡ shapes_words (shapes_of x.0) = ap shape_words x.2 ∙ words_any x.0 in
    let c : total_weight ts ≡ shapes_words (shapes_of r.members) = or_words r.spelled in
    let d : shape_words q ≡ shapes_words (shapes_of r.members) = ap shape_words r.is_any ∙ words_any r.members in
    record { members = x.0; spelled = x.1; is_any = x.2; few_words = omega (arith, r.few_words) }
