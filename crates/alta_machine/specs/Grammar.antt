-- Which tokens spell which query.
use Rattle.std.specs.Prelude.{◌≡◌, ℕ, suc, ◌≤◌, List, [], ◌∷◌, ◌++◌, Some}
use Rattle.alta_machine.specs.Shape.{Lone, lone, near, Side, Shape, atom, negated, all_of, any_of}
use Rattle.alta_machine.specs.Token.{Token, open_paren, close_paren, and_word, or_word, not_word, near_word, operand, side_of, total_weight}

-- The number says how many more `(` and NOT may be open.
mutual
  pub data IsUnary : ℕ → List Token → Shape → Type 0 where
    alone : {d : ℕ} {a : Lone} → IsUnary d (operand a ∷ []) (atom (lone a))
    two_sides : {d : ℕ} {a b : Lone} {l r : Side} {k : ℕ} → side_of a ≡ Some l → side_of b ≡ Some r
        → IsUnary d (operand a ∷ near_word k ∷ operand b ∷ []) (atom (near l k r))
    behind_not : {d : ℕ} {ts : List Token} {q : Shape} → IsUnary d ts q → IsUnary (suc d) (not_word ∷ ts) (negated q)
    in_parens : {d : ℕ} {ts : List Token} {qs : List Shape} → IsOr d ts qs
        → IsUnary (suc d) (open_paren ∷ (ts ++ close_paren ∷ [])) (any_of qs)

  -- the members of an and
  pub data IsAnd : ℕ → List Token → List Shape → Type 0 where
    first_unary : {d : ℕ} {ts : List Token} {q : Shape} → IsUnary d ts q → IsAnd d ts (q ∷ [])
    beside_and : {d : ℕ} {ts us : List Token} {qs : List Shape} {q : Shape} → IsAnd d ts qs → IsUnary d us q
        → IsAnd d (ts ++ us) (qs ++ q ∷ [])
    behind_and : {d : ℕ} {ts us : List Token} {qs : List Shape} {q : Shape} → IsAnd d ts qs → IsUnary d us q
        → IsAnd d (ts ++ and_word ∷ us) (qs ++ q ∷ [])

  -- the members of an or
  pub data IsOr : ℕ → List Token → List Shape → Type 0 where
    first_and : {d : ℕ} {ts : List Token} {rs : List Shape} → IsAnd d ts rs → IsOr d ts (all_of rs ∷ [])
    behind_or : {d : ℕ} {ts us : List Token} {qs rs : List Shape} → IsOr d ts qs → IsAnd d us rs
        → IsOr d (ts ++ or_word ∷ us) (qs ++ all_of rs ∷ [])

-- the whole list of tokens spells the query
pub record ReadsQuery (ts : List Token) (q : Shape) : Type 0 where
  pub members : List Shape
  pub spelled : IsOr 32 ts members
  pub is_any : q ≡ any_of members
  pub few_words : total_weight ts ≤ 64
