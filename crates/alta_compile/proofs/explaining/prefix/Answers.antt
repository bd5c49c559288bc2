use Rattle.std.proofs.Common.{◌≡◌, ℕ, List, [], ◌∷◌, length, get_or, drop, refl, ap, ◌∙◌, arith}
use Rattle.std.specs.Int.{w32, from_be_bytes}
use Rattle.alta_compile.proofs.explaining.prefix.Goals as goal

last_four : (term : List ℕ) → length term ≡ 7 → get_or term 3 0 ∷ get_or term 4 0 ∷ get_or term 5 0 ∷ get_or term 6 0 ∷ [] ≡ drop 3 term
last_four [] h = absurd (omega (arith, h))
last_four (a ∷ []) h = absurd (omega (arith, h))
last_four (a ∷ b ∷ []) h = absurd (omega (arith, h))
last_four (a ∷ b ∷ c ∷ []) h = absurd (omega (arith, h))
last_four (a ∷ b ∷ c ∷ d ∷ []) h = absurd (omega (arith, h))
last_four (a ∷ b ∷ c ∷ d ∷ e ∷ []) h = absurd (omega (arith, h))
last_four (a ∷ b ∷ c ∷ d ∷ e ∷ f ∷ []) h = absurd (omega (arith, h))
last_four (a ∷ b ∷ c ∷ d ∷ e ∷ f ∷ g ∷ []) h = refl
last_four (a ∷ b ∷ c ∷ d ∷ e ∷ f ∷ g ∷ x ∷ xs) h = absurd (omega (arith, h))

pub returns : goal.returns
returns c = c.from_be_bytes.ensures ∙ ap (from_be_bytes w32) (last_four c.args.term.now c.requires)
