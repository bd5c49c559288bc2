-- The order of answers: by falling score, then by rising number.
use Rattle.std.specs.Prelude.{ℕ, cond, List, [], ◌∷◌}
use Rattle.std.specs.Ordering.{is_lt, nat_cmp, on, flip_args, then_cmp}
use Rattle.std.specs.declared.cmp.Ordering.{Ordering}
use Rattle.alta_machine.specs.declared.scored.Scored.{Scored}

abbrev pub number_of : Scored → ℕ
number_of answer = answer.number

abbrev pub by_rank : Scored → Scored → Ordering
by_rank = then_cmp (flip_args (on (λ s. s.score) nat_cmp)) (on (λ s. s.number) nat_cmp)

-- an answer behind those that come before it
unfoldable pub placed : Scored → List Scored → List Scored
placed a [] = a ∷ []
placed a (b ∷ bs) = cond (is_lt (by_rank b a)) (b ∷ placed a bs) (a ∷ b ∷ bs)

-- the answers in their order
unfoldable pub ranked : List Scored → List Scored
ranked [] = []
ranked (a ∷ answers) = placed a (ranked answers)
