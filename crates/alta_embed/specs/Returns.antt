-- What a caller that is not Rattle gets: two numbers, and bytes in a room.
use Rattle.std.specs.Prelude.{◌≡◌, ℕ, ℤ, pos, List, take, Result, Ok, Err}
use Rattle.alta_embed.specs.Answers.{Answers, PutsIn}
use Rattle.alta_embed.specs.Refusals.{code_of, detail_of}
use Rattle.alta_embed.specs.declared.refusal.Refusal.{Refusal}

-- the number of bytes, or the code of the refusal
abbrev pub returned : Result ℕ Refusal → ℤ
returned (Ok n) = pos n
returned (Err refusal) = code_of refusal

-- 0, or what goes with the refusal
abbrev pub detailed : Result ℕ Refusal → ℕ
detailed (Ok n) = 0
detailed (Err refusal) = detail_of refusal

-- The lines were answered into the room, or refused, and the two numbers say which.
pub record Returns (index lines room room_now : List ℕ) (number : ℤ) (detail : ℕ) : Type 0 where
  pub result : Result ℕ Refusal
  pub answers : Answers index lines (λ (n : ℕ). take n room_now) result
  pub puts : PutsIn room room_now result
  pub number_is : number ≡ returned result
  pub detail_is : detail ≡ detailed result
