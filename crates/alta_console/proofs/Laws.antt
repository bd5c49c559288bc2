-- Laws of transcripts: what was given and taken in one that goes on.
use Rattle.std.proofs.Common.{◌≡◌, ℕ, List, [], ◌∷◌, ◌++◌, Option, Some, None, refl, ap, sym, ◌∙◌, append_assoc, append-nil}
use Rattle.std.specs.Option.{option_map}
use Rattle.alta_console.specs.declared.event.Event.{Event}
use Rattle.alta_console.specs.declared.event.Event.TheVariants.{Taken, Ended, Given}
use Rattle.alta_console.specs.Transcript.{given_in, taken_in, Grows, Consumes}

pub given_in_append : (xs ys : List Event) → given_in (xs ++ ys) ≡ given_in xs ++ given_in ys
given_in_append [] ys = refl
given_in_append (Taken piece ∷ xs) ys = given_in_append xs ys
given_in_append (Ended ∷ xs) ys = given_in_append xs ys
given_in_append (Given piece ∷ xs) ys = ap (λ (l : List ℕ). piece ++ l) (given_in_append xs ys) ∙ sym (append_assoc piece (given_in xs) (given_in ys))

pub taken_in_append : (xs ys : List Event) → taken_in (xs ++ ys) ≡ taken_in xs ++ taken_in ys
taken_in_append [] ys = refl
taken_in_append (Given piece ∷ xs) ys = taken_in_append xs ys
taken_in_append (Ended ∷ xs) ys = taken_in_append xs ys
taken_in_append (Taken piece ∷ xs) ys = ap (λ (l : List ℕ). piece ++ l) (taken_in_append xs ys) ∙ sym (append_assoc piece (taken_in xs) (taken_in ys))

-- a transcript goes on by no event, and by two runs
pub grows_none : (told : Option (List Event)) → Grows told told []
grows_none None = refl
grows_none (Some events) = ap Some (sym (append-nil events))

pub grows_on : (a b c : Option (List Event)) (xs ys : List Event) → Grows a b xs → Grows b c ys → Grows a c (xs ++ ys)
grows_on None b c xs ys p q = q ∙ ap (λ (o : Option (List Event)). option_map (λ (told : List Event). told ++ ys) o) p
grows_on (Some old) b c xs ys p q = (q ∙ ap (λ (o : Option (List Event)). option_map (λ (told : List Event). told ++ ys) o) p) ∙ ap Some (append_assoc old xs ys)

-- an input is consumed by no byte, and by two pieces
pub consumes_none : (left : Option (List ℕ)) → Consumes left left []
consumes_none None = refl
consumes_none (Some bytes) = refl

pub consumes_on : (a b c : Option (List ℕ)) (xs ys : List ℕ) → Consumes a b xs → Consumes b c ys → Consumes a c (xs ++ ys)
consumes_on a b None xs ys p q = p ∙ ap (λ (o : Option (List ℕ)). option_map (λ (left : List ℕ). xs ++ left) o) q
consumes_on a b (Some rest) xs ys p q = (p ∙ ap (λ (o : Option (List ℕ)). option_map (λ (left : List ℕ). xs ++ left) o) q) ∙ ap Some (sym (append_assoc xs ys rest))
