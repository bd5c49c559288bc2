-- What a console's calls did, in order.
-- A take past the limit is the last: `taken_within` stops at its piece, and leaves out what follows.
use Rattle.std.specs.Prelude.{◌≡◌, ℕ, zero, suc, ◌-◌, Bool, true, false, if◌then◌else◌, nat_le, List, [], ◌∷◌, ◌++◌, Option, length}
use Rattle.std.specs.Option.{option_map}
use Rattle.alta_console.specs.declared.event.Event.{Event}
use Rattle.alta_console.specs.declared.event.Event.TheVariants.{Taken, Ended, Given}
use Rattle.alta_console.specs.Lines.{whole, lines_of}

-- the bytes given, joined
abbrev pub given_in : List Event → List ℕ
given_in [] = []
given_in (Taken piece ∷ events) = given_in events
given_in (Ended ∷ events) = given_in events
given_in (Given piece ∷ events) = piece ++ given_in events

-- the bytes taken, joined
abbrev pub taken_in : List Event → List ℕ
taken_in [] = []
taken_in (Taken piece ∷ events) = piece ++ taken_in events
taken_in (Ended ∷ events) = taken_in events
taken_in (Given piece ∷ events) = taken_in events

-- the bytes taken, joined, up to the piece that brings them past the limit, and without it
abbrev pub taken_within : ℕ → List Event → List ℕ
taken_within limit [] = []
taken_within limit (Taken piece ∷ events) = if nat_le (length piece) limit
    then piece ++ taken_within (limit - length piece) events else []
taken_within limit (Ended ∷ events) = taken_within limit events
taken_within limit (Given piece ∷ events) = taken_within limit events

-- the end of the input was taken
abbrev pub has_ended : List Event → Bool
has_ended [] = false
has_ended (Ended ∷ events) = true
has_ended (Taken piece ∷ events) = has_ended events
has_ended (Given piece ∷ events) = has_ended events

-- the lines taken: those that end at a newline, and a last one that does not once the input has ended
abbrev pub lines_in : ℕ → List Event → List (List ℕ)
lines_in limit events = if has_ended events then lines_of (taken_within limit events)
    else whole (taken_within limit events)

-- the event at this place is a take
abbrev pub TakesAt : List Event → ℕ → Type 0
TakesAt [] k = ⊥
TakesAt (Taken piece ∷ events) zero = Unit {0}
TakesAt (Ended ∷ events) zero = Unit {0}
TakesAt (Given piece ∷ events) zero = ⊥
TakesAt (event ∷ events) (suc k) = TakesAt events k

-- A transcript goes on by these events, where it is told. A console that tells none begins none.
abbrev pub Grows : Option (List Event) → Option (List Event) → List Event → Type 0
Grows old new events = new ≡ option_map (λ (told : List Event). told ++ events) old

-- Of an input that is told, these bytes came first, and the rest is left.
abbrev pub Consumes : Option (List ℕ) → Option (List ℕ) → List ℕ → Type 0
Consumes old new bytes = old ≡ option_map (λ (left : List ℕ). bytes ++ left) new
