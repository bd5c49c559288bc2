-- Laws of a run: of the bytes and lines that were taken in it, up to a limit.
use Rattle.std.proofs.lemmas.Grind.{common_steps}
use Rattle.std.proofs.Common.{◌≡◌, ℕ, ◌+◌, ◌-◌, ◌<◌, ◌≤◌, ◌⊎◌, inl, inr, zero, suc, Bool, true, false, if◌then◌else◌, List, [], ◌∷◌, ◌++◌, length, take, refl, ap, sym, ◌∙◌, append_assoc, append-nil, length-append, arith, nat_le}
use Rattle.alta_console.specs.declared.event.Event.{Event}
use Rattle.alta_console.specs.declared.event.Event.TheVariants.{Taken, Ended, Given}
use Rattle.alta_console.specs.Giving.{AllGiven}
use Rattle.alta_console.specs.Lines.{whole, lines_of}
use Rattle.alta_console.specs.Transcript.{taken_in, taken_within, has_ended, lines_in, TakesAt}
use Rattle.alta_console.proofs.Laws.{taken_in_append}

-- gives take nothing, and don't end the input
pub given_takes_none : (events : List Event) → AllGiven events → taken_in events ≡ []
given_takes_none [] p = refl
given_takes_none (Given piece ∷ events) p = given_takes_none events p
given_takes_none (Taken piece ∷ events) p = absurd p
given_takes_none (Ended ∷ events) p = absurd p

pub given_ends_none : (events : List Event) → AllGiven events → has_ended events ≡ false
given_ends_none [] p = refl
given_ends_none (Given piece ∷ events) p = given_ends_none events p
given_ends_none (Taken piece ∷ events) p = absurd p
given_ends_none (Ended ∷ events) p = absurd p

pub given_takes_at : (events : List Event) (k : ℕ) → AllGiven events → TakesAt events k → ⊥
given_takes_at [] k p t = t
given_takes_at (Given piece ∷ events) zero p t = t
given_takes_at (Given piece ∷ events) (suc k) p t = given_takes_at events k p t
given_takes_at (Taken piece ∷ events) k p t = p
given_takes_at (Ended ∷ events) k p t = p

-- an end that was taken stays, and before it the later events say
pub ended_append : (xs ys : List Event) → has_ended xs ≡ false → has_ended (xs ++ ys) ≡ has_ended ys
ended_append [] ys p = refl
ended_append (Given piece ∷ xs) ys p = ended_append xs ys p
ended_append (Taken piece ∷ xs) ys p = ended_append xs ys p
ended_append (Ended ∷ xs) ys p = cc

-- a take in two runs, one behind the other, is in one of them
pub takes_in : (xs ys : List Event) (k : ℕ) → TakesAt (xs ++ ys) k → (TakesAt xs k × (take k (xs ++ ys) ≡ take k xs)) ⊎ ((j : ℕ) × TakesAt ys j × (take k (xs ++ ys) ≡ xs ++ take j ys))
takes_in [] ys k t = inr (k, t, refl)
takes_in (Given piece ∷ xs) ys zero t = absurd t
takes_in (Taken piece ∷ xs) ys zero t = inl (tt, refl)
takes_in (Ended ∷ xs) ys zero t = inl (tt, refl)
takes_in (x ∷ xs) ys (suc k) t =
    elim (takes_in xs ys k t) as (λ _. (TakesAt (x ∷ xs) (suc k) × (take (suc k) ((x ∷ xs) ++ ys) ≡ take (suc k) (x ∷ xs))) ⊎ ((j : ℕ) × TakesAt ys j × (take (suc k) ((x ∷ xs) ++ ys) ≡ (x ∷ xs) ++ take j ys)))
    [ inl here ↦ inl (here.0, ap (λ (l : List Event). x ∷ l) here.1) | inr there ↦ inr (there.0, there.1, ap (λ (l : List Event). x ∷ l) there.2) ]

pub takes_later : (event : Event) (events : List Event) (k : ℕ) → TakesAt (event ∷ events) (suc k) → TakesAt events k
takes_later (Given piece) events k t = t
takes_later (Taken piece) events k t = t
takes_later Ended events k t = t

le_true : (a b : ℕ) → a ≤ b → nat_le a b ≡ true
le_true a b l = grind (arith, common_steps)

le_false : (a b : ℕ) → b < a → nat_le a b ≡ false
le_false a b l = grind (arith, common_steps)

-- a run that is within the limit goes on
pub within_append : (limit : ℕ) (xs ys : List Event) → length (taken_in xs) ≤ limit → taken_within limit (xs ++ ys) ≡ taken_in xs ++ taken_within (limit - length (taken_in xs)) ys
within_append limit [] ys l = let same : limit ≡ limit - 0 = omega arith in ap (λ (n : ℕ). taken_within n ys) same
within_append limit (Given piece ∷ xs) ys l = within_append limit xs ys l
within_append limit (Ended ∷ xs) ys l = within_append limit xs ys l
within_append limit (Taken piece ∷ xs) ys l =
    let long : length (piece ++ taken_in xs) ≡ length piece + length (taken_in xs) = length-append piece (taken_in xs) in
    let fits : nat_le (length piece) limit ≡ true = le_true (length piece) limit (omega (arith, long)) in
    let left : (limit - length piece) - length (taken_in xs) ≡ limit - length (piece ++ taken_in xs) = omega (arith, long) in
    ap (λ (b : Bool). if b then piece ++ taken_within (limit - length piece) (xs ++ ys) else []) fits
    ∙ ap (λ (t : List ℕ). piece ++ t) (within_append (limit - length piece) xs ys (omega (arith, long)) ∙ ap (λ (n : ℕ). taken_in xs ++ taken_within n ys) left)
    ∙ sym (append_assoc piece (taken_in xs) (taken_within (limit - length (piece ++ taken_in xs)) ys))

-- within the limit nothing is left out
pub within_all : (limit : ℕ) (run : List Event) → length (taken_in run) ≤ limit → taken_within limit run ≡ taken_in run
within_all limit run l = ap (λ (r : List Event). taken_within limit r) (sym (append-nil run)) ∙ within_append limit run [] l ∙ append-nil (taken_in run)

-- the piece that passes the limit is left out
pub within_past : (limit : ℕ) (run : List Event) (piece : List ℕ) → length (taken_in run) ≤ limit → limit < length (taken_in run) + length piece → taken_within limit (run ++ Taken piece ∷ []) ≡ taken_in run
within_past limit run piece l past =
    let no : nat_le (length piece) (limit - length (taken_in run)) ≡ false = le_false (length piece) (limit - length (taken_in run)) (omega arith) in
    within_append limit run (Taken piece ∷ []) l ∙ ap (λ (b : Bool). taken_in run ++ (if b then piece ++ [] else [])) no ∙ append-nil (taken_in run)

-- the lines of a run whose input has not ended, and of one whose input has
pub open_lines : (limit : ℕ) (run : List Event) (bytes : List ℕ) → has_ended run ≡ false → taken_within limit run ≡ bytes → lines_in limit run ≡ whole bytes
open_lines limit run bytes not_ended taken = ap (λ (b : Bool). if b then lines_of (taken_within limit run) else whole (taken_within limit run)) not_ended ∙ ap whole taken

pub ended_lines : (limit : ℕ) (run : List Event) (bytes : List ℕ) → has_ended run ≡ true → taken_within limit run ≡ bytes → lines_in limit run ≡ lines_of bytes
ended_lines limit run bytes ended taken = ap (λ (b : Bool). if b then lines_of (taken_within limit run) else whole (taken_within limit run)) ended ∙ ap lines_of taken

-- a piece that passes the limit adds none
pub lines_past : (limit : ℕ) (run : List Event) (piece : List ℕ) → has_ended run ≡ false → length (taken_in run) ≤ limit → limit < length (taken_in run) + length piece → lines_in limit (run ++ Taken piece ∷ []) ≡ lines_in limit run
lines_past limit run piece not_ended within past =
    open_lines limit (run ++ Taken piece ∷ []) (taken_in run) (ended_append run (Taken piece ∷ []) not_ended) (within_past limit run piece within past)
    ∙ sym (open_lines limit run (taken_in run) not_ended (within_all limit run within))

-- what a run has taken after one more piece, and gives
pub taken_on : (run gives : List Event) (piece : List ℕ) → AllGiven gives → taken_in (run ++ Taken piece ∷ gives) ≡ taken_in run ++ piece
taken_on run gives piece given = taken_in_append run (Taken piece ∷ gives) ∙ ap (λ (l : List ℕ). taken_in run ++ (piece ++ l)) (given_takes_none gives given) ∙ ap (λ (l : List ℕ). taken_in run ++ l) (append-nil piece)
