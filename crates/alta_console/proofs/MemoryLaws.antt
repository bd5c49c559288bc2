-- What the proofs of the console in memory use.
use Rattle.std.proofs.Common.{◌≡◌, ℕ, ◌+◌, ◌<◌, ◌≤◌, inl, inr, List, ◌++◌, length, take, drop, ap, sym, ◌∙◌, arith}
use Rattle.std.proofs.lemmas.Bool.{cases_lt}
use Rattle.std.proofs.lemmas.List.{take_at, drop-drop, drop_all, take-append-drop}
use Rattle.alta_console.specs.declared.event.Event.{Event}
use Rattle.alta_console.specs.Transcript.{given_in}
use Rattle.alta_console.proofs.Laws.{given_in_append}

-- what is copied to the front of a buffer is what came first of the input
pub copied_first : (input buffer copied : List ℕ) (at n : ℕ) → copied ≡ take n (drop at input) → length copied ≡ n → drop at input ≡ take n (copied ++ drop n buffer) ++ drop (at + n) input
copied_first input buffer copied at n first long = sym (ap (λ (l : List ℕ). l ++ drop (at + n) input) (take_at copied (drop n buffer) n long ∙ first) ∙ ap (λ (l : List ℕ). take n (drop at input) ++ l) (sym (drop-drop n at input)) ∙ take-append-drop n (drop at input))

-- what was given in a transcript that has grown
pub given_in_grown : (old new more : List Event) (bytes : List ℕ) → new ≡ old ++ more → given_in more ≡ bytes → given_in new ≡ given_in old ++ bytes
given_in_grown old new more bytes grown gave = ap given_in grown ∙ given_in_append old more ∙ ap (λ (l : List ℕ). given_in old ++ l) gave

-- the sizes still to come after one was used
pub next_sizes : (sizes : List ℕ) (turn now : ℕ) → turn ≤ now → (turn < length sizes → now ≡ turn + 1) → now ≤ length sizes → drop now sizes ≡ drop 1 (drop turn sizes)
next_sizes sizes turn now later next within =
    elim (cases_lt turn (length sizes)) [
      | inl l ↦ ap (λ (n : ℕ). drop n sizes) (next l) ∙ sym (drop-drop 1 turn sizes)
      | inr past ↦ drop_all now sizes (omega arith) ∙ sym (ap (λ (l : List ℕ). drop 1 l) (drop_all turn sizes past))
    ]
