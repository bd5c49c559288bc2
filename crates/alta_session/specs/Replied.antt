-- The replies to lines, whatever the disk stands for.
use Rattle.std.specs.Prelude.{◌≡◌, ◌<◌, ◌≤◌, ℕ, List, [], ◌∷◌, ◌++◌, length, take}
use Rattle.std.specs.List.{concat}
use Rattle.alta_console.specs.Lines.{whole}
use Rattle.alta_console.specs.Transcript.{given_in, taken_in, TakesAt}
use Rattle.alta_console.specs.declared.event.Event.{Event}
use Rattle.alta_machine.specs.Machine.{Machine, step}
use Rattle.alta_session.specs.Spending.{OnlyReads}

-- What was given is these texts, the replies to the first of the lines, and then a part of the next reply.
pub record GivesReplies (lines : List (List ℕ)) (given : List ℕ) : Type 0 where
  pub texts : List (List ℕ)
  pub part : List ℕ
  pub within : length texts ≤ length lines
  pub given_is : given ≡ concat texts ++ part

-- Each line is answered with the machine's reply that may change the index. Of the reply to any other line nothing is said here. What was
-- given of the next reply is less than the whole.
abbrev pub AreRepliesTo : Machine → List (List ℕ) → List (List ℕ) → List ℕ → Type 0
AreRepliesTo m [] [] part = part ≡ []
AreRepliesTo m [] (text ∷ texts) part = ⊥
AreRepliesTo m (line ∷ lines) [] part = ¬ (OnlyReads line) → (left : List ℕ)
    × ((step m line).1 ≡ part ++ left) × (0 < length left)
AreRepliesTo m (line ∷ lines) (text ∷ texts) part = (¬ (OnlyReads line) → text ≡ (step m line).1)
    × AreRepliesTo (step m line).0 lines texts part

-- All that was given in these events is the first of the texts, one for each whole line that was taken.
pub record IsAnswered (texts : List (List ℕ)) (events : List Event) : Type 0 where
  pub each_one : length (whole (taken_in events)) ≤ length texts
  pub given_is : given_in events ≡ concat (take (length (whole (taken_in events))) texts)

-- at each take, each whole line taken so far was answered
abbrev pub AreInTime : List (List ℕ) → List Event → Type 0
AreInTime texts run = (k : ℕ) → TakesAt run k → IsAnswered texts (take k run)
