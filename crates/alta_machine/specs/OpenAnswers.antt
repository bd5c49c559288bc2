-- Open cursors: their numbers, the answers still to come, and what opening, fetching and closing make of them.
use Rattle.std.specs.Prelude.{◌≡◌, ℕ, zero, suc, ◌+◌, ◌<◌, ◌≤◌, ◌==◌, not, Bool, if◌then◌else◌, List, [], ◌∷◌, ◌++◌, map, filter, drop, length, Option, Some, None, IsSome}
use Rattle.std.specs.List.{list_any}
use Rattle.alta_machine.specs.declared.document.Document.{Document}

-- an open cursor: its number, and the answers to its query that are still to come
pub record OpenAnswers : Type 0 where
  pub number : ℕ
  pub left : List Document

-- ---- numbers

abbrev pub number_of : OpenAnswers → ℕ
number_of c = c.number

-- whether the number is one of these
abbrev pub is_taken : ℕ → List ℕ → Bool
is_taken number numbers = list_any (λ n. n == number) numbers

-- the first number from this one on that is none of these; so many are tried, and then it is the next one
abbrev pub first_free : ℕ → ℕ → List ℕ → ℕ
first_free zero number numbers = number
first_free (suc tries) number numbers = if is_taken number numbers
    then first_free tries (number + 1) numbers else number

-- the least number from 1 on that no open cursor has: it is at most one more than they are
abbrev pub least_free : List OpenAnswers → ℕ
least_free cursors = first_free (length cursors) 1 (map number_of cursors)

-- ---- what the commands do

-- the answers still to come of the cursor with this number
abbrev pub left_of : ℕ → List OpenAnswers → Option (List Document)
left_of number [] = None
left_of number (c ∷ cs) = if c.number == number then Some c.left else left_of number cs

-- one cursor more, of the least free number, with these answers to come
abbrev pub with_opened : List Document → List OpenAnswers → List OpenAnswers
with_opened documents cursors = cursors ++ record { number = least_free cursors; left = documents } ∷ []

-- a cursor, with so many answers taken off if it has this number
abbrev pub fetched : ℕ → ℕ → OpenAnswers → OpenAnswers
fetched number count c = if c.number == number then record { number = c.number; left = drop count c.left } else c

-- so many answers taken off from the cursor with this number
abbrev pub with_fetched : ℕ → ℕ → List OpenAnswers → List OpenAnswers
with_fetched number count cursors = map (fetched number count) cursors

-- the cursors that have another number
abbrev pub without_cursor : ℕ → List OpenAnswers → List OpenAnswers
without_cursor number cursors = filter (λ c. not (c.number == number)) cursors

-- the number is the least from 1 on that no open cursor has
pub record IsLeastFree (number : ℕ) (cursors : List OpenAnswers) : Type 0 where
  pub from_one : 1 ≤ number
  pub free : left_of number cursors ≡ None
  pub least : (n : ℕ) → 1 ≤ n → n < number → IsSome (left_of n cursors)
