-- Open cursors as they stand in memory, in words of documents.
use Rattle.std.specs.Prelude.{◌≡◌, ◌≢◌, ◌↔◌, ℕ, ◌+◌, ◌<◌, ◌≤◌, ◌==◌, IsTrue, if◌then◌else◌, List, [], ◌∷◌, map, take, drop, length, All, AllPairs, Option, Some, None, IsNone}
use Rattle.alta_compile.specs.Space.{Placed}
use Rattle.alta_compile.specs.View.{tree}
use Rattle.alta_machine.specs.declared.document.Document.{Document}
use Rattle.alta_search.specs.Documents.{AreToCome}
use Rattle.alta_machine.specs.Searching.{told}
use Rattle.alta_search.specs.Answers.{coming, first_end}
use Rattle.alta_search.specs.Plans.{IsOneFound, lists, locations, locations_below}
use Rattle.alta_search.specs.Readers.{Each}
use Rattle.alta_search.specs.View.{Shows}
use Rattle.alta_cursors.specs.View.{CursorView}
use Rattle.alta_cursors.specs.declared.cursors.OpenCursor.{OpenCursor}
use Rattle.alta_machine.specs.declared.cursors.TheConstants.{CURSORS}
use Rattle.alta_search.specs.declared.page.Page.{Page}
use Rattle.alta_machine.specs.OpenAnswers.{OpenAnswers, left_of, with_fetched}

abbrev pub cursor_number : OpenCursor → ℕ
cursor_number c = c.number

-- the numbers of open cursors: each is from 1 to the greatest number of open cursors, and no two are the same
pub record AreNumbers (numbers : List ℕ) : Type 0 where
  pub within : All (λ n. (1 ≤ n) × (n ≤ CURSORS)) numbers
  pub different : AllPairs (λ a b. a ≢ b) numbers

-- the answers of a cursor that are still to come are these documents
abbrev pub AreLeft : CursorView → List Document → Type 0
AreLeft cursor left = AreToCome (tree cursor.plan) cursor.snapshot cursor.from left

pub record IsOpen (cursor : OpenCursor) (answers : OpenAnswers) : Type 0 where
  pub number : cursor.number ≡ answers.number
  pub left : AreLeft cursor.cursor answers.left

-- the cursors have these numbers, one after the other, and these answers still to come
abbrev pub AreOpen : List OpenCursor → List OpenAnswers → Type 0
AreOpen cursors answers = Each IsOpen cursors answers

-- the page has the first of the answers still to come, so many at most, and tells whether some are left behind them
pub record IsPageOf (count : ℕ) (left : List Document) (page : Page) : Type 0 where
  pub answers : page.answers ≡ map told (take count left)
  pub more : IsTrue page.more ↔ (0 < length (drop count left))

-- the end of the first answer that a page of so many leaves behind it
abbrev pub end_left : List Placed → ℕ → CursorView → ℕ
end_left space count cursor = first_end (drop count (coming space (tree cursor.plan) cursor.snapshot cursor.from))

-- Of one Found, a page of so many answers at most behind which more are left takes at most a step a list, and one a location below
-- the end of the first that is left.
abbrev pub AreLazySteps : ℕ → CursorView → Page → ℕ → ℕ → Type 0
AreLazySteps count cursor page before after =
    (space : List Placed) → Shows space cursor.snapshot → IsOneFound (tree cursor.plan) → IsTrue page.more
    → after ≤ before + lists cursor.snapshot.cuts + locations_below (end_left space count cursor) cursor.snapshot.cuts

-- there is a page of the answers still to come exactly where a cursor has the number
abbrev pub IsFetched : ℕ → Option (List Document) → Option Page → Type 0
IsFetched count None None = Unit {0}
IsFetched count None (Some page) = ⊥
IsFetched count (Some left) None = ⊥
IsFetched count (Some left) (Some page) = IsPageOf count left page

-- a fetch finds this, and leaves these cursors
pub record IsFetch (number count : ℕ) (old new : List OpenCursor) (found : Option Page) : Type 0 where
  pub page : (all : List OpenAnswers) → AreOpen old all → IsFetched count (left_of number all) found
  pub left : (all : List OpenAnswers) → AreOpen old all → AreOpen new (with_fetched number count all)
  pub none : IsNone found → new ≡ old

-- the lists of the cursor with this number, and the locations in them
abbrev pub work_of : ℕ → List OpenCursor → ℕ
work_of number [] = 0
work_of number (c ∷ cs) = if c.number == number then locations c.cursor.snapshot.cuts + lists c.cursor.snapshot.cuts
    else work_of number cs
