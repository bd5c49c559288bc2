-- Damage that lines find behind the opening, and places that they want.
use Rattle.std.specs.Prelude.{◌⊎◌, ℕ, List, [], ◌∷◌}
use Rattle.alta_meaning.specs.Broken.{IsBrokenAmong}
use Rattle.alta_loading.specs.Loads.{IsFirstFault}
use Rattle.alta_machine.specs.declared.document.State.{State}
use Rattle.alta_machine.specs.Lines.{Reading, reading_of}
use Rattle.alta_session.specs.Joining.{FindsNoPlace, joins_where}
use Rattle.alta_replies.specs.Loading.{loads_in, newest_in}
use Rattle.alta_machine.specs.Machine.{started_at}
use Rattle.alta_session.specs.Tasks.{task_in}
use Rattle.alta_store.specs.Agreement.{KeepsOpened, Knows, levels_of}
use Rattle.alta_store.specs.declared.store.Store.{Store}

-- A line that is read so finds damage at this place, over a store that goes on with what the image is opened as: it is the first fault of
-- the lists that the line loads, where so many cursors are open, or that of a list of a level that it joins.
pub record FindsDamage (image : List ℕ) (reading : Reading) (place : ℕ) : Type 0 where
  pub store : Store
  pub holds : KeepsOpened store image
  pub state : State
  pub knows : Knows store state
  pub many : ℕ
  pub found : IsFirstFault image (loads_in (levels_of store) (newest_in store) many reading) place
      ⊎ IsBrokenAmong (joins_where store (task_in (started_at state) reading)) image place

-- the first of these lines is read as what has P
abbrev pub ReadsFirst : (Reading → Type 0) → List (List ℕ) → Type 0
ReadsFirst P [] = ⊥
ReadsFirst P (line ∷ lines) = P (reading_of line)

-- the first of these lines finds damage at this place
abbrev pub FirstFindsDamage : List ℕ → List (List ℕ) → ℕ → Type 0
FirstFindsDamage image lines place = ReadsFirst (λ (reading : Reading). FindsDamage image reading place) lines

-- A line that is read so wants a place, over a store that goes on with what the image is opened as: its task's work on that, and on the
-- lists that stand there, needs so many bytes, where the greatest gap has that many.
pub record WantsPlace (limit : ℕ) (image : List ℕ) (reading : Reading) (need gap : ℕ) : Type 0 where
  pub store : Store
  pub holds : KeepsOpened store image
  pub state : State
  pub knows : Knows store state
  pub lacks : FindsNoPlace limit image store (task_in (started_at state) reading) holds.opened need gap

-- the first of these lines wants one
abbrev pub FirstWantsPlace : ℕ → List ℕ → List (List ℕ) → ℕ → ℕ → Type 0
FirstWantsPlace limit image lines need gap =
    ReadsFirst (λ (reading : Reading). WantsPlace limit image reading need gap) lines
