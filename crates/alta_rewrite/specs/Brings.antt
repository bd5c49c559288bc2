-- What a root that is put means.
use Rattle.std.specs.Prelude.{◌≡◌, ◌⊎◌, List, ℕ}
use Rattle.alta_layout.specs.declared.slot.Slot.{Slot}
use Rattle.alta_meaning.specs.Known.{known_of}
use Rattle.alta_meaning.specs.Levels.{Level}
use Rattle.alta_meaning.specs.Opened.{Opened, IsNamed, IsOpened}
use Rattle.alta_meaning.specs.Ordered.{IsOrdered}
use Rattle.alta_meaning.specs.Standing.{view_of}
use Rattle.alta_meaning.specs.Switching.{IsWritten}
use Rattle.alta_meaning.specs.Views.{state_of}
use Rattle.alta_machine.specs.declared.document.State.{State}
use Rattle.alta_root.specs.declared.root.Root.{Root}
use Rattle.alta_rewrite.specs.Puts.{Puts}
use Rattle.alta_rewrite.specs.declared.piece.Piece.{Piece}

-- Wherever these pieces are put, the root names what is opened as this.
pub record Names (slot : Slot) (root : Root) (pieces : List Piece) (coming : Opened) (old : List ℕ) : Type 0 where
  pub slot_is : coming.slot ≡ slot
  pub root_is : coming.root ≡ root
  pub named : (middle : List ℕ) → Puts slot pieces old middle → IsNamed coming middle

-- Wherever these pieces are put, the root was written with these levels, which have this state.
pub record Brings (slot : Slot) (root : Root) (pieces : List Piece) (coming : Opened) (levels : List Level) (s : State)
    (old : List ℕ) : Type 0 where
  pub slot_is : coming.slot ≡ slot
  pub root_is : coming.root ≡ root
  pub written : (middle : List ℕ) → Puts slot pieces old middle → IsWritten coming levels middle
  pub state_is : state_of (view_of coming levels) ≡ s
  pub ordered : IsOrdered (known_of s)

-- the image is opened as one of two
abbrev pub IsOpenedEither : Opened → Opened → List ℕ → Type 0
IsOpenedEither before later image = IsOpened before image ⊎ IsOpened later image
