-- What contracts see of a reader of documents.
use Rattle.std.specs.Prelude.{ℕ, Bool, true, false, List}
use Rattle.alta_codec.specs.Rising.{IsRising, IsPlace}
use Rattle.alta_docread.specs.Tree.{Tree, found, all_of, any_of, without, tree_list, tree_all, tree_place, reader_places, tree_left}

-- the ends that it reads, all that its leaves have, where it stands, where the readers below it stand, what is left of
-- them together, and whether its tree is one Found
pub record DocView : Type 0 where
  pub list : List ℕ
  pub all : List ℕ
  pub place : ℕ
  pub places : List ℕ
  pub left : ℕ
  pub one : Bool

abbrev pub is_one_found : Tree → Bool
is_one_found (found w) = true
is_one_found (all_of ts) = false
is_one_found (any_of ts) = false
is_one_found (without at r t) = false

-- what is seen of a tree
abbrev pub view_of : Tree → DocView
view_of t =
    record {
      list = tree_list t;
      all = tree_all t;
      place = tree_place t;
      places = reader_places t;
      left = tree_left t;
      one = is_one_found t;
    }

-- the list rises, and the reader stands at an element of it, or at TOP past the last
pub record IsReading (d : DocView) : Type 0 where
  pub rising : IsRising d.list
  pub stands : IsPlace d.list d.place
