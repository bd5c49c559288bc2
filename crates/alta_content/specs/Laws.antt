-- What a join keeps of the contents that it is made of.
use Rattle.std.specs.Prelude.{◌≡◌, ℕ, true, ◌++◌, ◌∷◌, List, flat_map, map}
use Rattle.std.specs.List.{All}
use Rattle.alta_content.specs.declared.content.Content.{Content}
use Rattle.alta_content.specs.Cells.{cells_at, with_cells}
use Rattle.alta_content.specs.Joining.{joined_in, rows_in}
use Rattle.alta_content.specs.Parts.{IsPart, MayJoin}
use Rattle.alta_content.specs.Rows.{ends_among, live_rows}

-- a join is a level's content, or empty
abbrev pub JoinsArePart : Type 0
JoinsArePart = (contents : List Content) → (dead : List ℕ) → MayJoin contents → IsPart (joined_in contents dead)

-- in place of contents that stand beside each other, their join may be joined with the others
abbrev pub JoinsMayJoin : Type 0
JoinsMayJoin = (before middle after : List Content) → (dead : List ℕ) → MayJoin (before ++ (middle ++ after))
    → MayJoin (before ++ joined_in middle dead ∷ after)

-- each row that is kept has the same cells in the join as in the content that it came from
abbrev pub JoinsKeepCells : Type 0
JoinsKeepCells = (contents : List Content) → (dead : List ℕ) → MayJoin contents
    → All (λ (c : Content). All (λ row. cells_at (joined_in contents dead).lists row ≡ cells_at c.lists row)
    (live_rows dead c.documents)) contents

-- Where all that is dead is deleted, the rows that are not deleted are the same, in order, with the same cells: the join changes
-- no state.
abbrev pub JoinsKeepStates : Type 0
JoinsKeepStates = (contents : List Content) → (dead deleted : List ℕ) → MayJoin contents
    → All (λ row. ends_among dead row ≡ true → ends_among deleted row ≡ true) (rows_in contents)
    → map (with_cells (joined_in contents dead).lists) (live_rows deleted (joined_in contents dead).documents)
    ≡ flat_map (λ (c : Content). map (with_cells c.lists) (live_rows deleted c.documents)) contents

-- contents may be joined in any order of work: where some that stand beside each other are joined first, the join of all is the same
abbrev pub JoinsFold : Type 0
JoinsFold = (before middle after : List Content) → (dead : List ℕ) → MayJoin (before ++ (middle ++ after))
    → joined_in (before ++ joined_in middle dead ∷ after) dead ≡ joined_in (before ++ (middle ++ after)) dead
