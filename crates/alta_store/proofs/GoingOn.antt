-- A join that goes on, over other levels and on another image.
use Rattle.std.proofs.Common.{◌≡◌, ℕ, true, List, ◌∷◌, ◌++◌, map, take, sym, subst, append_assoc}
use Rattle.std.specs.Prelude.{Option, Some, None}
use Rattle.std.specs.List.{All}
use Rattle.std.proofs.lemmas.List.Elements.{All-head, All-tail}
use Rattle.alta_content.specs.Rows.{ends_among}
use Rattle.alta_content.specs.declared.document.DocRow.{DocRow}
use Rattle.alta_meaning.specs.Opened.{table_rows, extent_of}
use Rattle.alta_meaning.proofs.Untouched.{IsSame}
use Rattle.alta_joins.specs.Jobs.{AreJoinedOn, DeadAreGone, IsBegun, IsJoining}
use Rattle.alta_joins.proofs.JoiningLaws.{joining_more, joining_stays}
use Rattle.alta_merge.specs.Merging.{Merging}
use Rattle.alta_store.specs.Agreement.{GoesOnOver, MayGoOn}
use Rattle.alta_table.specs.Tables.{Tables}
use Rattle.alta_content.proofs.Elements.{all_left}

-- the rows of the two oldest levels are among those of all
two_rows : (P : DocRow → Type 0) (levels : List Tables) (older newer : Tables) (more : List Tables) → levels ≡ older ∷ newer ∷ more → All P (table_rows levels) → All P (older.documents ++ newer.documents)
two_rows P levels older newer more is all =
    all_left P (older.documents ++ newer.documents) (table_rows more)
    (subst (All P) (sym (append_assoc older.documents newer.documents (table_rows more))) (subst (λ (ls : List Tables). All P (table_rows ls)) is all))

-- it goes on over levels of which the two oldest are the same, where all that was gone is
pub goes_on_over : (levels others : List Tables) (gone ends : List ℕ) (job : Option Merging) → take 2 others ≡ take 2 levels → DeadAreGone gone ends (table_rows levels) → (joining : MayGoOn levels gone job)
    → (on : MayGoOn others ends job) × ((image : List ℕ) → GoesOnOver image levels gone job joining → GoesOnOver image others ends job on)
goes_on_over levels others gone ends None same kept joining = (tt, λ image over. tt)
goes_on_over levels others gone ends (Some merging) same kept joining =
    let more = joining_more levels gone merging joining others ends same (two_rows (λ (row : DocRow). ends_among gone row ≡ true → ends_among ends row ≡ true) levels joining.older joining.newer joining.more joining.oldest kept) in
    (more.0, more.2)

-- and on an image where the levels have the same bytes
pub goes_on_there : (old new : List ℕ) (levels : List Tables) (gone : List ℕ) (job : Option Merging) (joining : MayGoOn levels gone job) → All (IsSame old new) (map extent_of levels)
    → GoesOnOver old levels gone job joining → GoesOnOver new levels gone job joining
goes_on_there old new levels gone None joining same over = tt
goes_on_there old new levels gone (Some merging) joining same over =
    let both : All (IsSame old new) (extent_of joining.older ∷ extent_of joining.newer ∷ map extent_of joining.more) = subst (λ (ls : List Tables). All (IsSame old new) (map extent_of ls)) joining.oldest same in
    let rest = All-tail (IsSame old new) (extent_of joining.older) (extent_of joining.newer ∷ map extent_of joining.more) both in
    joining_stays levels gone merging joining old new
    (All-head (IsSame old new) (extent_of joining.older) (extent_of joining.newer ∷ map extent_of joining.more) both)
    (All-head (IsSame old new) (extent_of joining.newer) (map extent_of joining.more) rest) over

-- a join over the two oldest of these levels that begins, whose contents are those on an image
abbrev pub Begins : (tells : Type 0) (image : List ℕ) (levels : List Tables) (gone : List ℕ) → Merging → Type 0
Begins tells image levels gone merging = (joining : IsJoining levels gone merging) × IsBegun joining × (tells → AreJoinedOn image joining)

pub begins_as : (tells : Type 0) (image : List ℕ) (levels others : List Tables) (gone ends : List ℕ) (merging : Merging) → levels ≡ others → gone ≡ ends → Begins tells image levels gone merging → Begins tells image others ends merging
begins_as tells image levels others gone ends merging same still begins =
    subst (λ (es : List ℕ). Begins tells image others es merging) still (subst (λ (ls : List Tables). Begins tells image ls gone merging) same begins)

-- where none goes on
pub none_goes_on : (image : List ℕ) (levels : List Tables) (gone : List ℕ) (job : Option Merging) (joining : MayGoOn levels gone job) → job ≡ None → GoesOnOver image levels gone job joining
none_goes_on image levels gone None joining none = tt
none_goes_on image levels gone (Some merging) joining none = absurd (is_none none)
  where
    is_none : ◌≡◌ {A = Option Merging} (Some merging) None → ⊥
    is_none e = absurd cc
