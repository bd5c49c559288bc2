-- Lines that are put behind a margin.
use Rattle.std.specs.Prelude.{◌≡◌, ◌++◌, ℕ, List}

-- these lines were put behind what was there, and the margin is as it was
pub record PutsBehind (margin margin' lines out out' : List ℕ) : Type 0 where
  pub lines_are : out' ≡ out ++ lines
  pub same_margin : margin' ≡ margin
