-- What a solver is: its readers, and the bounds between them.
use Rattle.std.specs.Prelude.{List}
use Rattle.alta_codec.specs.Inequality.{Inequality}

pub record Setting (R : Type 0) : Type 0 where
  pub readers : List R
  pub bounds : List Inequality
