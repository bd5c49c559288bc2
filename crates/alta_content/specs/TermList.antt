-- A term, and where it stands.
use Rattle.std.specs.Prelude.{ℕ, List}

-- the term's bytes, and the locations whose cells hold it, rising
pub record TermList : Type 0 where
  pub term : List ℕ
  pub locations : List ℕ
