-- Bytes put behind others.
use Rattle.std.specs.Prelude.{◌≡◌, ℕ, List, ◌++◌, length, take, Result, OnOk}

-- on Ok the bytes stand behind those of before, on Err a part of them may; those of before stay
pub record PutsBytes {T E : Type 0} (bytes old new : List ℕ) (result : Result T E) : Type 0 where
  pub ok : OnOk result (new ≡ old ++ bytes)
  pub grown : take (length old) new ≡ old
