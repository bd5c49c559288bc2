-- What calls answer that look at a reader.
use Rattle.std.specs.Prelude.{◌≡◌, ◌≤◌, ℕ, List}
use Rattle.alta_codec.specs.declared.location.TheConstants.{TOP}
use Rattle.alta_codec.specs.Rising.{IsRising, IsPlace}

-- the answer is this number, which is a location, 0 or TOP
pub record IsLocation (of result : ℕ) : Type 0 where
  pub value : result ≡ of
  pub top : result ≤ TOP

-- the answer is this place, one of the list of a sound reader
pub record IsReadAt (list : List ℕ) (at result : ℕ) : Type 0 where
  pub value : result ≡ at
  pub place : IsPlace list result
  pub rising : IsRising list
  pub top : result ≤ TOP
