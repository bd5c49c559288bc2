-- Lists of ends that are shown.
use Rattle.std.specs.Prelude.{◌≡◌, ℕ, List}
use Rattle.alta_codec.specs.Rising.{IsRising}

-- these ends are shown, and they rise
pub record ShowsRising (ends shown : List ℕ) : Type 0 where
  pub value : shown ≡ ends
  pub rising : IsRising shown
