-- Counts of faults, which are the cause of each failed call.
use Rattle.std.specs.Prelude.{◌≡◌, ℕ, ◌+◌, ◌-◌, ◌^◌, ◌≤◌, min, Result, IsErr, OnOk, OnErr}

-- the count of faults rose, or stands at the last value of a u64
abbrev pub Rose : ℕ → ℕ → Type 0
Rose before now = min (before + 1) (2 ^ 64 - 1) ≤ now

-- the count does not fall, and an error comes only where it rose
pub record HasCause {T E : Type 0} (before now : ℕ) (result : Result T E) : Type 0 where
  pub later : before ≤ now
  pub failed : IsErr result → Rose before now

-- exactly the errors are counted, up to the last value of a u64
pub record CountsErrors {T E : Type 0} (before now : ℕ) (result : Result T E) : Type 0 where
  pub done : OnOk result (now ≡ before)
  pub failed : OnErr result (now ≡ min (before + 1) (2 ^ 64 - 1))
