-- The ranges that cover the numbers from one to another.
use Rattle.std.specs.Prelude.{◌≡◌, ℕ, zero, suc, ◌+◌, ◌-◌, ◌*◌, ◌/◌, ◌%◌, ◌^◌, ◌≤◌, ◌<◌, Bool, ◌&&◌, ◌==◌, nat_lt, nat_le, if◌then◌else◌, List, [], ◌∷◌}
use Rattle.alta_machine.specs.declared.range.Range.{Range}
use Rattle.alta_machine.specs.declared.range.TheConstants.{LEVELS}

-- A range of this level begins at the first number, and has none above the last.
pub record Fits (first last level prefix : ℕ) : Type 0 where
  pub begins : first ≡ prefix * 2 ^ level
  pub ends : first + 2 ^ level ≤ last + 1

-- It is the greatest that begins at the first number and has none above the last.
pub record IsGreatest (first last : ℕ) (range : Range) : Type 0 where
  pub level : range.level ≤ LEVELS
  pub fits : Fits first last range.level range.prefix
  pub most : (level prefix : ℕ) → level ≤ LEVELS → Fits first last level prefix → level ≤ range.level

-- From the first number on the greatest range that begins there, and the same behind it, up to the last.
abbrev pub Covers : ℕ → ℕ → List Range → Type 0
Covers first last [] = last < first
Covers first last (range ∷ ranges) = (first ≤ last) × IsGreatest first last range
    × Covers (first + 2 ^ range.level) last ranges

-- a level, and a prefix that a number of 32 bits may have there
pub record IsRange (range : Range) : Type 0 where
  pub low : range.level ≤ LEVELS
  pub small : range.prefix < 2 ^ (LEVELS - range.level)

-- the number stands in the range
abbrev pub Has : Range → ℕ → Type 0
Has range value = value / 2 ^ range.level ≡ range.prefix

-- whether a range of this level begins at the first number and has none above the last
abbrev pub is_fit : ℕ → ℕ → ℕ → Bool
is_fit first last level = (first % 2 ^ level == 0) && nat_le (first + 2 ^ level) (last + 1)

-- the greatest level, up to this one, of a range that begins at the first number and has none above the last
unfoldable pub top_level : ℕ → ℕ → ℕ → ℕ
top_level first last zero = 0
top_level first last (suc level) = if is_fit first last (suc level) then suc level else top_level first last level

unfoldable pub range_from : ℕ → ℕ → Range
range_from first last = record { level = top_level first last LEVELS; prefix = first / 2 ^ top_level first last LEVELS }

-- so many ranges at most of those that cover the numbers from the first to the last
unfoldable pub cover_steps : ℕ → ℕ → ℕ → List Range
cover_steps zero first last = []
cover_steps (suc n) first last =
    if nat_lt last first then [] else range_from first last ∷ cover_steps n
    (first + 2 ^ (range_from first last).level) last

-- The cover, as a list: what `Covers` says of one list alone. There are at most 62 ranges.
unfoldable pub cover_of : ℕ → ℕ → List Range
cover_of first last = cover_steps 63 first last
