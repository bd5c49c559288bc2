-- Terms of numbers and ranges.
use Rattle.std.specs.Prelude.{◌≡◌, ℕ, zero, suc, ◌+◌, ◌/◌, ◌^◌, ◌≤◌, List, [], ◌∷◌}
use Rattle.std.specs.Int.{w32, to_be_bytes}
use Rattle.alta_machine.specs.declared.range.Range.{Range}
use Rattle.alta_machine.specs.declared.range.TheConstants.{LEVELS}

-- `X`, a byte that is in no text, the level, and the prefix, the highest byte first
unfoldable pub term_bytes : ℕ → ℕ → List ℕ
term_bytes level prefix = 88 ∷ 255 ∷ level ∷ to_be_bytes w32 prefix

-- one of a number's terms is the range's
pub record Shares (range : Range) (value : ℕ) : Type 0 where
  pub level : ℕ
  pub low : level ≤ LEVELS
  pub same : term_bytes level (value / 2 ^ level) ≡ term_bytes range.level range.prefix

-- the terms of a number at so many levels from one on
unfoldable pub terms_from : ℕ → ℕ → ℕ → List (List ℕ)
terms_from value level zero = []
terms_from value level (suc n) = term_bytes level (value / 2 ^ level) ∷ terms_from value (level + 1) n

-- all terms of a number, one of each level
unfoldable pub range_terms : ℕ → List (List ℕ)
range_terms value = terms_from value 0 33
