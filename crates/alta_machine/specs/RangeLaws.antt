-- The statements of the laws.
use Rattle.std.specs.Prelude.{◌≡◌, ◌⊎◌, ◌↔◌, ℕ, ◌^◌, ◌≤◌, ◌<◌, List, [], ◌∷◌, length, Some}
use Rattle.std.specs.Fmt.{decimal}
use Rattle.std.specs.List.{All}
use Rattle.std.specs.Str.{IsUtf8}
use Rattle.alta_codec.specs.Order.{Precedes}
use Rattle.alta_machine.specs.Covers.{Covers, Has, IsRange, cover_of}
use Rattle.alta_machine.specs.Numbers.{number_in}
use Rattle.alta_machine.specs.Terms.{Shares, term_bytes}
use Rattle.alta_machine.specs.declared.range.Range.{Range}

-- Exactly one of these ranges shares a term with the number.
abbrev pub IsOnce : ℕ → List Range → Type 0
IsOnce value [] = ⊥
IsOnce value (range ∷ ranges) = (Shares range value × All (λ other. Shares other value → ⊥) ranges)
    ⊎ ((Shares range value → ⊥) × IsOnce value ranges)

-- Of a cover: a number from the first to the last shares a term with exactly one range; a number that shares a term with a range
-- stands in it, and lies from the first to the last.
pub record IsCoverOf (first last : ℕ) (ranges : List Range) : Type 0 where
  pub once : (value : ℕ) → first ≤ value → value ≤ last → IsOnce value ranges
  pub has : (value : ℕ) → value < 2 ^ 32 → All (λ range. Shares range value → Has range value) ranges
  pub within : (value : ℕ) → value < 2 ^ 32
      → All (λ range. Shares range value → (first ≤ value) × (value ≤ last)) ranges

abbrev pub CoversOnce : Type 0
CoversOnce = (first last : ℕ) (ranges : List Range) → last < 2 ^ 32 → Covers first last ranges
    → IsCoverOf first last ranges

-- A cover is one list, of at most 62 ranges.
abbrev pub IsOneCover : Type 0
IsOneCover = (first last : ℕ) (ranges : List Range) → last < 2 ^ 32 → Covers first last ranges
    → (length ranges ≤ 62) × ((others : List Range) → Covers first last others → others ≡ ranges)

-- The cover as a list covers, and has ranges alone.
abbrev pub IsMade : Type 0
IsMade = (first last : ℕ) → last < 2 ^ 32 → Covers first last (cover_of first last) × All IsRange (cover_of first last)

-- A word is read as a number exactly where it is that number's spelling.
abbrev pub AreRead : Type 0
AreRead = (word : List ℕ) (n : ℕ) → (number_in word ≡ Some n) ↔ ((decimal n ≡ word) × (n < 2 ^ 32))

-- Of terms of ranges: equal ones have one level and one prefix, the term of a lower level comes first, none is text, and none is
-- a byte with a text behind it.
pub record AreApart : Type 0 where
  pub one : (k j a b : ℕ) → a < 2 ^ 32 → b < 2 ^ 32 → term_bytes k a ≡ term_bytes j b → (k ≡ j) × (a ≡ b)
  pub rising : (k j a b : ℕ) → k < j → Precedes (term_bytes k a) (term_bytes j b)
  pub no_text : (level prefix : ℕ) → IsUtf8 (term_bytes level prefix) → ⊥
  pub no_kind : (kind level prefix : ℕ) (text : List ℕ) → IsUtf8 text → kind ∷ text ≡ term_bytes level prefix → ⊥
