-- Numbers in decimal digits.
use Rattle.std.specs.Prelude.{ℕ, ◌+◌, ◌-◌, ◌*◌, Bool, not, ◌&&◌, ◌==◌, nat_le, if◌then◌else◌, List, length, slice_index, Option, Some, None}
use Rattle.std.specs.Char.{is_ascii_digit}
use Rattle.std.specs.List.{list_all, fold}

-- the number that digits spell
abbrev pub value_of : List ℕ → ℕ
value_of digits = fold (λ n b. n * 10 + (b - 48)) 0 digits

-- one to so many digits, the first of them no 0, of a number up to a limit
abbrev pub is_count : ℕ → ℕ → List ℕ → Bool
is_count most limit digits = nat_le 1 (length digits) && nat_le (length digits) most && list_all is_ascii_digit digits
    && not (slice_index digits 0 == 48) && nat_le (value_of digits) limit

-- the number from 1 to a limit that the text spells
unfoldable pub count_in : ℕ → ℕ → List ℕ → Option ℕ
count_in most limit text = if is_count most limit text then Some (value_of text) else None
