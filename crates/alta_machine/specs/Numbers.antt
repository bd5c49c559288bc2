-- Words that are numbers.
use Rattle.std.specs.Prelude.{ℕ, ◌^◌, ◌&&◌, nat_lt, if◌then◌else◌, List, Option, Some, None}
use Rattle.std.specs.Fmt.{decimal}
use Rattle.std.specs.Str.{bytes_eq}
use Rattle.std.specs.Str.Parse.{digits_value}

-- The number from 0 to 4,294,967,295 that the word spells in decimal digits without a leading zero, if it spells one.
unfoldable pub number_in : List ℕ → Option ℕ
number_in word = if bytes_eq (decimal (digits_value 10 word)) word && nat_lt (digits_value 10 word) (2 ^ 32)
    then Some (digits_value 10 word) else None
