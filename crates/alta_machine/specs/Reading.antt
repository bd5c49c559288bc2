-- The reading of a text step by step.
use Rattle.std.specs.Prelude.{ℕ, ◌+◌, ◌-◌, ◌*◌, Bool, not, ◌&&◌, ◌==◌, nat_le, nat_lt, if◌then◌else◌, List, length, codes, slice_index, Option, Some, None, option_map}
use Rattle.std.specs.Char.{is_ascii_digit}
use Rattle.std.specs.List.{list_all, fold, before_first, after_first, position_or_len}
use Rattle.std.specs.Option.{option_or}
use Rattle.std.specs.Str.{bytes_eq}
use Rattle.alta_codec.specs.Decimal.{count_in}
use Rattle.alta_machine.specs.Command.{Command, adds, deletes, searches, counts, explains, opens, fetches, closes, ranks, flushes, merges, steps, asks_stats, dumps, is_tab}
use Rattle.alta_machine.specs.LineFaults.{is_space}

-- a number from 1 to 1,000,000 without leading zeros
unfoldable pub count_of : List ℕ → Option ℕ
count_of text = count_in 7 1000000 text

-- a number from 1 to 1,000 without leading zeros
unfoldable pub top_count_of : List ℕ → Option ℕ
top_count_of text = count_in 4 1000 text

-- the parts around the first such byte
unfoldable pub parted : (ℕ → Bool) → List ℕ → Option (List ℕ × List ℕ)
parted p text = if nat_lt (position_or_len p text) (length text)
    then Some (before_first p text, after_first p text) else None

abbrev pub with_body : List ℕ → Option (List ℕ × List ℕ) → Option Command
with_body name None = None
with_body name (Some (title, body)) = Some (adds name title body)

abbrev pub with_name : Option (List ℕ × List ℕ) → Option Command
with_name None = None
with_name (Some (name, rest)) = with_body name (parted is_tab rest)

unfoldable pub add_of : List ℕ → Option Command
add_of rest = with_name (parted is_tab rest)

unfoldable pub text_of : List ℕ → List ℕ → Option Command
text_of word rest =
    if bytes_eq word (codes "delete") then Some (deletes rest)
    else (if bytes_eq word (codes "search") then Some (searches rest)
    else (if bytes_eq word (codes "count") then Some (counts rest)
    else (if bytes_eq word (codes "explain") then Some (explains rest)
    else (if bytes_eq word (codes "open") then Some (opens rest)
    else None))))

abbrev pub with_count : Option ℕ → Option ℕ → Option Command
with_count None count = None
with_count (Some cursor) None = None
with_count (Some cursor) (Some count) = Some (fetches cursor count)

abbrev pub with_cursor : Option (List ℕ × List ℕ) → Option Command
with_cursor None = None
with_cursor (Some (cursor, count)) = with_count (count_of cursor) (count_of count)

unfoldable pub fetch_of : List ℕ → Option Command
fetch_of rest = with_cursor (parted is_space rest)

-- the count of answers, and the query behind it
abbrev pub with_query : Option (List ℕ × List ℕ) → Option Command
with_query None = None
with_query (Some (count, query)) = option_map (λ n. ranks n query) (top_count_of count)

unfoldable pub top_of : List ℕ → Option Command
top_of rest = with_query (parted is_space rest)

unfoldable pub number_of : List ℕ → List ℕ → Option Command
number_of word rest =
    if bytes_eq word (codes "fetch") then fetch_of rest
    else (if bytes_eq word (codes "close") then option_map (λ n. closes n) (count_of rest)
    else (if bytes_eq word (codes "step") then option_map (λ n. steps n) (count_of rest)
    else (if bytes_eq word (codes "top") then top_of rest
    else None)))

unfoldable pub alone : List ℕ → Option Command
alone word =
    if bytes_eq word (codes "flush") then Some flushes
    else (if bytes_eq word (codes "merge") then Some merges
    else (if bytes_eq word (codes "stats") then Some asks_stats
    else (if bytes_eq word (codes "dump") then Some dumps
    else None)))

unfoldable pub with_rest : List ℕ → List ℕ → Option Command
with_rest word rest =
    if bytes_eq word (codes "add") then add_of rest else option_or (text_of word rest) (number_of word rest)

abbrev pub in_parts : List ℕ → Option (List ℕ × List ℕ) → Option Command
in_parts text None = alone text
in_parts text (Some (word, rest)) = with_rest word rest

unfoldable pub command_in : List ℕ → Option Command
command_in text = in_parts text (parted is_space text)
