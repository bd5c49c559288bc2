-- How a text is cut into tokens.
use Rattle.std.specs.Prelude.{ℕ, zero, suc, ◌+◌, ◌-◌, List, [], ◌∷◌, length, take, drop, Bool, true, false, not, ◌||◌, ◌==◌, nat_lt, nat_le, nat_eq, if◌then◌else◌, codes, Option, Some, None}
use Rattle.std.specs.List.{prefix_len, take_while, position_or_len, before_first, starts_with, ends_with}
use Rattle.std.specs.Str.{bytes_eq}
use Rattle.alta_codec.specs.Decimal.{is_count, value_of}
use Rattle.alta_codec.specs.Name.{is_name}
use Rattle.alta_machine.specs.Numbers.{number_in}
use Rattle.alta_machine.specs.Shape.{words, prefix, name, value}
use Rattle.alta_machine.specs.Words.{has_words, tests_of, is_stem, stem_test}
use Rattle.alta_machine.specs.Token.{Token, open_paren, close_paren, and_word, or_word, not_word, near_word, operand, faulty, Spot, at}
use Rattle.alta_machine.specs.declared.cause.Cause.TheVariants as cause

-- a space or a tab
abbrev pub is_blank : ℕ → Bool
is_blank b = b == 32 || b == 9

abbrev pub is_solid : ℕ → Bool
is_solid b = not (is_blank b)

abbrev pub is_quote : ℕ → Bool
is_quote b = b == 34

-- a run goes up to the next blank, parenthesis or quote
abbrev pub is_run : ℕ → Bool
is_run b = not (is_blank b || b == 40 || b == 41 || is_quote b)

-- a words atom
unfoldable pub words_token : Bool → List ℕ → Token
words_token title text = if has_words text then operand (words title text (tests_of text)) else faulty cause.Word

-- a prefix atom
unfoldable pub prefix_token : Bool → List ℕ → Token
prefix_token title stem = if is_stem stem then operand (prefix title stem (stem_test stem)) else faulty cause.Prefix

unfoldable pub plain_token : Bool → List ℕ → Token
plain_token title text = if ends_with nat_eq text (codes "*") then prefix_token title (take (length text - 1) text)
    else words_token title text

unfoldable pub name_token : List ℕ → Token
name_token text = if is_name text then operand (name text) else faulty cause.Name

-- a number from 1 to 1,000 without leading zeros
unfoldable pub near_token : List ℕ → Token
near_token digits =
    if is_count 4 1000 digits then near_word (value_of digits) else faulty cause.Near

-- a byte that is no dot
abbrev pub is_undotted : ℕ → Bool
is_undotted b = not (b == 46)

-- a value atom, where both are numbers and the second is no lower
abbrev pub ordered : Option ℕ → Option ℕ → Token
ordered None high = faulty cause.Value
ordered (Some low) None = faulty cause.Value
ordered (Some low) (Some high) = if nat_le low high then operand (value low high) else faulty cause.Value

-- a number, and behind two dots another
abbrev pub dotted : List ℕ → List ℕ → Token
dotted low rest = if starts_with nat_eq rest (codes "..") then ordered (number_in low) (number_in (drop 2 rest))
    else faulty cause.Value

-- the numbers from one to another, cut at the first dot
unfoldable pub value_token : List ℕ → Token
value_token text = dotted (take_while is_undotted text) (drop (prefix_len is_undotted text) text)

unfoldable pub run_token : List ℕ → Token
run_token text =
    if bytes_eq text (codes "AND") then and_word
    else (if bytes_eq text (codes "OR") then or_word
    else (if bytes_eq text (codes "NOT") then not_word
    else (if starts_with nat_eq text (codes "NEAR/") then near_token (drop 5 text)
    else (if starts_with nat_eq text (codes "value:") then value_token (drop 6 text)
    else (if starts_with nat_eq text (codes "title:") then plain_token true (drop 6 text)
    else plain_token false text)))))

-- a quoted piece, behind its first quote
unfoldable pub quoted_token : Bool → List ℕ → Token
quoted_token title rest =
    if nat_lt (position_or_len is_quote rest) (length rest) then words_token title (before_first is_quote rest)
    else faulty cause.Quote

unfoldable pub quoted_len : List ℕ → ℕ
quoted_len rest = if nat_lt (position_or_len is_quote rest) (length rest)
    then position_or_len is_quote rest + 1 else length rest

-- `title:` and at once a quoted piece
unfoldable pub is_quoted_title : List ℕ → Bool
is_quoted_title text = starts_with nat_eq text (codes "title:\"")

-- the token at the front, which is no blank, and how many bytes it takes
abbrev pub first_token : List ℕ → Token
first_token [] = faulty cause.Empty
first_token (b ∷ bs) =
    if b == 40 then open_paren
    else (if b == 41 then close_paren
    else (if is_quote b then quoted_token false bs
    else (if starts_with nat_eq (b ∷ bs) (codes "name:") then name_token (take_while is_solid (drop 5 (b ∷ bs)))
    else (if is_quoted_title (b ∷ bs) then quoted_token true (drop 7 (b ∷ bs))
    else run_token (take_while is_run (b ∷ bs))))))

abbrev pub first_len : List ℕ → ℕ
first_len [] = 0
first_len (b ∷ bs) =
    if b == 40 || b == 41 then 1
    else (if is_quote b then 1 + quoted_len bs
    else (if starts_with nat_eq (b ∷ bs) (codes "name:") then 5 + prefix_len is_solid (drop 5 (b ∷ bs))
    else (if is_quoted_title (b ∷ bs) then 7 + quoted_len (drop 7 (b ∷ bs))
    else prefix_len is_run (b ∷ bs))))

-- the tokens of a text that begins at a place, behind so many bytes of a token that has begun
abbrev pub spots_from : ℕ → ℕ → List ℕ → List Spot
spots_from p k [] = []
spots_from p (suc k) (b ∷ bs) = spots_from (p + 1) k bs
spots_from p zero (b ∷ bs) =
    if is_blank b then spots_from (p + 1) 0 bs
    else at p (first_token (b ∷ bs)) ∷ spots_from (p + 1) (first_len (b ∷ bs) - 1) bs

unfoldable pub spots : List ℕ → List Spot
spots text = spots_from 0 0 text
