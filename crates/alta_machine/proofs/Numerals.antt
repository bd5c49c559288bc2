-- Words that are numbers, and what std reads in them.
use Rattle.std.proofs.Common.{rules, ◌≡◌, ◌≢◌, ℕ, zero, suc, ◌^◌, ◌<◌, List, [], ◌∷◌, length, get_or, arith, refl, sym, ap, ◌∙◌, subst, Bool, true, false, ◌&&◌, if◌then◌else◌}
use Rattle.std.specs.Fmt.{decimal}
use Rattle.std.specs.Result.{OkIff}
use Rattle.std.specs.Str.{all_ascii_digits, bytes_eq}
use Rattle.std.specs.Str.Parse.{digits_value, ParsesUnsigned}
use Rattle.std.proofs.lemmas.Fmt.{decimal_nonempty, first_decimal, digits_decimal, digits_value-decimal, decimal-digits_value, decimal_digit}
use Rattle.std.proofs.lemmas.Str.Parse.{IsNumeralModel, numerals_by_value, parse_plain, parse_gives}
use Rattle.std.proofs.lemmas.Bool.{false≢true}
use Rattle.std.proofs.lemmas.Bool.Decides.{nat_tests}
use Rattle.std.proofs.lemmas.Slice.Eq.{bytes_eq-Decides}
use Rattle.std.specs.Prelude.{◌↔◌, nat_lt, Option, Some, None, Result, Ok, Err}
use Rattle.alta_machine.specs.Numbers.{number_in}

own : IsNumeralModel (λ ds. all_ascii_digits ds ≡ true) (digits_value 10)
own = numerals_by_value _ (search rules)

-- what is read of a word without a sign and a leading zero is spelled so
pub read_is_spelled : {E : Type 0} (word : List ℕ) (result : Result ℕ E) (n : ℕ) → ParsesUnsigned 32 10 word result → result ≡ Ok n → get_or word 0 0 ≢ 43
    → (get_or word 0 0 ≡ 48 → length word ≡ 1) → decimal n ≡ word
read_is_spelled {E = E} word result n read ok plus alone =
    let is : OkIff {E = E} (Ok n) ((all_ascii_digits word ≡ true) × (0 < length word) × (digits_value 10 word < 2 ^ 32)) (digits_value 10 word) =
    subst (λ (r : Result ℕ E). OkIff r ((all_ascii_digits word ≡ true) × (0 < length word) × (digits_value 10 word < 2 ^ 32)) (digits_value 10 word)) ok (parse_plain own 32 word result read plus) in
    let small : digits_value 10 word < 2 ^ 64 = omega (arith, is.0.2) in
    ap decimal is.1 ∙ decimal-digits_value own word is.0.0 is.0.1 alone small

-- a number's spelling begins with no plus, and with a zero only if it is 0
pub spelled_is_plain : (n : ℕ) → n < 2 ^ 32 → (get_or (decimal n) 0 0 ≢ 43) × (get_or (decimal n) 0 0 ≡ 48 → length (decimal n) ≡ 1)
spelled_is_plain zero small =
    let one : decimal 0 ≡ 48 ∷ [] = decimal_digit 0 (omega arith) in
    (λ e. let first : get_or (decimal 0) 0 0 ≡ 48 = ap (λ (bytes : List ℕ). get_or bytes 0 0) one in omega arith, λ e. ap (λ (bytes : List ℕ). length bytes) one)
spelled_is_plain (suc m) small =
    let first : 48 < get_or (decimal (suc m)) 0 0 = first_decimal (suc m) (omega arith) (omega arith) in
    (λ e. omega arith, λ e. absurd (omega arith))

-- a number's spelling is read as the number
pub spelled_is_read : {E : Type 0} (word : List ℕ) (result : Result ℕ E) (n : ℕ) → n < 2 ^ 32 → decimal n ≡ word → ParsesUnsigned 32 10 word result → result ≡ Ok n
spelled_is_read {E = E} word result n small spelled read =
    let value : digits_value 10 (decimal n) ≡ n = digits_value-decimal own n (omega arith) in
    let own_read : ParsesUnsigned 32 10 (decimal n) result = subst (λ (bytes : List ℕ). ParsesUnsigned 32 10 bytes result) (sym spelled) read in
    parse_gives own 32 (decimal n) result own_read (digits_decimal own n (omega arith)) (decimal_nonempty n (omega arith)) (omega arith) ∙ ap (λ (v : ℕ). let r : Result ℕ E = Ok v in r) value

pub is_no_error : {E : Type 0} (result : Result ℕ E) (n : ℕ) (fault : E) → result ≡ Ok n → result ≡ Err fault → ⊥
is_no_error result n fault ok err = let e = sym ok ∙ err in absurd cc

-- ---- the number of a word, as a function

lt_is : (m n : ℕ) → nat_lt m n ≡ true → m < n
lt_is m n h = grind (arith, nat_tests)

is_lt : (m n : ℕ) → m < n → nat_lt m n ≡ true
is_lt m n h = grind (arith, nat_tests)

some_is : (m n : ℕ) → (let o : Option ℕ = Some m in o) ≡ Some n → m ≡ n
some_is m n e = cc

none_is_no : (n : ℕ) → (let o : Option ℕ = None in o) ≡ Some n → ⊥
none_is_no n e = cc

read_case : (a b : Bool) (m n : ℕ) → (if a && b then Some m else None) ≡ Some n → (a ≡ true) × (b ≡ true) × (m ≡ n)
read_case true true m n e = (refl, refl, some_is m n e)
read_case true false m n e = absurd (none_is_no n e)
read_case false b m n e = absurd (none_is_no n e)

case_read : (a b : Bool) (m : ℕ) → a ≡ true → b ≡ true → (if a && b then Some m else None) ≡ Some m
case_read true true m h k = refl
case_read true false m h k = absurd (false≢true k)
case_read false b m h k = absurd (false≢true h)

number_spells : (word : List ℕ) (n : ℕ) → number_in word ≡ Some n → (decimal n ≡ word) × (n < 2 ^ 32)
unfolding number_in
number_spells word n e =
    let m = digits_value 10 word in
    let is = read_case (bytes_eq (decimal m) word) (nat_lt m (2 ^ 32)) m n e in
    let spelled : decimal m ≡ word = (bytes_eq-Decides (decimal m) word).0 is.0 in
    let small : m < 2 ^ 32 = lt_is m (2 ^ 32) is.1 in
    (subst (λ (k : ℕ). decimal k ≡ word) is.2 spelled, subst (λ (k : ℕ). k < 2 ^ 32) is.2 small)

spells_number : (word : List ℕ) (n : ℕ) → decimal n ≡ word → n < 2 ^ 32 → number_in word ≡ Some n
unfolding number_in
spells_number word n spelled small =
    let value : digits_value 10 word ≡ n = sym (ap (digits_value 10) spelled) ∙ digits_value-decimal own n (omega arith) in
    subst (λ (m : ℕ). (if bytes_eq (decimal m) word && nat_lt m (2 ^ 32) then Some m else None) ≡ Some n) (sym value)
    (case_read (bytes_eq (decimal n) word) (nat_lt n (2 ^ 32)) n ((bytes_eq-Decides (decimal n) word).1 spelled) (is_lt n (2 ^ 32) small))

pub are_read : (word : List ℕ) (n : ℕ) → (number_in word ≡ Some n) ↔ ((decimal n ≡ word) × (n < 2 ^ 32))
are_read word n = (λ e. number_spells word n e, λ (spelled, small). spells_number word n spelled small)

none_left : (o : Option ℕ) → ((n : ℕ) → o ≡ Some n → ⊥) → o ≡ None
none_left (Some n) h = absurd (h n refl)
none_left None h = refl

pub no_number : (word : List ℕ) → ((n : ℕ) → n < 2 ^ 32 → decimal n ≢ word) → None ≡ number_in word
no_number word h = sym (none_left (number_in word) (λ n e. let is = number_spells word n e in h n is.1 is.0))

pub is_number : (word : List ℕ) (n : ℕ) → decimal n ≡ word → n < 2 ^ 32 → Some n ≡ number_in word
is_number word n spelled small = sym (spells_number word n spelled small)
