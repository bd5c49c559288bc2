-- How long the parts of a record are, and that four bytes spell their number.
use Rattle.std.proofs.Common.{◌≡◌, ℕ, ◌+◌, ◌<◌, ◌^◌, List, [], ◌∷◌, ◌++◌, length, get_or, refl, arith, length-append}
use Rattle.std.specs.Int.{w32, from_be_bytes}
use Rattle.std.proofs.lemmas.Nat.{be_bytes_4, from_be_bytes-to_be_bytes_4}
use Rattle.alta_layout.specs.Wide.{eight_bytes}
use Rattle.alta_layout.proofs.WideLaws.{eight_long}
use Rattle.alta_journal.specs.Entry.{four_bytes, measured, texts_of, payload_of}
use Rattle.alta_journal.specs.Reading.{of_four}
use Rattle.alta_journal.specs.Record.{record_of, body_of}
use Rattle.alta_journal.specs.declared.entry.Entry.{Entry}
use Rattle.alta_journal.specs.declared.entry.Entry.TheVariants.{Add, Delete, Replace}

pub four_long : (n : ℕ) → length (four_bytes n) ≡ 4
unfolding four_bytes
four_long n = refl

pub measured_long : (bytes : List ℕ) → length (measured bytes) ≡ 4 + length bytes
measured_long bytes = omega (arith, length-append (four_bytes (length bytes)) bytes, four_long (length bytes))

pub texts_long : (name title body : List ℕ) → length (texts_of name title body) ≡ 9 + length name + length title + length body
texts_long name title body =
    omega (arith, length-append (length name ∷ name ++ measured title) (measured body), length-append (length name ∷ name) (measured title), measured_long title, measured_long body)

pub add_long : (name title body : List ℕ) → length (payload_of (Add name title body)) ≡ 10 + length name + length title + length body
add_long name title body = omega (arith, texts_long name title body)

pub replace_long : (number : ℕ) (name title body : List ℕ) → length (payload_of (Replace number name title body)) ≡ 18 + length name + length title + length body
replace_long number name title body = omega (arith, length-append (eight_bytes number) (texts_of name title body), eight_long number, texts_long name title body)

pub delete_long : (number : ℕ) → length (payload_of (Delete number)) ≡ 9
delete_long number = omega (arith, eight_long number)

pub record_long : (entry : Entry) → length (record_of entry) ≡ 5 + length (payload_of entry)
record_long entry = omega (arith, measured_long (payload_of entry))

pub body_long : (entry : Entry) → length (body_of entry) ≡ 5 + length (payload_of entry)
body_long entry = omega (arith, length-append (measured (payload_of entry)) (0 ∷ []), measured_long (payload_of entry))

pub ruleset lengths = (four_long, eight_long, measured_long, texts_long, add_long, delete_long, replace_long, record_long, body_long)

pub of_four-four : (n : ℕ) → n < 2 ^ 32 → of_four (four_bytes n) ≡ n
unfolding four_bytes of_four
of_four-four n small = from_be_bytes-to_be_bytes_4 n small

pub four-of_four : (bytes : List ℕ) → length bytes ≡ 4 → ((i : ℕ) → get_or bytes i 0 < 256) → four_bytes (of_four bytes) ≡ bytes
unfolding four_bytes of_four
four-of_four bytes four small = be_bytes_4 bytes (from_be_bytes w32 bytes) four small refl
