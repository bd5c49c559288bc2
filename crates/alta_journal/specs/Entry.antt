-- What a record says: its bytes, and the rules that it keeps.
-- The three texts of a record are bounded together; its payload has at most 18 bytes more, and needs no limit of its own. What a
-- root of version 1 asks besides is one test beside the rules (`is_old`), so whether a root has to be raised before an entry is the
-- rule itself.
use Rattle.std.specs.Prelude.{◌≡◌, ℕ, ◌+◌, ◌<◌, ◌≤◌, ◌^◌, Bool, true, false, nat_le, List, ◌∷◌, ◌++◌, length, IsUtf8}
use Rattle.std.specs.Int.{w32, to_be_bytes}
pub use Rattle.alta_codec.specs.Bytes.{Lacks}
use Rattle.alta_codec.specs.Name.{IsName}
use Rattle.alta_layout.specs.Wide.{eight_bytes}
use Rattle.alta_journal.specs.declared.entry.Entry.{Entry}
use Rattle.alta_journal.specs.declared.entry.Entry.TheVariants.{Add, Delete, Replace}
use Rattle.alta_journal.specs.declared.places.TheConstants.{PAYLOAD_BYTES, TEXTS_BYTES}

-- a number in four bytes, the highest first
unfoldable pub four_bytes : ℕ → List ℕ
four_bytes n = to_be_bytes w32 n

-- bytes behind their length in four bytes
abbrev pub measured : List ℕ → List ℕ
measured bytes = four_bytes (length bytes) ++ bytes

-- a name behind its length in one byte, a title and a body
abbrev pub texts_of : List ℕ → List ℕ → List ℕ → List ℕ
texts_of name title body = length name ∷ name ++ measured title ++ measured body

-- the payload of an entry's record: its kind and its fields
abbrev pub payload_of : Entry → List ℕ
payload_of (Add name title body) = 1 ∷ texts_of name title body
payload_of (Delete number) = 2 ∷ eight_bytes number
payload_of (Replace number name title body) = 3 ∷ (eight_bytes number ++ texts_of name title body)

-- The rules on a document's texts that their type does not keep: the name is one, title and body have no newline, the
-- title has no tab, and together they are not too long.
abbrev pub KeepTexts : List ℕ → List ℕ → List ℕ → Type 0
KeepTexts name title body =
    IsName name × Lacks 9 title × Lacks 10 title × Lacks 10 body
    × (length name + length title + length body ≤ TEXTS_BYTES)

-- the rules on an entry that its type does not keep
abbrev pub KeepsRules : Entry → Type 0
KeepsRules (Add name title body) = KeepTexts name title body
KeepsRules (Delete number) = Unit {0}
KeepsRules (Replace number name title body) = KeepTexts name title body

-- The rules that its type keeps: title and body are UTF-8, and the number fits its eight bytes.
abbrev pub IsTyped : Entry → Type 0
IsTyped (Add name title body) = IsUtf8 title × IsUtf8 body
IsTyped (Delete number) = number < 2 ^ 64
IsTyped (Replace number name title body) = (number < 2 ^ 64) × IsUtf8 title × IsUtf8 body

-- A root of version 1 may have it in its journal: it is an add or a delete, and its payload is not too long for that.
abbrev pub is_old : Entry → Bool
is_old (Add name title body) = nat_le (length (payload_of (Add name title body))) PAYLOAD_BYTES
is_old (Delete number) = true
is_old (Replace number name title body) = false

-- an entry that a record may hold under a root of this version
abbrev pub MayBeRecorded : ℕ → Entry → Type 0
MayBeRecorded version entry = KeepsRules entry × IsTyped entry × (version ≡ 1 → is_old entry ≡ true)
