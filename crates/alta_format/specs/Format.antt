-- Rows of fields, each with its rule: what bytes spell them, what reading finds, and where the first field breaks its rule.
use Rattle.std.specs.Prelude.{◌≡◌, ◌⊎◌, ℕ, zero, suc, ◌+◌, ◌-◌, ◌<◌, ◌^◌, List, [], ◌∷◌, ◌++◌, length, take, drop, Bool, IsTrue, Result, Ok, Err, nat_lt, ◌==◌, if◌then◌else◌}
use Rattle.std.specs.Int.{w64, to_be_bytes, from_be_bytes}
pub use Rattle.alta_codec.specs.Bytes.{AreBytes}
use Rattle.alta_codec.specs.declared.number.CodeFault.{CodeFault}
use Rattle.alta_codec.specs.Numbers.{number_bytes, number_from}

-- how a number is written: in its shortest spelling, in one byte, in eight bytes from the highest
pub data Kind : Type 0 where
  packed : Kind
  byte : Kind
  wide : Kind

-- The fields in their order. The rule of a field, and the fields behind it, may go by what was read before.
-- `number_field`: a number. `text_field`: that many bytes. `end_field`: nothing may follow. `ends`: what was read.
pub data Format (A : Type 0) : Type 0 where
  ends : A → Format A
  end_field : Format A → Format A
  number_field : Kind → (ℕ → Bool) → (ℕ → Format A) → Format A
  text_field : ℕ → (List ℕ → Bool) → (List ℕ → Format A) → Format A

-- ---- what bytes spell

abbrev pub spelled : Kind → ℕ → List ℕ
spelled packed n = number_bytes n
spelled byte n = n ∷ []
spelled wide n = to_be_bytes w64 n

abbrev pub bound : Kind → ℕ
bound packed = 2 ^ 64
bound byte = 256
bound wide = 2 ^ 64

-- the bytes begin with a number, and the rest follows
pub record HasNumber (kind : Kind) (bytes : List ℕ) (n : ℕ) (rest : List ℕ) : Type 0 where
  pub below : n < bound kind
  pub parts : bytes ≡ spelled kind n ++ rest

pub record HasText (len : ℕ) (bytes text rest : List ℕ) : Type 0 where
  pub len_is : length text ≡ len
  pub parts : bytes ≡ text ++ rest

-- the bytes begin with the fields of this value, each keeping its rule, and the rest follows
unfoldable pub Spells : {A : Type 0} → Format A → List ℕ → A → List ℕ → Type 0
Spells (ends a) bytes x rest = (a ≡ x) × (bytes ≡ rest)
Spells (end_field next) bytes x rest = (bytes ≡ []) × Spells next bytes x rest
Spells (number_field kind rule next) bytes x rest =
    (n : ℕ) × (behind : List ℕ) × HasNumber kind bytes n behind × IsTrue (rule n) × Spells (next n) behind x rest
Spells (text_field len rule next) bytes x rest =
    (text : List ℕ) × (behind : List ℕ) × HasText len bytes text behind × IsTrue (rule text)
    × Spells (next text) behind x rest

-- Where the first field breaks its rule, by how many bytes are left there: no value of this field that keeps the
-- rule stands there, while all fields before it keep theirs.
unfoldable pub IsBroken : {A : Type 0} → Format A → List ℕ → ℕ → Type 0
IsBroken (ends a) bytes left = ⊥
IsBroken (end_field next) bytes left = ((left ≡ length bytes) × (bytes ≡ [] → ⊥))
    ⊎ ((bytes ≡ []) × IsBroken next bytes left)
IsBroken (number_field kind rule next) bytes left =
    ((left ≡ length bytes) × ((n : ℕ) → (behind : List ℕ) → HasNumber kind bytes n behind → IsTrue (rule n) → ⊥))
    ⊎ ((n : ℕ) × (behind : List ℕ) × HasNumber kind bytes n behind × IsTrue (rule n) × IsBroken (next n) behind left)
IsBroken (text_field len rule next) bytes left =
    ((left ≡ length bytes) × ((text : List ℕ) → (behind : List ℕ) → HasText len bytes text behind
    → IsTrue (rule text) → ⊥))
    ⊎ ((text : List ℕ) × (behind : List ℕ) × HasText len bytes text behind × IsTrue (rule text)
    × IsBroken (next text) behind left)

-- ---- what reading finds: a value and the rest, or how many bytes are left at the fault

infixl 10 ◌>>=◌
abbrev pub ◌>>=◌ : {A B : Type 0} → Result A ℕ → (A → Result B ℕ) → Result B ℕ
(Ok x) >>= f = f x
(Err left) >>= f = Err left

abbrev pub packed_from : List ℕ → Result (ℕ × ℕ) CodeFault → Result (ℕ × List ℕ) ℕ
packed_from bytes (Ok x) = Ok (x.0, drop x.1 bytes)
packed_from bytes (Err e) = Err (length bytes)

unfoldable pub number_of : Kind → List ℕ → Result (ℕ × List ℕ) ℕ
number_of packed bytes = packed_from bytes (number_from 9 0 bytes)
number_of byte [] = Err 0
number_of byte (b ∷ bytes) = Ok (b, bytes)
number_of wide bytes = if nat_lt (length bytes) 8 then Err (length bytes)
    else Ok (from_be_bytes w64 (take 8 bytes), drop 8 bytes)

unfoldable pub text_of : ℕ → List ℕ → Result (List ℕ × List ℕ) ℕ
text_of len bytes = if nat_lt (length bytes) len then Err (length bytes) else Ok (take len bytes, drop len bytes)

unfoldable pub read : {A : Type 0} → Format A → List ℕ → Result (A × List ℕ) ℕ
read (ends a) bytes = Ok (a, bytes)
read (end_field next) bytes = if length bytes == 0 then read next bytes else Err (length bytes)
read (number_field kind rule next) bytes = number_of kind bytes >>= λ x. if rule x.0 then read (next x.0) x.1
    else Err (length bytes)
read (text_field len rule next) bytes = text_of len bytes >>= λ x. if rule x.0 then read (next x.0) x.1
    else Err (length bytes)

-- these fields, and then those of what was read
unfoldable pub followed_by : {A B : Type 0} → Format A → (A → Format B) → Format B
followed_by (ends a) f = f a
followed_by (end_field next) f = end_field (followed_by next f)
followed_by (number_field kind rule next) f = number_field kind rule (λ n. followed_by (next n) f)
followed_by (text_field len rule next) f = text_field len rule (λ t. followed_by (next t) f)

-- the place of the first field that breaks its rule, in bytes that begin at a place
pub record FirstBroken {A : Type 0} (format : Format A) (bytes : List ℕ) (start place : ℕ) : Type 0 where
  pub left : ℕ
  pub at : place + left ≡ start + length bytes
  pub broken : IsBroken format bytes left

-- ---- entries one behind the other

-- An entry may go by what the entries before it left behind: `entry` has its fields, `step` what it leaves behind in turn.
-- `out` is what all entries and what the last left behind make.
pub record Repeats (S A B : Type 0) : Type 0 where
  pub entry : S → Format A
  pub step : S → A → S
  pub out : List A → S → B

-- so many entries, and nothing behind them
unfoldable pub repeated : {S A B : Type 0} → Repeats S A B → ℕ → S → List A → Format B
repeated table zero state seen = end_field (ends (table.out seen state))
repeated table (suc count) state seen =
    followed_by (table.entry state) (λ x. repeated table count (table.step state x) (seen ++ x ∷ []))

-- the bytes of entries, by those of one
unfoldable pub entries_bytes : {S A B : Type 0} → Repeats S A B → (S → A → List ℕ) → S → List A → List ℕ
entries_bytes table one state [] = []
entries_bytes table one state (x ∷ xs) = one state x ++ entries_bytes table one (table.step state x) xs

-- each entry may stand behind those before it
unfoldable pub AreEntries : {S A B : Type 0} → Repeats S A B → (S → A → Type 0) → S → List A → Type 0
AreEntries table May state [] = Unit {0}
AreEntries table May state (x ∷ xs) = May state x × AreEntries table May (table.step state x) xs

-- what the last entry leaves behind
unfoldable pub state_behind : {S A B : Type 0} → Repeats S A B → S → List A → S
state_behind table state [] = state
state_behind table state (x ∷ xs) = state_behind table (table.step state x) xs

-- ---- a part that begins at a place: its value, or the place of its first broken field

abbrev pub placed : {A : Type 0} → ℕ → List ℕ → Result (A × List ℕ) ℕ → Result A ℕ
placed start bytes (Ok x) = Ok x.0
placed start bytes (Err left) = Err (start + (length bytes - left))

abbrev pub part : {A : Type 0} → Format A → List ℕ → ℕ → Result A ℕ
part format bytes start = placed start bytes (read format bytes)
