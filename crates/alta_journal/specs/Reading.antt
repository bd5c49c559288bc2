-- What a payload's bytes say, read field by field.
use Rattle.std.specs.Prelude.{ℕ, ◌-◌, ◌==◌, List, [], ◌∷◌, length, take, drop, Option, Some, None, nat_le, if◌then◌else◌}
use Rattle.std.specs.Int.{w32, from_be_bytes}
use Rattle.alta_layout.specs.Wide.{of_eight}
use Rattle.alta_journal.specs.declared.entry.Entry.{Entry}
use Rattle.alta_journal.specs.declared.entry.Entry.TheVariants.{Add, Delete, Replace}

-- the number that four bytes spell
unfoldable pub of_four : List ℕ → ℕ
of_four bytes = from_be_bytes w32 bytes

-- the first n bytes and the others, where there are so many
unfoldable pub cut : ℕ → List ℕ → Option (List ℕ × List ℕ)
cut n bytes = if nat_le n (length bytes) then Some (take n bytes, drop n bytes) else None

-- a name behind its length in one byte
unfoldable pub name_in : List ℕ → Option (List ℕ × List ℕ)
name_in [] = None
name_in (n ∷ bytes) = cut n bytes

-- a text behind its length in four bytes
unfoldable pub text_in : List ℕ → Option (List ℕ × List ℕ)
text_in bytes = if nat_le 4 (length bytes) then cut (of_four (take 4 bytes)) (drop 4 bytes) else None

infixl 10 ◌>>=◌
abbrev pub ◌>>=◌ : {A B : Type 0} → Option A → (A → Option B) → Option B
None >>= f = None
(Some x) >>= f = f x

-- a name, a title and a body, and nothing behind them
unfoldable pub texts_in : List ℕ → Option (List ℕ × List ℕ × List ℕ)
texts_in bytes =
    name_in bytes >>= λ name. text_in name.1 >>= λ title. text_in title.1 >>= λ body.
    if length body.1 == 0 then Some (name.0, title.0, body.0) else None

-- the fields of an add
unfoldable pub add_in : List ℕ → Option Entry
add_in bytes = texts_in bytes >>= λ t. Some (Add t.0 t.1 t.2)

unfoldable pub delete_in : List ℕ → Option Entry
delete_in bytes = if length bytes == 8 then Some (Delete (of_eight bytes)) else None

-- a number, and the fields of an add
unfoldable pub replace_in : List ℕ → Option Entry
replace_in bytes = cut 8 bytes >>= λ number. texts_in number.1 >>= λ t. Some (Replace (of_eight number.0) t.0 t.1 t.2)

-- the entry with this payload, its rules aside
unfoldable pub entry_in : List ℕ → Option Entry
entry_in [] = None
entry_in (kind ∷ bytes) =
    if kind == 1 then add_in bytes else (if kind == 2 then delete_in bytes
    else (if kind == 3 then replace_in bytes else None))

abbrev pub or_none : Option Entry → Entry
or_none None = Delete 0
or_none (Some entry) = entry

-- the entry in what is written behind a gate
unfoldable pub entry_of_body : List ℕ → Entry
entry_of_body bytes = or_none (entry_in (take (length bytes - 5) (drop 4 bytes)))
