-- A summary as a table of fields of eight bytes, big-endian: three a row, then one a group of 64 rows.
use Rattle.std.specs.Prelude.{◌≡◌, ◌≢◌, ◌⊎◌, ℕ, ◌+◌, ◌-◌, ◌*◌, ◌/◌, ◌%◌, ◌<◌, ◌≤◌, cond, nat_lt, min, List, length, map, take, drop, slice_index}
use Rattle.std.specs.Int.{w64, from_be_bytes}
use Rattle.alta_postings.specs.declared.summary.Row.{Row}

-- the number in the eight bytes of a field
unfoldable pub field_at : List ℕ → ℕ → ℕ
field_at bytes k = from_be_bytes w64 (take 8 (drop (8 * k) bytes))

-- how many groups so many rows make, and how many fields they all have
abbrev pub groups_of : ℕ → ℕ
groups_of b = (b + 63) / 64

abbrev pub fields_of : ℕ → ℕ
fields_of b = 3 * b + groups_of b

-- the last row of a group
abbrev pub last_row : ℕ → ℕ → ℕ
last_row b g = min (64 * g + 63) (b - 1)

-- the bytes have the length of a table of b rows; one row alone has no table
pub record HasRows (bytes : List ℕ) (b : ℕ) : Type 0 where
  pub sized : length bytes ≡ 8 * fields_of b
  pub many : b ≢ 1

-- what field k of a table of b rows owes to the fields before it
pub record Keeps (bytes : List ℕ) (b k : ℕ) : Type 0 where
  pub first : k < 3 * b → k % 3 ≡ 0 → 0 < k → field_at bytes (k - 2) < field_at bytes k
  pub last : k < 3 * b → k % 3 ≡ 1 → field_at bytes (k - 1) ≤ field_at bytes k
  pub start : 2 < 3 * b → k ≡ 2 → field_at bytes k ≡ 0
  pub place : k < 3 * b → k % 3 ≡ 2 → 2 < k → field_at bytes (k - 3) < field_at bytes k
  pub group : 3 * b ≤ k → field_at bytes k ≡ field_at bytes (3 * last_row b (k - 3 * b) + 1)

-- the bytes are a table of b rows
pub record IsSummary (bytes : List ℕ) (b : ℕ) : Type 0 where
  pub rows : HasRows bytes b
  pub keeps : (k : ℕ) → k < fields_of b → Keeps bytes b k

-- a table: its bytes, and how many rows it has
pub record Table : Type 0 where
  pub bytes : List ℕ
  pub count : ℕ

-- the length is wrong: its place is the end
pub record HasWrongLength (bytes : List ℕ) (place : ℕ) : Type 0 where
  pub none : (b : ℕ) → HasRows bytes b → ⊥
  pub here : place ≡ length bytes

-- field k is the first that breaks its rule
pub record IsFirstBroken (bytes : List ℕ) (b k place : ℕ) : Type 0 where
  pub rows : HasRows bytes b
  pub within : k < fields_of b
  pub before : (m : ℕ) → m < k → Keeps bytes b m
  pub broken : Keeps bytes b k → ⊥
  pub here : place ≡ 8 * k

abbrev pub IsFault : List ℕ → ℕ → Type 0
IsFault bytes place = HasWrongLength bytes place ⊎ ((b : ℕ) × ((k : ℕ) × IsFirstBroken bytes b k place))

-- the first and the last location of each row, and the place of its block
abbrev pub firsts_of : List Row → List ℕ
firsts_of rows = map (λ row. row.first) rows

abbrev pub lasts_of : List Row → List ℕ
lasts_of rows = map (λ row. row.last) rows

abbrev pub places_of : List Row → List ℕ
places_of rows = map (λ row. row.place) rows

-- rows of blocks, one behind the other
pub record AreRows (rows : List Row) : Type 0 where
  pub ordered : (i : ℕ) → i < length rows → slice_index (firsts_of rows) i ≤ slice_index (lasts_of rows) i
  pub rising : (i : ℕ) → i + 1 < length rows → slice_index (lasts_of rows) i < slice_index (firsts_of rows) (i + 1)
  pub start : 0 < length rows → slice_index (places_of rows) 0 ≡ 0
  pub places : (i : ℕ) → i + 1 < length rows → slice_index (places_of rows) i < slice_index (places_of rows) (i + 1)

-- the bytes have one field more, at their end
pub record IsLonger (old new : List ℕ) (n : ℕ) : Type 0 where
  pub sized : length new ≡ length old + 8
  pub kept : (k : ℕ) → 8 * k + 8 ≤ length old → field_at new k ≡ field_at old k
  pub added : (k : ℕ) → 8 * k ≡ length old → field_at new k ≡ n

-- field by field, the bytes have the first n of these rows
pub record HasRowValues (bytes : List ℕ) (rows : List Row) (n : ℕ) : Type 0 where
  pub first : (i : ℕ) → i < n → field_at bytes (3 * i) ≡ slice_index (firsts_of rows) i
  pub last : (i : ℕ) → i < n → field_at bytes (3 * i + 1) ≡ slice_index (lasts_of rows) i
  pub place : (i : ℕ) → i < n → field_at bytes (3 * i + 2) ≡ slice_index (places_of rows) i

-- those rows are all that the bytes have
pub record HasRowFields (bytes : List ℕ) (rows : List Row) (n : ℕ) : Type 0 where
  pub sized : length bytes ≡ 8 * (3 * n)
  pub values : HasRowValues bytes rows n

-- the bytes have all these rows, and the fields of their first n groups
pub record HasGroupFields (bytes : List ℕ) (rows : List Row) (n : ℕ) : Type 0 where
  pub sized : length bytes ≡ 8 * (3 * length rows + n)
  pub values : HasRowValues bytes rows (length rows)
  pub group : (g : ℕ) → g < n → field_at bytes (3 * length rows + g)
      ≡ slice_index (lasts_of rows) (last_row (length rows) g)

-- how many of so many rows a table has: one alone has none
abbrev pub kept_of : ℕ → ℕ
kept_of n = cond (nat_lt n 2) 0 n

-- the bytes are the table of these rows
pub record IsTableOf (bytes : List ℕ) (rows : List Row) : Type 0 where
  pub table : IsSummary bytes (kept_of (length rows))
  pub values : HasRowValues bytes rows (kept_of (length rows))
