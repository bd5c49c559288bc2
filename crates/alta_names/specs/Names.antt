-- Numbers by names, and what a table has of them.
use Rattle.std.specs.Prelude.{◌≡◌, ◌⊎◌, ℕ, ◌%◌, List, Option, Some, nat_eq}
use Rattle.std.specs.HashMap.{get, get_by_text}
use Rattle.std.specs.Hash.FoldHasher as folding
use Rattle.alta_names.specs.declared.table.NameTable.{NameTable}

-- the number of each name that has one
abbrev pub Numbers : Type 0
Numbers = List ℕ → Option ℕ

-- the hash of a name, below 2^32
unfoldable pub name_hash : List ℕ → ℕ
name_hash name = folding.finish (folding.write folding.initial name) % 4294967296

-- the number of a hash
abbrev pub first_of : NameTable → ℕ → Option ℕ
first_of table hash = get nat_eq table.firsts hash

-- the number of the hash of a name
abbrev pub likely_of : NameTable → List ℕ → Option ℕ
likely_of table name = first_of table (name_hash name)

-- the number of a name that is kept by its text
abbrev pub other_of : NameTable → List ℕ → Option ℕ
other_of table name = get_by_text table.others name

-- Each name that has a number has it by its hash or by its text, and each number of the table is that of a name: by its text, or one with
-- the hash.
pub record Fits (table : NameTable) (numbers : Numbers) : Type 0 where
  pub kept : (name : List ℕ) (number : ℕ) → numbers name ≡ Some number
      → (likely_of table name ≡ Some number) ⊎ (other_of table name ≡ Some number)
  pub firsts : (hash number : ℕ) → first_of table hash ≡ Some number
      → (name : List ℕ) × (name_hash name ≡ hash) × (numbers name ≡ Some number)
  pub others : (name : List ℕ) (number : ℕ) → other_of table name ≡ Some number → numbers name ≡ Some number
