-- How many bytes opening reads of what a root names.
use Rattle.std.specs.Prelude.{ℕ, ◌+◌, List, Result, Ok, Err}
use Rattle.std.specs.List.{sum_by}
use Rattle.alta_codec.specs.declared.extent.Extent.{Extent}
use Rattle.alta_meaning.specs.Opened.{bytes_at}
use Rattle.alta_root.specs.declared.root.Root.{Root}
use Rattle.alta_table.specs.Tables.{read_head}
use Rattle.alta_table.specs.declared.sizes.Head.{Head}

-- a head of 32 bytes, and the parts of which it speaks
abbrev pub front_bytes : Result Head ℕ → ℕ
front_bytes (Ok head) = 32 + head.document_bytes + head.term_bytes
front_bytes (Err place) = 32

-- head, documents and terms of a level
abbrev pub level_bytes : List ℕ → Extent → ℕ
level_bytes image extent = front_bytes (read_head (bytes_at extent image) extent.place extent.bytes)

-- The deletion list, and head, documents and terms of each level.
abbrev pub named_bytes : Root → List ℕ → ℕ
named_bytes root image = root.deletions.bytes + sum_by (level_bytes image) root.levels.items

-- all bytes of what a root names
abbrev pub whole_bytes : Root → ℕ
whole_bytes root = root.deletions.bytes + sum_by (λ (extent : Extent). extent.bytes) root.levels.items
