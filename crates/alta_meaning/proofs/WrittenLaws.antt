-- What was written is read.
use Rattle.std.proofs.Common.{◌≡◌, ℕ, ◌<◌, ◌^◌, List, [], ◌∷◌, length, map, sym, ap, subst, ◌∙◌, arith, Ok}
use Rattle.std.specs.List.{All}
use Rattle.std.proofs.lemmas.List.Elements.{All-head, All-tail}
use Rattle.alta_codec.specs.declared.extent.Extent.{Extent}
use Rattle.alta_codec.specs.Bytes.{AreBytes}
use Rattle.alta_level.specs.Segments.{IsSegment}
use Rattle.alta_level.proofs.Spelled.{segment_tables}
use Rattle.alta_postings.specs.Deltas.{Spells, fault_from, first_fault, list_from, decoded_list}
use Rattle.alta_postings.proofs.Reading.{spelling_reads}
use Rattle.alta_root.specs.Root.{no_extent}
use Rattle.alta_root.specs.declared.root.Root.{Root}
use Rattle.alta_meaning.specs.Levels.{Level}
use Rattle.alta_meaning.specs.Views.{View, state_of}
use Rattle.alta_table.specs.Tables.{AreTables}
use Rattle.alta_table.proofs.TableLaws.{are_tables}
use Rattle.alta_meaning.specs.Holding.{Holding, IsHeld}
use Rattle.alta_meaning.specs.Opened.{bytes_at, list_at, deleted_in, tables_at, levels_from, levels_in, table_rows, live_in}
use Rattle.alta_meaning.specs.Ordered.{AreOrdered, RowsPrecede, AreBelow}
use Rattle.alta_meaning.specs.Standing.{StandsFor, tables_by}
use Rattle.alta_meaning.proofs.Steps.{one_value}
use Rattle.alta_meaning.proofs.ReadLaws.{AreRead, read_again}

-- ---- a list and a level

pub list_read : (root : Root) (deleted image : List ℕ) → Spells (bytes_at root.deletions image) deleted → deleted_in root image ≡ Ok deleted
unfolding deleted_in
list_read root deleted image spells =
    let read = spelling_reads (bytes_at root.deletions image) deleted spells in
    ap (list_at root.deletions.place (bytes_at root.deletions image)) read.0 ∙ ap (λ (l : List ℕ). Ok l) read.1

pub level_read : (level : Level) (image : List ℕ) → AreBytes (bytes_at level.extent image) → length (bytes_at level.extent image) ≡ level.extent.bytes → level.extent.bytes < 2 ^ 64
    → IsSegment (bytes_at level.extent image) level.content → tables_at level.extent image ≡ Ok (tables_by level)
unfolding tables_at
level_read level image bytes long small segment =
    let here : length (bytes_at level.extent image) < 2 ^ 64 = omega (arith, long, small) in
    are_tables (bytes_at level.extent image) level.extent.place level.extent.bytes (tables_by level) bytes small
    (subst (λ n. AreTables (bytes_at level.extent image) level.extent.place n (tables_by level)) long (segment_tables (bytes_at level.extent image) level.extent.place level.content here segment))

-- ---- levels

abbrev pub IsRead : List ℕ → Level → Type 0
IsRead image l = tables_at l.extent image ≡ Ok (tables_by l)

are_read : (levels : List Level) (image : List ℕ) → All (IsRead image) levels → AreRead (map (λ (l : Level). l.extent) levels) (map tables_by levels) image
are_read [] image read = tt
are_read (l ∷ ls) image read = (All-head (IsRead image) l ls read, are_read ls image (All-tail (IsRead image) l ls read))

pub levels_read : (root : Root) (deleted : List ℕ) (levels : List Level) (image : List ℕ) → root.levels.items ≡ map (λ (l : Level). l.extent) levels → All (IsRead image) levels → RowsPrecede (table_rows (map tables_by levels))
    → AreBelow root (table_rows (map tables_by levels)) → AreOrdered (live_in deleted (table_rows (map tables_by levels))) → levels_in root deleted image ≡ Ok (map tables_by levels)
levels_read root deleted levels image extents read rise below ordered =
    ap (λ (es : List Extent). levels_from root deleted [] es image) extents
    ∙ read_again root deleted [] (map (λ (l : Level). l.extent) levels) (map tables_by levels) image (are_read levels image read) rise below ordered

-- ---- what is held

pub held_stands : (held : Holding) (image : List ℕ) → IsHeld held image → StandsFor (state_of held.view) image
held_stands held image is = record {
  opened = is.opened;
  counts = is.is.counts;
  means = record { named = is.is.named; levels = held.view.levels; are = is.are; state_is = ap state_of (sym is.view_is) };
}

pub held_without : (held : Holding) (image : List ℕ) → IsHeld held image → held.list ≡ no_extent → held.view.deleted ≡ []
unfolding deleted_in first_fault fault_from list_from decoded_list
held_without held image is none =
    let list : is.opened.root.deletions ≡ no_extent = sym is.list_is ∙ none in
    let bytes : bytes_at is.opened.root.deletions image ≡ [] = ap (λ (e : Extent). bytes_at e image) list in
    let empty : deleted_in is.opened.root image ≡ Ok [] = ap (λ (b : List ℕ). list_at is.opened.root.deletions.place b (first_fault b)) bytes in
    ap (λ (v : View). v.deleted) is.view_is ∙ one_value (deleted_in is.opened.root image) is.opened.deleted [] is.is.named.list empty
