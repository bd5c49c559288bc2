-- The states of which what is opened may speak.
use Rattle.std.proofs.Common.{◌≡◌, ℕ, zero, suc, ◌+◌, List, [], ◌∷◌, ◌++◌, length, map, not, replicate, refl, sym, ◌∙◌, ap, arith}
use Rattle.std.specs.List.{All, flat_map}
use Rattle.std.proofs.lemmas.List.{length-map, length-replicate, map-append}
use Rattle.std.proofs.lemmas.List.Elements.{All-append, All-nil, All-cons}
use Rattle.alta_content.specs.Rows.{ends_among}
use Rattle.alta_content.specs.declared.document.DocRow.{DocRow}
use Rattle.alta_content.specs.TermList.{TermList}
use Rattle.alta_meaning.specs.Entries.{after_entries}
use Rattle.alta_meaning.specs.Levels.{Level, document_of, documents_of, live_rows, locations_from}
use Rattle.alta_meaning.specs.Opened.{Opened, table_rows}
use Rattle.alta_meaning.specs.Standing.{Means, tables_by}
use Rattle.alta_meaning.proofs.Tests.{by_test, filter_drop, filter_keep}
use Rattle.alta_memlevel.specs.Added.{Added}
use Rattle.alta_machine.specs.declared.document.Document.{Document}
use Rattle.alta_machine.specs.declared.document.State.{State}
use Rattle.alta_root.specs.declared.root.Root.{Root}
use Rattle.alta_table.specs.Tables.{Tables}
use Rattle.alta_catalog.specs.Rows.{MayBe, MayStart, documents_left}
use Rattle.alta_catalog.proofs.SpaceLaws.{left_alive, left_append, left_dead}

-- ---- documents of cells that are empty

abbrev bare : DocRow → Added
bare row = record { row = row; cells = replicate row.cells [] }

bare_rows : (rows : List DocRow) → map (λ (a : Added). a.row) (map bare rows) ≡ rows
bare_rows [] = refl
bare_rows (row ∷ rows) = ap (λ (rs : List DocRow). row ∷ rs) (bare_rows rows)

bare_counted : (rows : List DocRow) → All (λ (a : Added). length a.cells ≡ a.row.cells) (map bare rows)
bare_counted [] = All-nil (λ (a : Added). length a.cells ≡ a.row.cells)
bare_counted (row ∷ rows) = All-cons (λ (a : Added). length a.cells ≡ a.row.cells) (bare row) (map bare rows) (length-replicate row.cells []) (bare_counted rows)

pub may_start : (root : Root) (deleted : List ℕ) (levels : List Tables) → (s : State) × MayStart s root deleted levels
may_start root deleted levels =
    let olds = map bare (table_rows levels) in (
      record { next = root.next_number; documents = documents_left deleted olds },
      record { olds = olds; rows = record { rows_are = bare_rows (table_rows levels); counted = bare_counted (table_rows levels) }; state_is = refl },
    )

pub may_be : (o : Opened) → (s : State) × MayBe s o
may_be o =
    let (start, starts) = may_start o.root o.deleted o.levels in
    (after_entries start o.entries, record { start = start; starts = starts; state_is = refl })

-- ---- documents of contents

abbrev pub whole : List TermList → DocRow → Added
whole lists row = record { row = row; cells = (document_of lists row).cells }

abbrev pub whole_of : Level → List Added
whole_of level = map (whole level.content.lists) level.content.documents

whole_rows : (lists : List TermList) (rows : List DocRow) → map (λ (a : Added). a.row) (map (whole lists) rows) ≡ rows
whole_rows lists [] = refl
whole_rows lists (row ∷ rows) = ap (λ (rs : List DocRow). row ∷ rs) (whole_rows lists rows)

many_locations : (first n : ℕ) → length (locations_from first n) ≡ n
unfolding locations_from
many_locations first zero = refl
many_locations first (suc n) = omega (arith, many_locations (first + 1) n)

whole_counted : (lists : List TermList) (rows : List DocRow) → All (λ (a : Added). length a.cells ≡ a.row.cells) (map (whole lists) rows)
whole_counted lists [] = All-nil (λ (a : Added). length a.cells ≡ a.row.cells)
whole_counted lists (row ∷ rows) =
    All-cons (λ (a : Added). length a.cells ≡ a.row.cells) (whole lists row) (map (whole lists) rows)
    (length-map (locations_from row.first row.cells) _ ∙ many_locations row.first row.cells) (whole_counted lists rows)

-- the live ones are the documents of the live rows
whole_left : (deleted : List ℕ) (lists : List TermList) (rows : List DocRow) → documents_left deleted (map (whole lists) rows) ≡ map (document_of lists) (live_rows deleted rows)
whole_left deleted lists [] = refl
whole_left deleted lists (row ∷ rows) =
    by_test (ends_among deleted row)
    (λ dead. left_dead deleted (whole lists row) (map (whole lists) rows) dead ∙ whole_left deleted lists rows
    ∙ sym (ap (λ (rs : List DocRow). map (document_of lists) rs) (filter_drop (λ (r : DocRow). not (ends_among deleted r)) row rows (ap not dead))))
    (λ alive. left_alive deleted (whole lists row) (map (whole lists) rows) alive ∙ ap (λ (ds : List Document). document_of lists row ∷ ds) (whole_left deleted lists rows)
    ∙ sym (ap (λ (rs : List DocRow). map (document_of lists) rs) (filter_keep (λ (r : DocRow). not (ends_among deleted r)) row rows (ap not alive))))

levels_rows : (levels : List Level) → map (λ (a : Added). a.row) (flat_map whole_of levels) ≡ table_rows (map tables_by levels)
levels_rows [] = refl
levels_rows (level ∷ levels) =
    map-append (λ (a : Added). a.row) (whole_of level) (flat_map whole_of levels)
    ∙ ap (λ (rs : List DocRow). rs ++ map (λ (a : Added). a.row) (flat_map whole_of levels)) (whole_rows level.content.lists level.content.documents)
    ∙ ap (λ (rs : List DocRow). level.content.documents ++ rs) (levels_rows levels)

levels_counted : (levels : List Level) → All (λ (a : Added). length a.cells ≡ a.row.cells) (flat_map whole_of levels)
levels_counted [] = All-nil (λ (a : Added). length a.cells ≡ a.row.cells)
levels_counted (level ∷ levels) = All-append (λ (a : Added). length a.cells ≡ a.row.cells) (whole_of level) (flat_map whole_of levels) (whole_counted level.content.lists level.content.documents) (levels_counted levels)

pub levels_left : (deleted : List ℕ) (levels : List Level) → documents_left deleted (flat_map whole_of levels) ≡ flat_map (documents_of deleted) levels
levels_left deleted [] = refl
levels_left deleted (level ∷ levels) =
    left_append deleted (whole_of level) (flat_map whole_of levels)
    ∙ ap (λ (ds : List Document). ds ++ documents_left deleted (flat_map whole_of levels)) (whole_left deleted level.content.lists level.content.documents)
    ∙ ap (λ (ds : List Document). documents_of deleted level ++ ds) (levels_left deleted levels)

-- a root speaks of the state by the documents of its levels' contents
pub means_by : (s : State) (o : Opened) (image : List ℕ) (means : Means s o image) → (may : MayBe s o) × (may.starts.olds ≡ flat_map whole_of means.levels)
means_by s o image means =
    let olds = flat_map whole_of means.levels in
    let from : List Document → State = λ (ds : List Document). after_entries (record { next = o.root.next_number; documents = ds }) o.entries in (
      record {
        start = record { next = o.root.next_number; documents = documents_left o.deleted olds };
        starts = record {
          olds = olds;
          rows = record { rows_are = levels_rows means.levels ∙ ap table_rows (sym means.are.tables); counted = levels_counted means.levels };
          state_is = refl;
        };
        state_is = sym means.state_is ∙ ap from (sym (levels_left o.deleted means.levels));
      },
      refl,
    )

pub means_may : (s : State) (o : Opened) (image : List ℕ) → Means s o image → MayBe s o
means_may s o image means = (means_by s o image means).0
