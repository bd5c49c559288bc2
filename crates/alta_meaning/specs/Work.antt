-- What the work on levels does to what a store holds.
use Rattle.std.specs.Prelude.{ℕ, ◌+◌, ◌==◌, nat_le, Bool, false, not, ◌&&◌, ◌||◌, cond, List, [], ◌∷◌, ◌++◌, length, take, drop, map, Option, Some, None}
use Rattle.std.specs.List.{filter, flat_map, list_any}
use Rattle.alta_layout.specs.declared.places.TheConstants.{HALF_BYTES}
use Rattle.alta_codec.specs.declared.extent.Extent.{Extent}
use Rattle.alta_journal.specs.Entry.{is_old}
use Rattle.alta_journal.specs.Record.{record_of}
use Rattle.alta_journal.specs.declared.entry.Entry.{Entry}
use Rattle.alta_journal.specs.declared.entry.Entry.TheVariants.{Add, Delete, Replace}
use Rattle.alta_content.specs.Rows.{end_of, ends_among}
use Rattle.alta_content.specs.declared.content.Content.{Content}
use Rattle.alta_content.specs.declared.document.DocRow.{DocRow}
use Rattle.alta_memlevel.specs.Added.{Added, live_of}
use Rattle.alta_machine.specs.Cells.{cells_of}
use Rattle.alta_meaning.specs.Levels.{Level}
use Rattle.alta_meaning.specs.Views.{View}
use Rattle.alta_content.specs.Joining.{joined, joined_in}
use Rattle.alta_memlevel.specs.Documents.{content_of}

-- ---- what a store holds

-- A join of the two oldest levels that goes on: their contents, the ends that were gone when it began, and how many of their
-- terms are merged.
pub record Job : Type 0 where
  pub older : Content
  pub newer : Content
  pub dead : List ℕ
  pub merged : ℕ

-- ---- newest documents, and what is gone

-- a document with its row, from this number and this location on
abbrev pub added_at : ℕ → ℕ → List ℕ → List (List (List ℕ)) → Added
added_at number location name cells = record {
  row = record { number = number; first = location; cells = length cells; name = name };
  cells = cells;
}

-- the documents that entries add, the deleted ones included, one behind the other from this number and this location on
abbrev pub added_from : ℕ → ℕ → List Entry → List Added
added_from number location [] = []
added_from number location (Add name title body ∷ entries) =
    added_at number location name (cells_of name title body) ∷ added_from (number + 1)
    (location + length (cells_of name title body)) entries
added_from number location (Delete n ∷ entries) = added_from number location entries
added_from number location (Replace n name title body ∷ entries) =
    added_at number location name (cells_of name title body) ∷ added_from (number + 1)
    (location + length (cells_of name title body)) entries

-- the newest documents: those that the journal's entries add
abbrev pub newest : View → List Added
newest view = added_from view.next view.location view.entries

-- the entry leaves out the document with this number
abbrev pub leaves_out : ℕ → Entry → Bool
leaves_out number (Add name title body) = false
leaves_out number (Delete n) = n == number
leaves_out number (Replace n name title body) = n == number

-- the document of a row is gone: its end is deleted, or an entry leaves it out
abbrev pub is_gone : View → DocRow → Bool
is_gone view row = ends_among view.deleted row || list_any (leaves_out row.number) view.entries

-- the rows of levels, the oldest first
abbrev pub level_rows : List Level → List DocRow
level_rows levels = flat_map (λ (l : Level). l.content.documents) levels

-- the ends of those rows whose document is gone, rising as the rows do
abbrev pub gone_among : View → List DocRow → List ℕ
gone_among view rows = map end_of (filter (is_gone view) rows)

-- the gone ends: of the levels' documents and of the newest
abbrev pub gone : View → List ℕ
gone view = gone_among view (level_rows view.levels ++ map (λ (a : Added). a.row) (newest view))

-- the content of the newest documents that are not gone
abbrev pub newest_content : View → Content
newest_content view = content_of (live_of (gone view) (newest view))

-- ---- a switch of the root

-- a level of the root to come: one that stays, or a content that is written anew
pub data Coming : Type 0 where
  stays : Level → Coming
  anew : Content → Coming

-- a content as a level to come, which there is only with rows
abbrev pub coming : Content → List Coming
coming content = cond (length content.documents == 0) [] (anew content ∷ [])

abbrev pub extents_in : List Level → List Extent
extents_in levels = map (λ (l : Level). l.extent) levels

-- ---- flush, merge and step

-- a job's whole content
abbrev pub whole_of : Job → Content
whole_of job = joined job.older job.newer job.dead

-- what the two oldest levels become: the job's whole content, or without a job their join without what is gone
abbrev pub oldest_joined : Option Job → View → Content
oldest_joined (Some job) view = whole_of job
oldest_joined None view = joined_in (map (λ (l : Level). l.content) (take 2 view.levels)) (gone view)

-- the levels, with this content in place of the two oldest, and behind them the newest documents
abbrev pub with_oldest : Content → View → List Coming
with_oldest content view = coming content ++ map stays (drop 2 view.levels) ++ coming (newest_content view)

-- There is nothing to merge: at most one level, no deleted end, and no entry.
abbrev pub is_merged : View → Bool
is_merged view = nat_le (length view.levels) 1 && length view.deleted == 0 && length view.entries == 0

-- a job over the two oldest levels, where there are two
abbrev pub begun : View → List Level → Option Job
begun view (older ∷ newer ∷ more) = Some
    (record { older = older.content; newer = newer.content; dead = gone view; merged = 0 })
begun view others = None

-- the job that goes on, or one that begins
abbrev pub job_of : Option Job → View → Option Job
job_of (Some job) view = Some job
job_of None view = begun view view.levels

-- ---- by command

-- the record of the entry fits behind those of the others, with a gate behind it
abbrev pub fits : List Entry → Entry → Bool
fits entries entry = nat_le (length (flat_map record_of entries) + length (record_of entry) + 1) HALF_BYTES

-- A root of this version can't have the record of the entry: it is of version 1, and the record is a replace's, or too long for it.
abbrev pub needs_raise : ℕ → Entry → Bool
needs_raise version entry = version == 1 && not (is_old entry)

-- what a line asks of the store, where it is not refused
pub data Task : Type 0 where
  -- the entry of an add, a delete or a replace
  enters : Entry → Task
  flushes : Task
  merges : Task
  steps : ℕ → Task
