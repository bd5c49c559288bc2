-- What a search of a store looks at, and what it finds there.
use Rattle.std.specs.Prelude.{◌≡◌, IsTrue, ℕ, List, ◌++◌, map}
use Rattle.std.specs.List.{All, flat_map}
use Rattle.alta_catalog.specs.Knowing.{gone_of as gone_in, memory_of as memory_in}
use Rattle.alta_codec.specs.Rising.{IsRising}
use Rattle.alta_content.specs.declared.document.DocRow.{DocRow}
use Rattle.alta_meaning.specs.Levels.{Level, documents_of}
use Rattle.alta_meaning.specs.Opened.{bytes_at, table_rows}
use Rattle.alta_meaning.specs.Ordered.{RowsPrecede}
use Rattle.alta_meaning.specs.Standing.{tables_by}
use Rattle.alta_level.specs.Segments.{IsSegment}
use Rattle.alta_memlevel.specs.Added.{Added, HasContent, LevelView}
use Rattle.alta_memlevel.specs.Documents.{HasDocuments}
use Rattle.alta_machine.specs.declared.document.Document.{Document}
use Rattle.alta_machine.specs.declared.document.State.{State}
use Rattle.alta_store.specs.Agreement.{levels_of}
use Rattle.alta_store.specs.declared.store.Store.{Store}
use Rattle.alta_table.specs.Tables.{Tables}

-- The tables of the store's levels, its newest documents, the ends of all documents that are gone, and the rows of levels and newest
-- documents, which rise.
pub record IsSearched (store : Store) (levels : List Tables) (newest : LevelView) (gone : List ℕ)
    (rows : List DocRow) : Type 0 where
  pub levels_are : levels ≡ levels_of store
  pub newest_is : newest ≡ memory_in store.catalog
  pub gone_are : gone ≡ gone_in store.catalog
  pub added : (added : List Added) × IsTrue newest.sound × HasContent added newest.content
  pub rows_are : rows ≡ table_rows levels ++ newest.content.documents
  pub rise : RowsPrecede rows
  pub rising : IsRising gone

-- The levels on the image are the segments of contents, and the documents of the state are theirs that are not gone, and behind them
-- the newest that are not.
pub record FindsDocuments (levels : List Tables) (newest : LevelView) (gone : List ℕ) (s : State)
    (image : List ℕ) : Type 0 where
  pub contents : List Level
  pub tables : levels ≡ map tables_by contents
  pub segments : All (λ (l : Level). IsSegment (bytes_at l.extent image) l.content) contents
  pub behind : List Document
  pub has : HasDocuments gone behind newest
  pub documents : s.documents ≡ flat_map (documents_of gone) contents ++ behind
