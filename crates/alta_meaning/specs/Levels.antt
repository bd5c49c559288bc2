-- The levels of an index, and the documents that they have.
use Rattle.std.specs.Prelude.{ℕ, List, map}
use Rattle.alta_codec.specs.declared.extent.Extent.{Extent}
use Rattle.alta_content.specs.declared.content.Content.{Content}
pub use Rattle.alta_content.specs.Cells.{cell_at}
unfoldable pub use Rattle.alta_content.specs.Cells.{locations_from}
pub use Rattle.alta_content.specs.Rows.{live_rows}
pub use Rattle.alta_memlevel.specs.Documents.{document_of}
use Rattle.alta_machine.specs.declared.document.Document.{Document}

-- a level: where its segment stands on the disk, and its content
pub record Level : Type 0 where
  pub extent : Extent
  pub content : Content

-- the documents of a level, without those whose end is deleted
abbrev pub documents_of : List ℕ → Level → List Document
documents_of deleted level = map (document_of level.content.lists) (live_rows deleted level.content.documents)
