-- The newest documents, which stand behind all levels.
use Rattle.std.specs.Prelude.{◌≡◌, ◌≤◌, ℕ, List}
use Rattle.std.specs.List.{All}
use Rattle.alta_content.specs.declared.content.Content.{Content}
use Rattle.alta_meaning.specs.Opened.{table_rows}
use Rattle.alta_memlevel.specs.Added.{Added, live_of}
use Rattle.alta_memlevel.specs.Documents.{AreAdded, IsBefore, content_of}
use Rattle.alta_table.specs.Tables.{Tables}

-- The documents were added behind these levels, from a number and a location on, and the content is that of those of them that
-- are not gone.
pub record IsNewest (levels : List Tables) (gone : List ℕ) (added : List Added) (content : Content) : Type 0 where
  pub number : ℕ
  pub location : ℕ
  pub numbered : 1 ≤ number
  pub located : 1 ≤ location
  pub behind : All (IsBefore number location) (table_rows levels)
  pub are_added : AreAdded number location added
  pub content_is : content ≡ content_of (live_of gone added)
