-- What an image says, and the state that this is.
use Rattle.std.specs.Prelude.{ℕ, List, [], ◌∷◌, ◌++◌}
use Rattle.std.specs.List.{flat_map}
use Rattle.alta_journal.specs.declared.entry.Entry.{Entry}
use Rattle.alta_machine.specs.declared.document.State.{State}
use Rattle.alta_meaning.specs.Entries.{after_entries}
use Rattle.alta_meaning.specs.Levels.{Level, documents_of}

-- What an image says: the root's version, its next number and next location, its levels, the oldest first, the ends of their documents that
-- are deleted, and the entries of its journal half.
pub record View : Type 0 where
  pub version : ℕ
  pub next : ℕ
  pub location : ℕ
  pub levels : List Level
  pub deleted : List ℕ
  pub entries : List Entry

-- the view with one entry more
abbrev pub with_entry : View → Entry → View
with_entry view entry = record {
  version = view.version;
  next = view.next;
  location = view.location;
  levels = view.levels;
  deleted = view.deleted;
  entries = view.entries ++ entry ∷ [];
}

-- the state that the root of a view speaks of: the documents of its levels that are not deleted
abbrev pub rooted : View → State
rooted view = record { next = view.next; documents = flat_map (documents_of view.deleted) view.levels }

-- the state of a view: that of the root, and then the entries in order
abbrev pub state_of : View → State
state_of view = after_entries (rooted view) view.entries
