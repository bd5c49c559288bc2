-- How many bytes lines read that change no index.
use Rattle.std.specs.Prelude.{ℕ, ◌+◌, ◌≤◌, ◌≡◌, List, [], ◌∷◌, length, All}
use Rattle.alta_layout.specs.declared.places.TheConstants.{HALF_BYTES}
use Rattle.alta_catalog.specs.Knowing.{newest_of}
use Rattle.alta_content.specs.declared.content.Content.{Content}
use Rattle.alta_disk.specs.Disk.{DiskState, Only}
use Rattle.alta_meaning.specs.Opened.{Opened}
use Rattle.alta_loading.specs.Loads.{Load, load_sizes}
use Rattle.alta_machine.specs.Command.{Command, adds, deletes, searches, counts, explains, opens, fetches, closes, ranks, flushes, merges, steps, asks_stats, dumps}
use Rattle.alta_machine.specs.Lines.{Reading, asks, refuses, reading_of}
use Rattle.alta_memlevel.specs.Documents.{content_of}
use Rattle.alta_opening.specs.Costs.{named_bytes}
use Rattle.alta_root.specs.declared.root.Root.{Root}
use Rattle.alta_replies.specs.Loading.{line_loads, newest_in}
use Rattle.alta_machine.specs.Machine.{Machine, step}
use Rattle.alta_session.specs.declared.session.Session.{Session}
use Rattle.alta_store.specs.Agreement.{levels_of}
use Rattle.alta_table.specs.Tables.{Tables}

-- the command is no add, delete, flush, merge or step
abbrev pub KeepsIndex : Command → Type 0
KeepsIndex (adds name title body) = ⊥
KeepsIndex (deletes name) = ⊥
KeepsIndex (searches text) = Unit {0}
KeepsIndex (counts text) = Unit {0}
KeepsIndex (explains text) = Unit {0}
KeepsIndex (opens text) = Unit {0}
KeepsIndex (fetches cursor count) = Unit {0}
KeepsIndex (closes cursor) = Unit {0}
KeepsIndex (ranks count text) = Unit {0}
KeepsIndex flushes = ⊥
KeepsIndex merges = ⊥
KeepsIndex (steps count) = ⊥
KeepsIndex asks_stats = Unit {0}
KeepsIndex dumps = Unit {0}

abbrev pub ReadsIn : Reading → Type 0
ReadsIn (asks command) = KeepsIndex command
ReadsIn (refuses fault) = Unit {0}

-- the line is no command, or a command that changes no index
unfoldable pub OnlyReads : List ℕ → Type 0
OnlyReads line = ReadsIn (reading_of line)

-- the line may change it
abbrev pub MayChange : List ℕ → Type 0
MayChange line = ¬ (OnlyReads line)

-- the lists that a session loads for a line
abbrev pub session_loads : Session → List ℕ → List Load
session_loads session line = line_loads (levels_of session.store) (newest_in session.store)
    (length session.cursors) line

-- the bytes of the lists that a line loads from levels, beside these newest documents
unfoldable pub line_bytes : List Tables → Content → Machine → List ℕ → ℕ
line_bytes levels newest m line = load_sizes (line_loads levels newest (length m.cursors) line)

-- those that lines load, one behind the other, from a machine on
abbrev pub lines_bytes : List Tables → Content → Machine → List (List ℕ) → ℕ
lines_bytes levels newest m [] = 0
lines_bytes levels newest m (line ∷ lines) = line_bytes levels newest m line
    + lines_bytes levels newest (step m line).0 lines

-- ---- from an image on

-- the most that opening reads of an image: both slots, what the root that counts names, but no stream, and one half of the journal
abbrev pub opening_bytes : Root → List ℕ → ℕ
opening_bytes root image = 592 + named_bytes root image + HALF_BYTES

-- the newest documents of what is opened, deleted ones among them: those that the journal's entries add
abbrev pub newest_of_opened : Opened → Content
newest_of_opened opened = content_of (newest_of opened.root opened.entries)

-- ---- a run

-- Where no line changes the index, no more bytes were read than the lists have that the lines load.
abbrev pub Spends : DiskState → DiskState → Session → Machine → List (List ℕ) → Type 0
Spends disk disk_now session m lines =
    All OnlyReads lines → disk_now.taken ≤ disk.taken + lines_bytes (levels_of session.store)
    (newest_in session.store) m lines

-- and the store is as it was
abbrev pub KeepsStore : Session → Session → List (List ℕ) → Type 0
KeepsStore session session_now lines = All OnlyReads lines → session_now.store ≡ session.store

-- and nothing is pending on the disk then, where nothing was before
abbrev pub KeepsSettled : Type 0 → DiskState → DiskState → List (List ℕ) → Type 0
KeepsSettled tells disk disk_now lines = All OnlyReads lines → tells → Only disk.content disk.images
    → Only disk_now.content disk_now.images
