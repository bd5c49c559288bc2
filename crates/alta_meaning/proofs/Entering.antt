-- One entry more.
use Rattle.std.proofs.Common.{◌≡◌, List, [], ◌∷◌, ◌++◌, refl}
use Rattle.alta_journal.specs.declared.entry.Entry.{Entry}
use Rattle.alta_machine.specs.declared.document.State.{State}
use Rattle.alta_meaning.specs.Entries.{Allows, AllowsAll, after_entry, after_entries}

pub after_more : (s : State) (entries : List Entry) (entry : Entry) → after_entries s (entries ++ entry ∷ []) ≡ after_entry (after_entries s entries) entry
after_more s [] entry = refl
after_more s (first ∷ entries) entry = after_more (after_entry s first) entries entry

pub allows_more : (s : State) (entries : List Entry) (entry : Entry) → AllowsAll s entries → Allows (after_entries s entries) entry → AllowsAll s (entries ++ entry ∷ [])
allows_more s [] entry all more = (more, tt)
allows_more s (first ∷ entries) entry all more = (all.0, allows_more (after_entry s first) entries entry all.1 more)
