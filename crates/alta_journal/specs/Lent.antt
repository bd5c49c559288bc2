-- The entry of which the texts are lent.
use Rattle.alta_journal.specs.declared.entry.Entry.{Entry}
use Rattle.alta_journal.specs.declared.entry.Entry.TheVariants.{Add, Delete, Replace}
use Rattle.alta_journal.specs.declared.entry.LentEntry.{LentEntry}
use Rattle.alta_journal.specs.declared.entry.LentEntry.TheVariants as lent

abbrev pub entry_of : LentEntry → Entry
entry_of (lent.Add name title body) = Add name.now title.now body.now
entry_of (lent.Delete number) = Delete number
entry_of (lent.Replace number name title body) = Replace number name.now title.now body.now
