use Rattle.std.proofs.Common.{◌≡◌, ◌++◌, List, take}
use Rattle.alta_machine.specs.declared.document.State.{State}
use Rattle.alta_meaning.specs.Entries.{AllowsAll, after_entries, entries_in}
use Rattle.alta_journal.specs.declared.entry.Entry.{Entry}
use Rattle.alta_root.specs.declared.root.Root.{Root}
use Rattle.alta_catalog.specs.Knowing.{Follows, Knows, KnowsBy, levels_of}
use Rattle.alta_catalog.proofs.replaying.apply_entries.Given as goal

abbrev pub invariant-loop-placed : goal.invariant-loop-placed
invariant-loop-placed l = record {
  knows : (s : State) → (knows : Knows l.fn.catalog s) → AllowsAll s (entries_in (take l.placed-index l.found)) × KnowsBy l.catalog knows.olds (after_entries s (entries_in (take l.placed-index l.found)));
  follows : (root : Root) → (entries : List Entry) → Follows l.fn.catalog root entries → Follows l.catalog root (entries ++ entries_in (take l.placed-index l.found));
  levels : levels_of l.catalog ≡ levels_of l.fn.catalog;
}
