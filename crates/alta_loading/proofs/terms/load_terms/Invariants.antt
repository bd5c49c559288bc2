use Rattle.std.proofs.Common.{◌≡◌, ◌++◌, map}
use Rattle.alta_loading.proofs.TermRuns.{TermsRun}
use Rattle.alta_loading.specs.Kept.{AreKept}
use Rattle.alta_search.specs.Lists.{key_of, term_lists}
use Rattle.alta_search.specs.declared.lists.TermLists.{TermLists}
use Rattle.alta_loading.specs.Near.{AreNear}
use Rattle.alta_loading.proofs.terms.load_terms.Given as goal

abbrev pub invariant-loop-term : goal.invariant-loop-term
invariant-loop-term g l = record {
  nears : AreNear l.levels l.nears.items;
  split : map (λ (t : TermLists). t.term) l.loaded.items ++ l.term-iterator.rest.items ≡ l.fn.terms.items;
  known : AreKept g.D.Disk.tells (g.D.Disk.state l.disk).content l.levels l.kept;
  run : TermsRun g.D.Disk.tells l.levels l.newest.content (map (λ (t : TermLists). t.term) l.loaded.items) (map key_of l.loaded.items) (map term_lists l.loaded.items) (g.D.Disk.state l.fn.disk) (g.D.Disk.state l.disk);
}
