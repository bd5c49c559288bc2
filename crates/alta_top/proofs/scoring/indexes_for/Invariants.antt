use Rattle.std.proofs.Common.{◌≡◌, ◌++◌, drop, map}
use Rattle.alta_machine.specs.declared.usage.Use.{Use}
use Rattle.alta_search.specs.Lists.{lists_at}
use Rattle.alta_top.proofs.SameTests.{lists_among}
use Rattle.alta_top.proofs.scoring.indexes_for.Given as goal

abbrev pub invariant-loop-one : goal.invariant-loop-one
invariant-loop-one l =
    map (lists_at l.tests) l.indexes.items ++ map (λ (u : Use). lists_among l.tests u.test l.used) (drop l.one-index l.uses) ≡ map (λ (u : Use). lists_among l.tests u.test l.used) l.uses
