use Rattle.std.proofs.Common.{◌≡◌, ◌++◌, drop, map}
use Rattle.alta_machine.specs.Explained.{explained_each, deeper}
use Rattle.alta_machine.specs.Plans.{trees_of}
use Rattle.alta_compile.specs.View.{tree}
use Rattle.alta_compile.proofs.explaining.+explaining.Given as goal

abbrev pub invariant-put_parts-loop-part : goal.invariant-put_parts-loop-part
invariant-put_parts-loop-part l =
    (l.margin.items ≡ deeper l.fn.margin.items)
    × (l.out.items ++ explained_each (deeper l.fn.margin.items) (trees_of (map tree (drop l.part-index l.parts)))
    ≡ l.fn.out.items ++ explained_each (deeper l.fn.margin.items) (trees_of (map tree l.parts)))
