use Rattle.std.proofs.Common.{◌≡◌, ◌++◌, map, length}
use Rattle.std.specs.Vec.Iter.{into_iter_items, into_iter_len}
use Rattle.alta_search.specs.declared.single_reader.SingleReader.TheVariants.{Coded}
use Rattle.alta_counts.proofs.walk.all_coded.Given as goal

abbrev pub invariant-loop-reader : goal.invariant-loop-reader
invariant-loop-reader l = (l.yielded ++ into_iter_items l.reader-iterator ≡ into_iter_items l.initial.reader-iterator)
    × (map Coded l.words.items ≡ l.yielded)
    × (into_iter_len l.reader-iterator ≡ length (into_iter_items l.reader-iterator))
