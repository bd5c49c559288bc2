use Rattle.std.proofs.Common.{◌-◌, length}
use Rattle.alta_words.specs.Compared.{IsComparedTo}
use Rattle.alta_words.proofs.checking.compare.Given as goal

abbrev pub invariant-whole : goal.invariant-whole
invariant-whole l = IsComparedTo l.stream l.table.bytes l.table.count l.read

abbrev pub decreases-whole : goal.decreases-whole
decreases-whole l = length l.stream - l.read.at
