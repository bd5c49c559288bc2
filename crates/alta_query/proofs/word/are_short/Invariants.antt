use Rattle.std.proofs.Common.{◌≡◌, drop, map}
use Rattle.alta_text.specs.Words.{pair_of}
use Rattle.alta_machine.specs.Words.{are_short}
use Rattle.alta_query.proofs.word.are_short.Given as goal

abbrev pub invariant-loop-word : goal.invariant-loop-word
invariant-loop-word l = are_short (map pair_of (drop l.word-index l.found)) ≡ are_short (map pair_of l.found)
