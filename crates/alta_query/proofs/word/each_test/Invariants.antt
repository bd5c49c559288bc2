use Rattle.std.proofs.Common.{◌≡◌, ◌++◌, drop, map}
use Rattle.std.specs.List.{All}
use Rattle.alta_text.specs.Words.{pair_of}
use Rattle.alta_query.specs.Texts.{HasTextTerm}
use Rattle.alta_machine.specs.Words.{word_test}
use Rattle.alta_query.proofs.word.each_test.Given as goal

abbrev pub invariant-loop-word : goal.invariant-loop-word
invariant-loop-word l = record {
  tests : l.tests.items ++ map word_test (map pair_of (drop l.word-index l.found)) ≡ map word_test (map pair_of l.found);
  texts : All HasTextTerm l.tests.items;
}
