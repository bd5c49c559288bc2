use Rattle.std.proofs.Common.{◌≡◌, ◌++◌, map}
use Rattle.unicode_segmentation.specs.Iter.{unicode_words_left}
use Rattle.alta_machine.specs.Cells.{word_cell}
use Rattle.alta_text.specs.Words.{words_of, folded_of}
use Rattle.alta_machine.proofs.build.put_words.Given as goal

abbrev pub invariant-loop-written : goal.invariant-loop-written
invariant-loop-written l = l.all.items ++ map word_cell (map (λ w. (w, folded_of w)) (unicode_words_left l.written-iterator)) ≡ l.fn.all.items ++ map word_cell (words_of l.text)
