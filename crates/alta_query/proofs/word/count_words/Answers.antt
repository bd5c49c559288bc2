use Rattle.std.proofs.Common.{length, ap, ◌∙◌}
use Rattle.std.proofs.lemmas.Iterator.Consumers.{count_from_yields_List}
use Rattle.unicode_segmentation.proofs.SegmentsLemmas.{YieldsList-from_gives}
use Rattle.alta_query.proofs.Counted.{words_tests}
use Rattle.alta_query.proofs.word.count_words.Goals as goal

pub returns : goal.returns
returns c =
    count_from_yields_List _ _ c.count.ensures.ran (YieldsList-from_gives _ _ c.unicode_words.result) ∙ ap length c.unicode_words.ensures.left ∙ words_tests c.args.text.now
