use Rattle.std.proofs.Common.{length, ap, arith}
use Rattle.std.proofs.lemmas.List.{length-map}
use Rattle.alta_search.specs.Lists.{test_at}
use Rattle.alta_counts.proofs.asked_count.has_few_words.Goals as goal

pub returns : goal.returns
returns c = λ _.
    omega (arith, c.if-uses-eq0.false, ap length c.uses.ensures.used, length-map c.uses.result.1.now (test_at c.uses.result.0.now))
