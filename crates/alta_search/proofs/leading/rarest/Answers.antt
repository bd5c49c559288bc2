use Rattle.alta_search.specs.Lists.{lists_at, IsCut}
use Rattle.alta_search.specs.Met.{IsSingle}
use Rattle.alta_search.proofs.Parts.{item_at}
use Rattle.alta_search.proofs.leading.rarest.Goals as goal

pub len_at-fewest-requires-clause-cut : goal.len_at-fewest-requires-clause-cut
len_at-fewest-requires-clause-cut c = item_at IsCut (lists_at c.args.tests.now) c.args.words.now 0 0 c.requires.some c.requires.cut

pub len_at-fewest-requires-clause-single : goal.len_at-fewest-requires-clause-single
len_at-fewest-requires-clause-single c = item_at IsSingle (lists_at c.args.tests.now) c.args.words.now 0 0 c.requires.some c.requires.single

pub len_at-len-requires-clause-cut : goal.len_at-len-requires-clause-cut
len_at-len-requires-clause-cut c = item_at IsCut (lists_at c.args.tests.now) c.args.words.now c.loop-i.i 0 c.loop-i-test.true c.requires.cut

pub len_at-len-requires-clause-single : goal.len_at-len-requires-clause-single
len_at-len-requires-clause-single c = item_at IsSingle (lists_at c.args.tests.now) c.args.words.now c.loop-i.i 0 c.loop-i-test.true c.requires.single
