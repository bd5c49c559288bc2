use Rattle.std.proofs.Common.{map, sym, subst, ◌∙◌}
use Rattle.alta_search.specs.Leads.{IsLeadOf}
use Rattle.alta_search.specs.Lists.{lists_at, IsCut}
use Rattle.alta_search.specs.Met.{IsSingle}
use Rattle.alta_search.proofs.LeadReaders.{no_ends_is, no_word_is}
use Rattle.alta_search.proofs.Parts.{all_parts, item_at}
use Rattle.alta_search.proofs.leading.led_by_rarest.Goals as goal

pub rarest-lead-requires-clause-cut : goal.rarest-lead-requires-clause-cut
rarest-lead-requires-clause-cut g c = (all_parts IsCut (lists_at c.args.tests.now) c.args.ends c.args.words.now c.args.negated.now c.requires.cut).1

pub rarest-lead-requires-clause-single : goal.rarest-lead-requires-clause-single
rarest-lead-requires-clause-single g c = (all_parts IsSingle (lists_at c.args.tests.now) c.args.ends c.args.words.now c.args.negated.now c.requires.single).1

pub len_at-requires-clause-cut : goal.len_at-requires-clause-cut
len_at-requires-clause-cut g c = (all_parts IsCut (lists_at c.args.tests.now) c.args.ends c.args.words.now c.args.negated.now c.requires.cut).0

pub len_at-requires-clause-single : goal.len_at-requires-clause-single
len_at-requires-clause-single g c = (all_parts IsSingle (lists_at c.args.tests.now) c.args.ends c.args.words.now c.args.negated.now c.requires.single).0

pub len_at-requires-2-clause-cut : goal.len_at-requires-2-clause-cut
len_at-requires-2-clause-cut g c =
    item_at IsCut (lists_at c.args.tests.now) c.args.words.now c.rarest-lead.result 0 c.rarest-lead.ensures.within
    (all_parts IsCut (lists_at c.args.tests.now) c.args.ends c.args.words.now c.args.negated.now c.requires.cut).1

pub len_at-requires-2-clause-single : goal.len_at-requires-2-clause-single
len_at-requires-2-clause-single g c =
    item_at IsSingle (lists_at c.args.tests.now) c.args.words.now c.rarest-lead.result 0 c.rarest-lead.ensures.within
    (all_parts IsSingle (lists_at c.args.tests.now) c.args.ends c.args.words.now c.args.negated.now c.requires.single).1

pub returns-then-len_at-eq0-clause-led : goal.returns-then-len_at-eq0-clause-led
returns-then-len_at-eq0-clause-led g c =
    let f = lists_at c.args.tests.now in
    subst (λ r. IsLeadOf (f c.args.ends) (map f c.args.words.now) (map f c.args.negated.now) r c.args.from c.args.steps.now c.args.steps.now) (sym c.nothing.ensures)
    (no_ends_is f c.args.ends c.args.words.now c.args.negated.now c.rarest-lead.result c.rarest-lead.ensures.within c.requires.cut c.requires.single c.args.from c.args.steps.now
    (sym c.len_at.ensures ∙ c.if-len_at-eq0.true))

pub returns-then-len_at-eq0-2-clause-led : goal.returns-then-len_at-eq0-2-clause-led
returns-then-len_at-eq0-2-clause-led g c =
    let f = lists_at c.args.tests.now in
    subst (λ r. IsLeadOf (f c.args.ends) (map f c.args.words.now) (map f c.args.negated.now) r c.args.from c.args.steps.now c.args.steps.now) (sym c.nothing-then-len_at-eq0-2.ensures)
    (no_word_is f c.args.ends c.args.words.now c.args.negated.now c.rarest-lead.result c.rarest-lead.ensures.within c.requires.cut c.requires.single c.args.from c.args.steps.now
    (sym c.len_at-2.ensures ∙ c.if-len_at-eq0-2.true))
