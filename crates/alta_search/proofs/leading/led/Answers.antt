use Rattle.std.proofs.Common.{◌+◌, ◌≤◌, ◌∷◌, ◌++◌, map, sym, subst, ap, ◌∙◌, arith}
use Rattle.std.proofs.lemmas.List.{length-map}
use Rattle.alta_codec.specs.Rising.{first_from}
use Rattle.alta_search.specs.Lists.{lists_at, IsCut, count_lists}
use Rattle.alta_search.specs.Met.{IsSingle}
use Rattle.alta_search.specs.Plans.{lists}
use Rattle.alta_search.specs.Readers.{IsFresh}
use Rattle.alta_search.specs.Words.{single_list, single_place, single_left}
use Rattle.alta_search.proofs.LeadReaders.{led_is}
use Rattle.alta_search.proofs.Parts.{all_parts, sum_parts, on_err}
use Rattle.alta_search.proofs.Planting.{fresh_sized, fresh_unmoved}
use Rattle.alta_search.proofs.leading.led.Goals as goal

pub word_reader-requires-clause-cut : goal.word_reader-requires-clause-cut
word_reader-requires-clause-cut g c =
    subst IsCut (sym c.terms_at.ensures) (all_parts IsCut (lists_at c.args.tests.now) c.args.ends c.args.words.now c.args.negated.now c.requires.cut).0

pub word_reader-requires-clause-single : goal.word_reader-requires-clause-single
word_reader-requires-clause-single g c =
    subst IsSingle (sym c.terms_at.ensures) (all_parts IsSingle (lists_at c.args.tests.now) c.args.ends c.args.words.now c.args.negated.now c.requires.single).0

pub word_readers-requires-clause-cut : goal.word_readers-requires-clause-cut
word_readers-requires-clause-cut g c = (all_parts IsCut (lists_at c.args.tests.now) c.args.ends c.args.words.now c.args.negated.now c.requires.cut).1

pub word_readers-requires-clause-single : goal.word_readers-requires-clause-single
word_readers-requires-clause-single g c = (all_parts IsSingle (lists_at c.args.tests.now) c.args.ends c.args.words.now c.args.negated.now c.requires.single).1

pub by_lead-requires-clause-lead : goal.by_lead-requires-clause-lead
by_lead-requires-clause-lead g c =
    omega (
      arith,
      c.requires.within,
      fresh_sized single_list single_list single_place single_left (map (lists_at c.args.tests.now) c.args.words.now) c.in_ok-words.words.items c.in_ok-words.ensures.start,
      length-map c.args.words.now (lists_at c.args.tests.now),
    )

pub by_lead-requires-clause-ends_unmoved : goal.by_lead-requires-clause-ends_unmoved
by_lead-requires-clause-ends_unmoved g c = let f = c.in_ok-ends.ensures.start in f.unmoved ∙ ap (λ l. first_from l 0) (sym f.reads)

pub by_lead-requires-clause-words_unmoved : goal.by_lead-requires-clause-words_unmoved
by_lead-requires-clause-words_unmoved g c =
    fresh_unmoved single_list single_list single_place single_left (map (lists_at c.args.tests.now) c.args.words.now) c.in_ok-words.words.items c.in_ok-words.ensures.start

pub by_lead-requires-clause-negated_unmoved : goal.by_lead-requires-clause-negated_unmoved
by_lead-requires-clause-negated_unmoved g c =
    fresh_unmoved single_list single_list single_place single_left (map (lists_at c.args.tests.now) c.args.negated.now) c.in_ok-negated.negated.items c.in_ok-negated.ensures.start

pub returns-clause-led : goal.returns-clause-led
returns-clause-led g c =
    let e = c.in_ok-ends.ensures in
    led_is (lists_at c.args.tests.now) c.args.ends c.args.words.now c.args.negated.now c.args.lead c.requires.within c.requires.cut c.requires.single
    c.in_ok-ends.ends c.in_ok-words.words.items c.in_ok-negated.negated.items c.by_lead.result c.args.from c.args.steps.now c.word_readers-2.new.steps c.by_lead.new.steps
    (subst (λ ls. IsFresh single_list single_list single_place single_left ls c.in_ok-ends.ends) c.terms_at.ensures e.start)
    c.in_ok-words.ensures.start c.in_ok-negated.ensures.start c.by_lead.ensures
    (omega (arith, e.exact, ap count_lists c.terms_at.ensures, c.in_ok-words.ensures.exact, c.in_ok-negated.ensures.exact))
    c.requires.least c.requires.some_ends c.requires.some_words

pub returns-in_err-ends-clause-failed : goal.returns-in_err-ends-clause-failed
returns-in_err-ends-clause-failed g c =
    on_err c.from_residual.result (c.word_reader.new.steps ≤ c.args.steps.now + lists (map (lists_at c.args.tests.now) (c.args.ends ∷ c.args.words.now ++ c.args.negated.now)))
    (omega (arith, c.word_reader.ensures.most, ap count_lists c.terms_at.ensures, sum_parts count_lists (lists_at c.args.tests.now) c.args.ends c.args.words.now c.args.negated.now))

pub returns-in_err-words-clause-failed : goal.returns-in_err-words-clause-failed
returns-in_err-words-clause-failed g c =
    on_err c.from_residual-in_err-words.result (c.word_readers.new.steps ≤ c.args.steps.now + lists (map (lists_at c.args.tests.now) (c.args.ends ∷ c.args.words.now ++ c.args.negated.now)))
    (omega (arith, c.in_ok-ends.ensures.exact, ap count_lists c.terms_at.ensures, c.word_readers.ensures.most, sum_parts count_lists (lists_at c.args.tests.now) c.args.ends c.args.words.now c.args.negated.now))

pub returns-in_err-negated-clause-failed : goal.returns-in_err-negated-clause-failed
returns-in_err-negated-clause-failed g c =
    on_err c.from_residual-in_err-negated.result (c.word_readers-2.new.steps ≤ c.args.steps.now + lists (map (lists_at c.args.tests.now) (c.args.ends ∷ c.args.words.now ++ c.args.negated.now)))
    (omega (arith, c.in_ok-ends.ensures.exact, ap count_lists c.terms_at.ensures, c.in_ok-words.ensures.exact, c.word_readers-2.ensures.most, sum_parts count_lists (lists_at c.args.tests.now) c.args.ends c.args.words.now c.args.negated.now))

pub word_readers-requires-2-clause-cut : goal.word_readers-requires-2-clause-cut
word_readers-requires-2-clause-cut g c = (all_parts IsCut (lists_at c.args.tests.now) c.args.ends c.args.words.now c.args.negated.now c.requires.cut).2

pub word_readers-requires-2-clause-single : goal.word_readers-requires-2-clause-single
word_readers-requires-2-clause-single g c = (all_parts IsSingle (lists_at c.args.tests.now) c.args.ends c.args.words.now c.args.negated.now c.requires.single).2
