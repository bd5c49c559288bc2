use Rattle.std.proofs.Common.{sym, subst}
use Rattle.std.specs.List.{All}
use Rattle.std.proofs.lemmas.List.Elements.{All-push}
use Rattle.alta_text.specs.Words.{pair_of}
use Rattle.alta_machine.specs.Words.{word_test}
use Rattle.alta_query.specs.Texts.{HasTextTerm}
use Rattle.alta_query.proofs.Walks.{mapped, all_mapped}
use Rattle.alta_query.proofs.word.each_test.Goals as goal

pub loop-word-preserved : goal.loop-word-preserved
loop-word-preserved c = record {
  tests = mapped pair_of word_test c.args.found.now _ _ _ _ _ c.loop-word-test.true c.word-item.is c.in_ok-test.ensures.test c.in_ok-push.ensures.items c.loop-word.invariant.tests;
  texts = subst (All HasTextTerm) (sym c.in_ok-push.ensures.items) (All-push HasTextTerm c.loop-word.tests.items c.in_ok-test.test c.loop-word.invariant.texts c.in_ok-test.ensures.text);
}

pub returns-clause-tests : goal.returns-clause-tests
returns-clause-tests c = all_mapped pair_of word_test c.args.found.now _ _ c.loop-word-test.false c.loop-word.invariant.tests
