use Rattle.std.proofs.Common.{◌+◌, ◌∙◌, sym, subst, arith, rules}
use Rattle.std.specs.Prelude.{All, Some}
use Rattle.alta_compile.specs.View.{tree}
use Rattle.alta_search.specs.Met.{IsExact}
use Rattle.alta_search.proofs.Paging.{begun_by_word, rarest_moves, rarest_less, rarest_failed}
use Rattle.alta_search.proofs.searching.by_word.Goals as goal

pub by_rarest-requires-clause-tests : goal.by_rarest-requires-clause-tests
by_rarest-requires-clause-tests g c = c.requires.tests ∙ c.requires.found.tests

pub by_rarest-requires-clause-exact : goal.by_rarest-requires-clause-exact
by_rarest-requires-clause-exact g c = subst (All IsExact) (sym c.requires.tests) c.requires.found.exact

pub returns : goal.returns
returns g c =
    let found = c.args.found.now in let v = c.args.snapshot.now in let r = c.in_ok-reader.reader in let before = c.args.steps.now in let after = c.by_rarest.new.steps in
    let led = c.in_ok-reader.ensures.led in let moves = rarest_moves found v r c.args.from before after led in
    record {
      begun = begun_by_word (tree c.args.plan.now) found v r c.args.from before after c.requires.found led;
      moves = moves;
      steps = record { most = omega (arith, led.steps); rarest = rarest_less (Some found) v before after (after + r.moves) (omega arith) moves };
    }

pub returns-in_err-reader : goal.returns-in_err-reader
returns-in_err-reader g c = record {
  begun = search rules;
  moves = search rules;
  steps = record {
    most = omega (arith, c.in_err-reader.ensures.failed);
    rarest = rarest_failed (Some c.args.found.now) c.args.snapshot.now c.args.steps.now c.by_rarest.new.steps (omega (arith, c.in_err-reader.ensures.failed));
  };
}
