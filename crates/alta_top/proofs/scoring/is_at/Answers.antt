use Rattle.std.proofs.Common.{ap, ◌∙◌}
use Rattle.alta_search.specs.Tops.{same_test}
use Rattle.alta_top.proofs.SameTests.{by_test}
use Rattle.alta_top.proofs.scoring.is_at.Goals as goal

pub returns-in-Some : goal.returns-in-Some
returns-in-Some c = by_test c.same.result c.args.test.now c.in-Some.other.now c.same.ensures ∙ ap (same_test c.args.test.now) c.in-Some.ensures.some
