use Rattle.std.proofs.Common.{get_or, subst, arith, below_more}
use Rattle.std.proofs.lemmas.List.{get_or_default}
use Rattle.alta_counts.specs.ByLevel.{IsCleft, levels_of}
use Rattle.alta_counts.proofs.by_level.are_cleft.Goals as goal

pub loop-index-preserved : goal.loop-index-preserved
loop-index-preserved c =
    let tests = c.args.tests.now in let uses = c.args.uses.now in
    below_more (λ k. IsCleft c.args.place (levels_of tests (get_or uses k 0))) c.loop-index.index-index c.loop-index.invariant
    (subst (IsCleft c.args.place) c.levels_at.ensures (c.is_cleft.ensures (grind (arith, c.if-not-is_cleft.ensures, c.if-not-is_cleft.false))))

pub returns : goal.returns
returns c = λ yes k d l.
    let tests = c.args.tests.now in let uses = c.args.uses.now in
    subst (λ u. IsCleft c.args.place (levels_of tests u)) (get_or_default uses k 0 d l) (c.loop-index.invariant k (omega (arith, l, c.loop-index-test.false)))
