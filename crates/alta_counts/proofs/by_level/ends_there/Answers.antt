use Rattle.std.proofs.Common.{◌++◌, sym, subst, arith}
use Rattle.std.specs.List.{concat}
use Rattle.std.proofs.lemmas.List.Elements.{All-cons, All-head, All-tail, All-append}
use Rattle.alta_codec.specs.Rising.{IsRising}
use Rattle.alta_counts.specs.ByLevel.{IsCleft, levels_of, whole_at}
use Rattle.alta_search.proofs.Parts.{all_front, all_back}
use Rattle.alta_counts.proofs.by_level.ends_there.Goals as goal

pub is_cleft-requires : goal.is_cleft-requires
is_cleft-requires c =
    subst (λ ls. IsRising (concat ls)) (sym c.levels_at.ensures) (All-head (λ u. IsRising (whole_at c.args.tests.now u)) c.args.ends (c.args.words.now ++ c.args.negated.now) c.requires.rising)

pub are_cleft-requires : goal.are_cleft-requires
are_cleft-requires c =
    all_front (λ u. IsRising (whole_at c.args.tests.now u)) c.args.words.now c.args.negated.now
    (All-tail (λ u. IsRising (whole_at c.args.tests.now u)) c.args.ends (c.args.words.now ++ c.args.negated.now) c.requires.rising)

pub are_cleft-requires-2 : goal.are_cleft-requires-2
are_cleft-requires-2 c =
    all_back (λ u. IsRising (whole_at c.args.tests.now u)) c.args.words.now c.args.negated.now
    (All-tail (λ u. IsRising (whole_at c.args.tests.now u)) c.args.ends (c.args.words.now ++ c.args.negated.now) c.requires.rising)

pub returns-clause-cleft : goal.returns-clause-cleft
returns-clause-cleft c = λ yes.
    let here = subst (IsCleft c.args.high) c.levels_at.ensures (c.is_cleft.ensures (grind (arith, c.if-not-is_cleft.ensures, c.if-not-is_cleft.false))) in
    let there = c.are_cleft.ensures (grind (arith, c.if-not-are_cleft.ensures, c.if-not-are_cleft.false)) in
    All-cons (λ u. IsCleft c.args.high (levels_of c.args.tests.now u)) c.args.ends (c.args.words.now ++ c.args.negated.now) here
    (All-append (λ u. IsCleft c.args.high (levels_of c.args.tests.now u)) c.args.words.now c.args.negated.now there (c.are_cleft-2.ensures yes))
