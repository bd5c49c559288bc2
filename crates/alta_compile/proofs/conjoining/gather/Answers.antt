use Rattle.std.proofs.Common.{map, sym, ◌∙◌}
use Rattle.alta_machine.specs.Shape.{shapes_of}
use Rattle.alta_query.specs.View.{shape}
use Rattle.alta_compile.proofs.Collected.{conjoining_step, conjoining_stops, conjoining_ends}
use Rattle.alta_compile.proofs.conjoining.gather.Goals as goal

pub loop-member-preserved : goal.loop-member-preserved
loop-member-preserved c =
    conjoining_step c.args.members.now c.loop-member.member-index c.member-item.result _ _ _ _ (shapes_of (map shape c.args.members.now)) c.loop-member-test.true (sym c.member-item.is)
    (sym c.in_ok-add.ensures.found ∙ c.if-not-branch.false) c.in_ok-add.ensures.words c.in_ok-add.ensures.negated c.loop-member.invariant

pub returns-then-not-branch : goal.returns-then-not-branch
returns-then-not-branch c =
    conjoining_stops c.args.members.now c.loop-member.member-index c.member-item.result _ _ (shapes_of (map shape c.args.members.now)) c.loop-member-test.true (sym c.member-item.is)
    (sym c.in_ok-add.ensures.found ∙ c.if-not-branch.true) c.loop-member.invariant

pub returns : goal.returns
returns c =
    c.some_word.ensures ∙ conjoining_ends c.args.members.now c.loop-member.member-index _ _ (shapes_of (map shape c.args.members.now)) c.loop-member-test.false c.loop-member.invariant
