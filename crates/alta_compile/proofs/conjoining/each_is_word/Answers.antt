use Rattle.std.proofs.Common.{map, sym, ◌∙◌}
use Rattle.alta_machine.specs.Shape.{shapes_of}
use Rattle.alta_query.specs.View.{shape}
use Rattle.alta_compile.specs.Conjoined.{each_word}
use Rattle.alta_compile.proofs.Collected.{asking_step, asking_stops, asking_ends}
use Rattle.alta_compile.proofs.conjoining.each_is_word.Goals as goal

pub loop-member-preserved : goal.loop-member-preserved
loop-member-preserved c =
    asking_step c.args.members.now c.loop-member.member-index (each_word (shapes_of (map shape c.args.members.now))) c.member-item.result c.loop-member-test.true (sym c.member-item.is)
    (sym c.is_word.ensures ∙ c.if-not-is_word.false) c.loop-member.invariant

pub returns-then-not-is_word : goal.returns-then-not-is_word
returns-then-not-is_word c =
    asking_stops c.args.members.now c.loop-member.member-index (each_word (shapes_of (map shape c.args.members.now))) c.member-item.result c.loop-member-test.true (sym c.member-item.is)
    (sym c.is_word.ensures ∙ c.if-not-is_word.true) c.loop-member.invariant

pub returns : goal.returns
returns c =
    asking_ends c.args.members.now c.loop-member.member-index (each_word (shapes_of (map shape c.args.members.now))) c.loop-member-test.false c.loop-member.invariant
