use Rattle.std.proofs.Common.{map, sym}
use Rattle.alta_machine.specs.Shape.{shapes_of}
use Rattle.alta_query.specs.View.{shape}
use Rattle.alta_machine.specs.Joined.{joint_pattern}
use Rattle.alta_machine.specs.PlanOf.{atoms_in}
use Rattle.alta_compile.proofs.Gathered.{gathered_start, gathered_step, gathered_end}
use Rattle.alta_compile.proofs.compiling.gather.Goals as goal

pub loop-member-init : goal.loop-member-init
loop-member-init c = gathered_start c.new-draft.result (atoms_in (shapes_of (map shape c.args.members.now))) c.new-draft.ensures.tests c.new-draft.ensures.bounds

pub loop-member-preserved : goal.loop-member-preserved
loop-member-preserved c =
    gathered_step c.args.members.now c.loop-member.member-index c.member-item.result c.loop-member.draft c.add_member.new.draft
    (joint_pattern (atoms_in (shapes_of (map shape c.args.members.now)))) c.loop-member-test.true (sym c.member-item.is) c.in_ok-add_member.ensures
    c.loop-member.invariant

pub returns : goal.returns
returns c =
    gathered_end c.args.members.now c.loop-member.member-index c.loop-member.draft (joint_pattern (atoms_in (shapes_of (map shape c.args.members.now))))
    c.loop-member-test.false c.loop-member.invariant
