use Rattle.std.proofs.Common.{map}
use Rattle.alta_machine.specs.Shape.{shapes_of}
use Rattle.alta_query.specs.View.{shape}
use Rattle.alta_machine.specs.Joined.{joint_pattern}
use Rattle.alta_machine.specs.PlanOf.{atoms_in}
use Rattle.alta_compile.proofs.Gathered.{draft_named}
use Rattle.alta_compile.proofs.Joins.{joined_named}
use Rattle.alta_compile.proofs.Meaning.{atoms_named}
use Rattle.alta_compile.proofs.compiling.plan_atoms.Goals as goal

pub close-requires : goal.close-requires
close-requires c =
    let qs = shapes_of (map shape c.args.members.now) in
    draft_named c.in_ok-draft.draft (joint_pattern (atoms_in qs)) c.in_ok-draft.ensures (joined_named (atoms_in qs) (atoms_named qs))
