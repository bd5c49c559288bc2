use Rattle.alta_machine.specs.Patterns.{pattern_of}
use Rattle.alta_query.specs.View.{atom_view}
use Rattle.alta_compile.proofs.Gathered.{draft_first, draft_named}
use Rattle.alta_compile.proofs.Joins.{pattern_named}
use Rattle.alta_compile.proofs.compiling.plan_atom.Goals as goal

pub close-requires : goal.close-requires
close-requires c =
    let p = pattern_of (atom_view c.args.atom.now) in
    draft_named c.add.new.self p (draft_first c.new-draft.result c.add.new.self p c.new-draft.ensures.tests c.new-draft.ensures.bounds c.in_ok-add.ensures)
    (pattern_named (atom_view c.args.atom.now))
