use Rattle.alta_compile.proofs.Gathered.{draft_first, draft_named}
use Rattle.alta_compile.proofs.compiling.plan_term.Goals as goal

pub close-requires : goal.close-requires
close-requires c =
    draft_named c.add_term.new.self _ (draft_first c.new-draft.result c.add_term.new.self _ c.new-draft.ensures.tests c.new-draft.ensures.bounds c.in_ok-add_term.ensures) tt
