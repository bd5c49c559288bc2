use Rattle.std.proofs.Common.{ap, ◌∙◌}
use Rattle.alta_content.specs.Joining.{in_order}
use Rattle.alta_content.specs.Lists.{terms_of}
use Rattle.alta_loading.specs.Met.{level_terms}
use Rattle.alta_loading.proofs.TermSets.{gathered_met}
use Rattle.alta_machine.specs.declared.test.Test.TheVariants.{Begins}
use Rattle.alta_search.specs.Newest.{term_meets}
use Rattle.alta_loading.proofs.meeting.begin_so.Goals as goal

pub returns : goal.returns
returns c =
    c.in_ok-terms.ensures ∙ ap in_order c.in_ok-all.ensures
    ∙ gathered_met level_terms (term_meets (Begins c.args.start.now)) c.args.levels.now (terms_of c.args.newest.now.content.lists)
