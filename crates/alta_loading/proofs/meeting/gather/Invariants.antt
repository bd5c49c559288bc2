use Rattle.std.proofs.Common.{◌≡◌, ◌++◌, take, flat_map}
use Rattle.std.specs.List.{filter}
use Rattle.alta_content.specs.Lists.{terms_of}
use Rattle.alta_loading.specs.Met.{level_terms_met}
use Rattle.alta_machine.specs.declared.test.Test.TheVariants.{Begins}
use Rattle.alta_search.specs.Newest.{term_meets}
use Rattle.alta_loading.proofs.meeting.gather.Given as goal

abbrev pub invariant-loop-level : goal.invariant-loop-level
invariant-loop-level l =
    l.all.items ≡ filter (term_meets (Begins l.start)) (terms_of l.newest.content.lists) ++ flat_map (level_terms_met (Begins l.start)) (take l.level-index l.levels)
