use Rattle.std.proofs.Common.{List, ℕ, map, ap, sym, subst, ◌∙◌}
use Rattle.std.specs.List.{concat}
use Rattle.alta_codec.specs.Rising.{first_from}
use Rattle.alta_gather.specs.Holding.{IsMarked}
use Rattle.alta_search.specs.Lists.{level_list}
use Rattle.alta_search.specs.declared.lists.LevelList.{LevelList}
use Rattle.alta_dump.proofs.gathering.walk.Goals as goal

pub mark-requires-clause-unmoved : goal.mark-requires-clause-unmoved
mark-requires-clause-unmoved g c = c.in_ok-reader.ensures.start.unmoved ∙ ap (λ (l : List ℕ). first_from l 0) (sym c.in_ok-reader.ensures.start.reads)

pub returns-clause-marked : goal.returns-clause-marked
returns-clause-marked g c =
    subst (λ (l : List ℕ). IsMarked c.args.places.now l c.args.index c.args.held.now c.mark.new.held) (c.in_ok-reader.ensures.start.reads ∙ ap (λ (levels : List LevelList). concat (map level_list levels)) c.deref.ensures.value) c.mark.ensures.marked
