use Rattle.std.proofs.Common.{◌≡◌, List, ℕ, map, ap, sym, subst, ◌∙◌}
use Rattle.std.specs.Prelude.{IfOk}
use Rattle.alta_codec.specs.Rising.{first_from}
use Rattle.std.specs.List.{concat}
use Rattle.alta_search.specs.Lists.{level_list}
use Rattle.alta_search.specs.declared.lists.LevelList.{LevelList}
use Rattle.alta_search.specs.Answers.{answers_in}
use Rattle.alta_search.specs.Told.{rows_at}
use Rattle.alta_dump.proofs.live.live_of.Goals as goal

pub live_ends-requires-clause-unmoved : goal.live_ends-requires-clause-unmoved
live_ends-requires-clause-unmoved g c = c.in_ok-reader.ensures.start.unmoved ∙ ap (λ (l : List ℕ). first_from l 0) (sym c.in_ok-reader.ensures.start.reads)

pub returns-clause-rows : goal.returns-clause-rows
returns-clause-rows g c =
    subst (λ (l : List ℕ). IfOk c.live_ends.result (λ live. rows_at c.args.rows.now live.items ≡ answers_in l c.args.gone.now 0 c.args.rows.now)) (c.in_ok-reader.ensures.start.reads ∙ ap (λ (levels : List LevelList). concat (map level_list levels)) c.deref.ensures.value) c.live_ends.ensures.rows
