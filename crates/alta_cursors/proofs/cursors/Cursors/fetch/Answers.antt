use Rattle.std.proofs.Common.{◌≡◌, List, subst, ◌∙◌}
use Rattle.std.specs.Prelude.{All, IfOk, IfSome, Option, is_some, ◌==◌}
use Rattle.std.specs.List.{list_any}
use Rattle.alta_cursors.specs.Open.{AreLazySteps}
use Rattle.alta_cursors.specs.declared.cursors.OpenCursor.{OpenCursor}
use Rattle.alta_search.specs.declared.page.Page.{Page}
use Rattle.alta_cursors.proofs.cursors.Cursors.fetch.Goals as goal

pub returns-clause-there : goal.returns-clause-there
returns-clause-there g c =
    subst (λ (l : List OpenCursor). IfOk c.fetch_from.result (λ (page : Option Page). is_some page ≡ list_any (λ (o : OpenCursor). o.number == c.args.number) l))
    (c.deref_mut.ensures.value ∙ c.self.view_is) c.fetch_from.ensures.there

pub returns-clause-lazy : goal.returns-clause-lazy
returns-clause-lazy g c =
    subst
    (λ (l : List OpenCursor). IfOk c.fetch_from.result
    (λ (page : Option Page). IfSome page (λ (p : Page). All (λ (o : OpenCursor). o.number ≡ c.args.number → AreLazySteps c.args.count o.cursor p c.args.steps.now c.fetch_from.new.steps) l)))
    (c.deref_mut.ensures.value ∙ c.self.view_is) c.fetch_from.ensures.lazy
