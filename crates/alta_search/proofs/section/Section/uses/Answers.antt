use Rattle.std.proofs.Common.{sym, subst}
use Rattle.std.specs.Prelude.{All}
use Rattle.alta_search.specs.Met.{IsExact}
use Rattle.alta_search.specs.View.{View}
use Rattle.alta_search.proofs.Single.{single_uses}
use Rattle.alta_search.proofs.section.Section.uses.Goals as goal

pub returns-clause-single : goal.returns-clause-single
returns-clause-single c = λ exact.
    let s = c.self.inside in
    single_uses s.tests.now s.uses.now c.self.invariant.met c.self.invariant.keyed (subst (λ (v : View). All IsExact v.tests) (sym c.self.view_is) exact)
