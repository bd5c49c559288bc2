use Rattle.std.proofs.Common.{ℕ, List, take, sym, subst, ap, ◌∙◌}
use Rattle.alta_search.specs.Sections.{first_uses}
use Rattle.alta_search.specs.View.{IsView}
use Rattle.alta_search.specs.declared.lists.TestLists.{TestLists}
use Rattle.alta_search.proofs.Sections.{first_is_view, first_seen, seen}
use Rattle.alta_search.proofs.snapshot.Snapshot.first.Goals as goal

pub new-requires : goal.new-requires
new-requires c =
    let s = c.self.inside in let n = c.args.count in
    subst (λ (gone : List ℕ). IsView (seen c.deref.result.now (take n c.deref-2.result.now) s.rows gone)) (sym c.deref-3.ensures.value)
    (subst (λ (uses : List ℕ). IsView (seen c.deref.result.now (take n uses) s.rows s.gone.items)) (sym c.deref-2.ensures.value)
    (subst (λ (tests : List TestLists). IsView (seen tests (take n s.uses.items) s.rows s.gone.items)) (sym c.deref.ensures.value)
    (subst IsView (first_seen s.tests.items s.uses.items s.rows s.gone.items n) (first_is_view n (seen s.tests.items s.uses.items s.rows s.gone.items) c.self.invariant))))

pub returns : goal.returns
returns c =
    let s = c.self.inside in let n = c.args.count in
    c.new.ensures
    ∙ ap (λ (gone : List ℕ). seen c.deref.result.now (take n c.deref-2.result.now) s.rows gone) c.deref-3.ensures.value
    ∙ ap (λ (uses : List ℕ). seen c.deref.result.now (take n uses) s.rows s.gone.items) c.deref-2.ensures.value
    ∙ ap (λ (tests : List TestLists). seen tests (take n s.uses.items) s.rows s.gone.items) c.deref.ensures.value
    ∙ sym (first_seen s.tests.items s.uses.items s.rows s.gone.items n) ∙ ap (first_uses n) c.self.view_is
