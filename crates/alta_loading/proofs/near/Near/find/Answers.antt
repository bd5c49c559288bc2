use Rattle.std.proofs.Common.{inr, sym, subst, ◌∙◌, ◌≡◌, rules}
use Rattle.std.specs.Prelude.{Some, slice_get}
use Rattle.alta_loading.specs.Met.{level_terms}
use Rattle.alta_loading.specs.Near.{IsBeside}
use Rattle.alta_loading.proofs.RowNear.{absent_at, before_order, beside_is, found_at, here_order}
use Rattle.alta_table.specs.Places.{TermAt}
use Rattle.alta_table.specs.Tables.{Tables}
use Rattle.alta_table.specs.Terms.{AreTerms}
use Rattle.alta_loading.proofs.near.Near.find.Goals as goal

pub returns-in-Equal-clause-row : goal.returns-in-Equal-clause-row
returns-in-Equal-clause-row c =
    let level = c.args.self.now in let b = c.in-Some.beside in
    let is : IsBeside level b = subst (λ (t : Tables). IsBeside t b) c.self.view_is (beside_is c.self.inside.level.now c.self.inside.beside b c.self.invariant c.in-Some.is) in
    subst (λ (t : TermAt). slice_get (level_terms level) t.row ≡ Some c.args.term.now) (sym c.copy-found.ensures)
    (found_at (level_terms level) c.args.term.now b.here.row (here_order level b c.args.term.now _ is (c.order_of.ensures) ∙ c.in-Equal.is))

pub returns-in-Greater-clause-row : goal.returns-in-Greater-clause-row
returns-in-Greater-clause-row c = λ i e.
    let level = c.args.self.now in let b = c.in-Some.beside in
    let is : IsBeside level b = subst (λ (t : Tables). IsBeside t b) c.self.view_is (beside_is c.self.inside.level.now c.self.inside.beside b c.self.invariant c.in-Some.is) in
    absent_at level.terms c.args.term.now b.here.row (subst (λ (t : Tables). AreTerms t.terms) c.self.view_is c.documents-documents.ensures.kept.terms_stand)
    (inr (before_order level b c.args.term.now _ is (c.is_lower.ensures (search rules)))) (here_order level b c.args.term.now _ is c.order_of.ensures ∙ c.in-Greater.is) i e
