use Rattle.std.proofs.Common.{sym, subst, ◌∙◌}
use Rattle.std.specs.List.Sorted.{IsBinarySearchResult}
use Rattle.std.specs.Ordering.{nat_cmp}
use Rattle.alta_codec.specs.Rising.{IsRising}
use Rattle.alta_catalog.proofs.Places.{found, held-found}
use Rattle.alta_catalog.proofs.deletions.Deletions.holds.Goals as goal

pub returns : goal.returns
returns c =
    let ends = c.args.self.now in
    let rising = subst IsRising c.self.view_is c.self.invariant in
    let searched = subst (λ l. IsBinarySearchResult (λ y. nat_cmp y c.args.end) l c.binary_search.result) (c.deref.ensures.value ∙ c.self.view_is) c.binary_search.ensures.position in
    let held = held-found ends c.args.end c.binary_search.result (found ends c.args.end c.binary_search.result rising searched) in
    (λ h. held.0 (sym c.is_ok.ensures.value ∙ h), λ h. c.is_ok.ensures.value ∙ held.1 h)
