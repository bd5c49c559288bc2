use Rattle.std.proofs.Common.{ℕ, List, [], ◌∷◌, ◌++◌, ap, sym, subst, ◌∙◌}
use Rattle.std.specs.Cmp.Lexicographic.{slice_cmp}
use Rattle.std.specs.List.Sorted.{IsStrictlySortedBy}
use Rattle.std.specs.Ordering.{nat_cmp}
use Rattle.alta_content.specs.Joining.{in_order}
use Rattle.alta_content.proofs.Order.{in_order_sorted}
use Rattle.alta_memlevel.specs.Lists.{bytes_in, keys_in}
use Rattle.alta_memlevel.proofs.Prefixes.{begins, bytes_all, bytes_more, filter_rises}
use Rattle.alta_memlevel.proofs.terms.terms_from.Goals as goal

pub loop-term-preserved : goal.loop-term-preserved
loop-term-preserved c =
    bytes_more c.deref-term-items.result.now c.loop-term.term-index _ c.loop-term.found.items c.push.new.self.items c.in_ok-bytes.bytes.items c.loop-term-test.true
    c.loop-term.invariant (c.in_ok-push.ensures.items ∙ ap (λ (t : List ℕ). c.loop-term.found.items ++ t ∷ []) c.from_vec.ensures) c.in_ok-bytes.ensures.items

pub returns-clause-terms : goal.returns-clause-terms
returns-clause-terms c =
    bytes_all c.deref-term-items.result.now c.loop-term.term-index c.loop-term.found.items c.loop-term-test.false c.loop-term.invariant
    ∙ ap bytes_in c.deref-term-items.ensures.value ∙ c.in_ok-terms.ensures

pub returns-clause-rising : goal.returns-clause-rising
returns-clause-rising c =
    subst (λ f. IsStrictlySortedBy (slice_cmp nat_cmp) f) (sym (returns-clause-terms c))
    (filter_rises (begins c.args.prefix.now) (in_order (keys_in c.args.lists.now.entries)) (in_order_sorted (keys_in c.args.lists.now.entries)))
