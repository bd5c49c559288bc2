use Rattle.std.proofs.Common.{◌≡◌, ◌∷◌, [], ◌++◌, true, false, List, ℕ, sym, ap, subst, ◌∙◌}
use Rattle.std.specs.Borrow.{Bor}
use Rattle.std.specs.List.{IsDistinct}
use Rattle.std.specs.Map.Iter.{deref_pair}
use Rattle.std.specs.Str.{bytes_eq}
use Rattle.std.proofs.lemmas.List.{map_push}
use Rattle.std.proofs.lemmas.Map.Iter.{rest_more, rest_all}
use Rattle.alta_memlevel.specs.Lists.{Numbers, bytes_in}
use Rattle.alta_memlevel.proofs.Prefixes.{Picking, begins, found_apart, picking-start, picking-skip, picking-more, picking-end}
use Rattle.alta_memlevel.proofs.terms.terms_that_begin.Goals as goal

pub loop-term-init : goal.loop-term-init
loop-term-init c =
    picking-start c.args.prefix.now (bytes_in c.new-found.result.items) c.into_iter-term-iterator.result c.args.lists.now.entries
    (ap bytes_in c.new-found.ensures.items) c.into_iter-term-iterator.ensures.into_iter_gives.0

pub loop-term-preserved-then-not-starts_with : goal.loop-term-preserved-then-not-starts_with
loop-term-preserved-then-not-starts_with c =
    let e : Numbers × Numbers = (c.in-Some.term.now, c.in-Some.field-0-1.now) in
    let s : c.loop-term.term-iterator ≡ e ∷ c.next.new.self =
    rest_more deref_pair c.loop-term.term-iterator c.next.new.self c.next.result (c.in-Some.term, c.in-Some.field-0-1) c.in-Some.is c.next.ensures.steps in
    let b : begins c.args.prefix.now e.0.items ≡ false =
    ap (λ t. begins c.args.prefix.now t) (sym c.as_slice-bytes.ensures.value) ∙ sym c.starts_with.ensures.value ∙ c.if-not-starts_with.true in
    picking-skip c.args.prefix.now (bytes_in c.loop-term.found.items) e c.next.new.self c.args.lists.now.entries
    (subst (λ l. Picking c.args.prefix.now (bytes_in c.loop-term.found.items) l c.args.lists.now.entries) s c.loop-term.invariant) b

pub loop-term-preserved : goal.loop-term-preserved
loop-term-preserved c =
    let e : Numbers × Numbers = (c.in-Some.term.now, c.in-Some.field-0-1.now) in
    let s : c.loop-term.term-iterator ≡ e ∷ c.next.new.self =
    rest_more deref_pair c.loop-term.term-iterator c.next.new.self c.next.result (c.in-Some.term, c.in-Some.field-0-1) c.in-Some.is c.next.ensures.steps in
    let b : begins c.args.prefix.now e.0.items ≡ true =
    ap (λ t. begins c.args.prefix.now t) (sym c.as_slice-bytes.ensures.value) ∙ sym c.starts_with.ensures.value ∙ c.if-not-starts_with.false in
    let pushed : bytes_in c.push.new.self.items ≡ bytes_in c.loop-term.found.items ++ e.0.items ∷ [] =
    ap bytes_in c.in_ok-push.ensures.items ∙ map_push (λ (x : Bor (List ℕ)). x.now) c.loop-term.found.items c.as_slice-bytes.result
    ∙ ap (λ (t : List ℕ). bytes_in c.loop-term.found.items ++ t ∷ []) c.as_slice-bytes.ensures.value in
    picking-more c.args.prefix.now (bytes_in c.loop-term.found.items) (bytes_in c.push.new.self.items) e c.next.new.self c.args.lists.now.entries
    (subst (λ l. Picking c.args.prefix.now (bytes_in c.loop-term.found.items) l c.args.lists.now.entries) s c.loop-term.invariant) b pushed

pub returns-clause-terms : goal.returns-clause-terms
returns-clause-terms c =
    picking-end c.args.prefix.now (bytes_in c.loop-term.found.items) c.loop-term.term-iterator c.args.lists.now.entries c.loop-term.invariant
    (rest_all deref_pair c.loop-term.term-iterator c.next.new.self c.next.result c.in-None.is c.next.ensures.steps)

pub returns-clause-apart : goal.returns-clause-apart
returns-clause-apart c =
    subst (λ ts. IsDistinct bytes_eq ts) (sym (returns-clause-terms c))
    (found_apart (begins c.args.prefix.now) c.args.lists.now.entries c.into_iter-term-iterator.ensures.into_iter_gives.4)
