use Rattle.std.proofs.Common.{ℕ, List, ◌++◌, drop, sym, ap, ◌∙◌}
use Rattle.alta_content.specs.Joining.{in_order}
use Rattle.alta_content.specs.Spans.{outside_of}
use Rattle.alta_memlevel.specs.Lists.{bytes_in, keys_in}
use Rattle.alta_memlevel.proofs.Copied.{copying-start, copying-skip, copying-more, copying-end}
use Rattle.alta_memlevel.proofs.Prefixes.{all_begin, left_none}
use Rattle.alta_memlevel.proofs.copying.copy_lists.Goals as goal

pub loop-term-init : goal.loop-term-init
loop-term-init c =
    copying-start c.args.spans.now c.made_with-kept.result (bytes_in c.deref-term-items.result.now) c.args.lists.now.entries c.made_with-kept.ensures
    (ap bytes_in c.deref-term-items.ensures.value ∙ c.in_ok-terms.ensures ∙ all_begin (in_order (keys_in c.args.lists.now.entries)))

pub loop-term-preserved-then-is_empty : goal.loop-term-preserved-then-is_empty
loop-term-preserved-then-is_empty c =
    copying-skip c.args.spans.now c.loop-term.kept c.args.lists.now.entries c.put_locations.new.all c.deref-term-items.result.now c.loop-term.term-index _
    c.loop-term-test.true c.loop-term.invariant
    (c.in_ok-put_locations.ensures ∙ ap (λ (x : List ℕ). x ++ outside_of c.args.spans.now c.list_of.result.now) c.clear.ensures.items ∙ ap (outside_of c.args.spans.now) c.list_of.ensures)
    (sym c.is_empty.ensures ∙ c.if-is_empty.true)

pub loop-term-preserved : goal.loop-term-preserved
loop-term-preserved c =
    copying-more c.args.spans.now c.loop-term.kept c.args.lists.now.entries c.put_locations.new.all c.deref-term-items.result.now c.loop-term.term-index _
    c.put.new.self c.deref.result.now c.loop-term-test.true c.loop-term.invariant
    (c.in_ok-put_locations.ensures ∙ ap (λ (x : List ℕ). x ++ outside_of c.args.spans.now c.list_of.result.now) c.clear.ensures.items ∙ ap (outside_of c.args.spans.now) c.list_of.ensures)
    (sym c.is_empty.ensures ∙ c.if-is_empty.false) c.deref.ensures.value c.in_ok-put.ensures.pushed

pub returns : goal.returns
returns c =
    copying-end c.args.spans.now c.loop-term.kept (bytes_in (drop c.loop-term.term-index c.deref-term-items.result.now)) c.args.lists.now.entries c.loop-term.invariant
    (left_none c.deref-term-items.result.now c.loop-term.term-index c.loop-term-test.false)
