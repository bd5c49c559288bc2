use Rattle.std.proofs.Common.{length, map, refl, ◌∙◌}
use Rattle.std.specs.Prelude.{codes}
use Rattle.alta_machine.specs.Explained.{deeper, explained, explained_each}
use Rattle.alta_machine.specs.Plans.{trees_of}
use Rattle.alta_compile.specs.View.{tree}
use Rattle.alta_compile.proofs.Lines.{head_and_parts, more_lines, all_lines, three_pieces, cut_back}
use Rattle.alta_compile.proofs.explaining.+explaining.Goals as goal

pub put_all-returns : goal.put_all-returns
put_all-returns t c =
    record {
      lines_are = head_and_parts c.args.parts.now (length c.args.parts.now) c.args.out.now.items c.put_head.new.out.items c.put_parts.new.out.items c.args.margin.now.items c.deref.result.now (codes "all ")
          refl c.deref.ensures.value c.in_ok-put_head.ensures c.in_ok-put_parts.ensures.lines_are;
      same_margin = c.in_ok-put_parts.ensures.same_margin;
    }

pub put_any-returns : goal.put_any-returns
put_any-returns t c =
    record {
      lines_are = head_and_parts c.args.parts.now (length c.args.parts.now) c.args.out.now.items c.put_head.new.out.items c.put_parts.new.out.items c.args.margin.now.items c.deref.result.now (codes "any ")
          refl c.deref.ensures.value c.in_ok-put_head.ensures c.in_ok-put_parts.ensures.lines_are;
      same_margin = c.in_ok-put_parts.ensures.same_margin;
    }

pub put_parts-loop-part-preserved : goal.put_parts-loop-part-preserved
put_parts-loop-part-preserved t c =
    let margin = deeper c.args.margin.now.items in
    let lines = rw c.loop-part.invariant.0 at c.in_ok-put_plan.ensures.lines_are in (
      c.in_ok-put_plan.ensures.same_margin ∙ c.loop-part.invariant.0,
      more_lines (λ ps. explained_each margin (trees_of (map tree ps))) (λ p. explained margin (tree p)) c.args.parts.now c.loop-part.part-index _ _ _ _ (λ p ps. refl) c.loop-part-test.true c.part-item.is lines c.loop-part.invariant.1,
    )

pub put_parts-returns : goal.put_parts-returns
put_parts-returns t c =
    let margin = deeper c.args.margin.now.items in
    record {
      lines_are = all_lines (λ ps. explained_each margin (trees_of (map tree ps))) (λ p. explained margin (tree p)) c.args.parts.now c.loop-part.part-index _ _ refl c.loop-part-test.false c.loop-part.invariant.1;
      same_margin = cut_back c.args.margin.now.items _ _ _ _ c.loop-part.invariant.0 c.len.ensures c.loop-part.margin.ok.0 c.truncate.ensures.items;
    }

pub put_not-returns : goal.put_not-returns
put_not-returns t c =
    record {
      lines_are = three_pieces _ _ _ _ c.args.margin.now.items (codes "not\n") _ (rw c.deref.ensures.value at c.in_ok-extend_from_slice.ensures.items) c.in_ok-extend_from_slice-2.ensures.items
          (rw c.in_ok-extend_from_slice-3.ensures.items at c.in_ok-put_plan.ensures.lines_are);
      same_margin = cut_back c.args.margin.now.items _ _ _ _ (c.in_ok-put_plan.ensures.same_margin ∙ c.in_ok-extend_from_slice-3.ensures.items) c.len.ensures c.put_plan.new.margin.ok.0 c.truncate.ensures.items;
    }
