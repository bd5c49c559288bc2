use Rattle.std.proofs.Common.{◌++◌, refl}
use Rattle.std.specs.Prelude.{codes}
use Rattle.alta_machine.specs.Explained.{bound_line, bound_lines, deeper}
use Rattle.alta_compile.proofs.Lines.{more_lines, all_lines, three_pieces}
use Rattle.alta_compile.proofs.explaining.put_bounds.Goals as goal

pub loop-bound-init : goal.loop-bound-init
loop-bound-init c = refl

pub loop-bound-preserved : goal.loop-bound-preserved
loop-bound-preserved c =
    let margin = c.args.margin.now in
    let written = three_pieces _ _ _ _ margin (codes "  ") (bound_line c.bound-item.result) c.in_ok-extend_from_slice.ensures.items c.in_ok-extend_from_slice-2.ensures.items c.in_ok-put_bound.ensures in
    more_lines (bound_lines (deeper margin)) (λ b. deeper margin ++ bound_line b) c.args.bounds.now c.loop-bound.bound-index _ _ _ _
    (λ b bs. refl) c.loop-bound-test.true c.bound-item.is written c.loop-bound.invariant

pub returns : goal.returns
returns c = all_lines (bound_lines (deeper c.args.margin.now)) (λ b. bound_line b) c.args.bounds.now c.loop-bound.bound-index _ _ refl c.loop-bound-test.false c.loop-bound.invariant
