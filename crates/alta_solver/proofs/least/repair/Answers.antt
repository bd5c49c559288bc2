use Rattle.std.proofs.Common.{◌<◌, ◌≤◌, ◌+◌, ◌-◌, map, length, arith}
use Rattle.std.proofs.lemmas.List.{length-map}
use Rattle.std.specs.Prelude.{slice_index}
use Rattle.alta_codec.specs.Inequality.{Inequality}
use Rattle.alta_solver.specs.Solution.{list_at, low_side}
use Rattle.alta_solver.proofs.Repaired.{repaired_moved, repaired_stuck}
use Rattle.alta_solver.proofs.least.repair.Goals as goal

pub returns-then-raise_side-clause-kept : goal.returns-then-raise_side-clause-kept
returns-then-raise_side-clause-kept g c =
    let ls = map g.R.Reader.list c.args.readers.now in let xs = map g.R.Reader.location c.args.readers.now in
    let b : Inequality = record { form = c.args.form; i = c.args.i; j = c.args.j; plus = c.args.plus; minus = c.args.minus } in
    let within : b.i < length xs = rw length-map c.requires.between.i in
    let short : (c.low_at.result + b.minus - b.plus) + b.plus ≤ low_side b.form (list_at ls b.i) (slice_index xs b.i) + b.minus =
    omega (arith, c.low_at.ensures.value) in
    let enough : low_side b.form (list_at ls b.i) (slice_index xs b.i) + b.minus ≤ (c.low_at.result + b.minus - b.plus) + b.plus =
    omega (arith, c.low_at.ensures.value) in
    let e = c.if-raise_side.ensures.kept in
    record {
      sound = e.sound;
      lists = e.lists;
      alls = e.alls;
      placed = repaired_moved ls b xs _ (c.low_at.result + b.minus - b.plus) within short enough e.placed;
      keeps = e.keeps;
      steps = e.steps;
    }

pub returns-else-raise_side-clause-kept : goal.returns-else-raise_side-clause-kept
returns-else-raise_side-clause-kept g c =
    let ls = map g.R.Reader.list c.args.readers.now in let xs = map g.R.Reader.location c.args.readers.now in
    let b : Inequality = record { form = c.args.form; i = c.args.i; j = c.args.j; plus = c.args.plus; minus = c.args.minus } in
    let within : b.i < length xs = rw length-map c.requires.between.i in
    let short : (c.low_at.result + b.minus - b.plus) + b.plus ≤ low_side b.form (list_at ls b.i) (slice_index xs b.i) + b.minus =
    omega (arith, c.low_at.ensures.value) in
    let enough : low_side b.form (list_at ls b.i) (slice_index xs b.i) + b.minus ≤ (c.low_at.result + b.minus - b.plus) + b.plus =
    omega (arith, c.low_at.ensures.value) in
    let e = c.if-raise_side.ensures.kept in
    record {
      sound = e.sound;
      lists = e.lists;
      alls = e.alls;
      placed = repaired_stuck ls b xs _ (c.low_at.result + b.minus - b.plus) within short enough e.placed;
      keeps = e.keeps;
      steps = e.steps;
    }
