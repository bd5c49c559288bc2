use Rattle.std.proofs.Common.{arith, length}
use Rattle.alta_compile.specs.Space.{list_of}
use Rattle.alta_search.specs.Plans.{lists}
use Rattle.check_steps.proofs.Bounds.{in_figures}
use Rattle.check_steps.proofs.figures.one_without_another.Goals as goal

pub returns : goal.returns
returns g c = λ space word other shows found five two.
    omega (
      arith,
      in_figures c.search.new.steps c.args.steps.now (lists c.args.snapshot.now.cuts) (length (list_of space word)) 5 2 five two
          (c.search.ensures.steps.rarest space _ shows found 0 word (omega arith)),
    )
