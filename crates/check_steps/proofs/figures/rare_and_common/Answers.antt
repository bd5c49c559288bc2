use Rattle.std.proofs.Common.{arith, length}
use Rattle.alta_compile.specs.Space.{list_of}
use Rattle.alta_search.specs.Plans.{lists}
use Rattle.check_steps.proofs.Bounds.{in_figures}
use Rattle.check_steps.proofs.figures.rare_and_common.Goals as goal

pub returns-clause-rare_first : goal.returns-clause-rare_first
returns-clause-rare_first g c = λ space rare common shows found three one.
    omega (
      arith,
      in_figures c.search.new.steps c.args.steps.now (lists c.args.snapshot.now.cuts) (length (list_of space rare)) 3 1 three one
          (c.search.ensures.steps.rarest space _ shows found 0 rare (omega arith)),
    )

pub returns-clause-common_first : goal.returns-clause-common_first
returns-clause-common_first g c = λ space rare common shows found three one.
    omega (
      arith,
      in_figures c.search.new.steps c.args.steps.now (lists c.args.snapshot.now.cuts) (length (list_of space rare)) 3 1 three one
          (c.search.ensures.steps.rarest space _ shows found 1 rare (omega arith)),
    )
