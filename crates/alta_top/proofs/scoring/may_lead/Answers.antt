use Rattle.std.proofs.Common.{◌^◌, length, refl, ap, ◌∙◌, arith}
use Rattle.alta_top.proofs.ScoredRows.{all_below}
use Rattle.alta_top.proofs.scoring.may_lead.Goals as goal

pub returns-in-None-clause-low : goal.returns-in-None-clause-low
returns-in-None-clause-low c = λ _.
    all_below c.reach.new.self.rows c.args.rows.now (c.reach.ensures.rows ∙ c.walk-walk.ensures.rows) c.reach.new.self.at (2 ^ 54)
    (λ k l. omega (arith, c.reach.ensures.past k l))
    (omega (arith, c.in-None.ensures.none refl, ap length c.reach.ensures.rows))
