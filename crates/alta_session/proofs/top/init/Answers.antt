use Rattle.std.proofs.Common.{◌∙◌, arith}
use Rattle.alta_session.proofs.MakingLaws.{makes_failed, makes_none, makes_one, makes_too_much}
use Rattle.alta_session.proofs.top.init.Goals as goal

-- there is one already
pub returns-in-Ok-true-clause-makes : goal.returns-in-Ok-true-clause-makes
returns-in-Ok-true-clause-makes g c =
    makes_none g.D.Disk.tells (g.D.Disk.state c.args.disk.now) (g.D.Disk.state c.has_index.new.disk) (λ tell. (c.in-Ok-true.ensures.found tell).0 c.in-Ok-true.field-0-test)
    (record { content = c.has_index.ensures.reads.content; images = c.has_index.ensures.reads.images })

pub returns-in-Ok-true-clause-counts : goal.returns-in-Ok-true-clause-counts
returns-in-Ok-true-clause-counts g c = record { faults = c.has_index.ensures.reads.costs.faults; limit = c.has_index.ensures.reads.costs.limit }

pub returns-in-Err-clause-makes : goal.returns-in-Err-clause-makes
returns-in-Err-clause-makes g c = makes_failed g.D.Disk.tells (g.D.Disk.state c.args.disk.now) (g.D.Disk.state c.has_index.new.disk)

pub returns-in-Err-clause-counts : goal.returns-in-Err-clause-counts
returns-in-Err-clause-counts g c = record { faults = c.has_index.ensures.reads.costs.faults; limit = c.has_index.ensures.reads.costs.limit }

pub returns-then-limit-lt-INDEX_SIZE-clause-makes : goal.returns-then-limit-lt-INDEX_SIZE-clause-makes
returns-then-limit-lt-INDEX_SIZE-clause-makes g c =
    makes_too_much g.D.Disk.tells (g.D.Disk.state c.args.disk.now) (g.D.Disk.state c.has_index.new.disk) c.limit-limit.result (c.limit-limit.ensures ∙ c.has_index.ensures.reads.costs.limit) (omega arith) (λ tell. (c.in-Ok-false.ensures.none tell).0 c.in-Ok-false.field-0-test)
    (record { content = c.has_index.ensures.reads.content; images = c.has_index.ensures.reads.images })

pub returns-then-limit-lt-INDEX_SIZE-clause-counts : goal.returns-then-limit-lt-INDEX_SIZE-clause-counts
returns-then-limit-lt-INDEX_SIZE-clause-counts g c = record { faults = c.has_index.ensures.reads.costs.faults; limit = c.has_index.ensures.reads.costs.limit }

-- it was made
pub returns-in-Ok-clause-makes : goal.returns-in-Ok-clause-makes
returns-in-Ok-clause-makes g c =
    makes_one g.D.Disk.tells (g.D.Disk.state c.args.disk.now) (g.D.Disk.state c.make_index.new.disk) (omega (arith, c.limit-limit.ensures, c.has_index.ensures.reads.costs.limit)) (λ tell. (c.in-Ok-false.ensures.none tell).0 c.in-Ok-false.field-0-test) c.in-Ok.ensures.formatted

pub returns-in-Ok-clause-counts : goal.returns-in-Ok-clause-counts
returns-in-Ok-clause-counts g c = record {
  faults = omega (arith, c.has_index.ensures.reads.costs.faults, c.make_index.ensures.cause.later);
  limit = c.make_index.ensures.same_limit ∙ c.has_index.ensures.reads.costs.limit;
}

pub returns-in-Err-make_index-clause-makes : goal.returns-in-Err-make_index-clause-makes
returns-in-Err-make_index-clause-makes g c = makes_failed g.D.Disk.tells (g.D.Disk.state c.args.disk.now) (g.D.Disk.state c.make_index.new.disk)

pub returns-in-Err-make_index-clause-counts : goal.returns-in-Err-make_index-clause-counts
returns-in-Err-make_index-clause-counts g c = record {
  faults = omega (arith, c.has_index.ensures.reads.costs.faults, c.make_index.ensures.cause.later);
  limit = c.make_index.ensures.same_limit ∙ c.has_index.ensures.reads.costs.limit;
}
