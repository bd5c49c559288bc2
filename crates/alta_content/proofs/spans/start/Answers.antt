use Rattle.std.proofs.Common.{◌-◌, arith}
use Rattle.alta_content.proofs.Walks.{ends_before}
use Rattle.alta_content.proofs.spans.start.Goals as goal
use Rattle.alta_content.proofs.spans.start.Goals.{then-at-eq0-via-then-at-eq0, then-at-eq0-via-else-at-eq0+then-last_at-location}

pub returns-then-at-eq0-clause-passed : goal.returns-then-at-eq0-clause-passed
returns-then-at-eq0-clause-passed c = λ k l.
    elim c.then-at-eq0.branch [
      | then-at-eq0-via-then-at-eq0 w ↦ absurd (omega (arith, l, w.if-at-eq0.true))
      | then-at-eq0-via-else-at-eq0+then-last_at-location w ↦
          ends_before c.args.spans.now (c.args.at - 1) c.args.location c.requires.rising (omega (arith, c.requires.within, w.if-at-eq0.false)) (omega (arith, w.last_at.ensures, w.if-last_at-location.true)) k (omega (arith, l))
    ]
