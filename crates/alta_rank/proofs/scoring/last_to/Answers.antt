use Rattle.std.proofs.Common.{◌≡◌, ◌+◌, ap, ◌∙◌, arith, rules}
use Rattle.alta_codec.specs.Rising.{pred_of}
use Rattle.alta_codec.proofs.Places.{pred_of-below}
use Rattle.alta_rank.proofs.Passed.{pred_of-past, pred_of-first}
use Rattle.alta_rank.proofs.scoring.last_to.Given.{Over}
use Rattle.alta_rank.proofs.scoring.last_to.Goals as goal
use Rattle.alta_rank.proofs.scoring.last_to.Goals.{After-prev, then-loc-end, else-loc-end}

-- what stands before the reader is the last location in the range
before : (g : Over) (c : After-prev g)
    → pred_of (g.R.Reader.list c.if-loc-end.reader) (g.R.Reader.location c.if-loc-end.reader) ≡ pred_of (g.R.Reader.list c.args.reader.now) (c.args.end + 1)
before g c =
    let list = g.R.Reader.list in let at = g.R.Reader.location in let old = c.args.reader.now in
    elim c.if-loc-end.branch [
      | then-loc-end w ↦
          ap (λ r. pred_of (list r) (at r)) w.reader-is
          ∙ ap (λ l. pred_of l (at w.seek.new.self)) w.seek.ensures.list
          ∙ ap (λ x. pred_of (list old) x) w.seek.ensures.location
          ∙ pred_of-first (list old) (c.args.end + 1) (omega arith) (omega (arith, c.requires.top))
      | else-loc-end w ↦
          ap (λ r. pred_of (list r) (at r)) w.reader-is
          ∙ pred_of-past (list old) (at old) c.args.end c.requires.behind (omega (arith, w.if-loc-end.false, c.loc.ensures.location))
    ]

pub returns-clause-last : goal.returns-clause-last
returns-clause-last g c = c.prev.ensures ∙ before g c

pub returns-clause-reads : goal.returns-clause-reads
returns-clause-reads g c =
    record {
      sound = search rules;
      same_list = search rules;
      is = omega (arith, before g c, pred_of-below (g.R.Reader.list c.args.reader.now) (c.args.end + 1) (omega arith));
      steps = search rules;
    }
