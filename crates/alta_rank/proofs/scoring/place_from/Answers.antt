use Rattle.std.proofs.Common.{ap, arith}
use Rattle.alta_codec.specs.Rising.{pred_of}
use Rattle.alta_codec.proofs.Places.{pred_of-below}
use Rattle.alta_rank.proofs.Passed.{pred_of-first}
use Rattle.alta_rank.proofs.scoring.place_from.Goals as goal

pub returns-clause-reads : goal.returns-clause-reads
returns-clause-reads g c =
    let list = g.R.Reader.list in let at = g.R.Reader.location in let old = c.args.reader.now in let new = c.reach.new.reader in
    record {
      sound = c.reach.ensures.sound;
      same_list = c.reach.ensures.same_list;
      is = omega (
        arith,
        ap (λ l. pred_of l (at new)) c.reach.ensures.same_list,
        ap (λ x. pred_of (list old) x) c.reach.ensures.is,
        pred_of-first (list old) c.args.first (omega (arith, c.requires.behind)) c.requires.top,
        pred_of-below (list old) c.args.first (omega (arith, c.requires.behind)),
      );
      steps = c.reach.ensures.steps;
    }
