use Rattle.std.proofs.Math.Seq.{map-set_same}
use Rattle.std.proofs.lemmas.List.Elements.{All-set}
use Rattle.alta_codec.specs.Rising.{pred_of}
use Rattle.std.proofs.Common.{◌<◌, ap, arith, rules}
use Rattle.std.proofs.lemmas.List.Sums.{sum_by-set}
use Rattle.alta_rank.proofs.scoring.place_at.Goals as goal

pub returns-clause-on : goal.returns-clause-on
returns-clause-on g c =
    record {
      sound = search rules;
      lists = map-set_same g.R.Reader.list c.args.readers.now c.args.i c.place_from.new.reader c.index-readers-i.result c.place_from.ensures.reads.same_list;
      steps = omega (
        arith,
        sum_by-set g.R.Reader.left c.args.readers.now c.args.i c.place_from.new.reader c.index-readers-i.result c.requires.within,
        ap g.R.Reader.left c.index-readers-i.is,
        c.place_from.ensures.reads.steps,
      );
    }

pub returns-clause-behind : goal.returns-clause-behind
returns-clause-behind g c =
    All-set (λ r. pred_of (g.R.Reader.list r) (g.R.Reader.location r) < c.args.first) c.args.readers.now c.args.i c.place_from.new.reader c.place_from.ensures.reads.is c.requires.behind
