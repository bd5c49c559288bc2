use Rattle.std.proofs.Common.{refl, arith}
use Rattle.alta_codec.proofs.Places.{first_from-here, place-le_top}
use Rattle.alta_rank.proofs.scoring.reach.Goals as goal

pub returns-else-loc-first : goal.returns-else-loc-first
returns-else-loc-first g c =
    let r = c.args.reader.now in let list = g.R.Reader.list r in
    let place = g.met.R.Reader.stands r c.requires.sound in
    record {
      sound = c.requires.sound;
      same_list = refl;
      is = first_from-here list (g.R.Reader.location r) c.args.first place (place-le_top list (g.R.Reader.location r) (g.met.R.Reader.rises r c.requires.sound) place)
          c.requires.behind (omega (arith, c.if-loc-first.false, c.loc.ensures.location));
      steps = omega arith;
    }
