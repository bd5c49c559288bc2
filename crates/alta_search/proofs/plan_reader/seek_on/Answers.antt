use Rattle.std.proofs.Common.{refl, arith}
use Rattle.alta_search.proofs.LeadMoves.{led_onward}
use Rattle.alta_search.proofs.plan_reader.seek_on.Goals as goal

pub returns-then-loc-to : goal.returns-then-loc-to
returns-then-loc-to g c =
    let e = c.seek.ensures in
    record {
      sound = e.sound;
      list = e.list;
      all = e.all;
      goes = λ _. e.location;
      stays = λ l. absurd (omega (arith, l, c.if-loc-to.true, c.loc.ensures.location));
      steps = e.steps;
      moves = led_onward c.args.reader.now c.seek.new.self c.args.steps.now c.seek.new.steps e.same e.moves;
    }

pub returns-else-loc-to : goal.returns-else-loc-to
returns-else-loc-to g c =
    record {
      sound = c.requires.sound;
      list = refl;
      all = refl;
      goes = λ l. absurd (omega (arith, l, c.if-loc-to.false, c.loc.ensures.location));
      stays = λ _. refl;
      steps = omega arith;
      moves = omega arith;
    }
