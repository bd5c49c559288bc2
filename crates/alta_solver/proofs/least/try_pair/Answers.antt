use Rattle.std.proofs.Common.{◌+◌, ◌*◌, ◌<◌, map, length, refl, subst, arith, rules}
use Rattle.std.specs.Prelude.{slice_index}
use Rattle.alta_codec.proofs.Places.{pred_of-below_top}
use Rattle.alta_codec.specs.Inequality.{Inequality, upper}
use Rattle.alta_solver.specs.Solution.{list_at}
use Rattle.alta_solver.proofs.Pairs.{pair_settled}
use Rattle.alta_solver.proofs.least.try_pair.Goals as goal

pub place_at-at-requires-clause-within : goal.place_at-at-requires-clause-within
place_at-at-requires-clause-within g c =
    let b : Inequality = upper (c.args.m + 1) in
    subst (λ (x : Inequality). x.i < length c.args.readers.now) (c.requires.pair.above b) (c.requires.ready.named (2 * c.args.m) b (omega (arith, c.requires.pair.within))).0

pub follow-requires-clause-top : goal.follow-requires-clause-top
follow-requires-clause-top g c =
    omega (
      arith,
      c.prev_at-before.ensures.value,
      pred_of-below_top (list_at (map g.R.Reader.list c.args.readers.now) 0) (slice_index (map g.R.Reader.location c.args.readers.now) 0) c.place_at.ensures.rising,
    )

pub returns-then-before-at : goal.returns-then-before-at
returns-then-before-at g c =
    record {
      kept = record {
        sound = c.requires.ready.sound;
        lists = refl;
        alls = refl;
        placed = pair_settled (map g.R.Reader.list c.args.readers.now) c.args.bounds.now (map g.R.Reader.location c.args.readers.now) c.args.m c.requires.pair
            (omega (arith, c.place_at-at.ensures.value, c.place_at.ensures.value, c.if-place_at-at.false))
            (omega (arith, c.place_at-at.ensures.value, c.prev_at-before.ensures.value, c.if-before-at.true));
        keeps = omega arith;
        steps = omega arith;
      };
      falls = search rules;
    }
