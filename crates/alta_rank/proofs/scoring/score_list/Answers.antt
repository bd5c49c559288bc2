use Rattle.std.proofs.Common.{◌+◌, ◌≤◌, ltb, subst, ap, ◌∙◌, arith}
use Rattle.alta_codec.specs.Rising.{IsRising, IsPlace, first_from, pred_of}
use Rattle.alta_codec.proofs.Places.{pred_of-below}
use Rattle.alta_machine.specs.Scores.{weight}
use Rattle.alta_rank.specs.Counted.{counted}
use Rattle.alta_rank.proofs.Passed.{pred_of-first}
use Rattle.alta_rank.proofs.Scores.{counted-next, counted-first, counted-past}
use Rattle.alta_rank.proofs.scoring.score_list.Goals as goal

pub locations-init : goal.locations-init
locations-init g c =
    let list = g.R.Reader.list c.args.reader.now in
    record {
      sound = c.reach.ensures.sound;
      list = c.reach.ensures.same_list;
      total = omega (
        arith,
        ap (λ x. counted c.args.title c.args.last c.args.end list x) c.reach.ensures.is,
        counted-first c.args.title c.args.last c.args.end list c.args.first (omega (arith, c.requires.order, c.requires.top)),
      );
      behind = omega (
        arith,
        ap (λ x. pred_of list x) c.reach.ensures.is,
        pred_of-first list c.args.first (omega (arith, c.requires.behind)) (omega (arith, c.requires.order, c.requires.top)),
        pred_of-below list c.args.first (omega (arith, c.requires.behind)),
        c.requires.order,
      );
      steps = c.reach.ensures.steps;
    }

pub loc-requires : goal.loc-requires
loc-requires g c = c.locations.invariant.sound

pub loc-requires-in-locations : goal.loc-requires-in-locations
loc-requires-in-locations g c = c.locations.invariant.sound

pub overflow_add-score : goal.overflow_add-score
overflow_add-score g c =
    let list = g.R.Reader.list c.args.reader.now in let r = c.locations.reader in let inv = c.locations.invariant in
    let split = counted-next c.args.title c.args.last c.args.end list (g.R.Reader.location r) c.weight-score.result
    (subst IsRising inv.list (g.met.R.Reader.rises r inv.sound)) (subst (λ l. IsPlace l (g.R.Reader.location r)) inv.list (g.met.R.Reader.stands r inv.sound))
    (omega (arith, c.locations-test.true, c.loc.ensures.location)) c.requires.top
    (c.weight-score.ensures ∙ ap (λ x. weight c.args.title (ltb x c.args.last)) c.loc-in-locations.ensures.location) in
    omega (arith, split, inv.total, c.requires.fits)

pub next-requires-clause-sound : goal.next-requires-clause-sound
next-requires-clause-sound g c = c.locations.invariant.sound

pub locations-smaller : goal.locations-smaller
locations-smaller g c = c.next.ensures.falls

pub locations-preserved : goal.locations-preserved
locations-preserved g c =
    let list = g.R.Reader.list c.args.reader.now in let at = g.R.Reader.location c.locations.reader in let inv = c.locations.invariant in
    let place = c.next.ensures.location ∙ ap (λ l. first_from l (at + 1)) inv.list in
    let low : at ≤ c.args.end = omega (arith, c.locations-test.true, c.loc.ensures.location) in
    let split = counted-next c.args.title c.args.last c.args.end list at c.weight-score.result
    (subst IsRising inv.list (g.met.R.Reader.rises c.locations.reader inv.sound)) (subst (λ l. IsPlace l at) inv.list (g.met.R.Reader.stands c.locations.reader inv.sound))
    low c.requires.top (c.weight-score.ensures ∙ ap (λ x. weight c.args.title (ltb x c.args.last)) c.loc-in-locations.ensures.location) in
    record {
      sound = c.next.ensures.sound;
      list = c.next.ensures.list ∙ inv.list;
      total = omega (arith, split, inv.total, ap (λ x. counted c.args.title c.args.last c.args.end list x) place);
      behind = omega (
        arith,
        ap (λ x. pred_of list x) place,
        pred_of-first list (at + 1) (omega arith) (omega (arith, low, c.requires.top)),
        pred_of-below list (at + 1) (omega arith),
        low,
      );
      steps = omega (arith, c.next.ensures.steps, inv.steps);
    }

pub returns-clause-score : goal.returns-clause-score
returns-clause-score g c =
    let at = g.R.Reader.location c.locations.reader in
    omega (
      arith,
      c.locations.invariant.total,
      counted-past c.args.title c.args.last c.args.end (g.R.Reader.list c.args.reader.now) at (omega (arith, c.locations-test.false, c.loc.ensures.location)),
    )

pub returns-clause-reads : goal.returns-clause-reads
returns-clause-reads g c =
    let inv = c.locations.invariant in
    record {
      sound = inv.sound;
      same_list = inv.list;
      is = omega (arith, ap (λ l. pred_of l (g.R.Reader.location c.locations.reader)) inv.list, inv.behind);
      steps = inv.steps;
    }
