use Rattle.std.proofs.Common.{◌≡◌, ◌⊎◌, ⊎_elim, inl, inr, ◌<◌, [], map, length, get_or, refl, sym, subst, ap, arith}
use Rattle.std.specs.Prelude.{Contains, sum_by}
use Rattle.std.proofs.lemmas.List.{get_or-map, get_or_default, length-map}
use Rattle.alta_codec.specs.Rising.{pred_of}
use Rattle.alta_codec.specs.declared.location.TheConstants.{TOP}
use Rattle.alta_codec.proofs.Places.{pred_of-below}
use Rattle.alta_compound.specs.Union.{union_of, least_of}
use Rattle.alta_compound.proofs.Moving.{moving_in_step, moving_more, moving_done, moving_last, first_element, first_before, all_from_least, max_cases}
use Rattle.alta_compound.proofs.any.seek_before.Goals as goal

pub moves-init : goal.moves-init
moves-init g c = record {
  sound = c.requires.sound;
  heap = c.requires.heap;
  moving = moving_in_step g.R.Reader.list g.R.Reader.all g.R.Reader.location c.args.to c.args.readers.now c.args.at c.requires.top c.requires.above c.requires.in_step;
  low = omega arith;
  falls = inl refl;
  steps = omega arith;
  cost = omega arith;
}

pub move_first-requires-clause-before : goal.move_first-requires-clause-before
move_first-requires-clause-before g c =
    let h = g.R.Reader.location in let rs = c.moves.readers in
    let some : 0 < length rs = first_before h rs c.args.to c.requires.top (omega arith) in
    omega (arith, get_or_default (map h rs) 0 0 TOP (omega (arith, length-map rs h)))

pub moves-preserved : goal.moves-preserved
moves-preserved g c =
    let f = g.R.Reader.list in let a = g.R.Reader.all in let h = g.R.Reader.location in
    let to = c.args.to in let old = c.args.readers.now in let rs = c.moves.readers in let new = c.move_first.new.readers in
    let inv = c.moves.invariant in let found = c.move_first.result in let next = c.max-last.result in
    let m = max_cases c.moves.last found next c.max-last.ensures in
    let some : 0 < length rs = first_before h rs to c.requires.top (omega arith) in
    let root : get_or (map h rs) 0 0 < to = omega (arith, get_or_default (map h rs) 0 0 TOP (omega (arith, length-map rs h))) in
    let below : found < to = omega (arith, c.move_first.ensures.last, pred_of-below (get_or (map f rs) 0 []) to (omega arith)) in
    let element : Contains (union_of (map f old)) next ⊎ (next ≡ 0) =
    ⊎_elim (λ e. subst (λ v. Contains (union_of (map f old)) v ⊎ (v ≡ 0)) (sym e) inv.moving.element)
    (λ e. subst (λ v. Contains (union_of (map f old)) v ⊎ (v ≡ 0)) (sym e)
    (first_element f a h to old rs c.moves.last inv.moving some found c.move_first.ensures.last)) m.2 in
    record {
      sound = c.move_first.ensures.moves.sound;
      heap = c.move_first.ensures.heap;
      moving = moving_more f a h to old rs new c.moves.last next c.requires.top inv.moving some
          (λ d. omega (arith, root, get_or-map h rs 0 d 0 some)) c.move_first.ensures.moves.moved m.0
          (λ d. omega (arith, m.1, c.move_first.ensures.last, ap (λ l. pred_of l to) (get_or-map f rs 0 d [] some)))
          element (⊎_elim (λ e. omega (arith, e, inv.moving.short)) (λ e. omega (arith, e, below)) m.2);
      low = omega (arith, inv.low, m.0);
      falls = inr (⊎_elim (λ e. omega (arith, c.move_first.ensures.moves.falls, ap (λ l. sum_by g.R.Reader.left l) e))
          (λ l. omega (arith, c.move_first.ensures.moves.falls, l)) inv.falls);
      steps = omega (arith, c.move_first.ensures.moves.steps, inv.steps);
      cost = omega (arith, c.move_first.ensures.cost, inv.cost);
    }

pub returns-clause-moves : goal.returns-clause-moves
returns-clause-moves g c =
    let h = g.R.Reader.location in let inv = c.moves.invariant in
    record {
      sound = inv.sound;
      moved = moving_done g.R.Reader.list g.R.Reader.all h c.args.to c.args.readers.now c.moves.readers c.moves.last c.requires.top
          inv.moving (all_from_least h c.moves.readers c.args.to (omega arith));
      falls = ⊎_elim (λ e. absurd (omega (arith, c.requires.in_step.least, c.requires.above, ap (λ rs. least_of (map h rs)) e))) (λ l. l) inv.falls;
      steps = inv.steps;
    }

pub returns-clause-last : goal.returns-clause-last
returns-clause-last g c =
    moving_last g.R.Reader.list g.R.Reader.all g.R.Reader.location c.args.to c.args.readers.now c.moves.readers c.args.at c.moves.last
    c.requires.top c.requires.above c.moves.invariant.low c.moves.invariant.moving
    (all_from_least g.R.Reader.location c.moves.readers c.args.to (omega arith)) c.requires.in_step.each
