use Rattle.std.proofs.Common.{◌≡◌, map, get_or, ap, sym, ◌∙◌, arith}
use Rattle.alta_codec.specs.Rising.{first_from, pred_of}
use Rattle.alta_compound.specs.OverReaders.{union_of-rises}
use Rattle.alta_compound.proofs.InStep.{in_step_first, in_step_after}
use Rattle.alta_compound.proofs.Permuted.{union_of-permutation, gathered-permutation}
use Rattle.alta_compound.specs.Union.{union_of, IsInStep}
use Rattle.alta_compound.proofs.Staying.{pred_same}
use Rattle.alta_compound.proofs.Costs.{cost_before-le}
use Rattle.alta_compound.proofs.Moving.{moved_map, moved_first}
use Rattle.alta_compound.proofs.any.go.Given.{Over}
use Rattle.alta_compound.proofs.any.go.Goals as goal
use Rattle.alta_compound.proofs.any.go.Goals.{After-seek_before-before, After-least_place}

same_union : (g : Over) (c : After-seek_before-before g)
    → union_of (map g.R.Reader.list c.seek_before-before.new.readers) ≡ union_of (map g.R.Reader.list c.args.readers.now)
same_union g c =
    let f = g.R.Reader.list in let old = c.args.readers.now in let new = c.seek_before-before.new.readers in
    union_of-permutation (map f old) (map f new)
    (union_of-rises f old (λ k d l. g.met.R.Reader.rises (get_or old k d) (c.requires.sound k d l)))
    (union_of-rises f new (λ k d l. g.met.R.Reader.rises (get_or new k d) (c.seek_before-before.ensures.moves.sound k d l)))
    (moved_map f g.R.Reader.all g.R.Reader.location c.args.to old new c.seek_before-before.ensures.moves.moved f (λ a b t. t.same_list))

after : (g : Over) (c : After-least_place g)
    → IsInStep g.R.Reader.list g.R.Reader.location c.seek_before-before.new.readers c.least_place.result
    × (c.least_place.result ≡ first_from (union_of (map g.R.Reader.list c.seek_before-before.new.readers)) c.args.to)
after g c =
    let f = g.R.Reader.list in let h = g.R.Reader.location in let old = c.args.readers.now in let new = c.seek_before-before.new.readers in
    in_step_after f h new c.args.to c.least_place.result c.requires.top
    (moved_first f g.R.Reader.all h c.args.to old new c.seek_before-before.ensures.moves.moved (in_step_first f h old c.args.at c.args.to c.requires.in_step c.requires.above))
    c.least_place.ensures.least

pub returns-clause-list : goal.returns-clause-list
returns-clause-list g c = same_union g (goal.at.returns-clause-list g c).After-seek_before-before

pub returns-clause-all : goal.returns-clause-all
returns-clause-all g c =
    let a = g.R.Reader.all in let old = c.args.readers.now in let new = c.seek_before-before.new.readers in
    gathered-permutation (map a old) (map a new)
    (moved_map g.R.Reader.list a g.R.Reader.location c.args.to old new c.seek_before-before.ensures.moves.moved a (λ x y t. t.same_all))

pub returns-clause-place : goal.returns-clause-place
returns-clause-place g c =
    (after g (goal.at.returns-clause-place g c).After-least_place).1
    ∙ ap (λ u. first_from u c.args.to) (same_union g (goal.at.returns-clause-place g c).After-seek_before-before)

pub returns-clause-union : goal.returns-clause-union
returns-clause-union g c =
    let f = g.R.Reader.list in let u = union_of (map f c.args.readers.now) in
    let same = same_union g (goal.at.returns-clause-union g c).After-seek_before-before in
    let step = after g (goal.at.returns-clause-union g c).After-least_place in
    record {
      in_step = step.0;
      heap = c.seek_before-before.ensures.heap;
      last = c.seek_before-before.ensures.last
          ∙ sym (pred_same u c.args.to c.least_place.result (step.1 ∙ ap (λ l. first_from l c.args.to) same) (omega (arith, c.requires.above)) c.requires.top)
          ∙ ap (λ l. pred_of l c.least_place.result) (sym same);
    }

pub returns-clause-cost : goal.returns-clause-cost
returns-clause-cost g c =
    omega (arith, c.seek_before-before.ensures.spent, cost_before-le g.R.Reader.cost g.R.Reader.location c.args.to c.args.readers.now)
