use Rattle.std.proofs.Common.{◌≡◌, ◌<◌, map, length, sym, subst, ◌∙◌, rules}
use Rattle.std.proofs.lemmas.List.{length-map}
use Rattle.alta_codec.specs.Inequality.{Inequality}
use Rattle.alta_solver.specs.Bounds.{IsNamed}
use Rattle.alta_solver.proofs.Settling.{tried_settled, tried_moved, tried_stuck}
use Rattle.alta_solver.proofs.least.try_at.Given.{Over}
use Rattle.alta_solver.proofs.least.try_at.Goals as goal
use Rattle.alta_solver.proofs.least.try_at.Goals.{After-repair}

pub repair-requires-clause-between : goal.repair-requires-clause-between
repair-requires-clause-between g c =
    let b : Inequality = record { form = c.args.form; i = c.args.i; j = c.args.j; plus = c.args.plus; minus = c.args.minus } in
    let n = c.requires.ready.named c.args.at b c.requires.within in
    record {
      i = subst (λ (x : Inequality). x.i < length c.args.readers.now) (c.requires.bound b) n.0;
      j = subst (λ (x : Inequality). x.j < length c.args.readers.now) (c.requires.bound b) n.1;
      plus = c.requires.plus_within;
      minus = c.requires.minus_within;
    }

-- the bound, and that there are as many places as lists
module _ (g : Over) (c : After-repair g) where
  tested : Inequality
  tested = record { form = c.args.form; i = c.args.i; j = c.args.j; plus = c.args.plus; minus = c.args.minus }

  named : IsNamed (length (map g.R.Reader.list c.args.readers.now)) c.args.bounds.now
  named = rw length-map c.requires.ready.named

  sized : length (map g.R.Reader.location c.args.readers.now) ≡ length (map g.R.Reader.list c.args.readers.now)
  sized = length-map c.args.readers.now g.R.Reader.location ∙ sym (length-map c.args.readers.now g.R.Reader.list)

pub returns-in-Settled : goal.returns-in-Settled
unfolding tested
returns-in-Settled g c =
    let m = (goal.at.returns-in-Settled g c).After-repair in let e = c.in-Settled.ensures.kept in
    record {
      kept = record {
        sound = e.sound;
        lists = e.lists;
        alls = e.alls;
        placed = tried_settled _ _ _ _ c.args.at (tested g m) c.requires.within c.requires.bound (named g m) (sized g m) e.placed;
        keeps = e.keeps;
        steps = e.steps;
      };
      falls = search rules;
    }

pub returns-in-Moved : goal.returns-in-Moved
unfolding tested
returns-in-Moved g c =
    let m = (goal.at.returns-in-Moved g c).After-repair in let e = c.in-Moved.ensures.kept in
    record {
      kept = record {
        sound = e.sound;
        lists = e.lists;
        alls = e.alls;
        placed = tried_moved _ _ _ _ c.args.at (tested g m) c.requires.within c.requires.bound (named g m) (sized g m)
            c.behind_bounded.result c.behind_bounded.ensures.after c.behind_bounded.ensures.behind.within c.behind_bounded.ensures.behind.free e.placed;
        keeps = e.keeps;
        steps = e.steps;
      };
      falls = search rules;
    }

pub returns-in-Stuck : goal.returns-in-Stuck
unfolding tested
returns-in-Stuck g c =
    let m = (goal.at.returns-in-Stuck g c).After-repair in let e = c.in-Stuck.ensures.kept in
    record {
      kept = record {
        sound = e.sound;
        lists = e.lists;
        alls = e.alls;
        placed = tried_stuck _ _ _ _ c.args.at (tested g m) c.requires.within c.requires.bound (named g m) (sized g m) e.placed;
        keeps = e.keeps;
        steps = e.steps;
      };
      falls = search rules;
    }
