use Rattle.std.proofs.Common.{◌≡◌, ℕ, ◌+◌, ◌*◌, ◌<◌, ◌≤◌, Some, List, map, length, refl, sym, subst, ◌∙◌, arith, rules}
use Rattle.std.specs.Prelude.{slice_index_or}
use Rattle.std.proofs.lemmas.List.{length-map}
use Rattle.alta_codec.specs.Inequality.{Inequality, upper, lower}
use Rattle.alta_solver.specs.Bounds.{IsNamed}
use Rattle.alta_solver.specs.declared.least.Outcome.TheVariants.{Moved}
use Rattle.alta_solver.specs.Repair.{IsRepaired}
use Rattle.alta_solver.specs.Settling.{IsTried}
use Rattle.alta_solver.specs.Solution.{MeetsBound}
use Rattle.alta_solver.proofs.Pairs.{led_repaired, led_lower, behind_pair, tried_from, pair_holds}
use Rattle.alta_solver.proofs.least.lead.Given.{Over}
use Rattle.alta_solver.proofs.least.lead.Goals as goal
use Rattle.alta_solver.proofs.least.lead.Goals.{After-seek_at}

-- what is known once the first reader was brought on
module _ (g : Over) (c : After-seek_at g) where
  lists : List (List ℕ)
  lists = map g.R.Reader.list c.args.readers.now

  old : List ℕ
  old = map g.R.Reader.location c.args.readers.now

  new : List ℕ
  new = map g.R.Reader.location c.seek_at.new.readers

  sized : length old ≡ length lists
  unfolding lists old
  sized = length-map c.args.readers.now g.R.Reader.location ∙ sym (length-map c.args.readers.now g.R.Reader.list)

  named : IsNamed (length lists) c.args.bounds.now
  unfolding lists
  named = rw length-map c.requires.ready.named

  within : c.args.m + 1 < length old
  unfolding old
  within =
      let b : Inequality = upper (c.args.m + 1) in
      let n : b.i < length c.args.readers.now = subst (λ (x : Inequality). x.i < length c.args.readers.now) (c.requires.pair.above b) (c.requires.ready.named (2 * c.args.m) b (omega (arith, c.requires.pair.within))).0 in
      rw length-map n

  repaired : IsRepaired lists (upper (c.args.m + 1)) old new Moved
  unfolding lists old new
  repaired =
      led_repaired (map g.R.Reader.list c.args.readers.now) (map g.R.Reader.location c.args.readers.now) (map g.R.Reader.location c.seek_at.new.readers) c.args.m c.args.to
      within c.requires.there c.requires.short c.requires.top c.seek_at.ensures.moves.moved.places

  below : MeetsBound lists new (lower (c.args.m + 1))
  unfolding lists old new
  below =
      led_lower (map g.R.Reader.list c.args.readers.now) (map g.R.Reader.location c.args.readers.now) (map g.R.Reader.location c.seek_at.new.readers) c.args.m c.args.to
      within c.requires.there c.requires.short c.requires.top c.seek_at.ensures.moves.moved.places

  above : MeetsBound lists new (upper (c.args.m + 1))
  above = repaired.moved refl (λ e. omega (arith, e))

  after : 2 * c.args.m + 2 ≤ c.args.behind_first
  after = behind_pair c.args.bounds.now c.args.m c.args.behind_first c.requires.pair c.requires.behind

  tried : (first : ℕ) → first ≤ c.args.behind_first
      → ((k : ℕ) (d : Inequality) → first ≤ k → k < c.args.behind_first → k < length c.args.bounds.now → MeetsBound lists new (slice_index_or c.args.bounds.now k d))
      → IsTried lists c.args.bounds.now old new (2 * c.args.m + 2) (Some first)
  tried first le here =
      tried_from lists c.args.bounds.now old new (2 * c.args.m) (upper (c.args.m + 1)) (omega (arith, c.requires.pair.within)) c.requires.pair.above named sized
      c.args.behind_first c.requires.behind.within c.requires.behind.free repaired (2 * c.args.m + 2) first after le here

pub returns-then-behind_first-m : goal.returns-then-behind_first-m
unfolding lists old new
returns-then-behind_first-m g c =
    let a = (goal.at.returns-then-behind_first-m g c).After-seek_at in let m = c.seek_at.ensures.moves in
    record {
      kept = record {
        sound = m.sound;
        lists = m.moved.lists;
        alls = m.moved.alls;
        placed = tried g a (2 * c.args.m) (omega (arith, after g a))
            (pair_holds (lists g a) c.args.bounds.now (new g a) c.args.m c.args.behind_first c.if-behind_first-m.true c.requires.pair (above g a) (below g a));
        keeps = omega (arith, m.falls);
        steps = m.steps;
      };
      falls = search rules;
    }

pub returns-else-behind_first-m : goal.returns-else-behind_first-m
unfolding lists old new
returns-else-behind_first-m g c =
    let a = (goal.at.returns-else-behind_first-m g c).After-seek_at in let m = c.seek_at.ensures.moves in
    record {
      kept = record {
        sound = m.sound;
        lists = m.moved.lists;
        alls = m.moved.alls;
        placed = tried g a c.args.behind_first (omega arith) (λ k d l w. absurd (omega (arith, l, w)));
        keeps = omega (arith, m.falls);
        steps = m.steps;
      };
      falls = search rules;
    }
