use Rattle.std.proofs.Common.{◌≡◌, ◌≢◌, ℕ, ◌+◌, ◌*◌, ◌<◌, ◌≤◌, Some, List, map, length, refl, sym, subst, ap, ◌∙◌, arith, rules}
use Rattle.std.specs.Prelude.{slice_index, slice_index_or}
use Rattle.std.proofs.lemmas.List.{length-map}
use Rattle.alta_codec.specs.Inequality.{Inequality, upper, lower}
use Rattle.alta_solver.specs.Bounds.{IsNamed}
use Rattle.alta_solver.specs.declared.least.Outcome.TheVariants.{Moved}
use Rattle.alta_solver.specs.Repair.{IsRepaired}
use Rattle.alta_solver.specs.Settling.{IsTried}
use Rattle.alta_solver.specs.Solution.{MeetsBound}
use Rattle.alta_solver.proofs.Pairs.{followed_repaired, tried_from, pair_holds}
use Rattle.alta_solver.proofs.least.follow.Given.{Over}
use Rattle.alta_solver.proofs.least.follow.Goals as goal
use Rattle.alta_solver.proofs.least.follow.Goals.{After-seek_at}

-- what is known once the reader was brought on behind the element
module _ (g : Over) (c : After-seek_at g) where
  lists : List (List ℕ)
  lists = map g.R.Reader.list c.args.readers.now

  old : List ℕ
  old = map g.R.Reader.location c.args.readers.now

  new : List ℕ
  new = map g.R.Reader.location c.seek_at.new.readers

  sized : length old ≡ length lists
  unfolding lists old
  sized = length-map c.args.readers.now g.R.Reader.location ∙ sym (length-map c.args.readers.now g.R.Reader.list)

  named : IsNamed (length lists) c.args.bounds.now
  unfolding lists
  named = rw length-map c.requires.ready.named

  within : c.args.m + 1 < length old
  unfolding old
  within =
      let b : Inequality = upper (c.args.m + 1) in
      let n : b.i < length c.args.readers.now = subst (λ (x : Inequality). x.i < length c.args.readers.now) (c.requires.pair.above b) (c.requires.ready.named (2 * c.args.m) b (omega (arith, c.requires.pair.within))).0 in
      rw length-map n

  repaired : IsRepaired lists (lower (c.args.m + 1)) old new Moved
  unfolding lists old new
  repaired =
      followed_repaired (map g.R.Reader.list c.args.readers.now) (map g.R.Reader.location c.args.readers.now) (map g.R.Reader.location c.seek_at.new.readers) c.args.m c.args.to
      within c.requires.there c.requires.short c.requires.top c.seek_at.ensures.moves.moved.places

  below : MeetsBound lists new (lower (c.args.m + 1))
  below = repaired.moved refl (λ e. omega (arith, e))

  tried : (next first : ℕ) → next ≤ length c.args.bounds.now → 2 * c.args.m + 2 ≤ next → first ≤ next
      → ((k : ℕ) (d : Inequality) → next ≤ k → k < length c.args.bounds.now → (slice_index_or c.args.bounds.now k d).i ≢ c.args.m + 1)
      → ((k : ℕ) (d : Inequality) → first ≤ k → k < next → k < length c.args.bounds.now → MeetsBound lists new (slice_index_or c.args.bounds.now k d))
      → IsTried lists c.args.bounds.now old new (2 * c.args.m + 2) (Some first)
  tried next first inside after le free here =
      tried_from lists c.args.bounds.now old new (2 * c.args.m + 1) (lower (c.args.m + 1)) c.requires.pair.within c.requires.pair.below named sized
      next inside free repaired (2 * c.args.m + 2) first after le here

  both : (next : ℕ) → next ≡ 2 * c.args.m + 2 → slice_index new (c.args.m + 1) ≤ slice_index new 0 → (k : ℕ) (d : Inequality) → 2 * c.args.m ≤ k → k < next → k < length c.args.bounds.now
      → MeetsBound lists new (slice_index_or c.args.bounds.now k d)
  both next e le = pair_holds lists c.args.bounds.now new c.args.m next e c.requires.pair (omega (arith, le)) below

pub seek_at-requires-clause-within : goal.seek_at-requires-clause-within
seek_at-requires-clause-within g c =
    let b : Inequality = upper (c.args.m + 1) in
    subst (λ (x : Inequality). x.i < length c.args.readers.now) (c.requires.pair.above b) (c.requires.ready.named (2 * c.args.m) b (omega (arith, c.requires.pair.within))).0

pub place_at-requires-clause-within : goal.place_at-requires-clause-within
unfolding old
place_at-requires-clause-within g c =
    let w = within g (goal.at.place_at-requires-clause-within g c).After-seek_at in
    omega (arith, w, length-map c.args.readers.now g.R.Reader.location, length-map c.args.readers.now g.R.Reader.list, length-map c.seek_at.new.readers g.R.Reader.list, ap length c.seek_at.ensures.moves.moved.lists)

pub returns-then-place_at : goal.returns-then-place_at
unfolding lists old new
returns-then-place_at g c =
    let a = (goal.at.returns-then-place_at g c).After-seek_at in let m = c.seek_at.ensures.moves in let e = c.behind_bounded-next.ensures in
    record {
      kept = record {
        sound = m.sound;
        lists = m.moved.lists;
        alls = m.moved.alls;
        placed = tried g a c.behind_bounded-next.result (2 * c.args.m) e.behind.within e.after (omega (arith, e.after)) e.behind.free
            (both g a c.behind_bounded-next.result c.if-next-m.true (omega (arith, c.place_at.ensures.value, c.place_at-then-next-m.ensures.value, c.if-place_at.true)));
        keeps = omega (arith, m.falls);
        steps = m.steps;
      };
      falls = search rules;
    }

pub returns-else-next-m : goal.returns-else-next-m
unfolding lists old new
returns-else-next-m g c =
    let a = (goal.at.returns-else-next-m g c).After-seek_at in let m = c.seek_at.ensures.moves in let e = c.behind_bounded-next.ensures in
    record {
      kept = record {
        sound = m.sound;
        lists = m.moved.lists;
        alls = m.moved.alls;
        placed = tried g a c.behind_bounded-next.result c.behind_bounded-next.result e.behind.within e.after (omega arith) e.behind.free (λ k d l w. absurd (omega (arith, l, w)));
        keeps = omega (arith, m.falls);
        steps = m.steps;
      };
      falls = search rules;
    }
