use Rattle.std.proofs.Common.{◌≡◌, ℕ, ◌+◌, ◌<◌, cond, eqb, get_or, refl, sym, ap, subst, ◌∙◌, arith, ⊎_elim}
use Rattle.std.specs.Prelude.{Contains}
use Rattle.alta_codec.specs.Rising.{IsPlace, first_from}
use Rattle.alta_codec.specs.declared.location.TheConstants.{TOP}
use Rattle.alta_codec.proofs.Places.{first_from-above}
use Rattle.alta_gather.specs.Holding.{with_list}
use Rattle.alta_gather.specs.Runs.{places_in}
use Rattle.alta_gather.proofs.Runs.{places_rising}
use Rattle.alta_gather.proofs.Marking.{IsMarkedTo, marked_none, marked_next, marked_all}
use Rattle.alta_gather.proofs.gathering.mark_runs.Goals as goal

pub locations-init : goal.locations-init
locations-init g c =
    let list = g.R.Reader.list c.args.reader.now in
    record {
      sound = c.requires.sound;
      list = refl;
      within = omega arith;
      passed = λ k lt. absurd (omega (arith, lt));
      marked = subst (λ (to : ℕ). IsMarkedTo (places_in c.args.lasts.now c.args.runs.now) list to c.args.list c.args.held.now c.args.held.now) (sym c.requires.unmoved)
          (marked_none (places_in c.args.lasts.now c.args.runs.now) list c.args.list c.args.held.now);
      steps = omega arith;
    }

pub loc-requires : goal.loc-requires
loc-requires g c = c.locations.invariant.sound

pub loc-requires-in-locations : goal.loc-requires-in-locations
loc-requires-in-locations g c = c.locations.invariant.sound

pub note-from-requires-clause-passed : goal.note-from-requires-clause-passed
note-from-requires-clause-passed g c = λ k lt. omega (arith, c.locations.invariant.passed k lt, c.loc-in-locations.ensures.location)

pub locations-preserved : goal.locations-preserved
locations-preserved g c =
    let list = g.R.Reader.list c.args.reader.now in let r = c.locations.reader in let at = g.R.Reader.location r in let inv = c.locations.invariant in
    let top : at < TOP = omega (arith, c.locations-test.true, c.loc.ensures.location) in
    let place : IsPlace list at = subst (λ l. IsPlace l at) inv.list (g.met.R.Reader.stands r inv.sound) in
    let held : Contains list at = ⊎_elim (λ m. m) (λ e. absurd (omega (arith, e, top))) place in
    let next_is : g.R.Reader.location c.next.new.self ≡ first_from list (at + 1) = c.next.ensures.location ∙ ap (λ l. first_from l (at + 1)) inv.list in
    record {
      sound = c.next.ensures.sound;
      list = c.next.ensures.list ∙ inv.list;
      within = c.note-from.ensures.within;
      passed = λ k lt. omega (arith, c.note-from.ensures.passed k lt, c.loc-in-locations.ensures.location, next_is, first_from-above list (at + 1) (omega (arith, top)));
      marked =
          marked_next (places_in c.args.lasts.now c.args.runs.now) list at (g.R.Reader.location c.next.new.self) c.args.list c.args.held.now c.locations.held c.note-from.new.held top next_is held inv.marked
          c.note-from.auto.held
          (λ i d lt. subst (λ (a : ℕ). get_or c.note-from.new.held i d ≡ cond (eqb (get_or (places_in c.args.lasts.now c.args.runs.now) i 0) a) (with_list c.args.list (get_or c.locations.held i d)) (get_or c.locations.held i d))
          c.loc-in-locations.ensures.location (c.note-from.ensures.noted i d lt));
      steps = omega (arith, c.next.ensures.steps, inv.steps);
    }

pub returns-clause-marked : goal.returns-clause-marked
returns-clause-marked g c =
    marked_all (places_in c.args.lasts.now c.args.runs.now) (g.R.Reader.list c.args.reader.now) (g.R.Reader.location c.locations.reader) c.args.list c.args.held.now c.locations.held (places_rising c.args.lasts.now c.args.runs.now c.requires.runs)
    (omega (arith, c.locations-test.false, c.loc.ensures.location)) c.locations.invariant.marked
