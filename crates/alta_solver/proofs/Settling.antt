-- One repair after another, until all bounds hold.
use Rattle.std.proofs.Common.{◌≡◌, ◌≢◌, ⊎_elim, ℕ, ◌+◌, ◌*◌, ◌<◌, ◌≤◌, None, Some, List, length, get_or, refl, sym, subst, ap, ◌∙◌, arith}
use Rattle.std.proofs.Math.Nat.{mul-le-mul_left}
use Rattle.std.specs.Prelude.{slice_index}
use Rattle.alta_codec.specs.declared.location.TheConstants.{TOP}
use Rattle.alta_codec.specs.Rising.{IsPlace}
use Rattle.alta_solver.specs.declared.least.Outcome.{Outcome}
use Rattle.alta_solver.specs.declared.least.Outcome.TheVariants.{Settled, Moved, Stuck}
use Rattle.alta_codec.specs.Inequality.{Inequality}
use Rattle.alta_solver.specs.Bounds.{IsNamed}
use Rattle.alta_solver.specs.Solution.{list_at, low_side, MeetsBound, IsAtLeast, IsSolution, IsLeast}
use Rattle.alta_solver.specs.Repair.{IsRepaired}
use Rattle.alta_solver.specs.Settling.{IsSettling, IsTried}
use Rattle.alta_solver.proofs.Raised.{same_or_not}
use Rattle.alta_solver.proofs.Repaired.{high_side-mono}

-- a bound holds on, where the reader that is bounded stays and the other does not go back
pub holds_on : (lists : List (List ℕ)) (c : Inequality) (now new : List ℕ) → slice_index new c.i ≡ slice_index now c.i
    → slice_index now c.j ≤ slice_index new c.j → MeetsBound lists now c → MeetsBound lists new c
holds_on lists c now new e h holds =
    omega (
      arith,
      ap (λ v. low_side c.form (list_at lists c.i) v) e,
      high_side-mono c.form (list_at lists c.j) (slice_index now c.j) (slice_index new c.j) h,
      holds,
    )

module _ (lists : List (List ℕ)) (bounds : List Inequality) (old new : List ℕ) (at : ℕ) (b : Inequality)
    (within : at < length bounds) (is : (d : Inequality) → get_or bounds at d ≡ b) (named : IsNamed (length lists) bounds) (sized : length old ≡ length lists) where
  solution_holds : (x : List ℕ) → IsSolution lists bounds x → MeetsBound lists x b
  solution_holds x h = subst (λ c. MeetsBound lists x c) (is b) (h.bounded at b within)

  solution_place : (x : List ℕ) → IsSolution lists bounds x → IsPlace (list_at lists b.j) (slice_index x b.j)
  solution_place x h = h.places b.j (subst (λ c. c.j < length lists) (is b) (named at b within).1)

  pub keeps_on : (o : Outcome) → IsRepaired lists b old new o → (x : List ℕ) → IsSolution lists bounds x → IsAtLeast old x → IsAtLeast new x
  keeps_on o m x h a = m.keeps x a (solution_place x h) (solution_holds x h)

  pub tried_settled : IsRepaired lists b old new Settled → IsTried lists bounds old new (at + 1) (Some at)
  tried_settled m =
      record {
        forward = m.forward;
        sized = m.sized;
        keeps = keeps_on Settled m;
        hold = λ h k d l w.
            ⊎_elim
            (λ e. subst (λ c. MeetsBound lists new c) (sym (ap (λ n. get_or bounds n d) e ∙ is d)) (m.settled refl).1)
            (λ n. subst (λ xs. MeetsBound lists xs (get_or bounds k d)) (sym (m.settled refl).0) (h k d l (omega (arith, w, n))))
            (same_or_not k at);
        within = omega (arith, within);
        none = λ e. absurd cc;
      }

  pub tried_moved : (next : ℕ) → at ≤ next → next ≤ length bounds
      → ((k : ℕ) (d : Inequality) → next ≤ k → k < length bounds → (get_or bounds k d).i ≢ b.j)
      → IsRepaired lists b old new Moved → IsTried lists bounds old new (at + 1) (Some next)
  tried_moved next after inside free m =
      record {
        forward = m.forward;
        sized = m.sized;
        keeps = keeps_on Moved m;
        hold = λ h k d l w.
            ⊎_elim
            (λ e. let here : get_or bounds k d ≡ b = ap (λ n. get_or bounds n d) e ∙ is d in
            subst (λ c. MeetsBound lists new c) (sym here) (m.moved refl (subst (λ c. c.i ≢ b.j) here (free k d w l))))
            (λ n. holds_on lists (get_or bounds k d) old new (m.others (get_or bounds k d).i (free k d w l))
            (m.forward (get_or bounds k d).j (omega (arith, (named k d l).1, sized))) (h k d l (omega (arith, after, w, n))))
            (same_or_not k at);
        within = inside;
        none = λ e. absurd cc;
      }

  pub tried_stuck : IsRepaired lists b old new Stuck → IsTried lists bounds old new (at + 1) None
  tried_stuck m =
      record {
        forward = m.forward;
        sized = m.sized;
        keeps = keeps_on Stuck m;
        hold = tt;
        within = tt;
        none = λ _ x h a. m.stuck refl x a (solution_place x h) (solution_holds x h);
      }

-- where all bounds hold, the places are the least solution
pub settling_done : (lists : List (List ℕ)) (bounds : List Inequality) (old now : List ℕ) → IsSettling lists bounds old now 0
    → slice_index now 0 < TOP → length now ≡ length lists → ((i : ℕ) → i < length lists → IsPlace (list_at lists i) (slice_index now i))
    → IsLeast lists bounds old now
settling_done lists bounds old now s led sized places =
    record {
      solution = record {
        sized = sized;
        places = places;
        led = led;
        bounded = λ k d l. s.hold k d l (omega arith);
      };
      above = s.forward;
      least = s.keeps;
    }

-- fewer bounds are left to test, and no more to move
pub fewer_to_test : (a b n at next : ℕ) → b ≤ a → next < at → (n + 1) * b + next < (n + 1) * a + at
fewer_to_test a b n at next le e = let m : (n + 1) * b ≤ (n + 1) * a = mul-le-mul_left (n + 1) le in omega (arith, m, e)

-- less is left to move, however many of the bounds are to be tested again
pub less_to_move : (a b n at next : ℕ) → b < a → next ≤ n → (n + 1) * b + next < (n + 1) * a + at
less_to_move a b n at next lt le =
    let one : b + 1 ≤ a = omega arith in
    let m : (n + 1) * (b + 1) ≤ (n + 1) * a = mul-le-mul_left (n + 1) one in
    omega (arith, m, le)
