-- Raising the one side of a broken bound repairs it, or shows that nothing can.
use Rattle.std.proofs.Common.{ℕ, ◌+◌, ◌<◌, ◌≤◌, true, false, List, length, refl, ap, arith}
use Rattle.std.specs.Prelude.{slice_index}
use Rattle.alta_codec.proofs.Places.{pred_of-mono}
use Rattle.alta_codec.specs.Inequality.{Inequality}
use Rattle.alta_codec.specs.declared.form.Form.{Form}
use Rattle.alta_codec.specs.declared.form.Form.TheVariants.{LocLoc, PrevLoc, LocPrev, PrevPrev}
use Rattle.alta_solver.specs.declared.least.Outcome.TheVariants.{Moved, Stuck}
use Rattle.alta_solver.specs.Solution.{list_at, low_side, high_side, MeetsBound, IsAtLeast, IsRaised}
use Rattle.alta_solver.specs.Repair.{IsRepaired}

-- each side rises with its location
pub low_side-mono : (form : Form) (xs : List ℕ) (x y : ℕ) → x ≤ y → low_side form xs x ≤ low_side form xs y
low_side-mono LocLoc xs x y h = h
low_side-mono PrevLoc xs x y h = pred_of-mono xs x y h
low_side-mono LocPrev xs x y h = h
low_side-mono PrevPrev xs x y h = pred_of-mono xs x y h

pub high_side-mono : (form : Form) (xs : List ℕ) (x y : ℕ) → x ≤ y → high_side form xs x ≤ high_side form xs y
high_side-mono LocLoc xs x y h = h
high_side-mono PrevLoc xs x y h = h
high_side-mono LocPrev xs x y h = pred_of-mono xs x y h
high_side-mono PrevPrev xs x y h = pred_of-mono xs x y h

module _ (lists : List (List ℕ)) (b : Inequality) (old new : List ℕ) (need : ℕ) (within : b.i < length old)
    (short : need + b.plus ≤ low_side b.form (list_at lists b.i) (slice_index old b.i) + b.minus)
    (enough : low_side b.form (list_at lists b.i) (slice_index old b.i) + b.minus ≤ need + b.plus) where
  -- where the bound holds from here on, the other side is at least `need`
  reaches : (x : List ℕ) → IsAtLeast old x → MeetsBound lists x b → need ≤ high_side b.form (list_at lists b.j) (slice_index x b.j)
  reaches x h holds =
      omega (arith, holds, low_side-mono b.form (list_at lists b.i) (slice_index old b.i) (slice_index x b.i) (h b.i within))

  pub repaired_moved : IsRaised (list_at lists b.j) b.form need old b.j new true → IsRepaired lists b old new Moved
  repaired_moved r =
      record {
        forward = r.forward;
        sized = r.sized;
        keeps = λ x h p holds. r.least refl x h p (reaches x h holds);
        others = r.others;
        moved = λ _ apart. omega (arith, enough, r.reaches refl, ap (λ v. low_side b.form (list_at lists b.i) v) (r.others b.i apart));
        settled = λ e. absurd cc;
        stuck = λ e. absurd cc;
      }

  pub repaired_stuck : IsRaised (list_at lists b.j) b.form need old b.j new false → IsRepaired lists b old new Stuck
  repaired_stuck r =
      record {
        forward = r.forward;
        sized = r.sized;
        keeps = λ x h p holds. absurd (r.none refl (slice_index x b.j) p (reaches x h holds));
        others = r.others;
        moved = λ e. absurd cc;
        settled = λ e. absurd cc;
        stuck = λ e x h p holds. r.none refl (slice_index x b.j) p (reaches x h holds);
      }
