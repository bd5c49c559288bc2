-- What a repair of one bound may do.
use Rattle.std.specs.Prelude.{◌≡◌, ◌≢◌, ℕ, List, length, slice_index}
use Rattle.alta_codec.specs.Rising.{IsPlace}
use Rattle.alta_solver.specs.declared.least.Outcome.{Outcome}
use Rattle.alta_solver.specs.declared.least.Outcome.TheVariants.{Settled, Moved, Stuck}
use Rattle.alta_codec.specs.Inequality.{Inequality}
use Rattle.alta_solver.specs.Solution.{list_at, MeetsBound, IsAtLeast}

-- No place went back, none passed places where the bound holds, and none but that of j moved. Settled: the bound holds and
-- nothing moved. Moved: it holds now, where it is between two readers. Stuck: it holds at no places from here on.
pub record IsRepaired (lists : List (List ℕ)) (bound : Inequality) (old new : List ℕ) (outcome : Outcome) : Type 0 where
  pub forward : IsAtLeast old new
  pub sized : length new ≡ length old
  pub keeps : (x : List ℕ) → IsAtLeast old x → IsPlace (list_at lists bound.j) (slice_index x bound.j)
      → MeetsBound lists x bound
      → IsAtLeast new x
  pub others : (k : ℕ) → k ≢ bound.j → slice_index new k ≡ slice_index old k
  pub moved : outcome ≡ Moved → bound.i ≢ bound.j → MeetsBound lists new bound
  pub settled : outcome ≡ Settled → (new ≡ old) × MeetsBound lists new bound
  pub stuck : outcome ≡ Stuck → (x : List ℕ) → IsAtLeast old x → IsPlace (list_at lists bound.j) (slice_index x bound.j)
      → MeetsBound lists x bound → ⊥
