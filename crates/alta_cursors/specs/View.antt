-- A cursor as contracts see it.
use Rattle.std.specs.Prelude.{ℕ, Option}
use Rattle.alta_compile.specs.declared.asked.Conjunction.{Conjunction}
use Rattle.alta_compile.specs.declared.plan.Plan.{Plan}
use Rattle.alta_search.specs.View.{View}

-- a plan, its conjunction if there is one, the snapshot of its tests, and the place from which on answers are still to come
pub record CursorView : Type 0 where
  pub plan : Plan
  pub found : Option Conjunction
  pub snapshot : View
  pub from : ℕ
