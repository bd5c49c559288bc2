-- What readers over a snapshot found, with the steps that this took.
use Rattle.std.specs.Prelude.{◌≡◌, ℕ, ◌+◌, ◌<◌, ◌≤◌, List, length, All, Option, Result, IfOk}
use Rattle.alta_compile.specs.Space.{Placed}
use Rattle.alta_compile.specs.declared.asked.Conjunction.{Conjunction}
use Rattle.alta_content.specs.declared.document.DocRow.{DocRow}
use Rattle.alta_machine.specs.Plans.{Tree}
use Rattle.alta_search.specs.Answers.{answers_in, coming}
use Rattle.alta_search.specs.Leads.{AreByRarest}
use Rattle.alta_search.specs.Plans.{lists, locations}
use Rattle.alta_search.specs.Told.{rows_at}
use Rattle.alta_search.specs.View.{View, Shows}
use Rattle.alta_search.specs.Walks.{PlanView, IsOnward, IsPart, IsBegun}
use Rattle.alta_search.specs.declared.walk.Picked.{Picked}

-- the steps over a snapshot: at most a step a list and one a location, and by the rarest word where there is a conjunction
pub record AreSearchSteps (found : Option Conjunction) (v : View) (before after : ℕ) : Type 0 where
  pub most : after ≤ before + locations v.cuts + lists v.cuts
  pub rarest : AreByRarest found v before after

-- Where memory was there, a reader of a plan over a snapshot was made, which the rarest word leads where there is a conjunction.
pub record BeginsReader {E : Type 0} (p : Tree) (found : Option Conjunction) (v : View) (from before after : ℕ)
    (result : Result PlanView E) : Type 0 where
  pub begun : IfOk result (λ r. IsBegun p v r from before after)
  pub moves : IfOk result (λ r. AreByRarest found v before (after + r.moves))
  pub steps : AreSearchSteps found v before after

-- Where memory was there, the next of the answers that have these rows were picked by their indexes, so many at most. The reader went
-- on to the first of those that are left.
pub record Picks {A E : Type 0} (rows : List DocRow) (gone : List ℕ) (count : ℕ) (old new : PlanView)
    (before after : ℕ) (result : Result A E) (picked : A → Picked) : Type 0 where
  pub onward : IsOnward old new before after
  pub inside : IfOk result (λ r. All (λ i. i < length rows) (picked r).picks.items)
  pub part : IfOk result (λ r. IsPart (answers_in old.list gone old.place rows)
      (answers_in old.list gone new.place rows) count
      (rows_at rows (picked r).picks.items) (picked r).more new.place)

-- Where memory was there, what a walk over a snapshot answered is so; it added at most a step a list and one a location.
pub record WalksOver {A E : Type 0} (v : View) (before after : ℕ) (result : Result A E)
    (IsSo : A → Type 0) : Type 0 where
  pub answer : IfOk result IsSo
  pub most : after ≤ before + locations v.cuts + lists v.cuts
