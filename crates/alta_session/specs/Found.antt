-- A search over a store, call by call.
use Rattle.std.specs.Prelude.{◌≡◌, ℕ, List, map}
use Rattle.alta_machine.specs.PlanOf.{plan_of}
use Rattle.alta_compile.specs.Space.{Placed}
use Rattle.alta_content.specs.declared.document.DocRow.{DocRow}
use Rattle.alta_loading.specs.Snapshots.{loaded_view}
use Rattle.alta_memlevel.specs.Added.{LevelView}
use Rattle.alta_machine.specs.Shape.{Shape}
use Rattle.alta_search.specs.Answers.{coming}
use Rattle.alta_search.specs.Plans.{tests_of}
use Rattle.alta_machine.specs.Searching.{AnswerRow}
use Rattle.alta_search.specs.Told.{answer_of}
use Rattle.alta_search.specs.View.{Shows, View}
use Rattle.alta_store.specs.Searched.{IsSearched}
use Rattle.alta_store.specs.declared.store.Store.{Store}
use Rattle.alta_table.specs.Tables.{Tables}

-- These rows are found for a query: the store says what a search looks at, the snapshot is what is loaded of it from the image for the
-- query's plan, and the rows are the answers of the plan over the snapshot.
pub record AreFound (store : Store) (image : List ℕ) (q : Shape) (found : List AnswerRow) : Type 0 where
  pub levels : List Tables
  pub newest : LevelView
  pub gone : List ℕ
  pub rows : List DocRow
  pub searched : IsSearched store levels newest gone rows
  pub snapshot : View
  pub loaded : snapshot ≡ loaded_view levels newest.content image (tests_of (plan_of q)) gone
  pub answers : (space : List Placed) → Shows space snapshot → found
      ≡ map answer_of (coming space (plan_of q) snapshot 0)
