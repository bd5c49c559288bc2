-- By which walk the answers of a query are counted, and how many they are.
use Rattle.std.specs.Prelude.{◌≡◌, ℕ, ◌<◌, List, Option, Result, IfOk, IsTrue, is_some, length}
use Rattle.alta_compile.specs.Conjoined.{titled_word, stem_in, is_either}
use Rattle.alta_compile.specs.Space.{Placed}
use Rattle.alta_compile.specs.declared.asked.Conjunction.{Conjunction}
use Rattle.alta_machine.specs.Plans.{Tree}
use Rattle.alta_machine.specs.Shape.{Shape}
use Rattle.alta_search.specs.Answers.{coming}
use Rattle.alta_search.specs.View.{View, Shows}
use Rattle.alta_search.specs.Walked.{AreSearchSteps}
use Rattle.alta_counts.specs.declared.counts.Counting.{Counting}
use Rattle.alta_counts.specs.declared.counts.Counting.TheVariants.{Title, Stem, Either, Reader}

-- the query is one that the walk counts, over a snapshot that has tests
abbrev pub IsCountedBy : Shape → View → Counting → Type 0
IsCountedBy q v Title = IsTrue (is_some (titled_word q))
IsCountedBy q v Stem = IsTrue (is_some (stem_in q))
IsCountedBy q v Either = IsTrue (is_either q) × (0 < length v.tests)
IsCountedBy q v Reader = Unit {0}

-- Where memory was there, these are as many as the plan has answers over a snapshot.
pub record CountsAnswers {E : Type 0} (p : Tree) (found : Option Conjunction) (v : View) (before after : ℕ)
    (result : Result ℕ E) : Type 0 where
  pub count : IfOk result (λ n. (space : List Placed) → Shows space v → n ≡ length (coming space p v 0))
  pub steps : AreSearchSteps found v before after
