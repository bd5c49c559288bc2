-- What is asked of a query: the tests whose lists are loaded for it, and its reply.
use Rattle.std.specs.declared.alloc.Global.{Global}
use Rattle.std.specs.Prelude.{◌≡◌, ℕ, List, [], ◌∷◌, ◌++◌, length, map, take, Result, String, string_bytes, IfOk}
use Rattle.alta_loading.specs.Loads.{Load}
use Rattle.alta_machine.specs.Machine.{IsRefusal}
use Rattle.alta_machine.specs.Patterns.{title_end}
use Rattle.alta_machine.specs.Plans.{Tree}
use Rattle.alta_machine.specs.Ranked.{ranked}
use Rattle.alta_machine.specs.Scores.{scored}
use Rattle.alta_machine.specs.Searching.{answer_lines, counting, found_line, ranking, score_lines, searching}
use Rattle.alta_machine.specs.Shape.{Shape}
use Rattle.alta_machine.specs.Uses.{uses_of}
use Rattle.alta_machine.specs.declared.document.Document.{Document}
use Rattle.alta_machine.specs.declared.test.Test.{Test}
use Rattle.alta_replies.specs.Loading.{text_loads, top_text_loads}
use Rattle.alta_replies.specs.declared.searching.Ask.{Ask}
use Rattle.alta_replies.specs.declared.searching.Ask.TheVariants.{Answers, Best, Count}
use Rattle.alta_search.specs.Plans.{tests_of}
use Rattle.alta_store.specs.declared.store.Store.{Store}

-- the tests of a plan; for the best answers those of the places where titles end, too
abbrev pub asked_tests : Ask → Tree → List Test
asked_tests Answers plan = tests_of plan
asked_tests Count plan = tests_of plan
asked_tests (Best count) plan = tests_of plan ++ title_end ∷ []

-- the lines of the reply, where these documents match the query
abbrev pub asked_lines : Ask → Shape → List Document → List ℕ
asked_lines Answers query documents = answer_lines documents ++ found_line (length documents)
asked_lines Count query documents = found_line (length documents)
asked_lines (Best count) query documents = score_lines (take count (ranked (map (scored (uses_of query)) documents)))
    ++ found_line (length documents)

-- the reply to a text over documents
abbrev pub asked_reply : Ask → List ℕ → List Document → List ℕ
asked_reply Answers text documents = searching text documents
asked_reply Count text documents = counting text documents
asked_reply (Best count) text documents = ranking count text documents

-- the lists that a store loads for it
abbrev pub asked_loads : Ask → Store → List ℕ → List Load
asked_loads Answers store text = text_loads store text
asked_loads Count store text = text_loads store text
asked_loads (Best count) store text = top_text_loads store text

-- What was written is no refusal, and of documents that are so it is these lines.
pub record WritesLines {E : Type 0} (are : List Document → Type 0) (lines_of : List Document → List ℕ)
    (result : Result (String Global) E) : Type 0 where
  pub lines : IfOk result (λ reply. (documents : List Document) → are documents
      → string_bytes reply ≡ lines_of documents)
  pub other : IfOk result (λ reply. ¬ (IsRefusal (string_bytes reply)))
