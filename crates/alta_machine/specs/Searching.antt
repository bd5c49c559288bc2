-- What queries are answered.
use Rattle.std.specs.Prelude.{ℕ, List, [], map, ◌≡◌, ◌∷◌, ◌++◌, length, take, Result, Ok, Err, codes, decimal}
use Rattle.alta_machine.specs.declared.document.Document.{Document}
use Rattle.alta_machine.specs.Explained.{explained}
use Rattle.alta_machine.specs.PlanOf.{plan_of}
use Rattle.alta_machine.specs.Deciding.{answers}
use Rattle.alta_machine.specs.QueryFaults.{Fault, fault}
use Rattle.alta_machine.specs.Queries.{query_of}
use Rattle.alta_machine.specs.Shape.{Shape}
use Rattle.alta_machine.specs.Spelling.{canonical}
use Rattle.alta_machine.specs.declared.cause.Cause.{Cause}
use Rattle.alta_machine.specs.declared.cause.Cause.TheVariants as cause
use Rattle.alta_machine.specs.Ranked.{ranked}
use Rattle.alta_machine.specs.Uses.{uses_of}
use Rattle.alta_machine.specs.declared.scored.Scored.{Scored}
use Rattle.alta_machine.specs.Scores.{scored}

-- a document's number and its name
pub record AnswerRow : Type 0 where
  pub number : ℕ
  pub name : List ℕ

-- what is told of a document
abbrev pub told : Document → AnswerRow
told d = record { number = d.number; name = d.name }

-- the text is no query
abbrev pub IsNoQuery : List ℕ → Type 0
IsNoQuery text = (f : Fault) × (query_of text ≡ Err f)

-- a line for each answer, with its number and its name
abbrev pub row_lines : List AnswerRow → List ℕ
row_lines [] = []
row_lines (row ∷ rows) = decimal row.number ++ codes " " ++ row.name ++ codes "\n" ++ row_lines rows

-- a line for each document
abbrev pub answer_lines : List Document → List ℕ
answer_lines documents = row_lines (map told documents)

-- a line with an answer's number, its name and its score
abbrev pub score_line : Scored → List ℕ
score_line answer = decimal answer.number ++ codes " " ++ answer.name ++ codes " " ++ decimal answer.score ++ codes "\n"

abbrev pub score_lines : List Scored → List ℕ
score_lines [] = []
score_lines (answer ∷ more) = score_line answer ++ score_lines more

abbrev pub found_line : ℕ → List ℕ
found_line count = codes "found " ++ decimal count ++ codes "\n"

abbrev pub cause_name : Cause → List ℕ
cause_name cause.Empty = codes "Empty"
cause_name cause.Word = codes "Word"
cause_name cause.Prefix = codes "Prefix"
cause_name cause.Near = codes "Near"
cause_name cause.Name = codes "Name"
cause_name cause.Value = codes "Value"
cause_name cause.Quote = codes "Quote"
cause_name cause.Paren = codes "Paren"
cause_name cause.Operand = codes "Operand"
cause_name cause.Deep = codes "Deep"
cause_name cause.Many = codes "Many"
cause_name cause.Memory = codes "Memory"

-- the reply to a text that is no query
abbrev pub query_refusal : Fault → List ℕ
query_refusal (fault place cause) = codes "! query " ++ decimal place ++ codes " " ++ cause_name cause ++ codes "\n"

-- the answers of a query, then how many they are
abbrev pub found_by : List Document → Result Shape Fault → List ℕ
found_by documents (Ok q) = answer_lines (answers documents q) ++ found_line (length (answers documents q))
found_by documents (Err f) = query_refusal f

-- how many answers a query has
abbrev pub counted_by : List Document → Result Shape Fault → List ℕ
counted_by documents (Ok q) = found_line (length (answers documents q))
counted_by documents (Err f) = query_refusal f

-- the best answers of a query, so many at most, by falling score and at the same score by rising number; then how many answers there are
abbrev pub ranked_by : ℕ → List Document → Result Shape Fault → List ℕ
ranked_by count documents (Ok q) =
    score_lines (take count (ranked (map (scored (uses_of q)) (answers documents q))))
    ++ found_line (length (answers documents q))
ranked_by count documents (Err f) = query_refusal f

-- the canonical spelling of a query, and then its plan
abbrev pub explained_by : Result Shape Fault → List ℕ
explained_by (Ok q) = canonical q ++ codes "\n" ++ explained [] (plan_of q)
explained_by (Err f) = query_refusal f

-- the reply to a search for a text
unfoldable pub searching : List ℕ → List Document → List ℕ
searching text documents = found_by documents (query_of text)

-- the reply to a count of a text
unfoldable pub counting : List ℕ → List Document → List ℕ
counting text documents = counted_by documents (query_of text)

-- the reply to a top of a text
unfoldable pub ranking : ℕ → List ℕ → List Document → List ℕ
ranking count text documents = ranked_by count documents (query_of text)

-- the reply to an explain of a text
unfoldable pub explaining : List ℕ → List ℕ
explaining text = explained_by (query_of text)
