-- What the commands on cursors answer, and the cursors that are open behind them.
use Rattle.std.specs.Prelude.{ℕ, List, ◌++◌, length, take, drop, if◌then◌else◌, nat_le, nat_lt, codes, decimal, Option, Some, None, Result, Ok, Err}
use Rattle.alta_machine.specs.declared.document.Document.{Document}
use Rattle.alta_machine.specs.Deciding.{answers}
use Rattle.alta_machine.specs.QueryFaults.{Fault}
use Rattle.alta_machine.specs.Queries.{query_of}
use Rattle.alta_machine.specs.Shape.{Shape}
use Rattle.alta_machine.specs.OpenAnswers.{OpenAnswers, least_free, left_of, with_fetched, with_opened, without_cursor}
use Rattle.alta_machine.specs.declared.cursors.TheConstants.{CURSORS}
use Rattle.alta_machine.specs.Searching.{answer_lines, query_refusal}

-- the cursors that are open behind a command, and its reply
abbrev pub Turn : Type 0
Turn = List OpenAnswers × List ℕ

-- a cursor over these answers is opened, where fewer are open than may be
abbrev pub opened_over : List Document → List OpenAnswers → Turn
opened_over documents cursors =
    if nat_le CURSORS (length cursors) then (cursors, codes "! too many cursors\n")
    else (with_opened documents cursors, codes "cursor " ++ decimal (least_free cursors) ++ codes "\n")

abbrev pub opened_by : List Document → List OpenAnswers → Result Shape Fault → Turn
opened_by documents cursors (Ok q) = opened_over (answers documents q) cursors
opened_by documents cursors (Err f) = (cursors, query_refusal f)

-- a cursor over the answers of a text is opened
unfoldable pub opening : List ℕ → List Document → List OpenAnswers → Turn
opening text documents cursors = opened_by documents cursors (query_of text)

-- the first answers, so many at most, and whether some are left behind them
abbrev pub page_lines : ℕ → List Document → List ℕ
page_lines count left = answer_lines (take count left) ++ (if nat_lt 0 (length (drop count left))
    then codes "more\n" else codes "end\n")

abbrev pub fetched_as : ℕ → ℕ → List OpenAnswers → Option (List Document) → Turn
fetched_as number count cursors None = (cursors, codes "! no such cursor\n")
fetched_as number count cursors (Some left) = (with_fetched number count cursors, page_lines count left)

-- so many answers are taken off from the cursor with this number
unfoldable pub fetching : ℕ → ℕ → List OpenAnswers → Turn
fetching number count cursors = fetched_as number count cursors (left_of number cursors)

abbrev pub closed_as : ℕ → List OpenAnswers → Option (List Document) → Turn
closed_as number cursors None = (cursors, codes "! no such cursor\n")
closed_as number cursors (Some left) = (without_cursor number cursors, codes "closed " ++ decimal number ++ codes "\n")

-- the cursor with this number is closed
unfoldable pub closing : ℕ → List OpenAnswers → Turn
closing number cursors = closed_as number cursors (left_of number cursors)
