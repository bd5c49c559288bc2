-- The abstract machine: what each line answers, and the machine after it.
use Rattle.std.specs.Prelude.{◌≡◌, ℕ, true, List, [], ◌∷◌, ◌++◌, length, if◌then◌else◌, nat_le, nat_eq, codes, decimal, Option, Some, None}
use Rattle.std.specs.List.{starts_with}
use Rattle.alta_codec.specs.Name.{is_name}
use Rattle.alta_machine.specs.Dumps.{dump_of}
use Rattle.alta_machine.specs.declared.document.State.{State}
use Rattle.alta_machine.specs.Command.{Command, adds, deletes, searches, counts, explains, opens, fetches, closes, ranks, flushes, merges, steps, asks_stats, dumps}
use Rattle.alta_machine.specs.Lines.{Reading, asks, refuses, reading_of}
use Rattle.alta_machine.specs.declared.line.LineFault.{LineFault}
use Rattle.alta_machine.specs.declared.line.LineFault.TheVariants.{TooLong, NotUtf8, Unknown, Bad}
use Rattle.alta_machine.specs.OpenAnswers.{OpenAnswers}
use Rattle.alta_machine.specs.Cursors.{Turn, opening, fetching, closing}
use Rattle.alta_machine.specs.Searching.{IsNoQuery, searching, counting, explaining, ranking}
use Rattle.alta_machine.specs.Changes.{number_of, words_in, with_added, with_deleted, with_replaced}

-- The machine between two lines: a state, and the cursors that are open, each with the answers that are still to come.
pub record Machine : Type 0 where
  pub state : State
  pub cursors : List OpenAnswers

-- with this state, and no cursor
abbrev pub started_at : State → Machine
started_at s = record { state = s; cursors = [] }

-- the reply to a line that is refused
abbrev pub refusal : LineFault → List ℕ
refusal TooLong = codes "! line too long\n"
refusal NotUtf8 = codes "! not UTF-8\n"
refusal Unknown = codes "! unknown command\n"
refusal Bad = codes "! bad line\n"

-- a document takes the place of the live one with this number, or is added where there is none
abbrev pub put_as : Option ℕ → List ℕ → List ℕ → List ℕ → State → State × List ℕ
put_as None name title body s = (with_added name title body s, codes "added " ++ decimal s.next ++ codes "\n")
put_as (Some n) name title body s = (
  with_replaced name title body s,
  codes "replaced " ++ decimal n ++ codes " by "
      ++ decimal s.next ++ codes "\n",
)

-- a document is added, in place of a live one with its name, where the name can be one and a number is left
unfoldable pub adding : List ℕ → List ℕ → List ℕ → State → State × List ℕ
adding name title body s =
    if is_name name then
    (if nat_le 4294967296 s.next then (s, codes "! no numbers left\n")
    else put_as (number_of name s) name title body s)
    else (s, codes "! bad name\n")

-- the document with this name is deleted, where it has a number
abbrev pub deleted_as : Option ℕ → List ℕ → State → State × List ℕ
deleted_as None name s = (s, codes "! no such document\n")
deleted_as (Some n) name s = (with_deleted name s, codes "deleted " ++ decimal n ++ codes "\n")

-- a document is deleted, where its name can be one and a live document has it
unfoldable pub deleting : List ℕ → State → State × List ℕ
deleting name s = if is_name name then deleted_as (number_of name s) name s else (s, codes "! bad name\n")

-- how many documents there are, how many words they have, and the next number
unfoldable pub stats_of : State → List ℕ
stats_of s =
    codes "documents " ++ decimal (length s.documents) ++ codes " words " ++ decimal (words_in s) ++ codes " next "
    ++ decimal s.next ++ codes "\n"

-- the machine after a change of its state, and the reply
abbrev pub changed_by : Machine → State × List ℕ → Machine × List ℕ
changed_by m change = (record { state = change.0; cursors = m.cursors }, change.1)

-- the machine after a change of its cursors, and the reply
abbrev pub turned_by : Machine → Turn → Machine × List ℕ
turned_by m turn = (record { state = m.state; cursors = turn.0 }, turn.1)

-- the machine after a command, and the reply
abbrev pub obeyed : Machine → Command → Machine × List ℕ
obeyed m (adds name title body) = changed_by m (adding name title body m.state)
obeyed m (deletes name) = changed_by m (deleting name m.state)
obeyed m (searches text) = (m, searching text m.state.documents)
obeyed m (counts text) = (m, counting text m.state.documents)
obeyed m (explains text) = (m, explaining text)
obeyed m (opens text) = turned_by m (opening text m.state.documents m.cursors)
obeyed m (fetches cursor count) = turned_by m (fetching cursor count m.cursors)
obeyed m (closes cursor) = turned_by m (closing cursor m.cursors)
obeyed m (ranks count text) = (m, ranking count text m.state.documents)
obeyed m flushes = (m, codes "ok\n")
obeyed m merges = (m, codes "ok\n")
obeyed m (steps count) = (m, codes "ok\n")
obeyed m asks_stats = (m, stats_of m.state)
obeyed m dumps = (m, dump_of m.state)

abbrev pub answered : Machine → Reading → Machine × List ℕ
answered m (asks command) = obeyed m command
answered m (refuses fault) = (m, refusal fault)

-- the machine after a line, and the reply
unfoldable pub step : Machine → List ℕ → Machine × List ℕ
step m line = answered m (reading_of line)

-- the machine after lines
abbrev pub machine_after : Machine → List (List ℕ) → Machine
machine_after m [] = m
machine_after m (line ∷ lines) = machine_after (step m line).0 lines

-- the replies to lines
abbrev pub replies : Machine → List (List ℕ) → List (List ℕ)
replies m [] = []
replies m (line ∷ lines) = (step m line).1 ∷ replies (step m line).0 lines

-- the reply refuses its line
abbrev pub IsRefusal : List ℕ → Type 0
IsRefusal reply = starts_with nat_eq reply (codes "! ") ≡ true

-- the command calls no disk: it looks at the counts, at a cursor or at nothing, or its text is no query
abbrev pub IsLook : Command → Type 0
IsLook (searches text) = IsNoQuery text
IsLook (counts text) = IsNoQuery text
IsLook (explains text) = Unit {0}
IsLook (opens text) = IsNoQuery text
IsLook (fetches cursor count) = Unit {0}
IsLook (closes cursor) = Unit {0}
IsLook (ranks count text) = IsNoQuery text
IsLook asks_stats = Unit {0}
IsLook (adds name title body) = ⊥
IsLook (deletes name) = ⊥
IsLook flushes = ⊥
IsLook merges = ⊥
IsLook (steps count) = ⊥
IsLook dumps = ⊥

abbrev pub LooksIn : Reading → Type 0
LooksIn (asks command) = IsLook command
LooksIn (refuses fault) = Unit {0}

-- the line is no command, or its command calls no disk
abbrev pub Looks : List ℕ → Type 0
Looks line = LooksIn (reading_of line)

-- the command asks for the answers of a query, all at once or by a cursor, for the best of them or for their count, or for a dump
abbrev pub IsSearch : Command → Type 0
IsSearch (searches text) = Unit {0}
IsSearch (counts text) = Unit {0}
IsSearch (opens text) = Unit {0}
IsSearch (ranks count text) = Unit {0}
IsSearch dumps = Unit {0}
IsSearch (adds name title body) = ⊥
IsSearch (deletes name) = ⊥
IsSearch (explains text) = ⊥
IsSearch (fetches cursor count) = ⊥
IsSearch (closes cursor) = ⊥
IsSearch flushes = ⊥
IsSearch merges = ⊥
IsSearch (steps count) = ⊥
IsSearch asks_stats = ⊥

abbrev pub SearchesIn : Reading → Type 0
SearchesIn (asks command) = IsSearch command
SearchesIn (refuses fault) = ⊥

-- the line does so
abbrev pub Searches : List ℕ → Type 0
Searches line = SearchesIn (reading_of line)
