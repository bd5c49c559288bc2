-- What the entries of a journal are tested against: the next number, and the live documents' names and numbers.
use Rattle.std.specs.Prelude.{ℕ, ◌+◌, ◌==◌, nat_lt, Bool, not, ◌&&◌, if◌then◌else◌, List, [], ◌∷◌, ◌++◌, map, Result, Ok, Err}
use Rattle.std.specs.List.{filter, list_any}
use Rattle.std.specs.Str.{bytes_eq}
use Rattle.alta_journal.specs.declared.entry.Entry.{Entry}
use Rattle.alta_journal.specs.declared.entry.Entry.TheVariants.{Add, Delete, Replace}
use Rattle.alta_journal.specs.declared.placed.Placed.{Placed}
use Rattle.alta_machine.specs.declared.document.Document.{Document}
use Rattle.alta_machine.specs.declared.document.State.{State}

-- a name with its number
pub record Named : Type 0 where
  pub name : List ℕ
  pub number : ℕ

pub record Known : Type 0 where
  -- the number of the next document
  pub next : ℕ
  -- the live documents, in order of number
  pub live : List Named

abbrev pub named : List ℕ → ℕ → Named
named name number = record { name = name; number = number }

-- one of these has this name
abbrev pub is_taken : List ℕ → List Named → Bool
is_taken name live = list_any (λ (row : Named). bytes_eq name row.name) live

-- one of these has this number
abbrev pub is_live : ℕ → List Named → Bool
is_live number live = list_any (λ (row : Named). row.number == number) live

-- one of these has this name with this number
abbrev pub is_taken_by : List ℕ → ℕ → List Named → Bool
is_taken_by name number live = list_any (λ (row : Named). bytes_eq name row.name && row.number == number) live

-- An add has a name that no live document has, and a number is left for it; a delete has a live document's number; a replace has
-- the name and the number of a live document, and a number is left for the new one.
abbrev pub admits : Known → Entry → Bool
admits known (Add name title body) = not (is_taken name known.live) && nat_lt known.next 4294967296
admits known (Delete number) = is_live number known.live
admits known (Replace number name title body) = is_taken_by name number known.live && nat_lt known.next 4294967296

-- a live document more, with the next number
abbrev pub known_added : List ℕ → Known → Known
known_added name known = record { next = known.next + 1; live = known.live ++ named name known.next ∷ [] }

-- the document with this number is left out
abbrev pub known_without : ℕ → Known → Known
known_without number known = record {
  next = known.next;
  live = filter
      (λ (row : Named). not (row.number == number)) known.live;
}

-- what is known behind an entry
abbrev pub known_behind : Known → Entry → Known
known_behind known (Add name title body) = known_added name known
known_behind known (Delete number) = known_without number known
known_behind known (Replace number name title body) = known_added name (known_without number known)

-- What is known behind entries, or where the first of them is that is not admitted: at its record's payload.
abbrev pub replayed : Known → List Placed → Result Known ℕ
replayed known [] = Ok known
replayed known (p ∷ more) = if admits known p.entry then replayed (known_behind known p.entry) more
    else Err (p.place + 5)

-- ---- of a state

abbrev pub named_of : Document → Named
named_of document = named document.name document.number

abbrev pub known_of : State → Known
known_of s = record { next = s.next; live = map named_of s.documents }
