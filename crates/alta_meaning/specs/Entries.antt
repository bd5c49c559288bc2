-- What the entries of the journal do to a state, one after the other, and which documents it can hold.
use Rattle.std.specs.Prelude.{◌≡◌, ℕ, ◌+◌, ◌<◌, true, false, List, [], ◌∷◌, ◌++◌, map, ◌-◌, ◌≤◌, length}
use Rattle.alta_journal.specs.declared.entry.Entry.{Entry}
use Rattle.alta_journal.specs.declared.entry.Entry.TheVariants.{Add, Delete, Replace}
use Rattle.alta_journal.specs.declared.placed.Placed.{Placed}
use Rattle.alta_machine.specs.declared.document.State.{State}
use Rattle.alta_machine.specs.Changes.{has_name, has_named, has_number, with_added, without}
use Rattle.alta_codec.specs.Bytes.{has_byte}
use Rattle.alta_codec.specs.Name.{IsName}
use Rattle.alta_journal.specs.declared.places.TheConstants.{TEXTS_BYTES}

-- The state allows the entry: one that adds has a name that no live document has, and a number left for it; one that
-- deletes has the number of a live document; one that replaces has the name and the number of a live document, and a number is
-- left for the new one.
abbrev pub Allows : State → Entry → Type 0
Allows s (Add name title body) = (has_name name s ≡ false) × (s.next < 4294967296)
Allows s (Delete number) = has_number number s ≡ true
Allows s (Replace number name title body) = (has_named name number s ≡ true) × (s.next < 4294967296)

-- the state after an entry: a replace leaves out its number, and then does as an add
abbrev pub after_entry : State → Entry → State
after_entry s (Add name title body) = with_added name title body s
after_entry s (Delete number) = without number s
after_entry s (Replace number name title body) = with_added name title body (without number s)

-- the state after entries
abbrev pub after_entries : State → List Entry → State
after_entries s [] = s
after_entries s (entry ∷ entries) = after_entries (after_entry s entry) entries

-- each entry is allowed by the state behind those before it
abbrev pub AllowsAll : State → List Entry → Type 0
AllowsAll s [] = Unit {0}
AllowsAll s (entry ∷ entries) = Allows s entry × AllowsAll (after_entry s entry) entries

-- the entries of these, without their places
abbrev pub entries_in : List Placed → List Entry
entries_in found = map (λ (p : Placed). p.entry) found

-- The first of these entries that is not allowed where it stands has its record's payload at this place.
pub record IsRefusedAt (s : State) (found : List Placed) (place : ℕ) : Type 0 where
  pub before : List Placed
  pub refused : Placed
  pub behind : List Placed
  pub split : found ≡ before ++ refused ∷ behind
  pub allowed : AllowsAll s (entries_in before)
  pub not_allowed : Allows (after_entries s (entries_in before)) refused.entry → ⊥
  pub place_is : place ≡ refused.place + 5

-- A document that the journal can hold: a name, a title of one line without tabs, a body of one line, and no more
-- bytes in all than a record has room for.
pub record IsDocument (name title body : List ℕ) : Type 0 where
  pub named : IsName name
  pub title_is_a_line : has_byte 10 title ≡ false
  pub title_is_a_field : has_byte 9 title ≡ false
  pub body_is_a_line : has_byte 10 body ≡ false
  pub short : length name + length title + length body ≤ TEXTS_BYTES
