-- How much room the journal has, and where it has no entry.
use Rattle.std.proofs.Common.{◌≡◌, ⊎_elim, ℕ, ◌+◌, ◌-◌, ◌<◌, ◌≤◌, Bool, true, false, List, [], ◌∷◌, length, take, refl, sym, ◌∙◌, ap, arith, length-append}
use Rattle.std.specs.Prelude.{◌==◌, ◌||◌, nat_le, not, OnOk, Result, Ok, Err}
use Rattle.std.specs.List.{flat_map}
use Rattle.std.proofs.lemmas.Bool.{cases_lt, false≢true}
use Rattle.std.proofs.lemmas.List.{length-take-le}
use Rattle.alta_layout.specs.declared.places.TheConstants.{HALF_BYTES, HEAD_BYTES}
use Rattle.alta_layout.specs.Places.{half_start}
use Rattle.alta_layout.specs.declared.slot.Slot.{Slot}
use Rattle.alta_layout.specs.declared.slot.Slot.TheVariants.{A, B}
use Rattle.alta_meaning.specs.Opened.{Opened, IsOpened}
use Rattle.alta_meaning.specs.Work.{fits, needs_raise}
use Rattle.alta_meaning.proofs.Tests.{and_both, apart_test, by_test, equal_from, equal_test, or_both, or_neither}
use Rattle.alta_journal.specs.Entry.{IsTyped, KeepsRules, MayBeRecorded, is_old}
use Rattle.alta_journal.specs.Journal.{EndsAt}
use Rattle.alta_journal.specs.Places.{half_at}
use Rattle.alta_journal.specs.Record.{body_of, record_of}
use Rattle.alta_journal.specs.declared.entry.Entry.{Entry}
use Rattle.alta_journal.specs.declared.entry.Entry.TheVariants.{Add, Delete, Replace}
use Rattle.alta_journal.proofs.Frames.{ends_inside}
use Rattle.alta_journal.proofs.Spelling.{add_long, body_long, delete_long, record_long, replace_long}
use Rattle.alta_root.specs.declared.places.TheConstants.{VERSION}
use Rattle.alta_root.specs.declared.root.Root.{Root}
use Rattle.alta_store.specs.Agreement.{HasNoEntry, Keeps, room_of}
use Rattle.alta_store.specs.Calls.{lacks_room, needs_room}
use Rattle.alta_store.specs.declared.fault.StoreFault.{StoreFault}
use Rattle.alta_store.specs.declared.store.Store.{Store}

-- the halves end in the head
pub journal_fits : (slot : Slot) → half_start slot + HALF_BYTES ≤ HEAD_BYTES
journal_fits A = omega arith
journal_fits B = omega arith

pub none_is : (entries : List Entry) → (length entries == 0) ≡ true → entries ≡ []
none_is [] e = refl
none_is (entry ∷ entries) e = absurd (omega (arith, equal_from (length (entry ∷ entries)) 0 e))

module _ (version start place : ℕ) where
  -- a journal of no entry ends where it starts, and one that ends there has none
  pub no_entry : (entries : List Entry) (image : List ℕ) → EndsAt version start place entries image → entries ≡ [] → place ≡ start
  no_entry entries image ends none =
      let long : length (take (place - start) (half_at start image)) ≡ 0 = ap length ends.begins.records ∙ ap (λ (es : List Entry). length (flat_map record_of es)) none in
      omega (arith, long, length-take-le (place - start) (half_at start image) (omega (arith, ends.begins.gate)), ends.starts)

  pub bytes_taken : (entries : List Entry) (image : List ℕ) → EndsAt version start place entries image → start + length (flat_map record_of entries) ≡ place
  bytes_taken entries image ends =
      omega (arith, ap length ends.begins.records, length-take-le (place - start) (half_at start image) (omega (arith, ends.begins.gate)), ends.starts)

  pub none_at_start : (entries : List Entry) (image : List ℕ) → EndsAt version start place entries image → place ≡ start → entries ≡ []
  none_at_start [] image ends is = refl
  none_at_start (entry ∷ entries) image ends is =
      absurd (omega (arith, bytes_taken (entry ∷ entries) image ends, is, length-append (record_of entry) (flat_map record_of entries), record_long entry))

le_test : (m n p q : ℕ) → (m ≤ n → p ≤ q) → (p ≤ q → m ≤ n) → nat_le m n ≡ nat_le p q
le_test m n p q to from = grind (arith, to, from)

pub le_true : (m n : ℕ) → m ≤ n → nat_le m n ≡ true
le_true m n le = grind (arith, le)

pub le_false : (m n : ℕ) → n < m → nat_le m n ≡ false
le_false m n less = grind (arith, less)

pub le_from : (m n : ℕ) → not (nat_le m n) ≡ false → m ≤ n
le_from m n e = ⊎_elim (λ less. absurd (false≢true (sym e ∙ ap not (le_false m n less)))) (λ le. le) (cases_lt n m)

-- ---- what finds room

-- there is room for what the root's version may have where it fits
pub room_for : (store : Store) (entry : Entry) → needs_raise store.root.version entry ≡ false → length (body_of entry) ≤ room_of store → needs_room store entry ≡ false
room_for store entry still short =
    or_neither (needs_raise store.root.version entry) (not (nat_le (length (body_of entry)) (room_of store))) still (ap not (le_true (length (body_of entry)) (room_of store) short))

module _ (store : Store) (entry : Entry) (room : needs_room store entry ≡ false) where
  both : (needs_raise store.root.version entry ≡ false) × (not (nat_le (length (body_of entry)) (room_of store)) ≡ false)
  both = or_both (needs_raise store.root.version entry) (not (nat_le (length (body_of entry)) (room_of store))) room

  pub raised_not : needs_raise store.root.version entry ≡ false
  raised_not = both.0

  pub short_of : length (body_of entry) ≤ room_of store
  short_of = le_from (length (body_of entry)) (room_of store) both.1

-- a root of the last version may have each entry
pub newest_may : (version : ℕ) (entry : Entry) → version ≡ VERSION → needs_raise version entry ≡ false
newest_may version entry is = ap (λ (v : ℕ). needs_raise v entry) is

-- what a root is not raised for it may have in its journal
pub may_record : (version : ℕ) (entry : Entry) → KeepsRules entry → IsTyped entry → needs_raise version entry ≡ false → MayBeRecorded version entry
may_record version entry keeps typed still = (
  keeps,
  typed,
  λ one. by_test (is_old entry) (λ old. old) (λ new. absurd (false≢true (sym still ∙ and_both (version == 1) (not (is_old entry)) (equal_test version 1 one) (ap not new)))),
)

-- a record fits in an empty half
pub body_short : (entry : Entry) → KeepsRules entry → length (body_of entry) < HALF_BYTES
body_short (Add name title body) keeps = omega (arith, body_long (Add name title body), add_long name title body, keeps.4)
body_short (Delete number) keeps = omega (arith, body_long (Delete number), delete_long number)
body_short (Replace number name title body) keeps = omega (arith, body_long (Replace number name title body), replace_long number name title body, keeps.4)

-- so one that does not fit stands behind others
pub some_before : (entry : Entry) → KeepsRules entry → (entries : List Entry) → fits entries entry ≡ false → (length entries == 0) ≡ false
some_before entry keeps [] none = absurd (false≢true (sym none ∙ le_true (0 + length (record_of entry) + 1) HALF_BYTES (omega (arith, body_short entry keeps, body_long entry, record_long entry))))
some_before entry keeps (first ∷ entries) none = apart_test (length (first ∷ entries)) 0 (λ is. absurd (omega (arith, is)))

module _ (store : Store) (o : Opened) (image : List ℕ) (keeps : Keeps store o) (is : IsOpened o image) where
  ends : EndsAt o.root.version (half_start o.slot) o.tail o.entries image
  ends = is.named.journal

  -- the journal has no entry exactly where what is opened has none
  pub no_entry_kept : o.entries ≡ [] → HasNoEntry store
  no_entry_kept none = keeps.place ∙ no_entry o.root.version (half_start o.slot) o.tail o.entries image ends none ∙ ap half_start (sym keeps.half)

  pub none_kept : HasNoEntry store → o.entries ≡ []
  none_kept none = none_at_start o.root.version (half_start o.slot) o.tail o.entries image ends (sym keeps.place ∙ none ∙ ap half_start keeps.half)

  pub some_kept : (HasNoEntry store → ⊥) → (length o.entries == 0) ≡ false
  some_kept some = by_test (length o.entries == 0) (λ none. absurd (some (no_entry_kept (none_is o.entries none)))) (λ other. other)

  -- an entry fits where the store has room for its record
  pub fits_room : (entry : Entry) → fits o.entries entry ≡ nat_le (length (body_of entry)) (room_of store)
  fits_room entry =
      let taken = bytes_taken o.root.version (half_start o.slot) o.tail o.entries image ends in
      let inside = ends_inside o.root.version (half_start o.slot) o.tail o.entries image (journal_fits o.slot) ends in
      let starts : half_start store.tail.slot ≡ half_start o.slot = ap half_start keeps.half in
      le_test (length (flat_map record_of o.entries) + length (record_of entry) + 1) HALF_BYTES (length (body_of entry)) (room_of store)
      (λ fit. omega (arith, fit, taken, inside, starts, keeps.place, record_long entry, body_long entry))
      (λ fit. omega (arith, fit, taken, inside, starts, keeps.place, record_long entry, body_long entry))

  -- and there is room for it where the store has room
  pub room_kept : (entry : Entry) → lacks_room o.root.version o.entries entry ≡ needs_room store entry
  room_kept entry =
      ap (λ (root : Root). lacks_room root.version o.entries entry) (sym keeps.root) ∙ ap (λ (b : Bool). needs_raise store.root.version entry || not b) (fits_room entry)

-- behind a switch of the root there is room for each entry
pub room_then : {T : Type 0} (store : Store) (entry : Entry) → KeepsRules entry → (result : Result T StoreFault) → OnOk result (store.root.version ≡ VERSION) → OnOk result (HasNoEntry store) → OnOk result (needs_room store entry ≡ false)
room_then store entry keeps (Ok x) version none =
    room_for store entry (newest_may store.root.version entry version) (omega (arith, body_short entry keeps, none))
room_then store entry keeps (Err fault) version none = tt
