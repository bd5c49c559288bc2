-- Names of live documents, as a list and in a table.
use Rattle.std.proofs.Common.{◌≡◌, ℕ, suc, ◌+◌, ◌<◌, Bool, true, false, cond, List, [], ◌∷◌, ◌++◌, length, take, drop, get_or, drop-cons, Option, refl, sym, ap, ap₂, subst, ◌∙◌, Err, append_assoc, arith}
use Rattle.std.specs.Prelude.{◌&&◌, ◌||◌, ◌==◌, not, Some, None, is_some}
use Rattle.std.specs.Map.{update}
use Rattle.std.specs.Str.{bytes_eq}
use Rattle.std.proofs.lemmas.Bool.{false≢true}
use Rattle.std.proofs.lemmas.List.{append-nil, take_more}
use Rattle.std.proofs.lemmas.List.Folds.{list_any-append}
use Rattle.alta_content.specs.Rows.{ends_among}
use Rattle.alta_content.specs.declared.document.DocRow.{DocRow}
use Rattle.alta_meaning.specs.Known.{Named, is_taken, is_taken_by, named}
use Rattle.alta_meaning.specs.Opened.{live_in, names_from}
use Rattle.alta_meaning.proofs.NameLaws.{bytes_eq-swap}
use Rattle.alta_meaning.proofs.OrderLaws.{live_append, live_drop, live_keep}
use Rattle.alta_meaning.proofs.Tests.{by_test, bytes_from, equal_test, or_first, or_right}
use Rattle.alta_table.specs.Places.{name_place}
use Rattle.alta_table.specs.Tables.{Tables}
use Rattle.alta_meaning.specs.Names.{AreNames, number_of}
use Rattle.alta_names.specs.Names.{Fits, likely_of, other_of}
use Rattle.alta_names.specs.declared.table.NameTable.{NameTable}
use Rattle.alta_names.proofs.Fitting.{by_text, same_numbers}
use Rattle.alta_opening.specs.Names.{may_join}

-- ---- a name among live documents

same_number : (m n : ℕ) → Some m ≡ Some n → m ≡ n
same_number m n e = cc

some_if : {X : Type 0} (b : Bool) (x : X) (o : Option X) → is_some (cond b (Some x) o) ≡ (b || is_some o)
some_if true x o = refl
some_if false x o = refl

pub taken_found : (name : List ℕ) (live : List Named) → is_taken name live ≡ is_some (number_of name live)
taken_found name [] = refl
taken_found name (row ∷ rows) =
    ap (λ (b : Bool). bytes_eq name row.name || b) (taken_found name rows) ∙ sym (some_if (bytes_eq name row.name) row.number (number_of name rows))

-- behind documents of which none has the name
number_behind : (name : List ℕ) (live more : List Named) → is_taken name live ≡ false → number_of name (live ++ more) ≡ number_of name more
number_behind name [] more free = refl
number_behind name (row ∷ rows) more free =
    by_test (bytes_eq name row.name)
    (λ same. absurd (false≢true (sym free ∙ ap (λ (b : Bool). b || is_taken name rows) same)))
    (λ differs. ap (λ (b : Bool). cond b (Some row.number) (number_of name (rows ++ more))) differs
    ∙ number_behind name rows more (sym (ap (λ (b : Bool). b || is_taken name rows) differs) ∙ free))

-- in front of a document that does not have the name
number_before : (name : List ℕ) (live : List Named) (last : Named) → bytes_eq name last.name ≡ false → number_of name (live ++ last ∷ []) ≡ number_of name live
number_before name [] last differs = ap (λ (b : Bool). cond b (Some last.number) None) differs
number_before name (row ∷ rows) last differs = ap (λ (o : Option ℕ). cond (bytes_eq name row.name) (Some row.number) o) (number_before name rows last differs)

-- a name that no live document has has no number
pub free_none : (name : List ℕ) (live : List Named) → is_taken name live ≡ false → number_of name live ≡ None
free_none name [] free = refl
free_none name (row ∷ rows) free =
    by_test (bytes_eq name row.name)
    (λ same. absurd (false≢true (sym free ∙ ap (λ (b : Bool). b || is_taken name rows) same)))
    (λ differs. ap (λ (b : Bool). cond b (Some row.number) (number_of name rows)) differs ∙ free_none name rows (sym (ap (λ (b : Bool). b || is_taken name rows) differs) ∙ free))

-- a document more has its number by its name
number_noted : (live : List Named) (name : List ℕ) (number : ℕ) → is_taken name live ≡ false
    → (q : List ℕ) → update bytes_eq (λ (x : List ℕ). number_of x live) name (Some number) q ≡ number_of q (live ++ named name number ∷ [])
number_noted live name number free q =
    by_test (bytes_eq name q)
    (λ same.
    let is : name ≡ q = bytes_from name q same in
    ap (λ (b : Bool). cond b (Some number) (number_of q live)) same
    ∙ sym (number_behind q live (named name number ∷ []) (subst (λ (x : List ℕ). is_taken x live ≡ false) is free)
    ∙ ap (λ (b : Bool). cond b (Some number) None) (bytes_eq-swap q name ∙ same)))
    (λ differs.
    ap (λ (b : Bool). cond b (Some number) (number_of q live)) differs
    ∙ sym (number_before q live (named name number) (bytes_eq-swap q name ∙ differs)))

-- a name that has a number is the name of a live document with this number
number_taken : (name : List ℕ) (number : ℕ) (live : List Named) → number_of name live ≡ Some number → is_taken_by name number live ≡ true
number_taken name number [] is = absurd cc
number_taken name number (row ∷ rows) is =
    by_test (bytes_eq name row.name)
    (λ same.
    let its : row.number ≡ number = same_number row.number number (sym (ap (λ (b : Bool). cond b (Some row.number) (number_of name rows)) same) ∙ is) in
    ap₂ (λ (a b : Bool). (a && b) || is_taken_by name number rows) same (equal_test row.number number its))
    (λ differs. or_right (bytes_eq name row.name && row.number == number) (is_taken_by name number rows)
    (number_taken name number rows (sym (ap (λ (b : Bool). cond b (Some row.number) (number_of name rows)) differs) ∙ is)))

-- whoever has the name with a number has the name
pub taken_any : (name : List ℕ) (number : ℕ) (live : List Named) → is_taken_by name number live ≡ true → is_taken name live ≡ true
taken_any name number [] taken = taken
taken_any name number (row ∷ rows) taken =
    by_test (bytes_eq name row.name)
    (λ same. or_first (bytes_eq name row.name) (is_taken name rows) same)
    (λ differs. or_right (bytes_eq name row.name) (is_taken name rows)
    (taken_any name number rows (sym (ap (λ (b : Bool). (b && row.number == number) || is_taken_by name number rows) differs) ∙ taken)))

-- ---- a name among the live documents of rows

-- a row that is deleted has none
pub dead_free : (deleted : List ℕ) (name : List ℕ) (row : DocRow) → ends_among deleted row ≡ true → is_taken name (live_in deleted (row ∷ [])) ≡ false
dead_free deleted name row dead = ap (is_taken name) (live_drop deleted row [] dead)

-- and another its own
pub live_named : (deleted : List ℕ) (name : List ℕ) (row : DocRow) → ends_among deleted row ≡ false → is_taken name (live_in deleted (row ∷ [])) ≡ bytes_eq row.name name
live_named deleted name row lives =
    ap (is_taken name) (live_keep deleted row [] lives) ∙ or_none (bytes_eq name row.name) ∙ bytes_eq-swap name row.name
  where
    or_none : (b : Bool) → (b || false) ≡ b
    or_none true = refl
    or_none false = refl

-- one of two lists has it
pub taken_either : (name : List ℕ) (first second : List Named) → is_taken name (first ++ second) ≡ (is_taken name first || is_taken name second)
taken_either name first second = list_any-append (λ (row : Named). bytes_eq name row.name) first second

pub taken_split : (deleted : List ℕ) (name : List ℕ) (rows more : List DocRow)
    → is_taken name (live_in deleted (rows ++ more)) ≡ (is_taken name (live_in deleted rows) || is_taken name (live_in deleted more))
taken_split deleted name rows more = ap (is_taken name) (live_append deleted rows more) ∙ taken_either name (live_in deleted rows) (live_in deleted more)

-- what is not found by its hash is found by its text, or not at all
pub taken_by_text : (table : NameTable) (live : List Named) → AreNames table live → (name : List ℕ) → likely_of table name ≡ None → is_some (other_of table name) ≡ is_taken name live
taken_by_text table live are name none =
    ap is_some (by_text table (λ (x : List ℕ). number_of x live) are name (λ n first has. absurd (cc (none, first)))) ∙ sym (taken_found name live)

-- what is not that of the number of its hash is found by its text, or not at all
pub taken_by_another : (table : NameTable) (live : List Named) → AreNames table live → (name : List ℕ) (number : ℕ) → likely_of table name ≡ Some number → is_taken_by name number live ≡ false
    → is_some (other_of table name) ≡ is_taken name live
taken_by_another table live are name number likely other =
    ap is_some (by_text table (λ (x : List ℕ). number_of x live) are name (λ n first has.
    let same : n ≡ number = same_number n number (sym first ∙ likely) in
    false≢true (sym other ∙ number_taken name number live (has ∙ ap (λ (k : ℕ). Some k) same))))
    ∙ sym (taken_found name live)

-- ---- a row behind live documents

pub joins_dead : (deleted : List ℕ) (live : List Named) (row : DocRow) → ends_among deleted row ≡ true → may_join deleted live row ≡ true
joins_dead deleted live row dead = ap (λ (b : Bool). b || not (is_taken row.name live)) dead

pub joins_live : (deleted : List ℕ) (live : List Named) (row : DocRow) → ends_among deleted row ≡ false → may_join deleted live row ≡ not (is_taken row.name live)
joins_live deleted live row lives = ap (λ (b : Bool). b || not (is_taken row.name live)) lives

pub names_live : (table : NameTable) (deleted : List ℕ) (live : List Named) (row : DocRow) → ends_among deleted row ≡ false → is_taken row.name live ≡ false
    → Fits table (update bytes_eq (λ (x : List ℕ). number_of x live) row.name (Some row.number)) → AreNames table (live ++ live_in deleted (row ∷ []))
names_live table deleted live row lives free noted =
    subst (AreNames table) (sym (ap (λ (l : List Named). live ++ l) (live_keep deleted row [] lives))) (same_numbers table _ _ (number_noted live row.name row.number free) noted)

-- a row that may join is passed
pub passes : (deleted : List ℕ) (level : Tables) (live : List Named) (i : ℕ) (row : DocRow) (rows : List DocRow) → may_join deleted live row ≡ true
    → names_from deleted level live i (row ∷ rows) ≡ names_from deleted level (live ++ live_in deleted (row ∷ [])) (i + 1) rows
passes deleted level live i row rows joins =
    by_test (ends_among deleted row)
    (λ dead. step_dead dead ∙ ap (λ (l : List Named). names_from deleted level l (i + 1) rows) (sym (ap (λ (l : List Named). live ++ l) (live_drop deleted row [] dead) ∙ append-nil live)))
    (λ lives.
    step_live lives (not_true (is_taken row.name live) (sym (joins_live deleted live row lives) ∙ joins))
    ∙ ap (λ (l : List Named). names_from deleted level l (i + 1) rows) (sym (ap (λ (l : List Named). live ++ l) (live_keep deleted row [] lives))))
  where
    not_true : (b : Bool) → not b ≡ true → b ≡ false
    not_true true e = sym e
    not_true false e = refl

    step_dead : ends_among deleted row ≡ true → names_from deleted level live i (row ∷ rows) ≡ names_from deleted level live (i + 1) rows
    step_dead dead = rw dead refl

    step_live : ends_among deleted row ≡ false → is_taken row.name live ≡ false
        → names_from deleted level live i (row ∷ rows) ≡ names_from deleted level (live ++ named row.name row.number ∷ []) (i + 1) rows
    step_live lives free = rw lives rw free refl

-- another is damage at its name
pub stops : (deleted : List ℕ) (level : Tables) (live : List Named) (i : ℕ) (row : DocRow) (rows : List DocRow) → may_join deleted live row ≡ false
    → names_from deleted level live i (row ∷ rows) ≡ Err (name_place level i)
stops deleted level live i row rows joins =
    by_test (ends_among deleted row)
    (λ dead. absurd (false≢true (sym joins ∙ joins_dead deleted live row dead)))
    (λ lives. step lives (not_false (is_taken row.name live) (sym (joins_live deleted live row lives) ∙ joins)))
  where
    not_false : (b : Bool) → not b ≡ false → b ≡ true
    not_false true e = refl
    not_false false e = sym e

    step : ends_among deleted row ≡ false → is_taken row.name live ≡ true → names_from deleted level live i (row ∷ rows) ≡ Err (name_place level i)
    step lives taken = rw lives rw taken refl

-- ---- a row among those of a level

-- the rows from a place on
pub rows_from : (rows : List DocRow) (i : ℕ) (row : DocRow) → i < length rows → row ≡ get_or rows i row → drop i rows ≡ row ∷ drop (i + 1) rows
rows_from rows i row inside is =
    let next : suc i ≡ i + 1 = omega arith in
    drop-cons rows i row inside ∙ ap (λ (r : DocRow). r ∷ drop (suc i) rows) (sym is) ∙ ap (λ (k : ℕ). row ∷ drop k rows) next

-- live documents up to behind a row
live_more : (deleted : List ℕ) (rows : List DocRow) (i : ℕ) (row : DocRow) → i < length rows → row ≡ get_or rows i row → (live : List Named)
    → (live ++ live_in deleted (take i rows)) ++ live_in deleted (row ∷ []) ≡ live ++ live_in deleted (take (i + 1) rows)
live_more deleted rows i row inside is live =
    append_assoc live (live_in deleted (take i rows)) (live_in deleted (row ∷ []))
    ∙ ap (λ (l : List Named). live ++ l)
    (sym (live_append deleted (take i rows) (row ∷ [])) ∙ ap (λ (r : DocRow). live_in deleted (take i rows ++ r ∷ [])) is ∙ ap (live_in deleted) (sym (take_more rows i row inside)))

-- what is known of the names in front of a row
abbrev pub IsNoted : List ℕ → Tables → NameTable → List Named → ℕ → Type 0
IsNoted deleted level names live i =
    (names_from deleted level live 0 level.documents ≡ names_from deleted level (live ++ live_in deleted (take i level.documents)) i (drop i level.documents))
    × AreNames names (live ++ live_in deleted (take i level.documents))

module _ (deleted : List ℕ) (level : Tables) (names : NameTable) (live : List Named) (i : ℕ) (row : DocRow) (inside : i < length level.documents) (is : row ≡ get_or level.documents i row)
    (so_far : IsNoted deleted level names live i) where
  pub passed_row : (next : NameTable) → may_join deleted (live ++ live_in deleted (take i level.documents)) row ≡ true
      → AreNames next ((live ++ live_in deleted (take i level.documents)) ++ live_in deleted (row ∷ [])) → IsNoted deleted level next live (i + 1)
  passed_row next joins are = (
    so_far.0 ∙ ap (names_from deleted level (live ++ live_in deleted (take i level.documents)) i) (rows_from level.documents i row inside is)
        ∙ passes deleted level (live ++ live_in deleted (take i level.documents)) i row (drop (i + 1) level.documents) joins
        ∙ ap (λ (l : List Named). names_from deleted level l (i + 1) (drop (i + 1) level.documents)) (live_more deleted level.documents i row inside is live),
    subst (AreNames next) (live_more deleted level.documents i row inside is live) are,
  )
