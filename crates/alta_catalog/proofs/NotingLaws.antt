-- What the store notes of a state, as documents come and go.
use Rattle.std.proofs.Common.{◌≡◌, ℕ, ◌+◌, ◌<◌, Bool, true, false, cond, not, List, [], ◌∷◌, ◌++◌, map, refl, sym, ◌∙◌, ap, subst, arith}
use Rattle.std.specs.Prelude.{◌||◌, ◌==◌, Option, Some, None, is_some, option_map}
use Rattle.std.specs.List.{All, filter, find}
use Rattle.std.specs.Map.{update}
use Rattle.std.specs.Str.{bytes_eq}
use Rattle.std.proofs.lemmas.Bool.{false≢true}
use Rattle.std.proofs.lemmas.List.Elements.{All-head, All-tail}
use Rattle.alta_machine.specs.Cells.{cells_of}
use Rattle.alta_machine.specs.declared.document.Document.{Document}
use Rattle.alta_machine.specs.declared.document.State.{State}
use Rattle.alta_catalog.specs.Knowing.{AreFound, Notes, numbers_in}
use Rattle.alta_names.specs.Names.{Fits, Numbers}
use Rattle.alta_names.specs.declared.table.NameTable.{NameTable}
use Rattle.alta_names.proofs.Fitting.{same_numbers}
use Rattle.alta_machine.specs.Changes.{has_name, has_number, number_of, with_added, with_deleted, without}
use Rattle.alta_meaning.proofs.Tests.{by_test, bytes_from}
use Rattle.alta_catalog.proofs.DocumentLaws.{found_left, found_more, name_gone, name_stays, no_number_of, number_found, numbered_as, same_left}
use Rattle.alta_catalog.proofs.StartLaws.{name_known, names_found}
use Rattle.alta_meaning.proofs.NameLaws.{bytes_eq-swap, has_name-with_added}
use Rattle.alta_meaning.specs.Known.{Named, known_of, named_of}
use Rattle.alta_meaning.specs.Names.{number_of as named_number}
use Rattle.alta_meaning.specs.Ordered.{AreOrdered, IsBefore, IsOrdered}
use Rattle.alta_meaning.proofs.KnownLaws.{ordered_deleted}

-- ---- the numbers of a state

-- by the documents' names and numbers alone
pub number_named : (q : List ℕ) (ds : List Document) → option_map (λ (d : Document). d.number) (find (λ (d : Document). bytes_eq q d.name) ds) ≡ named_number q (map named_of ds)
number_named q [] = refl
number_named q (d ∷ ds) =
    by_test (bytes_eq q d.name)
    (λ same. ap (λ (b : Bool). option_map (λ (e : Document). e.number) (cond b (Some d) (find (λ (e : Document). bytes_eq q e.name) ds))) same
    ∙ sym (ap (λ (b : Bool). cond b (Some d.number) (named_number q (map named_of ds))) same))
    (λ other. ap (λ (b : Bool). option_map (λ (e : Document). e.number) (cond b (Some d) (find (λ (e : Document). bytes_eq q e.name) ds))) other
    ∙ number_named q ds
    ∙ sym (ap (λ (b : Bool). cond b (Some d.number) (named_number q (map named_of ds))) other))

-- what is known of names is what the state has
record AreKnown (known : Numbers) (s : State) : Type 0 where
  names : (name : List ℕ) → is_some (known name) ≡ has_name name s
  numbers : AreFound known s.documents

not_found : (o : Option ℕ) → is_some o ≡ false → o ≡ None
not_found None none = refl
not_found (Some n) none = absurd (false≢true (sym none))

number_known : (known : Numbers) (s : State) → AreKnown known s → (name : List ℕ) → number_of name s ≡ known name
number_known known s are name =
    by_test (has_name name s)
    (λ has. number_found known name s.documents are.numbers has)
    (λ none. no_number_of name s.documents none ∙ sym (not_found (known name) (are.names name ∙ none)))

known_by : (s : State) → IsOrdered (known_of s) → AreKnown (numbers_in s) s
known_by s ordered = record {
  names = name_known (numbers_in s) s.documents (λ q. number_named q s.documents);
  numbers = names_found (numbers_in s) s.documents (λ q. number_named q s.documents) ordered.ordered;
}

-- a name that no document has has no number
pub no_number : (s : State) (name : List ℕ) → has_name name s ≡ false → number_of name s ≡ None
no_number s name none = no_number_of name s.documents none

-- each document's number is found by its name
pub found_in : (s : State) → IsOrdered (known_of s) → AreFound (numbers_in s) s.documents
found_in s ordered = (known_by s ordered).numbers

-- ---- one name for each number

some_same : (m n : ℕ) → Some m ≡ Some n → m ≡ n
some_same m n e = cc

number_above : (first : Named) (live : List Named) → All (IsBefore first) live → (name : List ℕ) (n : ℕ) → named_number name live ≡ Some n → first.number < n
number_above first [] before name n is = absurd cc
number_above first (row ∷ rows) before name n is =
    by_test (bytes_eq name row.name)
    (λ same.
    let it : row.number ≡ n = some_same row.number n (sym (ap (λ (b : Bool). cond b (Some row.number) (named_number name rows)) same) ∙ is) in
    omega (arith, it, (All-head (IsBefore first) row rows before).0))
    (λ other. number_above first rows (All-tail (IsBefore first) row rows before) name n (sym (ap (λ (b : Bool). cond b (Some row.number) (named_number name rows)) other) ∙ is))

one_name : (live : List Named) → AreOrdered live → (a b : List ℕ) (n : ℕ) → named_number a live ≡ Some n → named_number b live ≡ Some n → a ≡ b
one_name [] ordered a b n first second = absurd cc
one_name (row ∷ rows) ordered a b n first second =
    by_test (bytes_eq a row.name)
    (λ same.
    let number_a : row.number ≡ n = some_same row.number n (sym (ap (λ (t : Bool). cond t (Some row.number) (named_number a rows)) same) ∙ first) in
    by_test (bytes_eq b row.name)
    (λ both. bytes_from a row.name same ∙ sym (bytes_from b row.name both))
    (λ other. absurd (omega (arith, number_a, number_above row rows ordered.0 b n (sym (ap (λ (t : Bool). cond t (Some row.number) (named_number b rows)) other) ∙ second)))))
    (λ differs.
    let rest_a : named_number a rows ≡ Some n = sym (ap (λ (t : Bool). cond t (Some row.number) (named_number a rows)) differs) ∙ first in
    by_test (bytes_eq b row.name)
    (λ same.
    let number_b : row.number ≡ n = some_same row.number n (sym (ap (λ (t : Bool). cond t (Some row.number) (named_number b rows)) same) ∙ second) in
    absurd (omega (arith, number_b, number_above row rows ordered.0 a n rest_a)))
    (λ other. one_name rows ordered.1 a b n rest_a (sym (ap (λ (t : Bool). cond t (Some row.number) (named_number b rows)) other) ∙ second)))

pub only_name : (s : State) → IsOrdered (known_of s) → (a b : List ℕ) (n : ℕ) → number_of a s ≡ Some n → number_of b s ≡ Some n → a ≡ b
only_name s ordered a b n first second =
    one_name (map named_of s.documents) ordered.ordered a b n (sym (number_named a s.documents) ∙ first) (sym (number_named b s.documents) ∙ second)

-- ---- documents come and go

some_noted : (b : Bool) (v : ℕ) (o : Option ℕ) → is_some (cond b (Some v) o) ≡ (b || is_some o)
some_noted true v o = refl
some_noted false v o = refl

-- a name that is noted is found, and so is each that was
found_noted : (old : Numbers) (key : List ℕ) (v : ℕ) (q : List ℕ) → is_some (update bytes_eq old key (Some v) q) ≡ (bytes_eq q key || is_some (old q))
found_noted old key v q = some_noted (bytes_eq key q) v (old q) ∙ ap (λ (b : Bool). b || is_some (old q)) (bytes_eq-swap key q)

module _ (number : ℕ) (old : NameTable) (kept : List Document) (s : State) (notes : Notes number old kept s) where
  known : AreKnown (numbers_in s) s
  known = known_by s notes.ordered

  -- a name has a number where a live document has it
  pub names_there : (q : List ℕ) → is_some (number_of q s) ≡ has_name q s
  names_there q = known.names q

  -- a document more
  number_added : (name title body : List ℕ) → has_name name s ≡ false → (q : List ℕ) → number_of q (with_added name title body s) ≡ update bytes_eq (numbers_in s) name (Some s.next) q
  number_added name title body free =
      number_known (update bytes_eq (numbers_in s) name (Some s.next)) (with_added name title body s) (record {
        names = λ q. found_noted (numbers_in s) name s.next q ∙ ap (λ (b : Bool). bytes_eq q name || b) (known.names q) ∙ sym (has_name-with_added q name title body s);
        numbers = found_more (numbers_in s) (update bytes_eq (numbers_in s) name (Some s.next)) s.documents (record { number = s.next; name = name; cells = cells_of name title body }) (λ q. refl)
            (known.names name ∙ free) known.numbers;
      })

  notes_added : (new : NameTable) (name title body : List ℕ) → has_name name s ≡ false → Fits new (update bytes_eq (numbers_in s) name (Some number))
      → (d : Document) → d ≡ record { number = number; name = name; cells = cells_of name title body } → IsOrdered (known_of (with_added name title body s)) → Notes (number + 1) new (kept ++ d ∷ []) (with_added name title body s)
  notes_added new name title body free noted d is ordered =
      let made : ℕ → Document = λ (n : ℕ). record { number = n; name = name; cells = cells_of name title body } in
      record {
        next = ap (λ (n : ℕ). n + 1) notes.next;
        documents = ap (λ (ds : List Document). ds ++ d ∷ []) notes.documents ∙ ap (λ (c : Document). s.documents ++ c ∷ []) (is ∙ ap made notes.next);
        names = same_numbers new (update bytes_eq (numbers_in s) name (Some s.next)) (numbers_in (with_added name title body s)) (λ q. sym (number_added name title body free q))
            (subst (λ (n : ℕ). Fits new (update bytes_eq (numbers_in s) name (Some n))) notes.next noted);
        ordered = ordered;
      }

  -- a name that stands for a number is that of a live document
  pub is_named : (q : List ℕ) (n : ℕ) → number_of q s ≡ Some n → has_name q s ≡ true
  is_named q n is = sym (known.names q) ∙ ap is_some is

  pub is_numbered : (q : List ℕ) (n : ℕ) → number_of q s ≡ Some n → has_number n s ≡ true
  is_numbered q n is = numbered_as (numbers_in s) q n s.documents known.numbers is (is_named q n is)

  documents_left : (q : List ℕ) (n : ℕ) → number_of q s ≡ Some n → filter (λ (d : Document). not (bytes_eq q d.name)) s.documents ≡ filter (λ (d : Document). not (d.number == n)) s.documents
  documents_left q n is = same_left (numbers_in s) q n s.documents notes.ordered.ordered known.numbers is (is_named q n is)

  -- to delete a name is to leave out its number
  pub deleted_is : (q : List ℕ) (n : ℕ) → number_of q s ≡ Some n → without n s ≡ with_deleted q s
  deleted_is q n is = ap (λ (ds : List Document). record { next = s.next; documents = ds }) (sym (documents_left q n is))

  -- a document less
  number_deleted : (q x : List ℕ) → number_of x (with_deleted q s) ≡ update bytes_eq (numbers_in s) q None x
  number_deleted q =
      number_known (update bytes_eq (numbers_in s) q None) (with_deleted q s) (record {
        names = λ x.
            by_test (bytes_eq q x)
            (λ same. ap (λ (b : Bool). is_some (cond b None (number_of x s))) same ∙ sym (ap (λ (y : List ℕ). has_name y (with_deleted q s)) (sym (bytes_from q x same)) ∙ name_gone q s.documents))
            (λ other. ap (λ (b : Bool). is_some (cond b None (number_of x s))) other ∙ known.names x ∙ sym (name_stays q x s.documents other));
        numbers = found_left (numbers_in s) (update bytes_eq (numbers_in s) q None) q s.documents (λ x. refl) known.numbers;
      })

  pub notes_deleted : (new : NameTable) (q : List ℕ) (n : ℕ) → number_of q s ≡ Some n → Fits new (update bytes_eq (numbers_in s) q None)
      → (rest : List Document) → rest ≡ filter (λ (d : Document). not (d.number == n)) kept → Notes number new rest (without n s)
  notes_deleted new q n is forgot rest rest_is = record {
    next = notes.next;
    documents = rest_is ∙ ap (filter (λ (d : Document). not (d.number == n))) notes.documents;
    names = subst (λ (t : State). Fits new (numbers_in t)) (sym (deleted_is q n is))
        (same_numbers new (update bytes_eq (numbers_in s) q None) (numbers_in (with_deleted q s)) (λ x. sym (number_deleted q x)) forgot);
    ordered = subst (λ (t : State). IsOrdered (known_of t)) (sym (deleted_is q n is)) (ordered_deleted s q notes.ordered);
  }

  pub notes_more : (new : NameTable) (name title body : List ℕ) → has_name name s ≡ false → Fits new (update bytes_eq (numbers_in s) name (Some number))
      → (d : Document) → d ≡ record { number = number; name = name; cells = cells_of name title body } → IsOrdered (known_of (with_added name title body s)) → (all : List Document) → all ≡ kept ++ d ∷ [] → Notes (number + 1) new all (with_added name title body s)
  notes_more new name title body free noted d is ordered all all_is = subst (λ (ds : List Document). Notes (number + 1) new ds (with_added name title body s)) (sym all_is) (notes_added new name title body free noted d is ordered)
