-- Commands and entries keep a state well formed.
use Rattle.std.proofs.Common.{◌≡◌, ◌≢◌, ℕ, ◌<◌, ◌≤◌, ◌+◌, Bool, true, false, not, cond, List, [], ◌∷◌, ◌++◌, map, refl, sym, ap, subst, ◌∙◌, arith, rules}
use Rattle.std.specs.Prelude.{◌==◌, ◌&&◌}
use Rattle.std.specs.List.{All, list_any, filter}
use Rattle.std.specs.Str.{bytes_eq}
use Rattle.std.proofs.lemmas.Bool.{false≢true}
use Rattle.std.proofs.lemmas.List.{map-append}
use Rattle.std.proofs.lemmas.List.Elements.{All-nil, All-cons, All-head, All-tail, All-append, All-filter, All-weaker}
use Rattle.std.proofs.lemmas.Slice.Eq.{bytes_eq-Decides}
use Rattle.alta_machine.specs.Cells.{cells_of}
use Rattle.alta_machine.specs.States.{number_of, name_of, Rise, AllDiffer, IsState}
use Rattle.alta_machine.specs.declared.document.Document.{Document}
use Rattle.alta_machine.specs.declared.document.State.{State}
use Rattle.alta_machine.specs.Changes.{has_name, has_named, with_added, with_deleted, with_replaced, without}
use Rattle.alta_meaning.proofs.Tests.{by_test, filter_keep, filter_drop, bytes_from, and_left, and_right, or_both, or_last, or_neither}

-- a document behind those of smaller numbers and other names
rise_more : (ds : List Document) (d : Document) → Rise (map number_of ds) → All (λ (e : Document). e.number < d.number) ds → Rise (map number_of (ds ++ d ∷ []))
rise_more [] d rise below = (All-nil (λ n. d.number < n), tt)
rise_more (e ∷ es) d rise below = (
  subst (All (λ n. e.number < n)) (sym (map-append number_of es (d ∷ [])))
      (All-append (λ n. e.number < n) (map number_of es) (d.number ∷ []) rise.0 (All-cons (λ n. e.number < n) d.number [] (All-head (λ (e : Document). e.number < d.number) e es below) (All-nil (λ n. e.number < n)))),
  rise_more es d rise.1 (All-tail (λ (e : Document). e.number < d.number) e es below),
)

same_bytes : (xs ys : List ℕ) → ys ≡ xs → bytes_eq xs ys ≡ true
same_bytes xs ys is = let same : xs ≡ ys = sym is in search (rules, bytes_eq-Decides xs ys)

differ : (xs ys : List ℕ) → bytes_eq xs ys ≡ false → ys ≢ xs
differ xs ys other is = false≢true (subst (λ (b : Bool). b ≡ true) other (same_bytes xs ys is))

differ_more : (ds : List Document) (d : Document) → AllDiffer (map name_of ds) → list_any (λ (e : Document). bytes_eq d.name e.name) ds ≡ false → AllDiffer (map name_of (ds ++ d ∷ []))
differ_more [] d apart free = (All-nil (λ n. d.name ≢ n), tt)
differ_more (e ∷ es) d apart free =
    let parts = or_both (bytes_eq d.name e.name) (list_any (λ (e : Document). bytes_eq d.name e.name) es) free in (
      subst (All (λ n. e.name ≢ n)) (sym (map-append name_of es (d ∷ [])))
          (All-append (λ n. e.name ≢ n) (map name_of es) (d.name ∷ []) apart.0 (All-cons (λ n. e.name ≢ n) d.name [] (differ d.name e.name parts.0) (All-nil (λ n. e.name ≢ n)))),
      differ_more es d apart.1 parts.1,
    )

pub added_state : (name title body : List ℕ) (s : State) → has_name name s ≡ false → IsState s → IsState (with_added name title body s)
added_state name title body s free is =
    let d : Document = record { number = s.next; name = name; cells = cells_of name title body } in
    let Fits : ℕ → Document → Type 0 = λ next e. (1 ≤ e.number) × (e.number < next) in
    record {
      next = omega (arith, is.next);
      numbered = All-append (Fits (s.next + 1)) s.documents (d ∷ []) (All-weaker (Fits s.next) (Fits (s.next + 1)) (λ e fits. (fits.0, omega (arith, fits.1))) s.documents is.numbered)
          (All-cons (Fits (s.next + 1)) d [] (is.next, omega arith) (All-nil (Fits (s.next + 1))));
      rising = rise_more s.documents d is.rising (All-weaker (Fits s.next) (λ (e : Document). e.number < s.next) (λ e fits. fits.1) s.documents is.numbered);
      distinct = differ_more s.documents d is.distinct free;
    }

-- some of the documents
all_left : {X : Type 0} (P : X → Type 0) (f : Document → X) (keep : Document → Bool) (ds : List Document) → All P (map f ds) → All P (map f (filter keep ds))
all_left P f keep [] all = all
all_left P f keep (d ∷ ds) all = elim (keep d) as (λ t. All P (map f (cond t (d ∷ filter keep ds) (filter keep ds)))) [
  | true ↦ All-cons P (f d) (map f (filter keep ds)) (All-head P (f d) (map f ds) all) (all_left P f keep ds (All-tail P (f d) (map f ds) all))
  | false ↦ all_left P f keep ds (All-tail P (f d) (map f ds) all)
]

rise_left : (keep : Document → Bool) (ds : List Document) → Rise (map number_of ds) → Rise (map number_of (filter keep ds))
rise_left keep [] rise = tt
rise_left keep (d ∷ ds) rise = elim (keep d) as (λ t. Rise (map number_of (cond t (d ∷ filter keep ds) (filter keep ds)))) [
  | true ↦ (all_left (λ n. d.number < n) number_of keep ds rise.0, rise_left keep ds rise.1)
  | false ↦ rise_left keep ds rise.1
]

differ_left : (keep : Document → Bool) (ds : List Document) → AllDiffer (map name_of ds) → AllDiffer (map name_of (filter keep ds))
differ_left keep [] apart = tt
differ_left keep (d ∷ ds) apart = elim (keep d) as (λ t. AllDiffer (map name_of (cond t (d ∷ filter keep ds) (filter keep ds)))) [
  | true ↦ (all_left (λ n. d.name ≢ n) name_of keep ds apart.0, differ_left keep ds apart.1)
  | false ↦ differ_left keep ds apart.1
]

-- some of the documents of a well-formed state
left_state : (keep : Document → Bool) (s : State) → IsState s → IsState (record { next = s.next; documents = filter keep s.documents })
left_state keep s is = record {
  next = is.next;
  numbered = All-filter keep (λ (d : Document). (1 ≤ d.number) × (d.number < s.next)) s.documents is.numbered;
  rising = rise_left keep s.documents is.rising;
  distinct = differ_left keep s.documents is.distinct;
}

pub deleted_state : (name : List ℕ) (s : State) → IsState s → IsState (with_deleted name s)
deleted_state name s is = left_state (λ (d : Document). not (bytes_eq name d.name)) s is

abbrev has_among : List ℕ → List Document → Bool
has_among name ds = list_any (λ (d : Document). bytes_eq name d.name) ds

-- a name is free once the document of that name is left out
pub deleted_free : (name : List ℕ) (s : State) → has_name name (with_deleted name s) ≡ false
deleted_free name s = none_left name s.documents
  where
    none_left : (name : List ℕ) (ds : List Document) → has_among name (filter (λ (d : Document). not (bytes_eq name d.name)) ds) ≡ false
    none_left name [] = refl
    none_left name (d ∷ ds) =
        by_test (bytes_eq name d.name)
        (λ same. ap (has_among name) (filter_drop (λ (e : Document). not (bytes_eq name e.name)) d ds (ap not same)) ∙ none_left name ds)
        (λ other. ap (has_among name) (filter_keep (λ (e : Document). not (bytes_eq name e.name)) d ds (ap not other))
        ∙ or_neither (bytes_eq name d.name) (has_among name (filter (λ (e : Document). not (bytes_eq name e.name)) ds)) other (none_left name ds))

-- and so a document may come in its place
pub replaced_state : (name title body : List ℕ) (s : State) → IsState s → IsState (with_replaced name title body s)
replaced_state name title body s is = added_state name title body (with_deleted name s) (deleted_free name s) (deleted_state name s is)

abbrev other_than : ℕ → Document → Bool
other_than number d = not (d.number == number)

-- where one document has the name and the number, none of those that are left without the number has the name
left_free : (name : List ℕ) (number : ℕ) (ds : List Document) → AllDiffer (map name_of ds) → list_any (λ (d : Document). bytes_eq name d.name && d.number == number) ds ≡ true
    → list_any (λ (d : Document). bytes_eq name d.name) (filter (λ (d : Document). not (d.number == number)) ds) ≡ false
left_free name number [] apart taken = absurd (false≢true taken)
left_free name number (d ∷ ds) apart taken =
    by_test (bytes_eq name d.name && d.number == number)
    (λ here. let name_is : name ≡ d.name = bytes_from name d.name (and_left (bytes_eq name d.name) (d.number == number) here) in
    ap (has_among name) (filter_drop (other_than number) d ds (ap not (and_right (bytes_eq name d.name) (d.number == number) here)))
    ∙ none_has name (filter (other_than number) ds) (subst (λ (n : List ℕ). All (λ x. n ≢ x) (map name_of (filter (other_than number) ds))) (sym name_is) (all_left (λ x. d.name ≢ x) name_of (other_than number) ds apart.0)))
    (λ there. let behind : list_any (λ (e : Document). bytes_eq name e.name && e.number == number) ds ≡ true =
    sym (or_last (bytes_eq name d.name && d.number == number) (list_any (λ (e : Document). bytes_eq name e.name && e.number == number) ds) there) ∙ taken in
    let rest = left_free name number ds apart.1 behind in
    by_test (d.number == number)
    (λ same. ap (has_among name) (filter_drop (other_than number) d ds (ap not same)) ∙ rest)
    (λ not_it. ap (has_among name) (filter_keep (other_than number) d ds (ap not not_it)) ∙ or_neither (bytes_eq name d.name) (has_among name (filter (other_than number) ds)) (first_differs name number d ds apart.0 behind) rest))
  where
    none_has : (name : List ℕ) (ds : List Document) → All (λ x. name ≢ x) (map name_of ds) → list_any (λ (d : Document). bytes_eq name d.name) ds ≡ false
    none_has name [] all = refl
    none_has name (e ∷ es) all =
        or_neither (bytes_eq name e.name) (list_any (λ (d : Document). bytes_eq name d.name) es)
        (by_test (bytes_eq name e.name) (λ same. absurd (All-head (λ x. name ≢ x) e.name (map name_of es) all (bytes_from name e.name same))) (λ differs. differs))
        (none_has name es (All-tail (λ x. name ≢ x) e.name (map name_of es) all))

    first_differs : (name : List ℕ) (number : ℕ) (first : Document) (ds : List Document) → All (λ x. first.name ≢ x) (map name_of ds) → list_any (λ (d : Document). bytes_eq name d.name && d.number == number) ds ≡ true
        → bytes_eq name first.name ≡ false
    first_differs name number first [] all taken = absurd (false≢true taken)
    first_differs name number first (e ∷ es) all taken =
        by_test (bytes_eq name e.name && e.number == number)
        (λ here. by_test (bytes_eq name first.name)
        (λ same. absurd (All-head (λ x. first.name ≢ x) e.name (map name_of es) all (sym (bytes_from name first.name same) ∙ bytes_from name e.name (and_left (bytes_eq name e.name) (e.number == number) here))))
        (λ differs. differs))
        (λ there. first_differs name number first es (All-tail (λ x. first.name ≢ x) e.name (map name_of es) all)
        (sym (or_last (bytes_eq name e.name && e.number == number) (list_any (λ (d : Document). bytes_eq name d.name && d.number == number) es) there) ∙ taken))

-- a name is free once its document is left out
pub named_free : (name : List ℕ) (number : ℕ) (s : State) → IsState s → has_named name number s ≡ true → has_name name (without number s) ≡ false
named_free name number s is named = left_free name number s.documents is.distinct named

-- ---- entries, and what an image stands for
