-- The add lines of a dump, one after the other.
use Rattle.std.proofs.Common.{◌≡◌, ◌≢◌, ℕ, ◌+◌, ◌≤◌, false, Option, Some, List, [], ◌∷◌, ◌++◌, length, map, refl, ap, sym, subst, ◌∙◌, arith, append-nil, append_assoc}
use Rattle.std.specs.Prelude.{IsSome}
use Rattle.std.specs.List.{All}
use Rattle.std.specs.Str.{bytes_eq}
use Rattle.std.proofs.lemmas.Bool.{false_from_ne_true, or_from}
use Rattle.std.proofs.lemmas.List.Elements.{All-nil, All-cons, All-head, All-tail}
use Rattle.std.proofs.lemmas.List.Folds.{list_any-append}
use Rattle.std.proofs.lemmas.Slice.Eq.{bytes_eq-Decides}
use Rattle.alta_codec.specs.Name.{IsName}
use Rattle.alta_machine.specs.Dumps.{added_from, restored}
use Rattle.alta_machine.specs.DumpLines.{body_text, cells_again, line_of, title_text}
use Rattle.alta_dump.proofs.Readable.{line_asks}
use Rattle.alta_machine.specs.States.{empty_state, AllDiffer, name_of}
use Rattle.alta_machine.specs.Changes.{has_name, with_added}
use Rattle.alta_machine.specs.declared.document.Document.{Document}
use Rattle.alta_machine.specs.declared.document.State.{State}
use Rattle.alta_machine.specs.Command.{adds}
use Rattle.alta_machine.specs.Lines.{asks}
use Rattle.alta_machine.specs.Machine.{Machine, machine_after, started_at, step}
use Rattle.alta_session.specs.Restoring.{AreAddLines}
use Rattle.alta_session.proofs.AddingLaws.{adding_added}
use Rattle.alta_session.proofs.MachineLaws.{step_reads}

head_is : {A : Type 0} (a b : A) (xs ys : List A) → a ∷ xs ≡ b ∷ ys → a ≡ b
head_is a b xs ys e = cc e

tail_is : {A : Type 0} (a b : A) (xs ys : List A) → a ∷ xs ≡ b ∷ ys → xs ≡ ys
tail_is a b xs ys e = cc e

-- a name that is not that of the document added is as free as before
still_free : (name added title body : List ℕ) (s : State) → has_name name s ≡ false → added ≢ name → has_name name (with_added added title body s) ≡ false
still_free name added title body s free other =
    let apart : bytes_eq name added ≡ false = false_from_ne_true (bytes_eq name added) (λ e. other (sym ((bytes_eq-Decides name added).0 e))) in
    list_any-append (λ (d : Document). bytes_eq name d.name) s.documents _ ∙ or_from (has_name name s) _ free (or_from (bytes_eq name added) false apart refl)

all_free : (added title body : List ℕ) (s : State) (ds : List Document) → All (λ (d : Document). has_name d.name s ≡ false) ds → All (λ n. added ≢ n) (map name_of ds)
    → All (λ (d : Document). has_name d.name (with_added added title body s) ≡ false) ds
all_free added title body s [] free apart = All-nil (λ (d : Document). has_name d.name (with_added added title body s) ≡ false)
all_free added title body s (d ∷ ds) free apart =
    let Free : Document → Type 0 = λ e. has_name e.name s ≡ false in
    All-cons (λ (e : Document). has_name e.name (with_added added title body s) ≡ false) d ds
    (still_free d.name added title body s (All-head Free d ds free) (All-head (λ n. added ≢ n) d.name (map name_of ds) apart))
    (all_free added title body s ds (All-tail Free d ds free) (All-tail (λ n. added ≢ n) d.name (map name_of ds) apart))

-- the machine after the line of a document whose name is free
one_added : (d : Document) (line : List ℕ) (s : State) → line_of d ≡ Some line → IsName d.name → has_name d.name s ≡ false → s.next + 1 ≤ 4294967296
    → (step (started_at s) line).0 ≡ started_at (with_added d.name (title_text d.cells) (body_text d.cells) s)
one_added d line s is named free room =
    ap (λ (p : Machine × List ℕ). p.0) (step_reads (started_at s) line (asks (adds d.name (title_text d.cells) (body_text d.cells))) (line_asks d line named is))
    ∙ ap (λ (p : State × List ℕ). started_at p.0) (adding_added d.name (title_text d.cells) (body_text d.cells) s named free (omega (arith, room)))

-- a state by its parts
parts : (next next' : ℕ) (documents documents' : List Document) → next ≡ next' → documents ≡ documents'
    → started_at (record { next = next; documents = documents }) ≡ started_at (record { next = next'; documents = documents' })
parts next next' documents documents' n d = λ i. started_at (record { next = n i; documents = d i })

all_added : (ds : List Document) (lines : List (List ℕ)) (s : State) → map line_of ds ≡ map Some lines → All IsName (map name_of ds) → AllDiffer (map name_of ds)
    → All (λ (d : Document). has_name d.name s ≡ false) ds → s.next + length ds ≤ 4294967296
    → machine_after (started_at s) lines ≡ started_at (record { next = s.next + length ds; documents = s.documents ++ added_from s.next ds })
all_added [] [] s each named apart free room = parts s.next (s.next + 0) s.documents (s.documents ++ []) (omega arith) (sym (append-nil s.documents))
all_added [] (line ∷ lines) s each named apart free room = absurd (cc each)
all_added (d ∷ ds) [] s each named apart free room = absurd (cc each)
all_added (d ∷ ds) (line ∷ lines) s each named apart free room =
    let title = title_text d.cells in let body = body_text d.cells in let t = with_added d.name title body s in
    let Free : Document → Type 0 = λ e. has_name e.name s ≡ false in
    let first : (step (started_at s) line).0 ≡ started_at t =
    one_added d line s (head_is (line_of d) (Some line) (map line_of ds) (map Some lines) each) (All-head IsName d.name (map name_of ds) named) (All-head Free d ds free) (omega (arith, room)) in
    ap (λ (m : Machine). machine_after m lines) first
    ∙ all_added ds lines t (tail_is (line_of d) (Some line) (map line_of ds) (map Some lines) each) (All-tail IsName d.name (map name_of ds) named) apart.1
    (all_free d.name title body s ds (All-tail Free d ds free) apart.0) (omega (arith, room))
    ∙ parts (s.next + 1 + length ds) (s.next + length (d ∷ ds)) (t.documents ++ added_from (s.next + 1) ds) (s.documents ++ added_from s.next (d ∷ ds)) (omega arith)
    (append_assoc s.documents (record { number = s.next; name = d.name; cells = cells_again d } ∷ []) (added_from (s.next + 1) ds))

pub lines_restore : (documents : List Document) (lines : List (List ℕ)) → AreAddLines documents lines → machine_after (started_at empty_state) lines ≡ started_at (restored documents)
lines_restore documents lines are =
    all_added documents lines empty_state are.each are.named are.distinct (λ k d l. refl) (omega (arith, are.numbered))
    ∙ parts (1 + length documents) (length documents + 1) (added_from 1 documents) (added_from 1 documents) (omega arith) refl

pub each_has_line : (documents : List Document) (lines : List (List ℕ)) → map line_of documents ≡ map Some lines → All (λ d. IsSome (line_of d)) documents
each_has_line [] lines each = All-nil (λ d. IsSome (line_of d))
each_has_line (d ∷ ds) [] each = absurd (cc each)
each_has_line (d ∷ ds) (line ∷ lines) each =
    All-cons (λ (e : Document). IsSome (line_of e)) d ds (some (line_of d) line (head_is (line_of d) (Some line) (map line_of ds) (map Some lines) each))
    (each_has_line ds lines (tail_is (line_of d) (Some line) (map line_of ds) (map Some lines) each))
  where
    some : (o : Option (List ℕ)) (line : List ℕ) → o ≡ Some line → IsSome o
    some o line e = subst IsSome (sym e) refl
