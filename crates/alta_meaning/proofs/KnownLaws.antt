-- What is known before and behind entries, beside the state that they make.
use Rattle.std.proofs.Common.{◌≡◌, ◌≢◌, ℕ, ◌+◌, ◌<◌, ◌≤◌, Bool, true, false, cond, List, [], ◌∷◌, ◌++◌, length, map, refl, sym, ap, subst, ◌∙◌, arith, Result, Ok, Err}
use Rattle.std.specs.Prelude.{not, ◌||◌, ◌&&◌, ◌==◌, nat_lt}
use Rattle.std.specs.List.{All, filter, list_any}
use Rattle.std.specs.Str.{bytes_eq}
use Rattle.std.proofs.lemmas.Bool.{lt-ltb, false≢true}
use Rattle.std.proofs.lemmas.List.{map-append}
use Rattle.std.proofs.lemmas.List.Elements.{All-nil, All-cons, All-head, All-tail, All-append, All-filter}
use Rattle.alta_journal.specs.Placed.{placed}
use Rattle.alta_journal.specs.Record.{record_of}
use Rattle.alta_journal.specs.declared.entry.Entry.{Entry}
use Rattle.alta_journal.specs.declared.entry.Entry.TheVariants.{Add, Delete, Replace}
use Rattle.alta_journal.specs.declared.placed.Placed.{Placed}
use Rattle.alta_machine.specs.declared.document.Document.{Document}
use Rattle.alta_machine.specs.declared.document.State.{State}
use Rattle.alta_meaning.specs.Entries.{Allows, AllowsAll, after_entry, after_entries}
use Rattle.alta_machine.specs.Changes.{with_added, with_deleted, without}
use Rattle.alta_meaning.proofs.Tests.{by_test, filter_keep, filter_drop, bytes_from, bytes_same, not_true, and_left, and_right, and_both, below_from, or_both, or_last, or_neither}
use Rattle.alta_meaning.specs.Known.{Named, Known, named, is_taken, is_taken_by, is_live, admits, known_added, known_without, known_behind, replayed, named_of, known_of}
use Rattle.alta_meaning.specs.Ordered.{IsBefore, AreOrdered, IsOrdered}
use Rattle.alta_meaning.proofs.Steps.{one_value, not_failed}

-- ---- names and numbers of documents

taken_of : (name : List ℕ) (ds : List Document) → is_taken name (map named_of ds) ≡ list_any (λ (d : Document). bytes_eq name d.name) ds
taken_of name [] = refl
taken_of name (d ∷ ds) = ap (λ (b : Bool). bytes_eq name d.name || b) (taken_of name ds)

live_of : (number : ℕ) (ds : List Document) → is_live number (map named_of ds) ≡ list_any (λ (d : Document). d.number == number) ds
live_of number [] = refl
live_of number (d ∷ ds) = ap (λ (b : Bool). (d.number == number) || b) (live_of number ds)

taken_by_of : (name : List ℕ) (number : ℕ) (ds : List Document) → is_taken_by name number (map named_of ds) ≡ list_any (λ (d : Document). bytes_eq name d.name && d.number == number) ds
taken_by_of name number [] = refl
taken_by_of name number (d ∷ ds) = ap (λ (b : Bool). (bytes_eq name d.name && d.number == number) || b) (taken_by_of name number ds)

left_of : (p : Named → Bool) (ds : List Document) → map named_of (filter (λ (d : Document). p (named_of d)) ds) ≡ filter p (map named_of ds)
left_of p [] = refl
left_of p (d ∷ ds) =
    by_test (p (named_of d))
    (λ yes. ap (λ (xs : List Document). map named_of xs) (filter_keep (λ (d : Document). p (named_of d)) d ds yes) ∙ ap (λ (rows : List Named). named_of d ∷ rows) (left_of p ds)
    ∙ sym (filter_keep p (named_of d) (map named_of ds) yes))
    (λ no. ap (λ (xs : List Document). map named_of xs) (filter_drop (λ (d : Document). p (named_of d)) d ds no) ∙ left_of p ds ∙ sym (filter_drop p (named_of d) (map named_of ds) no))

known_with : ℕ → List Named → Known
known_with next live = record { next = next; live = live }

known_more : (name title body : List ℕ) (s : State) → known_of (with_added name title body s) ≡ known_added name (known_of s)
unfolding known_with
known_more name title body s = ap (known_with (s.next + 1)) (map-append named_of s.documents _)

known_less : (number : ℕ) (s : State) → known_of (without number s) ≡ known_without number (known_of s)
unfolding known_with
known_less number s = ap (known_with s.next) (left_of (λ (row : Named). not (row.number == number)) s.documents)

-- what is known of the state behind an entry is what is known behind it
pub known_entry : (s : State) (entry : Entry) → known_of (after_entry s entry) ≡ known_behind (known_of s) entry
known_entry s (Add name title body) = known_more name title body s
known_entry s (Delete number) = known_less number s
known_entry s (Replace number name title body) = known_more name title body (without number s) ∙ ap (known_added name) (known_less number s)

-- ---- an entry is admitted where the state allows it

pub allowed_from : (s : State) (entry : Entry) → admits (known_of s) entry ≡ true → Allows s entry
allowed_from s (Add name title body) e = (
  sym (taken_of name s.documents) ∙ not_true (is_taken name (map named_of s.documents)) (and_left (not (is_taken name (map named_of s.documents))) (nat_lt s.next 4294967296) e),
  below_from s.next 4294967296 (and_right (not (is_taken name (map named_of s.documents))) (nat_lt s.next 4294967296) e),
)
allowed_from s (Delete number) e = sym (live_of number s.documents) ∙ e
allowed_from s (Replace number name title body) e = (
  sym (taken_by_of name number s.documents) ∙ and_left (is_taken_by name number (map named_of s.documents)) (nat_lt s.next 4294967296) e,
  below_from s.next 4294967296 (and_right (is_taken_by name number (map named_of s.documents)) (nat_lt s.next 4294967296) e),
)

pub admitted_from : (s : State) (entry : Entry) → Allows s entry → admits (known_of s) entry ≡ true
admitted_from s (Add name title body) allows =
    and_both (not (is_taken name (map named_of s.documents))) (nat_lt s.next 4294967296) (ap not (taken_of name s.documents ∙ allows.0)) (lt-ltb s.next 4294967296 allows.1)
admitted_from s (Delete number) allows = live_of number s.documents ∙ allows
admitted_from s (Replace number name title body) allows =
    and_both (is_taken_by name number (map named_of s.documents)) (nat_lt s.next 4294967296) (taken_by_of name number s.documents ∙ allows.0) (lt-ltb s.next 4294967296 allows.1)

-- ---- entries one after the other

abbrev replay_at : Known → Placed → List Placed → Bool → Result Known ℕ
replay_at known p more b = cond b (replayed (known_behind known p.entry) more) (Err (p.place + 5))

-- entries that are admitted are those that the state allows
pub allows_replayed : (s : State) (place : ℕ) (entries : List Entry) (known : Known) → replayed (known_of s) (placed place entries) ≡ Ok known → AllowsAll s entries × (known ≡ known_of (after_entries s entries))
allows_replayed s place [] known e = (tt, sym (one_value {E = ℕ} (Ok (known_of s)) (known_of s) known refl e))
allows_replayed s place (entry ∷ entries) known e =
    by_test (admits (known_of s) entry)
    (λ yes. let rest : replayed (known_behind (known_of s) entry) (placed (place + length (record_of entry)) entries) ≡ Ok known =
    sym (ap (replay_at (known_of s) (record { place = place; entry = entry }) (placed (place + length (record_of entry)) entries)) yes) ∙ e in
    let more = allows_replayed (after_entry s entry) (place + length (record_of entry)) entries known (ap (λ (k : Known). replayed k (placed (place + length (record_of entry)) entries)) (known_entry s entry) ∙ rest) in
    ((allowed_from s entry yes, more.0), more.1))
    (λ no. absurd (not_failed (replayed (known_of s) (placed place (entry ∷ entries))) known (place + 5) e
    (ap (replay_at (known_of s) (record { place = place; entry = entry }) (placed (place + length (record_of entry)) entries)) no)))

pub replayed_allows : (s : State) (place : ℕ) (entries : List Entry) → AllowsAll s entries → replayed (known_of s) (placed place entries) ≡ Ok (known_of (after_entries s entries))
replayed_allows s place [] all = refl
replayed_allows s place (entry ∷ entries) all =
    ap (replay_at (known_of s) (record { place = place; entry = entry }) (placed (place + length (record_of entry)) entries)) (admitted_from s entry all.0)
    ∙ ap (λ (k : Known). replayed k (placed (place + length (record_of entry)) entries)) (sym (known_entry s entry))
    ∙ replayed_allows (after_entry s entry) (place + length (record_of entry)) entries all.1

-- ---- order

pub ordered_snoc : (rows : List Named) (row : Named) → AreOrdered rows → All (λ (earlier : Named). IsBefore earlier row) rows → AreOrdered (rows ++ row ∷ [])
ordered_snoc [] row ordered before = (All-nil (IsBefore row), tt)
ordered_snoc (r ∷ rows) row ordered before = (
  All-append (IsBefore r) rows (row ∷ []) ordered.0 (All-cons (IsBefore r) row [] (All-head (λ (earlier : Named). IsBefore earlier row) r rows before) (All-nil (IsBefore r))),
  ordered_snoc rows row ordered.1 (All-tail (λ (earlier : Named). IsBefore earlier row) r rows before),
)

pub ordered_left : (p : Named → Bool) (rows : List Named) → AreOrdered rows → AreOrdered (filter p rows)
ordered_left p [] ordered = tt
ordered_left p (row ∷ rows) ordered =
    by_test (p row)
    (λ yes. subst AreOrdered (sym (filter_keep p row rows yes)) (All-filter p (IsBefore row) rows ordered.0, ordered_left p rows ordered.1))
    (λ no. subst AreOrdered (sym (filter_drop p row rows no)) (ordered_left p rows ordered.1))

abbrev pub IsWithin : ℕ → Named → Type 0
IsWithin next row = (1 ≤ row.number) × (row.number < next)

pub all_weaker : {X : Type 0} (P Q : X → Type 0) (xs : List X) → ((x : X) → P x → Q x) → All P xs → All Q xs
all_weaker P Q [] weaker all = All-nil Q
all_weaker P Q (x ∷ xs) weaker all = All-cons Q x xs (weaker x (All-head P x xs all)) (all_weaker P Q xs weaker (All-tail P x xs all))

-- none of the live documents has the name
pub all_others : (name : List ℕ) (rows : List Named) → is_taken name rows ≡ false → All (λ (row : Named). row.name ≢ name) rows
all_others name [] none = All-nil (λ (row : Named). row.name ≢ name)
all_others name (row ∷ rows) none =
    All-cons (λ (row : Named). row.name ≢ name) row rows
    (λ same. false≢true (sym ((or_both (bytes_eq name row.name) (is_taken name rows) none).0) ∙ ap (λ (n : List ℕ). bytes_eq name n) same ∙ bytes_same name))
    (all_others name rows ((or_both (bytes_eq name row.name) (is_taken name rows) none).1))

pub all_both : {X : Type 0} (P Q : X → Type 0) (xs : List X) → All P xs → All Q xs → All (λ x. P x × Q x) xs
all_both P Q [] p q = All-nil (λ x. P x × Q x)
all_both P Q (x ∷ xs) p q = All-cons (λ x. P x × Q x) x xs (All-head P x xs p, All-head Q x xs q) (all_both P Q xs (All-tail P x xs p) (All-tail Q x xs q))

-- where one of them has the name and the number, those that are left without the number have another name: of two in order the
-- names differ
left_free : (name : List ℕ) (number : ℕ) (rows : List Named) → AreOrdered rows → is_taken_by name number rows ≡ true → is_taken name (filter (λ (row : Named). not (row.number == number)) rows) ≡ false
left_free name number [] ordered taken = absurd (false≢true taken)
left_free name number (row ∷ rows) ordered taken =
    by_test (bytes_eq name row.name && row.number == number)
    (λ here. let name_is : name ≡ row.name = bytes_from name row.name (and_left (bytes_eq name row.name) (row.number == number) here) in
    ap (is_taken name) (filter_drop (λ (r : Named). not (r.number == number)) row rows (ap not (and_right (bytes_eq name row.name) (row.number == number) here)))
    ∙ none_taken name (filter (λ (r : Named). not (r.number == number)) rows)
    (All-filter (λ (r : Named). not (r.number == number)) (λ (r : Named). r.name ≢ name) rows (all_weaker (IsBefore row) (λ (r : Named). r.name ≢ name) rows (λ r before same. before.1 (sym (same ∙ name_is))) ordered.0)))
    (λ there. let behind : is_taken_by name number rows ≡ true = sym (or_last (bytes_eq name row.name && row.number == number) (is_taken_by name number rows) there) ∙ taken in
    let rest = left_free name number rows ordered.1 behind in
    by_test (row.number == number)
    (λ same. ap (is_taken name) (filter_drop (λ (r : Named). not (r.number == number)) row rows (ap not same)) ∙ rest)
    (λ other. ap (is_taken name) (filter_keep (λ (r : Named). not (r.number == number)) row rows (ap not other))
    ∙ or_neither (bytes_eq name row.name) (is_taken name (filter (λ (r : Named). not (r.number == number)) rows)) (earlier_differs name number row rows ordered.0 behind) rest))
  where
    none_taken : (name : List ℕ) (rows : List Named) → All (λ (r : Named). r.name ≢ name) rows → is_taken name rows ≡ false
    none_taken name [] all = refl
    none_taken name (r ∷ rows) all =
        or_neither (bytes_eq name r.name) (is_taken name rows)
        (by_test (bytes_eq name r.name) (λ same. absurd (All-head (λ (x : Named). x.name ≢ name) r rows all (sym (bytes_from name r.name same)))) (λ other. other))
        (none_taken name rows (All-tail (λ (x : Named). x.name ≢ name) r rows all))

    earlier_differs : (name : List ℕ) (number : ℕ) (first : Named) (rows : List Named) → All (IsBefore first) rows → is_taken_by name number rows ≡ true → bytes_eq name first.name ≡ false
    earlier_differs name number first [] before taken = absurd (false≢true taken)
    earlier_differs name number first (r ∷ rows) before taken =
        by_test (bytes_eq name r.name && r.number == number)
        (λ here. by_test (bytes_eq name first.name)
        (λ same. absurd ((All-head (IsBefore first) r rows before).1 (sym (bytes_from name first.name same) ∙ bytes_from name r.name (and_left (bytes_eq name r.name) (r.number == number) here))))
        (λ other. other))
        (λ there. earlier_differs name number first rows (All-tail (IsBefore first) r rows before) (sym (or_last (bytes_eq name r.name && r.number == number) (is_taken_by name number rows) there) ∙ taken))

ordered_more : (name : List ℕ) (known : Known) → IsOrdered known → is_taken name known.live ≡ false → 1 ≤ known.next → IsOrdered (known_added name known)
ordered_more name known ordered free some = record {
  ordered =
      ordered_snoc known.live (named name known.next) ordered.ordered
      (all_both (λ (row : Named). row.number < known.next) (λ (row : Named). row.name ≢ name) known.live (all_weaker (IsWithin known.next) (λ (row : Named). row.number < known.next) known.live (λ row w. w.1) ordered.within)
      (all_others name known.live free));
  within =
      All-append (IsWithin (known.next + 1)) known.live (named name known.next ∷ []) (all_weaker (IsWithin known.next) (IsWithin (known.next + 1)) known.live (λ row w. (w.0, omega (arith, w.1))) ordered.within)
      (All-cons (IsWithin (known.next + 1)) (named name known.next) [] (some, omega arith) (All-nil (IsWithin (known.next + 1))));
}

ordered_less : (number : ℕ) (known : Known) → IsOrdered known → IsOrdered (known_without number known)
ordered_less number known ordered = record {
  ordered = ordered_left (λ (row : Named). not (row.number == number)) known.live ordered.ordered;
  within = All-filter (λ (row : Named). not (row.number == number)) (IsWithin known.next) known.live ordered.within;
}

-- order is kept by an entry that is admitted
pub ordered_entry : (known : Known) (entry : Entry) → IsOrdered known → admits known entry ≡ true → 1 ≤ known.next → IsOrdered (known_behind known entry)
ordered_entry known (Add name title body) ordered admitted some =
    ordered_more name known ordered (not_true (is_taken name known.live) (and_left (not (is_taken name known.live)) (nat_lt known.next 4294967296) admitted)) some
ordered_entry known (Delete number) ordered admitted some = ordered_less number known ordered
ordered_entry known (Replace number name title body) ordered admitted some =
    ordered_more name (known_without number known) (ordered_less number known ordered)
    (left_free name number known.live ordered.ordered (and_left (is_taken_by name number known.live) (nat_lt known.next 4294967296) admitted)) some

-- the state of a command keeps order
pub ordered_allowed : (s : State) (entry : Entry) → IsOrdered (known_of s) → 1 ≤ s.next → Allows s entry → IsOrdered (known_of (after_entry s entry))
ordered_allowed s entry ordered some allows = subst IsOrdered (sym (known_entry s entry)) (ordered_entry (known_of s) entry ordered (admitted_from s entry allows) some)

next_grows : (s : State) (entry : Entry) → 1 ≤ s.next → 1 ≤ (after_entry s entry).next
next_grows s (Add name title body) some = omega (arith, some)
next_grows s (Delete number) some = some
next_grows s (Replace number name title body) some = omega (arith, some)

pub ordered_all : (s : State) (entries : List Entry) → IsOrdered (known_of s) → 1 ≤ s.next → AllowsAll s entries → IsOrdered (known_of (after_entries s entries))
ordered_all s [] ordered some all = ordered
ordered_all s (entry ∷ entries) ordered some all = ordered_all (after_entry s entry) entries (ordered_allowed s entry ordered some all.0) (next_grows s entry some) all.1

-- and so does one that leaves out a name
pub ordered_deleted : (s : State) (name : List ℕ) → IsOrdered (known_of s) → IsOrdered (known_of (with_deleted name s))
unfolding known_with
ordered_deleted s name ordered =
    subst IsOrdered (ap (known_with s.next) (sym (left_of (λ (row : Named). not (bytes_eq name row.name)) s.documents)))
    (record {
      ordered = ordered_left (λ (row : Named). not (bytes_eq name row.name)) (map named_of s.documents) ordered.ordered;
      within = All-filter (λ (row : Named). not (bytes_eq name row.name)) (IsWithin s.next) (map named_of s.documents) ordered.within;
    })
