-- A switch of the root whose levels have the documents that are left changes no state; and so a flush changes none.
use Rattle.std.proofs.Common.{◌≡◌, ◌≢◌, ℕ, ◌+◌, ◌<◌, ◌≤◌, Bool, true, false, cond, List, [], ◌∷◌, ◌++◌, length, map, refl, sym, ap, subst, ◌∙◌, arith, Result, Ok, Err, append_assoc}
use Rattle.std.specs.Prelude.{not, ◌&&◌, ◌||◌, ◌==◌, nat_eq, nat_le, Option, None}
use Rattle.std.specs.Str.{bytes_eq}
use Rattle.std.specs.List.{All, filter, flat_map, list_any}
use Rattle.std.proofs.lemmas.Bool.{false≢true, ne_eqb, eq-eqb}
use Rattle.std.proofs.lemmas.Grind.{flat_map-append}
use Rattle.std.proofs.lemmas.List.{map-append, append-nil}
use Rattle.std.proofs.lemmas.List.Elements.{All-nil, All-cons, All-head, All-tail, All-append, All-map, All-filter, filter-append, filter_passes}
use Rattle.std.proofs.lemmas.List.Folds.{list_any-append, flat_map-map}
use Rattle.alta_codec.specs.declared.extent.Extent.{Extent}
use Rattle.alta_journal.specs.declared.entry.Entry.{Entry}
use Rattle.alta_journal.specs.declared.entry.Entry.TheVariants.{Add, Delete, Replace}
use Rattle.alta_level.specs.Segments.{segment_bytes}
use Rattle.alta_content.specs.declared.content.Content.{Content}
use Rattle.alta_memlevel.specs.Added.{Added, IsSpace, live_of}
use Rattle.alta_content.specs.Rows.{end_of, ends_among}
use Rattle.alta_content.proofs.Outside.{filter_alike, filter_all}
use Rattle.alta_machine.specs.Cells.{cells_of}
use Rattle.alta_machine.specs.declared.document.Document.{Document}
use Rattle.alta_machine.specs.declared.document.State.{State}
use Rattle.alta_meaning.specs.Entries.{AllowsAll, after_entry, after_entries}
use Rattle.alta_meaning.specs.Levels.{Level, document_of, documents_of, live_rows}
use Rattle.alta_meaning.specs.Views.{View, rooted, state_of}
use Rattle.alta_meaning.specs.Work.{Job, Coming, stays, anew, coming, added_at, added_from, newest, leaves_out, is_gone, gone, gone_among, newest_content, level_rows, with_oldest, oldest_joined}
use Rattle.alta_meaning.proofs.Tests.{by_test, filter_keep, filter_drop, equal_test, equal_from, apart_test, and_right, or_first, or_right, or_last, or_neither}
use Rattle.alta_content.specs.declared.document.DocRow.{DocRow}
use Rattle.alta_meaning.specs.Chain.{◌>>=◌}
use Rattle.alta_meaning.specs.Holding.{Holding, taken_by_held, all_rows, IsSpaced}
use Rattle.alta_meaning.specs.Ordered.{Precedes, RowsPrecede}
use Rattle.alta_meaning.specs.Working.{Full, Placed, in_front, placed, placed_levels, placed_list, held_then, switched, written, content_to_come, documents_in}
use Rattle.alta_content.specs.Joining.{rows_in}
use Rattle.alta_meaning.proofs.CellLaws.{AreSorted, doc_of, content_documents, cells_sorted}
use Rattle.alta_meaning.proofs.KnownLaws.{all_weaker, all_both}
use Rattle.alta_content.proofs.Elements.{all_left, all_right}
use Rattle.alta_meaning.proofs.ReadLaws.{IsBehindAll, rise_apart}

-- ---- lists

filter_two : {X : Type 0} (p q r : X → Bool) (xs : List X) → All (λ x. r x ≡ (p x && q x)) xs → filter q (filter p xs) ≡ filter r xs
filter_two p q r [] all = refl
filter_two {X} p q r (x ∷ xs) all =
    let here = All-head (λ x. r x ≡ (p x && q x)) x xs all in
    let rest = filter_two p q r xs (All-tail (λ x. r x ≡ (p x && q x)) x xs all) in
    by_test (p x)
    (λ first. by_test (q x)
    (λ second. ap (filter q) (filter_keep p x xs first) ∙ filter_keep q x (filter p xs) second ∙ ap (λ (ys : List X). x ∷ ys) rest ∙ sym (filter_keep r x xs (here ∙ both (p x) (q x) first second)))
    (λ fails. ap (filter q) (filter_keep p x xs first) ∙ filter_drop q x (filter p xs) fails ∙ rest ∙ sym (filter_drop r x xs (here ∙ second_fails (p x) (q x) first fails))))
    (λ fails. ap (filter q) (filter_drop p x xs fails) ∙ rest ∙ sym (filter_drop r x xs (here ∙ first_fails (p x) (q x) fails)))
  where
    both : (a b : Bool) → a ≡ true → b ≡ true → (a && b) ≡ true
    both true b e f = f
    both false b e f = e

    second_fails : (a b : Bool) → a ≡ true → b ≡ false → (a && b) ≡ false
    second_fails true b e f = f
    second_fails false b e f = refl

    first_fails : (a b : Bool) → a ≡ false → (a && b) ≡ false
    first_fails true b e = absurd cc
    first_fails false b e = refl

pub map_filter : {X Y : Type 0} (f : X → Y) (p : Y → Bool) (xs : List X) → map f (filter (λ x. p (f x)) xs) ≡ filter p (map f xs)
map_filter f p [] = refl
map_filter {X} {Y} f p (x ∷ xs) =
    by_test (p (f x))
    (λ keeps. ap (map f) (filter_keep (λ x. p (f x)) x xs keeps) ∙ ap (λ (ys : List Y). f x ∷ ys) (map_filter f p xs) ∙ sym (filter_keep p (f x) (map f xs) keeps))
    (λ drops. ap (map f) (filter_drop (λ x. p (f x)) x xs drops) ∙ map_filter f p xs ∙ sym (filter_drop p (f x) (map f xs) drops))

pub unmap : {X Y : Type 0} (P : Y → Type 0) (f : X → Y) (xs : List X) → All P (map f xs) → All (λ x. P (f x)) xs
unmap P f [] all = All-nil (λ x. P (f x))
unmap P f (x ∷ xs) all = All-cons (λ x. P (f x)) x xs (All-head P (f x) (map f xs) all) (unmap P f xs (All-tail P (f x) (map f xs) all))

not_or : (a b c : Bool) → a ≡ c → not (a || b) ≡ (not c && not b)
not_or true b true e = refl
not_or true b false e = absurd cc
not_or false b true e = absurd cc
not_or false b false e = refl

eq_swap : (a b : ℕ) → (a == b) ≡ (b == a)
eq_swap a b =
    by_test (a == b) (λ same. same ∙ sym (equal_test b a (sym (equal_from a b same))))
    (λ other. other ∙ sym (apart_test b a (λ e. false≢true (sym other ∙ equal_test a b (sym e)))))

-- ---- what entries leave

-- an entry leaves out the document with this number
abbrev pub left_out : List Entry → ℕ → Bool
left_out entries number = list_any (leaves_out number) entries

abbrev pub stay : List Entry → Document → Bool
stay entries d = not (left_out entries d.number)

pub added_high : (number location : ℕ) (entries : List Entry) → All (λ (a : Added). number ≤ a.row.number) (added_from number location entries)
added_high number location [] = All-nil (λ (a : Added). number ≤ a.row.number)
added_high number location (Add name title body ∷ entries) =
    let more = added_from (number + 1) (location + length (cells_of name title body)) entries in
    All-cons (λ (a : Added). number ≤ a.row.number) (added_at number location name (cells_of name title body)) more (omega arith)
    (all_weaker (λ (a : Added). number + 1 ≤ a.row.number) (λ (a : Added). number ≤ a.row.number) more (λ a le. omega (arith, le)) (added_high (number + 1) (location + length (cells_of name title body)) entries))
added_high number location (Delete n ∷ entries) = added_high number location entries
added_high number location (Replace n name title body ∷ entries) =
    let more = added_from (number + 1) (location + length (cells_of name title body)) entries in
    All-cons (λ (a : Added). number ≤ a.row.number) (added_at number location name (cells_of name title body)) more (omega arith)
    (all_weaker (λ (a : Added). number + 1 ≤ a.row.number) (λ (a : Added). number ≤ a.row.number) more (λ a le. omega (arith, le)) (added_high (number + 1) (location + length (cells_of name title body)) entries))

number_below : (n next : ℕ) (ds : List Document) → list_any (λ (d : Document). d.number == n) ds ≡ true → All (λ (d : Document). d.number < next) ds → n < next
number_below n next [] has all = absurd (false≢true has)
number_below n next (d ∷ ds) has all =
    by_test (d.number == n) (λ same. let is : d.number ≡ n = equal_from d.number n same in omega (arith, is, All-head (λ (d : Document). d.number < next) d ds all))
    (λ other. number_below n next ds (sym (or_last (d.number == n) (list_any (λ (d : Document). d.number == n) ds) other) ∙ has) (All-tail (λ (d : Document). d.number < next) d ds all))

-- a document with the name and the number is one with the number
pub by_number : (name : List ℕ) (n : ℕ) (ds : List Document) → list_any (λ (d : Document). bytes_eq name d.name && d.number == n) ds ≡ true → list_any (λ (d : Document). d.number == n) ds ≡ true
by_number name n [] has = has
by_number name n (d ∷ ds) has =
    by_test (bytes_eq name d.name && d.number == n) (λ here. or_first (d.number == n) (list_any (λ (d : Document). d.number == n) ds) (and_right (bytes_eq name d.name) (d.number == n) here))
    (λ there. or_right (d.number == n) (list_any (λ (d : Document). d.number == n) ds)
    (by_number name n ds (sym (or_last (bytes_eq name d.name && d.number == n) (list_any (λ (d : Document). bytes_eq name d.name && d.number == n) ds) there) ∙ has)))

-- the document of an entry
abbrev new_document : ℕ → List ℕ → List ℕ → List ℕ → Document
new_document number name title body = record { number = number; name = name; cells = cells_of name title body }

-- all are below the next number, and one more is then
below_more : (next : ℕ) (ds : List Document) (name title body : List ℕ) → All (λ (d : Document). d.number < next) ds → All (λ (d : Document). d.number < next + 1) (ds ++ new_document next name title body ∷ [])
below_more next ds name title body below =
    All-append (λ (d : Document). d.number < next + 1) ds (new_document next name title body ∷ []) (all_weaker (λ (d : Document). d.number < next) (λ (d : Document). d.number < next + 1) ds (λ d less. omega (arith, less)) below)
    (All-cons (λ (d : Document). d.number < next + 1) (new_document next name title body) [] (omega arith) (All-nil (λ (d : Document). d.number < next + 1)))

-- an entry that leaves out a small number leaves out no new document
leaves_old : (n next : ℕ) (entries : List Entry) (documents new : List Document) (p : Document → Bool) → n < next → All (λ (d : Document). next ≤ d.number) new
    → ((d : Document) → p d ≡ (not (n == d.number) && stay entries d))
    → filter (stay entries) (filter (λ (d : Document). not (d.number == n)) documents ++ new) ≡ filter p (documents ++ new)
leaves_old n next entries documents new p small high is =
    let other : Document → Bool = λ d. not (d.number == n) in
    filter-append (stay entries) (filter other documents) new
    ∙ ap (λ (ds : List Document). ds ++ filter (stay entries) new)
    (filter_two other (stay entries) p documents (all_of documents (λ d. is d ∙ ap (λ (b : Bool). not b && stay entries d) (eq_swap n d.number))))
    ∙ ap (λ (ds : List Document). filter p documents ++ ds)
    (filter_alike (stay entries) p new
    (all_weaker (λ (d : Document). next ≤ d.number) (λ (d : Document). stay entries d ≡ p d) new
    (λ d le. sym (is d ∙ ap (λ (b : Bool). not b && stay entries d) (apart_test n d.number (λ e. omega (arith, e, le, small))))) high))
    ∙ sym (filter-append p documents new)
  where
    all_of : {P : Document → Type 0} (ds : List Document) → ((d : Document) → P d) → All P ds
    all_of {P} [] each = All-nil P
    all_of {P} (d ∷ ds) each = All-cons P d ds (each d) (all_of ds each)

documents_high : (number location : ℕ) (entries : List Entry) → All (λ (d : Document). number ≤ d.number) (map doc_of (added_from number location entries))
documents_high number location entries = All-map (λ (d : Document). number ≤ d.number) doc_of (added_from number location entries) (added_high number location entries)

-- the documents behind entries are those of before and the added ones, without those that an entry leaves out
pub after_documents : (s : State) (entries : List Entry) (location : ℕ) → All (λ (d : Document). d.number < s.next) s.documents → AllowsAll s entries
    → (after_entries s entries).documents ≡ filter (stay entries) (s.documents ++ map doc_of (added_from s.next location entries))
after_documents s [] location below all = sym (filter_all (s.documents ++ []) ∙ append-nil s.documents)
after_documents s (Add name title body ∷ entries) location below all =
    let cells = cells_of name title body in
    after_documents (after_entry s (Add name title body)) entries (location + length cells) (below_more s.next s.documents name title body below) all.1
    ∙ ap (filter (stay entries)) (append_assoc s.documents (new_document s.next name title body ∷ []) (map doc_of (added_from (s.next + 1) (location + length cells) entries)))
after_documents s (Delete n ∷ entries) location below all =
    let other : Document → Bool = λ d. not (d.number == n) in
    after_documents (after_entry s (Delete n)) entries location (All-filter other (λ (d : Document). d.number < s.next) s.documents below) all.1
    ∙ leaves_old n s.next entries s.documents (map doc_of (added_from s.next location entries)) (stay (Delete n ∷ entries)) (number_below n s.next s.documents all.0 below)
    (documents_high s.next location entries) (λ d. not_or (n == d.number) (left_out entries d.number) (n == d.number) refl)
after_documents s (Replace n name title body ∷ entries) location below all =
    let other : Document → Bool = λ d. not (d.number == n) in
    let cells = cells_of name title body in
    let first = new_document s.next name title body in
    let more = map doc_of (added_from (s.next + 1) (location + length cells) entries) in
    after_documents (after_entry s (Replace n name title body)) entries (location + length cells)
    (below_more s.next (filter other s.documents) name title body (All-filter other (λ (d : Document). d.number < s.next) s.documents below)) all.1
    ∙ ap (filter (stay entries)) (append_assoc (filter other s.documents) (first ∷ []) more)
    ∙ leaves_old n s.next entries s.documents (first ∷ more) (stay (Replace n name title body ∷ entries)) (number_below n s.next s.documents (by_number name n s.documents all.0.0) below)
    (All-cons (λ (d : Document). s.next ≤ d.number) first more (omega arith)
    (all_weaker (λ (d : Document). s.next + 1 ≤ d.number) (λ (d : Document). s.next ≤ d.number) more (λ d le. omega (arith, le)) (documents_high (s.next + 1) (location + length cells) entries)))
    (λ d. not_or (n == d.number) (left_out entries d.number) (n == d.number) refl)

after_next : (s : State) (entries : List Entry) (location : ℕ) → (after_entries s entries).next ≡ s.next + length (added_from s.next location entries)
after_next s [] location = omega arith
after_next s (Add name title body ∷ entries) location =
    let more = after_next (after_entry s (Add name title body)) entries (location + length (cells_of name title body)) in omega (arith, more)
after_next s (Delete n ∷ entries) location = after_next (after_entry s (Delete n)) entries location
after_next s (Replace n name title body ∷ entries) location =
    let more = after_next (after_entry s (Replace n name title body)) entries (location + length (cells_of name title body)) in omega (arith, more)

-- ---- gone ends

ends_in : (DocRow → Bool) → List DocRow → List ℕ
ends_in p rows = map end_of (filter p rows)

none_among : (p : DocRow → Bool) (rows : List DocRow) (row : DocRow) → All (λ (r : DocRow). end_of r ≢ end_of row) rows → ends_among (map end_of (filter p rows)) row ≡ false
none_among p [] row all = refl
none_among p (r ∷ rows) row all =
    let rest = none_among p rows row (All-tail (λ (r : DocRow). end_of r ≢ end_of row) r rows all) in
    by_test (p r)
    (λ keeps. ap (λ (rs : List DocRow). ends_among (map end_of rs) row) (filter_keep p r rows keeps)
    ∙ or_neither (nat_eq (end_of r) (end_of row)) (ends_among (map end_of (filter p rows)) row) (ne_eqb (end_of r) (end_of row) (All-head (λ (r : DocRow). end_of r ≢ end_of row) r rows all)) rest)
    (λ drops. ap (λ (rs : List DocRow). ends_among (map end_of rs) row) (filter_drop p r rows drops) ∙ rest)

-- a row among others with other ends: its end is kept where it passes the test
one_among : (p : DocRow → Bool) (front behind : List DocRow) (row : DocRow) → All (λ (r : DocRow). end_of r ≢ end_of row) front → All (λ (r : DocRow). end_of r ≢ end_of row) behind
    → ends_among (map end_of (filter p (front ++ row ∷ behind))) row ≡ p row
one_among p front behind row before after =
    ap (λ (rs : List DocRow). ends_among (map end_of rs) row) (filter-append p front (row ∷ behind))
    ∙ ap (λ (es : List ℕ). ends_among es row) (map-append end_of (filter p front) (filter p (row ∷ behind)))
    ∙ list_any-append (λ end. nat_eq end (end_of row)) (map end_of (filter p front)) (map end_of (filter p (row ∷ behind)))
    ∙ or_last (ends_among (map end_of (filter p front)) row) (ends_among (map end_of (filter p (row ∷ behind))) row) (none_among p front row before) ∙ at_row
  where
    at_row : ends_among (map end_of (filter p (row ∷ behind))) row ≡ p row
    at_row =
        by_test (p row)
        (λ keeps. ap (λ (rs : List DocRow). ends_among (map end_of rs) row) (filter_keep p row behind keeps) ∙ ap (λ b. b || ends_among (map end_of (filter p behind)) row) (eq-eqb (end_of row) (end_of row) refl) ∙ sym keeps)
        (λ drops. ap (λ (rs : List DocRow). ends_among (map end_of rs) row) (filter_drop p row behind drops) ∙ none_among p behind row after ∙ sym drops)

abbrev pub IsFilled : DocRow → Type 0
IsFilled row = 1 ≤ row.cells

rise_right : (xs ys : List DocRow) → RowsPrecede (xs ++ ys) → RowsPrecede ys
rise_right [] ys rise = rise
rise_right (x ∷ xs) ys rise = rise_right xs ys rise.1

-- of rows that rise, each one's end is kept where it passes the test
pub ends_kept : (p : DocRow → Bool) (front rows : List DocRow) → RowsPrecede (front ++ rows) → All IsFilled (front ++ rows) → All (λ (row : DocRow). ends_among (map end_of (filter p (front ++ rows))) row ≡ p row) rows
ends_kept p front [] rise filled = All-nil (λ (row : DocRow). ends_among (map end_of (filter p (front ++ []))) row ≡ p row)
ends_kept p front (row ∷ rows) rise filled =
    let some : IsFilled row = All-head IsFilled row rows (all_right IsFilled front (row ∷ rows) filled) in
    let same : (front ++ row ∷ []) ++ rows ≡ front ++ row ∷ rows = append_assoc front (row ∷ []) rows in
    All-cons (λ (r : DocRow). ends_among (map end_of (filter p (front ++ row ∷ rows))) r ≡ p r) row rows
    (one_among p front rows row
    (all_weaker (λ (r : DocRow). Precedes r row) (λ (r : DocRow). end_of r ≢ end_of row) front (λ r before e. omega (arith, before.1, e, some)) (All-head (IsBehindAll front) row rows (rise_apart front (row ∷ rows) rise)))
    (all_weaker (λ (r : DocRow). Precedes row r × IsFilled r) (λ (r : DocRow). end_of r ≢ end_of row) rows (λ r both e. omega (arith, both.0.1, both.1, e))
    (all_both (Precedes row) IsFilled rows (rise_right front (row ∷ rows) rise).0 (All-tail IsFilled row rows (all_right IsFilled front (row ∷ rows) filled)))))
    (subst (λ (rs : List DocRow). All (λ (r : DocRow). ends_among (map end_of (filter p rs)) r ≡ p r) rows) same
    (ends_kept p (front ++ row ∷ []) rows (subst RowsPrecede (sym same) rise) (subst (All IsFilled) (sym same) filled)))

-- ---- the levels

-- these ends are those of the rows that are gone
abbrev pub AreGone : View → List ℕ → List DocRow → Type 0
AreGone view ends rows = All (λ (row : DocRow). ends_among ends row ≡ is_gone view row) rows

content_kept : (view : View) (ends : List ℕ) (c : Content) → AreGone view ends c.documents → documents_in ends c ≡ filter (stay view.entries) (documents_in view.deleted c)
content_kept view ends c are =
    ap (map (document_of c.lists))
    (sym (filter_two (λ (r : DocRow). not (ends_among view.deleted r)) (λ (r : DocRow). not (left_out view.entries r.number)) (λ (r : DocRow). not (ends_among ends r)) c.documents
    (all_weaker (λ (r : DocRow). ends_among ends r ≡ is_gone view r) (λ (r : DocRow). not (ends_among ends r) ≡ (not (ends_among view.deleted r) && not (left_out view.entries r.number))) c.documents
    (λ r is. ap not is ∙ not_or (ends_among view.deleted r) (left_out view.entries r.number) (ends_among view.deleted r) refl) are)))
    ∙ map_filter (document_of c.lists) (stay view.entries) (live_rows view.deleted c.documents)

pub contents_kept : (view : View) (ends : List ℕ) (cs : List Content) → AreGone view ends (rows_in cs) → flat_map (documents_in ends) cs ≡ filter (stay view.entries) (flat_map (documents_in view.deleted) cs)
contents_kept view ends [] are = refl
contents_kept view ends (c ∷ cs) are =
    ap (λ (ds : List Document). ds ++ flat_map (documents_in ends) cs) (content_kept view ends c (all_left (λ (row : DocRow). ends_among ends row ≡ is_gone view row) c.documents (rows_in cs) are))
    ∙ ap (λ (ds : List Document). filter (stay view.entries) (documents_in view.deleted c) ++ ds) (contents_kept view ends cs (all_right (λ (row : DocRow). ends_among ends row ≡ is_gone view row) c.documents (rows_in cs) are))
    ∙ sym (filter-append (stay view.entries) (documents_in view.deleted c) (flat_map (documents_in view.deleted) cs))

-- ---- a switch

abbrev pub contents_of : List Level → List Content
contents_of levels = map (λ (l : Level). l.content) levels

pub ok_is : {A : Type 0} (x y : A) → ◌≡◌ {A = Result A Full} (Ok x) (Ok y) → x ≡ y
ok_is x y e = cc

pub err_ok : {A : Type 0} (x : A) (full : Full) → ◌≡◌ {A = Result A Full} (Err full) (Ok x) → ⊥
err_ok x full e = absurd cc

-- what is placed has the contents that come
pub placed_contents : (limit : ℕ) (taken : List Extent) (levels : List Coming) (now : Placed) → placed_levels limit taken levels ≡ Ok now → contents_of now.levels ≡ map content_to_come levels
placed_contents limit taken [] now e = ap (λ (p : Placed). contents_of p.levels) (sym (ok_is (record { levels = []; taken = taken }) now e))
placed_contents limit taken (stays level ∷ more) now e = by_rest (placed_levels limit taken more) refl (λ rest is. placed_contents limit taken more rest is) e
  where
    by_rest : (r : Result Placed Full) → placed_levels limit taken more ≡ r → ((rest : Placed) → placed_levels limit taken more ≡ Ok rest → contents_of rest.levels ≡ map content_to_come more)
        → (r >>= λ rest. Ok (in_front level rest)) ≡ Ok now → contents_of now.levels ≡ level.content ∷ map content_to_come more
    by_rest (Ok rest) is same e = ap (λ (p : Placed). contents_of p.levels) (sym (ok_is (in_front level rest) now e)) ∙ ap (λ (cs : List Content). level.content ∷ cs) (same rest is)
    by_rest (Err full) is same e = absurd (err_ok now full e)
placed_contents limit taken (anew content ∷ more) now e =
    by_place (placed taken (length (segment_bytes content)) limit) (λ extent rest is. placed_contents limit (taken ++ extent ∷ []) more rest is) e
  where
    by_rest : (extent : Extent) (r : Result Placed Full) → placed_levels limit (taken ++ extent ∷ []) more ≡ r → ((rest : Placed) → placed_levels limit (taken ++ extent ∷ []) more ≡ Ok rest → contents_of rest.levels ≡ map content_to_come more)
        → (r >>= λ rest. Ok (in_front (record { extent = extent; content = content }) rest)) ≡ Ok now → contents_of now.levels ≡ content ∷ map content_to_come more
    by_rest extent (Ok rest) is same e = ap (λ (p : Placed). contents_of p.levels) (sym (ok_is (in_front (record { extent = extent; content = content }) rest) now e)) ∙ ap (λ (cs : List Content). content ∷ cs) (same rest is)
    by_rest extent (Err full) is same e = absurd (err_ok now full e)

    by_place : (r : Result Extent Full) → ((extent : Extent) (rest : Placed) → placed_levels limit (taken ++ extent ∷ []) more ≡ Ok rest → contents_of rest.levels ≡ map content_to_come more)
        → (r >>= λ extent. placed_levels limit (taken ++ extent ∷ []) more >>= λ rest. Ok (in_front (record { extent = extent; content = content }) rest)) ≡ Ok now → contents_of now.levels ≡ content ∷ map content_to_come more
    by_place (Ok extent) same e = by_rest extent (placed_levels limit (taken ++ extent ∷ []) more) refl (same extent) e
    by_place (Err full) same e = absurd (err_ok now full e)

-- what a switch made
pub record IsSwitched (limit : ℕ) (held : Holding) (levels : List Coming) (job : Option Job) (then : Holding) : Type 0 where
  pub now : Placed
  pub placed_is : placed_levels limit (taken_by_held held) levels ≡ Ok now
  pub list : Extent
  pub list_is : placed_list limit held now.taken (gone_among held.view (level_rows now.levels)) ≡ Ok list
  pub then_is : then ≡ held_then held now.levels (gone_among held.view (level_rows now.levels)) list job

pub switched_is : (limit : ℕ) (held : Holding) (levels : List Coming) (job : Option Job) (then : Holding) → switched limit held levels job ≡ Ok then → IsSwitched limit held levels job then
switched_is limit held levels job then e = by_placed (placed_levels limit (taken_by_held held) levels) refl e
  where
    by_list : (now : Placed) → placed_levels limit (taken_by_held held) levels ≡ Ok now → (r : Result Extent Full) → placed_list limit held now.taken (gone_among held.view (level_rows now.levels)) ≡ r
        → (r >>= λ list. Ok (held_then held now.levels (gone_among held.view (level_rows now.levels)) list job)) ≡ Ok then → IsSwitched limit held levels job then
    by_list now is (Ok list) list_is e = record { now = now; placed_is = is; list = list; list_is = list_is; then_is = sym (ok_is (held_then held now.levels (gone_among held.view (level_rows now.levels)) list job) then e) }
    by_list now is (Err full) list_is e = absurd (err_ok then full e)

    by_placed : (r : Result Placed Full) → placed_levels limit (taken_by_held held) levels ≡ r
        → (r >>= λ now. placed_list limit held now.taken (gone_among held.view (level_rows now.levels)) >>= λ list. Ok (held_then held now.levels (gone_among held.view (level_rows now.levels)) list job)) ≡ Ok then
        → IsSwitched limit held levels job then
    by_placed (Ok now) is e = by_list now is (placed_list limit held now.taken (gone_among held.view (level_rows now.levels))) refl e
    by_placed (Err full) is e = absurd (err_ok then full e)

state_with : ℕ → List Document → State
state_with next documents = record { next = next; documents = documents }

-- A switch keeps the state where the contents that come have the documents of the state, without the ends that are gone then.
pub switch_keeps : (limit : ℕ) (held : Holding) (levels : List Coming) (job : Option Job) (then : Holding) → switched limit held levels job ≡ Ok then
    → flat_map (documents_in (gone_among held.view (rows_in (map content_to_come levels)))) (map content_to_come levels) ≡ (state_of held.view).documents → state_of then.view ≡ state_of held.view
unfolding state_with
switch_keeps limit held levels job then e same =
    let is = switched_is limit held levels job then e in
    let contents : contents_of is.now.levels ≡ map content_to_come levels = placed_contents limit (taken_by_held held) levels is.now is.placed_is in
    let rows : level_rows is.now.levels ≡ rows_in (map content_to_come levels) = sym (flat_map-map (λ (c : Content). c.documents) (λ (l : Level). l.content) is.now.levels) ∙ ap rows_in contents in
    let ends : List ℕ = gone_among held.view (level_rows is.now.levels) in
    ap (λ (h : Holding). state_of h.view) is.then_is
    ∙ ap (λ n. state_with n (flat_map (documents_of ends) is.now.levels)) (sym (after_next (rooted held.view) held.view.entries held.view.location))
    ∙ ap (state_with (state_of held.view).next)
    (sym (flat_map-map (documents_in ends) (λ (l : Level). l.content) is.now.levels) ∙ ap (flat_map (documents_in ends)) contents
    ∙ ap (λ (rs : List DocRow). flat_map (documents_in (gone_among held.view rs)) (map content_to_come levels)) rows ∙ same)

-- ---- the newest documents

pub added_sorted : (number location : ℕ) (entries : List Entry) → All AreSorted (added_from number location entries)
added_sorted number location [] = All-nil AreSorted
added_sorted number location (Add name title body ∷ entries) =
    All-cons AreSorted (added_at number location name (cells_of name title body)) (added_from (number + 1) (location + length (cells_of name title body)) entries) (cells_sorted name title body)
    (added_sorted (number + 1) (location + length (cells_of name title body)) entries)
added_sorted number location (Delete n ∷ entries) = added_sorted number location entries
added_sorted number location (Replace n name title body ∷ entries) =
    All-cons AreSorted (added_at number location name (cells_of name title body)) (added_from (number + 1) (location + length (cells_of name title body)) entries) (cells_sorted name title body)
    (added_sorted (number + 1) (location + length (cells_of name title body)) entries)

pub added_behind : (number location : ℕ) (entries : List Entry) → All (λ (a : Added). location ≤ a.row.first) (added_from number location entries)
added_behind number location [] = All-nil (λ (a : Added). location ≤ a.row.first)
added_behind number location (Add name title body ∷ entries) =
    let cells = cells_of name title body in
    let more = added_from (number + 1) (location + length cells) entries in
    All-cons (λ (a : Added). location ≤ a.row.first) (added_at number location name cells) more (omega arith)
    (all_weaker (λ (a : Added). location + length cells ≤ a.row.first) (λ (a : Added). location ≤ a.row.first) more (λ a le. omega (arith, le)) (added_behind (number + 1) (location + length cells) entries))
added_behind number location (Delete n ∷ entries) = added_behind number location entries
added_behind number location (Replace n name title body ∷ entries) =
    let cells = cells_of name title body in
    let more = added_from (number + 1) (location + length cells) entries in
    All-cons (λ (a : Added). location ≤ a.row.first) (added_at number location name cells) more (omega arith)
    (all_weaker (λ (a : Added). location + length cells ≤ a.row.first) (λ (a : Added). location ≤ a.row.first) more (λ a le. omega (arith, le)) (added_behind (number + 1) (location + length cells) entries))

pub space_left : (p : Added → Bool) (added : List Added) → IsSpace added → IsSpace (filter p added)
space_left p [] space = tt
space_left p (a ∷ more) space =
    by_test (p a)
    (λ keeps. subst IsSpace (sym (filter_keep p a more keeps))
    (space.0, All-filter p (λ (b : Added). a.row.number < b.row.number) more space.1, All-filter p (λ (b : Added). end_of a.row < b.row.first) more space.2, space_left p more space.3))
    (λ drops. subst IsSpace (sym (filter_drop p a more drops)) (space_left p more space.3))

pub rise_left : (p : DocRow → Bool) (rows : List DocRow) → RowsPrecede rows → RowsPrecede (filter p rows)
rise_left p [] rise = tt
rise_left p (row ∷ rows) rise =
    by_test (p row) (λ keeps. subst RowsPrecede (sym (filter_keep p row rows keeps)) (All-filter p (Precedes row) rows rise.0, rise_left p rows rise.1))
    (λ drops. subst RowsPrecede (sym (filter_drop p row rows drops)) (rise_left p rows rise.1))

pub rise_some : (p : DocRow → Bool) (xs ys : List DocRow) → RowsPrecede (xs ++ ys) → RowsPrecede (xs ++ filter p ys)
rise_some p [] ys rise = rise_left p ys rise
rise_some p (x ∷ xs) ys rise =
    (All-append (Precedes x) xs (filter p ys) (all_left (Precedes x) xs ys rise.0) (All-filter p (Precedes x) ys (all_right (Precedes x) xs ys rise.0)), rise_some p xs ys rise.1)

none_deleted : (deleted : List ℕ) (location : ℕ) (row : DocRow) → All (λ end. end < location) deleted → location ≤ row.first → 1 ≤ row.cells → ends_among deleted row ≡ false
none_deleted [] location row below behind some = refl
none_deleted (end ∷ deleted) location row below behind some =
    or_neither (nat_eq end (end_of row)) (ends_among deleted row) (ne_eqb end (end_of row) (λ e. omega (arith, e, All-head (λ end. end < location) end deleted below, behind, some)))
    (none_deleted deleted location row (All-tail (λ end. end < location) end deleted below) behind some)

module _ (view : View) (spaced : IsSpaced view) where
  -- the gone ends are those of the rows that are gone
  pub gone_are : AreGone view (gone view) (all_rows view)
  gone_are = ends_kept (is_gone view) [] (all_rows view) spaced.rise spaced.filled

  -- a newest document is gone where an entry leaves it out
  newest_gone : All (λ (a : Added). is_gone view a.row ≡ left_out view.entries a.row.number) (newest view)
  newest_gone =
      all_weaker (λ (a : Added). (view.location ≤ a.row.first) × (1 ≤ a.row.cells)) (λ (a : Added). is_gone view a.row ≡ left_out view.entries a.row.number) (newest view)
      (λ a both. or_last (ends_among view.deleted a.row) (left_out view.entries a.row.number) (none_deleted view.deleted view.location a.row spaced.deleted both.0 both.1))
      (all_both (λ (a : Added). view.location ≤ a.row.first) (λ (a : Added). 1 ≤ a.row.cells) (newest view) (added_behind view.next view.location view.entries)
      (unmap IsFilled (λ (a : Added). a.row) (newest view) (all_right IsFilled (level_rows view.levels) (map (λ (a : Added). a.row) (newest view)) spaced.filled)))

  pub newest_kept : All (λ (a : Added). ends_among (gone view) a.row ≡ left_out view.entries a.row.number) (newest view)
  newest_kept =
      all_weaker (λ (a : Added). (ends_among (gone view) a.row ≡ is_gone view a.row) × (is_gone view a.row ≡ left_out view.entries a.row.number)) (λ (a : Added). ends_among (gone view) a.row ≡ left_out view.entries a.row.number) (newest view)
      (λ a both. both.0 ∙ both.1)
      (all_both (λ (a : Added). ends_among (gone view) a.row ≡ is_gone view a.row) (λ (a : Added). is_gone view a.row ≡ left_out view.entries a.row.number) (newest view)
      (unmap (λ (r : DocRow). ends_among (gone view) r ≡ is_gone view r) (λ (a : Added). a.row) (newest view)
      (all_right (λ (r : DocRow). ends_among (gone view) r ≡ is_gone view r) (level_rows view.levels) (map (λ (a : Added). a.row) (newest view)) gone_are)) newest_gone)

  -- the documents of the newest that are not gone
  live_documents : map doc_of (live_of (gone view) (newest view)) ≡ filter (stay view.entries) (map doc_of (newest view))
  live_documents =
      ap (map doc_of)
      (filter_alike (λ (a : Added). not (ends_among (gone view) a.row)) (λ (a : Added). not (left_out view.entries a.row.number)) (newest view)
      (all_weaker (λ (a : Added). ends_among (gone view) a.row ≡ left_out view.entries a.row.number) (λ (a : Added). not (ends_among (gone view) a.row) ≡ not (left_out view.entries a.row.number)) (newest view) (λ a is. ap not is) newest_kept))
      ∙ map_filter doc_of (stay view.entries) (newest view)

  -- the rows of the newest that are not gone
  pub live_rows_are : map (λ (a : Added). a.row) (live_of (gone view) (newest view)) ≡ filter (λ (r : DocRow). not (ends_among (gone view) r)) (map (λ (a : Added). a.row) (newest view))
  live_rows_are = map_filter (λ (a : Added). a.row) (λ (r : DocRow). not (ends_among (gone view) r)) (newest view)

  -- none of them is gone
  none_gone : All (λ (a : Added). is_gone view a.row ≡ false) (live_of (gone view) (newest view))
  none_gone =
      all_weaker (λ (a : Added). (not (ends_among (gone view) a.row) ≡ true) × (ends_among (gone view) a.row ≡ is_gone view a.row)) (λ (a : Added). is_gone view a.row ≡ false) (live_of (gone view) (newest view))
      (λ a both. sym both.1 ∙ not_true (ends_among (gone view) a.row) both.0)
      (all_both (λ (a : Added). not (ends_among (gone view) a.row) ≡ true) (λ (a : Added). ends_among (gone view) a.row ≡ is_gone view a.row) (live_of (gone view) (newest view))
      (filter_passes (λ (a : Added). not (ends_among (gone view) a.row)) (newest view))
      (All-filter (λ (a : Added). not (ends_among (gone view) a.row)) (λ (a : Added). ends_among (gone view) a.row ≡ is_gone view a.row) (newest view)
      (unmap (λ (r : DocRow). ends_among (gone view) r ≡ is_gone view r) (λ (a : Added). a.row) (newest view)
      (all_right (λ (r : DocRow). ends_among (gone view) r ≡ is_gone view r) (level_rows view.levels) (map (λ (a : Added). a.row) (newest view)) gone_are))))
    where
      not_true : (b : Bool) → not b ≡ true → b ≡ false
      not_true true e = absurd (false≢true e)
      not_true false e = refl

  -- the newest content has the newest documents that are left
  newest_documents : (ends : List ℕ) → AreGone view ends (newest_content view).documents → documents_in ends (newest_content view) ≡ filter (stay view.entries) (map doc_of (newest view))
  newest_documents ends are =
      let live = live_of (gone view) (newest view) in
      let rows = map (λ (a : Added). a.row) live in
      ap (map (document_of (newest_content view).lists))
      (filter_alike (λ (r : DocRow). not (ends_among ends r)) (λ (r : DocRow). true) rows
      (all_weaker (λ (r : DocRow). (ends_among ends r ≡ is_gone view r) × (is_gone view r ≡ false)) (λ (r : DocRow). not (ends_among ends r) ≡ true) rows (λ r both. ap not (both.0 ∙ both.1))
      (all_both (λ (r : DocRow). ends_among ends r ≡ is_gone view r) (λ (r : DocRow). is_gone view r ≡ false) rows are (All-map (λ (r : DocRow). is_gone view r ≡ false) (λ (a : Added). a.row) live none_gone)))
      ∙ filter_all rows)
      ∙ content_documents live (space_left (λ (a : Added). not (ends_among (gone view) a.row)) (newest view) spaced.space)
      (All-filter (λ (a : Added). not (ends_among (gone view) a.row)) AreSorted (newest view) (added_sorted view.next view.location view.entries))
      ∙ live_documents

  -- ---- a flush
  abbrev pub flushing : List Content
  flushing = contents_of view.levels ++ newest_content view ∷ []

  pub flushing_rows : rows_in flushing ≡ level_rows view.levels ++ filter (λ (r : DocRow). not (ends_among (gone view) r)) (map (λ (a : Added). a.row) (newest view))
  flushing_rows =
      flat_map-append (λ (c : Content). c.documents) (contents_of view.levels) (newest_content view ∷ [])
      ∙ ap (λ (rs : List DocRow). rs ++ rows_in (newest_content view ∷ [])) (flat_map-map (λ (c : Content). c.documents) (λ (l : Level). l.content) view.levels)
      ∙ ap (λ (rs : List DocRow). level_rows view.levels ++ rs) (append-nil (newest_content view).documents ∙ live_rows_are)

  flushing_gone : AreGone view (gone_among view (rows_in flushing)) (rows_in flushing)
  flushing_gone =
      ends_kept (is_gone view) [] (rows_in flushing)
      (subst RowsPrecede (sym flushing_rows) (rise_some (λ (r : DocRow). not (ends_among (gone view) r)) (level_rows view.levels) (map (λ (a : Added). a.row) (newest view)) spaced.rise))
      (subst (All IsFilled) (sym flushing_rows)
      (All-append IsFilled (level_rows view.levels) (filter (λ (r : DocRow). not (ends_among (gone view) r)) (map (λ (a : Added). a.row) (newest view)))
      (all_left IsFilled (level_rows view.levels) (map (λ (a : Added). a.row) (newest view)) spaced.filled)
      (All-filter (λ (r : DocRow). not (ends_among (gone view) r)) IsFilled (map (λ (a : Added). a.row) (newest view))
      (all_right IsFilled (level_rows view.levels) (map (λ (a : Added). a.row) (newest view)) spaced.filled))))

  pub flushing_documents_by : (ends : List ℕ) → AreGone view ends (rows_in flushing) → flat_map (documents_in ends) flushing ≡ (state_of view).documents
  flushing_documents_by ends are =
      let gone_rows : AreGone view ends (rows_in (contents_of view.levels) ++ rows_in (newest_content view ∷ [])) =
      subst (AreGone view ends) (flat_map-append (λ (c : Content). c.documents) (contents_of view.levels) (newest_content view ∷ [])) are in
      let P : DocRow → Type 0 = λ row. ends_among ends row ≡ is_gone view row in
      flat_map-append (documents_in ends) (contents_of view.levels) (newest_content view ∷ [])
      ∙ ap (λ (ds : List Document). ds ++ flat_map (documents_in ends) (newest_content view ∷ []))
      (contents_kept view ends (contents_of view.levels) (all_left P (rows_in (contents_of view.levels)) (rows_in (newest_content view ∷ [])) gone_rows))
      ∙ ap (λ (ds : List Document). filter (stay view.entries) (flat_map (documents_in view.deleted) (contents_of view.levels)) ++ ds)
      (append-nil (documents_in ends (newest_content view))
      ∙ newest_documents ends (subst (AreGone view ends) (append-nil (newest_content view).documents) (all_right P (rows_in (contents_of view.levels)) (rows_in (newest_content view ∷ [])) gone_rows)))
      ∙ ap (λ (ds : List Document). filter (stay view.entries) ds ++ filter (stay view.entries) (map doc_of (newest view))) (flat_map-map (documents_in view.deleted) (λ (l : Level). l.content) view.levels)
      ∙ sym (filter-append (stay view.entries) (rooted view).documents (map doc_of (newest view)))
      ∙ sym (after_documents (rooted view) view.entries view.location spaced.numbers spaced.allowed)

  flushing_documents : flat_map (documents_in (gone_among view (rows_in flushing))) flushing ≡ (state_of view).documents
  flushing_documents = flushing_documents_by (gone_among view (rows_in flushing)) flushing_gone

-- a content without rows makes no level, and has no documents
pub no_rows : (c : Content) → (length c.documents == 0) ≡ true → c.documents ≡ []
no_rows c none = empty c.documents (equal_from (length c.documents) 0 none)
  where
    empty : (rows : List DocRow) → length rows ≡ 0 → rows ≡ []
    empty [] e = refl
    empty (r ∷ rows) e = absurd (omega (arith, e))

pub stay_contents : (levels : List Level) → map content_to_come (map stays levels) ≡ contents_of levels
stay_contents [] = refl
stay_contents (l ∷ ls) = ap (λ (cs : List Content). l.content ∷ cs) (stay_contents ls)

-- the contents of a flush
abbrev pub flush_contents : View → List Content
flush_contents view = map content_to_come (map stays view.levels ++ coming (newest_content view))

pub flush_contents_are : (view : View) → (length (newest_content view).documents == 0) ≡ false → flush_contents view ≡ contents_of view.levels ++ newest_content view ∷ []
flush_contents_are view some =
    map-append content_to_come (map stays view.levels) (coming (newest_content view)) ∙ ap (λ (cs : List Content). cs ++ map content_to_come (coming (newest_content view))) (stay_contents view.levels)
    ∙ ap (λ b. contents_of view.levels ++ map content_to_come (cond b [] (anew (newest_content view) ∷ []))) some

pub flush_contents_none : (view : View) → (length (newest_content view).documents == 0) ≡ true → flush_contents view ≡ contents_of view.levels
flush_contents_none view none =
    map-append content_to_come (map stays view.levels) (coming (newest_content view)) ∙ ap (λ (cs : List Content). cs ++ map content_to_come (coming (newest_content view))) (stay_contents view.levels)
    ∙ ap (λ b. contents_of view.levels ++ map content_to_come (cond b [] (anew (newest_content view) ∷ []))) none ∙ append-nil (contents_of view.levels)

flush_documents : (view : View) → IsSpaced view → flat_map (documents_in (gone_among view (rows_in (flush_contents view)))) (flush_contents view) ≡ (state_of view).documents
flush_documents view spaced =
    by_test (length (newest_content view).documents == 0)
    (λ none. ap (λ (cs : List Content). flat_map (documents_in (gone_among view (rows_in cs))) cs) (flush_contents_none view none) ∙ sym (without view (no_rows (newest_content view) none)) ∙ flushing_documents view spaced)
    (λ some. ap (λ (cs : List Content). flat_map (documents_in (gone_among view (rows_in cs))) cs) (flush_contents_are view some) ∙ flushing_documents view spaced)
  where
    -- a content without rows adds nothing
    without : (view : View) → (newest_content view).documents ≡ []
        → flat_map (documents_in (gone_among view (rows_in (contents_of view.levels ++ newest_content view ∷ [])))) (contents_of view.levels ++ newest_content view ∷ []) ≡ flat_map (documents_in (gone_among view (rows_in (contents_of view.levels)))) (contents_of view.levels)
    without view none =
        let cs = contents_of view.levels in
        let c = newest_content view in
        let rows : rows_in (cs ++ c ∷ []) ≡ rows_in cs =
        flat_map-append (λ (c : Content). c.documents) cs (c ∷ []) ∙ ap (λ (rs : List DocRow). rows_in cs ++ rs) (append-nil c.documents ∙ none) ∙ append-nil (rows_in cs) in
        let ends = gone_among view (rows_in cs) in
        ap (λ (rs : List DocRow). flat_map (documents_in (gone_among view rs)) (cs ++ c ∷ [])) rows ∙ flat_map-append (documents_in ends) cs (c ∷ [])
        ∙ ap (λ (ds : List Document). flat_map (documents_in ends) cs ++ ds)
        (append-nil (documents_in ends c) ∙ ap (λ (rs : List DocRow). map (document_of c.lists) (live_rows ends rs)) none)
        ∙ append-nil (flat_map (documents_in ends) cs)

abbrev pub by_levels : ℕ → Holding → Bool → Result Holding Full
by_levels limit held b =
    cond b (switched limit held (with_oldest (oldest_joined held.job held.view) held.view) None)
    (switched limit held (map stays held.view.levels ++ coming (newest_content held.view)) held.job)

abbrev pub by_entries : ℕ → Holding → Bool → Result Holding Full
by_entries limit held b = cond b (Ok held) (written limit held)

-- What is written where no levels are joined is the same state.
pub written_keeps : (limit : ℕ) (held then : Holding) → IsSpaced held.view → (length held.view.levels == 16 && nat_le 1 (length (newest_content held.view).documents)) ≡ false
    → written limit held ≡ Ok then → state_of then.view ≡ state_of held.view
written_keeps limit held then spaced few e =
    switch_keeps limit held (map stays held.view.levels ++ coming (newest_content held.view)) held.job then (sym (ap (by_levels limit held) few) ∙ e) (flush_documents held.view spaced)

-- ---- rows of contents

pub rows_append : (cs : List Content) (c : Content) → rows_in (cs ++ c ∷ []) ≡ rows_in cs ++ c.documents
rows_append cs c = flat_map-append (λ (c : Content). c.documents) cs (c ∷ []) ∙ ap (λ (rs : List DocRow). rows_in cs ++ rs) (append-nil c.documents)

pub rows_by_levels : (levels : List Level) → rows_in (contents_of levels) ≡ level_rows levels
rows_by_levels levels = flat_map-map (λ (c : Content). c.documents) (λ (l : Level). l.content) levels
