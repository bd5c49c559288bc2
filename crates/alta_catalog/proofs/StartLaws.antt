-- What a catalog starts from: the documents of rows that rise.
use Rattle.std.proofs.Common.{◌≡◌, ℕ, ◌+◌, ◌-◌, ◌<◌, ◌≤◌, Bool, true, false, cond, not, List, [], ◌∷◌, ◌++◌, length, map, nat_eq, append_assoc, ⊎_elim, refl, sym, ◌∙◌, ap, subst, arith}
use Rattle.std.specs.Prelude.{◌||◌, Contains, Some, is_some}
use Rattle.std.specs.List.{All, list_all, list_any, sum_by}
use Rattle.std.specs.Str.{bytes_eq}
use Rattle.std.proofs.lemmas.Bool.{false≢true}
use Rattle.std.proofs.lemmas.List.{length-map}
use Rattle.std.proofs.lemmas.List.Elements.{All-nil, All-cons, All-head, All-push, All-tail, All-weaker}
use Rattle.std.proofs.lemmas.List.Sums.{sum_by-cons}
use Rattle.alta_content.specs.Rows.{AreDocuments, AreDocumentsBehind, Before, behind_row, end_of, ends_among, live_rows, start}
use Rattle.alta_content.specs.declared.document.DocRow.{DocRow}
use Rattle.alta_meaning.specs.Known.{Named, named, named_of}
use Rattle.alta_meaning.specs.Opened.{have_ends, live_in, table_rows}
use Rattle.alta_meaning.specs.Ordered.{AreOrdered, IsBefore}
use Rattle.alta_machine.specs.Changes.{word_count}
use Rattle.alta_meaning.proofs.Tests.{by_test, bytes_from, bytes_same, equal_from, filter_drop, filter_keep, and_left, and_right}
use Rattle.alta_memlevel.specs.Added.{Added, IsSpace}
use Rattle.alta_memlevel.specs.Documents.{document_in}
use Rattle.alta_machine.specs.declared.document.Document.{Document}
use Rattle.alta_table.specs.Tables.{Tables}
use Rattle.alta_catalog.specs.Counting.{cells_in, row_words}
use Rattle.alta_catalog.specs.Knowing.{AreFound, IsEndIn}
use Rattle.alta_meaning.specs.Names.{number_of}
use Rattle.alta_names.specs.Names.{Numbers}
use Rattle.alta_catalog.specs.Rows.{AreRowsOf, documents_left}
use Rattle.alta_catalog.proofs.SpaceLaws.{left_alive, left_dead}
use Rattle.alta_catalog.proofs.EndLaws.{here_or_there, no_member, there}

-- ---- documents of rows

abbrev pub row_of : Added → DocRow
row_of a = a.row

abbrev pub IsCounted : Added → Type 0
IsCounted a = length a.cells ≡ a.row.cells

-- the rows of documents rise as the rows do
pub lies_behind : (before : Before) (xs : List Added) → AreDocumentsBehind before (map row_of xs) → All (λ (a : Added). before.number < a.row.number) xs
unfolding AreDocumentsBehind
lies_behind before [] are = All-nil (λ (a : Added). before.number < a.row.number)
lies_behind before (a ∷ xs) are =
    All-cons (λ (b : Added). before.number < b.row.number) a xs are.0.rises
    (All-weaker (λ (b : Added). a.row.number < b.row.number) (λ (b : Added). before.number < b.row.number) (λ b lies. omega (arith, lies, are.0.rises)) xs (lies_behind (behind_row before a.row) xs are.1))

starts_behind : (before : Before) (xs : List Added) → AreDocumentsBehind before (map row_of xs) → All (λ (a : Added). before.end < a.row.first) xs
unfolding AreDocumentsBehind
starts_behind before [] are = All-nil (λ (a : Added). before.end < a.row.first)
starts_behind before (a ∷ xs) are =
    All-cons (λ (b : Added). before.end < b.row.first) a xs are.0.starts_behind
    (All-weaker (λ (b : Added). end_of a.row < b.row.first) (λ (b : Added). before.end < b.row.first) (λ b lies. omega (arith, lies, are.0.starts_behind, are.0.some_cells)) xs (starts_behind (behind_row before a.row) xs are.1))

space_behind : (before : Before) (xs : List Added) → AreDocumentsBehind before (map row_of xs) → All IsCounted xs → IsSpace xs
unfolding AreDocumentsBehind
space_behind before [] are counted = tt
space_behind before (a ∷ xs) are counted = (
  record {
    positive = omega (arith, are.0.starts_behind);
    some = omega (arith, are.0.some_cells);
    counted = sym (All-head IsCounted a xs counted);
    below = are.0.end_below;
  },
  lies_behind (behind_row before a.row) xs are.1,
  starts_behind (behind_row before a.row) xs are.1,
  space_behind (behind_row before a.row) xs are.1 (All-tail IsCounted a xs counted),
)

filled_behind : (before : Before) (xs : List Added) → AreDocumentsBehind before (map row_of xs) → All (λ (a : Added). 3 ≤ a.row.cells) xs
unfolding AreDocumentsBehind
filled_behind before [] are = All-nil (λ (a : Added). 3 ≤ a.row.cells)
filled_behind before (a ∷ xs) are = All-cons (λ (b : Added). 3 ≤ b.row.cells) a xs are.0.some_cells (filled_behind (behind_row before a.row) xs are.1)

-- what holds of each row holds of each document's row
pub all_rows : (P : DocRow → Type 0) (xs : List Added) → All P (map row_of xs) → All (λ (a : Added). P a.row) xs
all_rows P [] all = All-nil (λ (a : Added). P a.row)
all_rows P (a ∷ xs) all = All-cons (λ (b : Added). P b.row) a xs (All-head P a.row (map row_of xs) all) (all_rows P xs (All-tail P a.row (map row_of xs) all))

module _ (rows : List DocRow) (are : AreDocuments rows) (xs : List Added) (of : AreRowsOf rows xs) where
  abbrev stand : AreDocumentsBehind start (map row_of xs)
  stand = subst (AreDocumentsBehind start) (sym of.rows_are) are

  pub space_of : IsSpace xs
  space_of = space_behind start xs stand of.counted

  pub filled_of : All (λ (a : Added). 3 ≤ a.row.cells) xs
  filled_of = filled_behind start xs stand

-- ---- live documents of rows
live_drop : (gone : List ℕ) (row : DocRow) (rows : List DocRow) → ends_among gone row ≡ true → live_rows gone (row ∷ rows) ≡ live_rows gone rows
live_drop gone row rows dead = filter_drop (λ (r : DocRow). not (ends_among gone r)) row rows (ap not dead)

live_keep : (gone : List ℕ) (row : DocRow) (rows : List DocRow) → ends_among gone row ≡ false → live_rows gone (row ∷ rows) ≡ row ∷ live_rows gone rows
live_keep gone row rows alive = filter_keep (λ (r : DocRow). not (ends_among gone r)) row rows (ap not alive)

-- their names and numbers
pub live_named : (gone : List ℕ) (xs : List Added) → live_in gone (map row_of xs) ≡ map named_of (documents_left gone xs)
live_named gone [] = refl
live_named gone (a ∷ xs) =
    by_test (ends_among gone a.row)
    (λ dead.
    ap (λ (rs : List DocRow). map (λ (row : DocRow). named row.name row.number) rs) (live_drop gone a.row (map row_of xs) dead) ∙ live_named gone xs
    ∙ sym (ap (λ (ds : List Document). map named_of ds) (left_dead gone a xs dead)))
    (λ alive.
    ap (λ (rs : List DocRow). map (λ (row : DocRow). named row.name row.number) rs) (live_keep gone a.row (map row_of xs) alive)
    ∙ ap (λ (ns : List Named). named a.row.name a.row.number ∷ ns) (live_named gone xs)
    ∙ sym (ap (λ (ds : List Document). map named_of ds) (left_alive gone a xs alive)))

-- how many they are
pub live_long : (gone : List ℕ) (xs : List Added) → length (live_rows gone (map row_of xs)) ≡ length (documents_left gone xs)
live_long gone xs =
    sym (length-map (live_rows gone (map row_of xs)) (λ (row : DocRow). named row.name row.number)) ∙ ap (λ (ns : List Named). length ns) (live_named gone xs)
    ∙ length-map (documents_left gone xs) named_of

-- and how many words they have
pub live_words : (gone : List ℕ) (xs : List Added) → All IsCounted xs → sum_by row_words (live_rows gone (map row_of xs)) ≡ sum_by word_count (documents_left gone xs)
live_words gone [] counted = refl
live_words gone (a ∷ xs) counted =
    let rest = live_words gone xs (All-tail IsCounted a xs counted) in
    by_test (ends_among gone a.row)
    (λ dead.
    ap (λ (rs : List DocRow). sum_by row_words rs) (live_drop gone a.row (map row_of xs) dead) ∙ rest ∙ sym (ap (λ (ds : List Document). sum_by word_count ds) (left_dead gone a xs dead)))
    (λ alive.
    ap (λ (rs : List DocRow). sum_by row_words rs) (live_keep gone a.row (map row_of xs) alive)
    ∙ sum_by-cons row_words a.row (live_rows gone (map row_of xs))
    ∙ ap (λ (n : ℕ). n - 3 + sum_by row_words (live_rows gone (map row_of xs))) (sym (All-head IsCounted a xs counted))
    ∙ ap (λ (n : ℕ). length a.cells - 3 + n) rest
    ∙ sym (ap (λ (ds : List Document). sum_by word_count ds) (left_alive gone a xs alive) ∙ sum_by-cons word_count (document_in a) (documents_left gone xs)))

-- ---- names

named_there : (q : List ℕ) (ds : List Document) → is_some (number_of q (map named_of ds)) ≡ list_any (λ (d : Document). bytes_eq q d.name) ds
named_there q [] = refl
named_there q (d ∷ ds) =
    by_test (bytes_eq q d.name)
    (λ same. ap (λ (b : Bool). is_some (cond b (Some d.number) (number_of q (map named_of ds)))) same ∙ sym (ap (λ (b : Bool). b || list_any (λ (d : Document). bytes_eq q d.name) ds) same))
    (λ other. ap (λ (b : Bool). is_some (cond b (Some d.number) (number_of q (map named_of ds)))) other ∙ named_there q ds
    ∙ sym (ap (λ (b : Bool). b || list_any (λ (d : Document). bytes_eq q d.name) ds) other))

-- these are the numbers of documents by their names
abbrev pub AreNumbers : Numbers → List Document → Type 0
AreNumbers names ds = (name : List ℕ) → names name ≡ number_of name (map named_of ds)

-- a name has a number where a document has it
pub name_known : (names : Numbers) (ds : List Document) → AreNumbers names ds → (q : List ℕ) → is_some (names q) ≡ list_any (λ (d : Document). bytes_eq q d.name) ds
name_known names ds are q = ap is_some (are q) ∙ named_there q ds

-- behind documents none of which has its name, a document is the first with its name
abbrev IsOther : List Document → Document → Type 0
IsOther front d = All (λ (e : Document). (d.name ≡ e.name) → ⊥) front

first_behind : (front : List Document) (d : Document) (more : List Document) → IsOther front d → number_of d.name (map named_of (front ++ d ∷ more)) ≡ Some d.number
first_behind [] d more other = ap (λ (b : Bool). cond b (Some d.number) (number_of d.name (map named_of more))) (bytes_same d.name)
first_behind (e ∷ front) d more other =
    ap (λ (b : Bool). cond b (Some e.number) (number_of d.name (map named_of (front ++ d ∷ more))))
    (by_test (bytes_eq d.name e.name) (λ same. absurd (All-head (λ (x : Document). (d.name ≡ x.name) → ⊥) e front other (bytes_from d.name e.name same))) (λ differs. differs))
    ∙ first_behind front d more (All-tail (λ (x : Document). (d.name ≡ x.name) → ⊥) e front other)

-- each document that is to come has another name than those in front
abbrev AreOthers : List Document → List Document → Type 0
AreOthers front more = All (IsOther front) more

others_push : (front : List Document) (d : Document) (more : List Document) → AreOthers front more → All (IsBefore (named_of d)) (map named_of more) → AreOthers (front ++ d ∷ []) more
others_push front d [] others before = All-nil (IsOther (front ++ d ∷ []))
others_push front d (e ∷ more) others before =
    All-cons (IsOther (front ++ d ∷ [])) e more
    (All-push (λ (x : Document). (e.name ≡ x.name) → ⊥) front d (All-head (IsOther front) e more others) (λ same. (All-head (IsBefore (named_of d)) (named_of e) (map named_of more) before).1 (sym same)))
    (others_push front d more (All-tail (IsOther front) e more others) (All-tail (IsBefore (named_of d)) (named_of e) (map named_of more) before))

found_behind : (names : Numbers) (all : List Document) → AreNumbers names all → (front more : List Document) → front ++ more ≡ all → AreOthers front more → AreOrdered (map named_of more) → AreFound names more
found_behind names all are front [] split others ordered = tt
found_behind names all are front (d ∷ more) split others ordered = (
  are d.name ∙ ap (λ (ds : List Document). number_of d.name (map named_of ds)) (sym split) ∙ first_behind front d more (All-head (IsOther front) d more others),
  found_behind names all are (front ++ d ∷ []) more (append_assoc front (d ∷ []) more ∙ split)
      (others_push front d more (All-tail (IsOther front) d more others) ordered.0) ordered.1,
)

none_in_front : (more : List Document) → AreOthers [] more
none_in_front [] = All-nil (IsOther [])
none_in_front (d ∷ more) = All-cons (IsOther []) d more (All-nil (λ (x : Document). (d.name ≡ x.name) → ⊥)) (none_in_front more)

-- each document's number is found by its name
pub names_found : (names : Numbers) (ds : List Document) → AreNumbers names ds → AreOrdered (map named_of ds) → AreFound names ds
names_found names ds are ordered = found_behind names ds are [] ds refl (none_in_front ds) ordered

-- ---- deleted ends
has_end : (end : ℕ) (xs : List Added) → list_any (λ (row : DocRow). ends_among (end ∷ []) row) (map row_of xs) ≡ true → IsEndIn xs end
has_end end [] is = absurd (false≢true is)
has_end end (a ∷ xs) is =
    by_test (ends_among (end ∷ []) a.row)
    (λ here. (a, (0, omega arith, refl), sym (equal_from end (end_of a.row) (first_of end (end_of a.row) here))))
    (λ other. let (b, member, same) = has_end end xs (sym (ap (λ (t : Bool). t || list_any (λ (row : DocRow). ends_among (end ∷ []) row) (map row_of xs)) other) ∙ is) in (b, there a xs b member, same))
  where
    first_of : (m n : ℕ) → (nat_eq m n || false) ≡ true → nat_eq m n ≡ true
    first_of m n e = by_test (nat_eq m n) (λ is. is) (λ fails. absurd (false≢true (sym (ap (λ (b : Bool). b || false) fails) ∙ e)))

pub ends_there : (levels : List Tables) (xs : List Added) → map row_of xs ≡ table_rows levels → (gone : List ℕ) → have_ends levels gone ≡ true → (end : ℕ) → Contains gone end → IsEndIn xs end
ends_there levels xs are [] have end has = absurd (no_member end has)
ends_there levels xs are (e ∷ gone) have end has =
    let test : ℕ → Bool = λ (x : ℕ). list_any (λ (row : DocRow). ends_among (x ∷ []) row) (table_rows levels) in
    ⊎_elim
    (λ (same : e ≡ end). subst (IsEndIn xs) same (has_end e xs (ap (λ (rs : List DocRow). list_any (λ (row : DocRow). ends_among (e ∷ []) row) rs) are ∙ and_left (test e) (list_all test gone) have)))
    (λ behind. ends_there levels xs are gone (and_right (test e) (list_all test gone) have) end behind)
    (here_or_there e gone end has)

-- ---- how many cells rows have
pub cells_fit : (before : Before) (rows : List DocRow) (limit : ℕ) → AreDocumentsBehind before rows → All (λ (row : DocRow). end_of row < limit) rows → before.end < limit → before.end + cells_in rows < limit
unfolding AreDocumentsBehind
cells_fit before [] limit are below within = omega (arith, within)
cells_fit before (row ∷ rows) limit are below within =
    let rest : end_of row + cells_in rows < limit =
    cells_fit (behind_row before row) rows limit are.1 (All-tail (λ (r : DocRow). end_of r < limit) row rows below) (All-head (λ (r : DocRow). end_of r < limit) row rows below) in
    omega (arith, rest, are.0.starts_behind, are.0.some_cells, sum_by-cons (λ (r : DocRow). r.cells) row rows)
