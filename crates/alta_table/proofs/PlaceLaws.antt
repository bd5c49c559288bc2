-- Places of names and streams, as rows are read.
use Rattle.std.proofs.Common.{◌≡◌, ℕ, zero, suc, ◌+◌, ◌-◌, ◌≤◌, ◌<◌, ◌^◌, List, [], ◌∷◌, ◌++◌, length, get_or, take, drop, map, Ok, refl, sym, ap, subst, ◌∙◌, arith, length-append, append_assoc}
use Rattle.std.specs.Str.{IsUtf8}
use Rattle.std.proofs.lemmas.List.{drop_at, get_or_at, take_at}
use Rattle.alta_codec.specs.Name.{IsName}
use Rattle.alta_codec.specs.Numbers.{number_bytes}
use Rattle.alta_format.specs.Format.{AreBytes, read, entries_bytes, state_behind}
use Rattle.alta_format.proofs.FormatLaws.{AreBytes-rest, read_spells}
use Rattle.alta_format.proofs.EntryLaws.{entries_bytes-push, state_behind-push}
use Rattle.alta_codec.specs.declared.extent.Extent.{Extent}
use Rattle.alta_content.specs.declared.document.DocRow.{DocRow}
use Rattle.alta_content.specs.Names.{HoldsName, name_in}
use Rattle.alta_content.specs.Rows.{AreDocuments, AreDocumentsBehind, Before, MayFollow, behind_row, start}
use Rattle.alta_table.specs.declared.term.TermRow.{TermRow}
use Rattle.alta_table.specs.Documents.{row_bytes, row_format, documents_table, documents_bytes}
use Rattle.alta_table.specs.Places.{EndsRow, name_at, tables_in, AreParts}
use Rattle.alta_table.specs.Marks.{IsHeld, rows_in}
use Rattle.alta_table.specs.declared.sizes.Head.{Head}
use Rattle.alta_table.specs.declared.parts.Parts.{Parts}
use Rattle.alta_table.specs.Tables.{Tables, read_head, tables_of}
use Rattle.alta_table.proofs.TableLaws.{length-tables_bytes, tables_are}
use Rattle.alta_table.proofs.RowLaws.{named-IsUtf8, row_spelled, row-some}

-- ---- names

-- the rows that were read from bytes, what they leave behind, and what is left of the bytes
pub record AreRead (bytes : List ℕ) (rows : List DocRow) (before : Before) (rest : List ℕ) : Type 0 where
  pub before_is : state_behind documents_table start rows ≡ before
  pub spelled : bytes ≡ documents_bytes rows ++ rest
  pub fits : AreBytes rest

row_is : (before : Before) (rest : List ℕ) (r : DocRow) (behind : List ℕ) → AreBytes rest → read (row_format before) rest ≡ Ok (r, behind) → MayFollow before r × (rest ≡ row_bytes before r ++ behind)
row_is before rest r behind fits got = row_spelled before rest r behind (read_spells (row_format before) rest r behind fits got)

-- bytes that have a name behind its length
name_behind : (bytes front name behind : List ℕ) → bytes ≡ front ++ (length name ∷ (name ++ behind)) → IsUtf8 name → HoldsName bytes (length front) × (name_in bytes (length front) ≡ name)
name_behind bytes front name behind parts text = rw parts (record { within = within; text = subst IsUtf8 (sym is) text }, is)
  where
    whole : List ℕ
    whole = front ++ (length name ∷ (name ++ behind))

    len : get_or whole (length front) 0 ≡ length name
    len = get_or_at front (length name) (name ++ behind) 0 (length front) refl

    past : length (front ++ length name ∷ []) ≡ length front + 1
    past = length-append front (length name ∷ [])

    rest_is : drop (length front + 1) whole ≡ name ++ behind
    rest_is = ap (λ (l : List ℕ). drop (length front + 1) l) (sym (append_assoc front (length name ∷ []) (name ++ behind))) ∙ drop_at (front ++ length name ∷ []) (name ++ behind) (length front + 1) past

    is : name_in whole (length front) ≡ name
    is = ap (λ (n : ℕ). take n (drop (length front + 1) whole)) len ∙ ap (λ (l : List ℕ). take (length name) l) rest_is ∙ take_at name behind (length name) refl

    within : length front + 1 + get_or whole (length front) 0 ≤ length whole
    within = omega (arith, len, length-append front (length name ∷ (name ++ behind)), length-append name behind)

-- the name of the row that is read next
pub name_held : (bytes : List ℕ) (rows : List DocRow) (before : Before) (rest : List ℕ) (r : DocRow) (behind : List ℕ)
    → read (row_format before) rest ≡ Ok (r, behind) → AreRead bytes rows before rest → EndsRow bytes r.name behind
name_held bytes rows before rest r behind got seen =
    let (follows, parts) = row_is before rest r behind seen.fits got in
    let numbers : List ℕ = number_bytes (r.number - before.number) ++ number_bytes (r.first - before.end) ++ number_bytes r.cells in
    let front : List ℕ = documents_bytes rows ++ numbers in
    let last : List ℕ = length r.name ∷ (r.name ++ behind) in
    let row : row_bytes before r ++ behind ≡ numbers ++ last = simp append_assoc in
    let whole : bytes ≡ front ++ last = seen.spelled ∙ ap (λ (l : List ℕ). documents_bytes rows ++ l) (parts ∙ row) ∙ sym (append_assoc (documents_bytes rows) numbers last) in
    let size : length bytes ≡ length front + (1 + (length r.name + length behind)) = omega (arith, ap length whole, length-append front last, length-append r.name behind) in
    let at : length front ≡ length bytes - length behind - length r.name - 1 = omega (arith, size) in
    let (holds, same) = name_behind bytes front r.name behind whole (named-IsUtf8 r.name follows.named) in
    record {
      fits = omega (arith, size);
      holds = subst (λ (k : ℕ). HoldsName bytes k) at holds;
      same = subst (λ (k : ℕ). name_in bytes k ≡ r.name) at same;
    }

pub row_read : (bytes : List ℕ) (rows more : List DocRow) (before : Before) (rest : List ℕ) (r : DocRow) (behind : List ℕ)
    → read (row_format before) rest ≡ Ok (r, behind) → more ≡ rows ++ r ∷ [] → AreRead bytes rows before rest → AreRead bytes more (behind_row before r) behind
row_read bytes rows more before rest r behind got pushed seen =
    let (follows, parts) = row_is before rest r behind seen.fits got in
    let spelled : documents_bytes more ≡ documents_bytes rows ++ row_bytes before r =
    ap (λ (l : List DocRow). documents_bytes l) pushed ∙ entries_bytes-push documents_table row_bytes start rows r ∙ ap (λ (b : Before). documents_bytes rows ++ row_bytes b r) seen.before_is in
    record {
      before_is = ap (λ (l : List DocRow). state_behind documents_table start l) pushed ∙ state_behind-push documents_table start rows r ∙ ap (λ (b : Before). behind_row b r) seen.before_is;
      spelled = seen.spelled ∙ ap (λ (l : List ℕ). documents_bytes rows ++ l) parts ∙ sym (append_assoc (documents_bytes rows) (row_bytes before r) behind) ∙ ap (λ (l : List ℕ). l ++ behind) (sym spelled);
      fits = AreBytes-rest rest (row_bytes before r) behind seen.fits parts;
    }

-- no rows yet
pub reads_none : (bytes : List ℕ) (rows : List DocRow) → rows ≡ [] → AreBytes bytes → AreRead bytes rows start bytes
unfolding state_behind entries_bytes
reads_none bytes rows no_rows fits = rw no_rows none
  where
    none : AreRead bytes [] start bytes
    none = record { before_is = refl; spelled = refl; fits = fits }

-- ---- the first of some rows

pub first_rows : (before : Before) (k : ℕ) (rows : List DocRow) → AreDocumentsBehind before rows → AreDocumentsBehind before (take k rows)
unfolding AreDocumentsBehind
first_rows before zero rows are = tt
first_rows before (suc k) [] are = tt
first_rows before (suc k) (r ∷ rows) are = (are.0, first_rows (behind_row before r) k rows are.1)

first_shorter : (before : Before) (k : ℕ) (rows : List DocRow) → length (entries_bytes documents_table row_bytes before (take k rows)) ≤ length (entries_bytes documents_table row_bytes before rows)
unfolding entries_bytes
first_shorter before zero rows = omega arith
first_shorter before (suc k) [] = omega arith
first_shorter before (suc k) (r ∷ rows) =
    omega (arith, first_shorter (behind_row before r) k rows, length-append (row_bytes before r) (entries_bytes documents_table row_bytes (behind_row before r) (take k rows)), length-append (row_bytes before r) (entries_bytes documents_table row_bytes (behind_row before r) rows))

last_within : (before : Before) (k : ℕ) (rows : List DocRow) → k < length rows → length (name_at rows k) ≤ length (entries_bytes documents_table row_bytes before (take (suc k) rows))
unfolding entries_bytes
last_within before k [] lt = absurd (omega (arith, lt))
last_within before zero (r ∷ rows) lt = omega (arith, row-some before r, length-append (row_bytes before r) [])
last_within before (suc k) (r ∷ rows) lt =
    let inner : List ℕ = entries_bytes documents_table row_bytes (behind_row before r) (take (suc k) rows) in
    let more : length (name_at rows k) ≤ length (row_bytes before r ++ inner) = omega (arith, last_within (behind_row before r) k rows (omega (arith, lt)), length-append (row_bytes before r) inner) in
    more

pub last_shorter : (rows : List DocRow) (k : ℕ) → k < length rows → length (name_at rows k) ≤ length (documents_bytes (take (k + 1) rows))
last_shorter rows k lt =
    let next : suc k ≡ k + 1 = omega arith in
    subst (λ (n : ℕ). length (name_at rows k) ≤ length (documents_bytes (take n rows))) next (last_within start k rows lt)

-- ---- what is opened

abbrev pub terms_at : Parts → List TermRow
terms_at p = rows_in p.terms

-- the parts of tables that were read
pub parts_are : (p : Parts) (bytes : List ℕ) (place total : ℕ) → AreBytes bytes → place + total < 2 ^ 64
    → ((h : Head) → read_head bytes place total ≡ Ok h → length bytes ≡ 32 + h.document_bytes + h.term_bytes)
    → tables_of bytes place total ≡ Ok (tables_in p) → IsHeld p.terms 0 → p.end ≡ place + total → AreParts p
parts_are p bytes place total fits below exact e held end =
    let a = tables_are bytes place total (tables_in p) fits (λ h read. omega (arith, exact h read)) e in
    record {
      held = held;
      ends = omega (arith, end, a.keeps.filled, a.at);
      keeps = record {
        some = a.keeps.some;
        documents_stand = a.keeps.documents_stand;
        terms_stand = a.keeps.terms_stand;
        has_end = a.keeps.has_end;
        filled = refl;
      };
      below = omega (arith, end, below);
    }

-- ---- the place of a name

-- the rows up to one end within the segment
pub rows_below : (p : Parts) (row : ℕ) → AreParts p → p.place + 32 + length (documents_bytes (take (row + 1) p.documents.value)) < 2 ^ 64
rows_below p row a =
    let documents : List DocRow = p.documents.value in
    omega (arith, first_shorter start (row + 1) documents, length-tables_bytes documents (rows_in p.terms), a.ends, a.below)

abbrev extent : ℕ → ℕ → Extent
extent place bytes = record { place = place; bytes = bytes }
