-- What the fields of a document row say is its one spelling.
use Rattle.std.proofs.Common.{◌≡◌, ⊎_elim, get_or, ℕ, ◌-◌, ◌+◌, ◌≤◌, ◌<◌, List, [], ◌∷◌, ◌++◌, length, refl, sym, ap, subst, ◌∙◌, arith, append_assoc}
use Rattle.std.specs.Prelude.{IsTrue, All}
use Rattle.std.specs.Str.{IsUtf8}
use Rattle.std.proofs.lemmas.List.{get_or_past, length-append}
use Rattle.std.proofs.lemmas.List.Sums.{AllPass-from_list_all, list_all-from_AllPass}
use Rattle.std.proofs.lemmas.Str.{IsUtf8-from_ascii}
use Rattle.std.proofs.lemmas.Bool.{cases_lt, ltb-true, lt-ltb, leb-true, le-leb, and_parts, and_from}
use Rattle.alta_codec.specs.Numbers.{number_bytes}
use Rattle.alta_format.specs.Format.{AreEntries, Spells, entries_bytes}
use Rattle.alta_codec.specs.declared.location.TheConstants.{TOP}
use Rattle.alta_codec.specs.Name.{IsGraphic, IsName, is_graphic}
use Rattle.alta_content.specs.declared.document.DocRow.{DocRow}
use Rattle.alta_table.specs.Documents.{rises, are_cells, is_name_len, is_graphic_text, row_format, row_bytes, documents_table}
use Rattle.alta_content.specs.Rows.{AreDocumentsBehind, Before, MayFollow, behind_row}

rises_is : (before more : ℕ) → IsTrue (rises before more) → (0 < more) × (before + more < TOP)
rises_is before more h = let (a, b) = and_parts _ _ h in (ltb-true 0 more a, ltb-true (before + more) TOP b)

is_rises : (before more : ℕ) → 0 < more → before + more < TOP → IsTrue (rises before more)
is_rises before more a b = and_from _ _ (lt-ltb 0 more a) (lt-ltb (before + more) TOP b)

cells_are : (first cells : ℕ) → IsTrue (are_cells first cells) → (3 ≤ cells) × (cells ≤ 262146) × (first + cells - 1 < TOP)
cells_are first cells h =
    let (a, b) = and_parts _ _ h in
    let (a1, a2) = and_parts _ _ a in
    (leb-true 3 cells a1, leb-true cells 262146 a2, ltb-true (first + cells - 1) TOP b)

are_cells_of : (first cells : ℕ) → 3 ≤ cells → cells ≤ 262146 → first + cells - 1 < TOP → IsTrue (are_cells first cells)
are_cells_of first cells a b c = and_from _ _ (and_from _ _ (le-leb 3 cells a) (le-leb cells 262146 b)) (lt-ltb (first + cells - 1) TOP c)

len_is : (len : ℕ) → IsTrue (is_name_len len) → (0 < len) × (len ≤ 64)
len_is len h = let (a, b) = and_parts _ _ h in (ltb-true 0 len a, leb-true len 64 b)

is_len : (len : ℕ) → 0 < len → len ≤ 64 → IsTrue (is_name_len len)
is_len len a b = and_from _ _ (lt-ltb 0 len a) (le-leb len 64 b)

graphic_is : (name : List ℕ) → IsTrue (is_graphic_text name) → All IsGraphic name
graphic_is name h k d lt =
    let (low, high) = and_parts _ _ (AllPass-from_list_all is_graphic name h k d lt) in
    (leb-true 33 (get_or name k d) low, leb-true (get_or name k d) 126 high)

is_graphic_of : (name : List ℕ) → All IsGraphic name → IsTrue (is_graphic_text name)
is_graphic_of name h =
    list_all-from_AllPass is_graphic name (λ k d lt. let (low, high) = h k d lt in and_from _ _ (le-leb 33 (get_or name k d) low) (le-leb (get_or name k d) 126 high))

graphic-IsUtf8 : (name : List ℕ) → IsTrue (is_graphic_text name) → IsUtf8 name
graphic-IsUtf8 name h = IsUtf8-from_ascii name (λ i. ⊎_elim (λ lt. let (low, high) = graphic_is name h i 0 lt in omega (arith, high)) (λ past. rw (get_or_past name i 0 past) (omega arith)) (cases_lt i (length name)))

pub named-IsUtf8 : (name : List ℕ) → IsName name → IsUtf8 name
named-IsUtf8 name named = graphic-IsUtf8 name (is_graphic_of name named.2)

-- the row's bytes with the rest behind them, field by field
row_parts : (before : Before) (r : DocRow) (rest : List ℕ) → row_bytes before r ++ rest ≡ number_bytes (r.number - before.number) ++ (number_bytes (r.first - before.end) ++ (number_bytes r.cells ++ (length r.name ∷ (r.name ++ rest))))
row_parts before r rest = simp append_assoc

less : (before more : ℕ) → before + more - before ≡ more
less before more = omega arith

pub row_spelled : (before : Before) (bytes : List ℕ) (r : DocRow) (rest : List ℕ) → Spells (row_format before) bytes r rest → MayFollow before r × (bytes ≡ row_bytes before r ++ rest)
unfolding Spells row_format
row_spelled before bytes r rest (more, b1, has1, kept1, (gap, b2, has2, kept2, (cells, b3, has3, kept3, (len, b4, has4, kept4, (name, b5, has5, kept5, (same, behind)))))) =
    let made : DocRow = record { number = before.number + more; first = before.end + gap; cells = cells; name = name } in
    let (n1, n2) = rises_is before.number more kept1 in
    let (f1, f2) = rises_is before.end gap kept2 in
    let (c1, c2, c3) = cells_are (before.end + gap) cells kept3 in
    let (l1, l2) = len_is len kept4 in
    let keeps : MayFollow before made = record {
      rises = omega (arith, n1);
      number_below = n2;
      starts_behind = omega (arith, f1);
      first_below = f2;
      some_cells = c1;
      few_cells = c2;
      end_below = c3;
      named = (omega (arith, l1, has5.len_is), omega (arith, l2, has5.len_is), graphic_is name kept5);
    } in
    let text : bytes ≡ number_bytes more ++ (number_bytes gap ++ (number_bytes cells ++ (len ∷ (name ++ rest)))) =
    has1.parts ∙ ap (λ (x : List ℕ). number_bytes more ++ x) (has2.parts ∙ ap (λ (x : List ℕ). number_bytes gap ++ x) (has3.parts ∙ ap (λ (x : List ℕ). number_bytes cells ++ x)
    (has4.parts ∙ ap (λ (x : List ℕ). len ∷ x) (has5.parts ∙ ap (λ (x : List ℕ). name ++ x) behind)))) in
    let numbers : number_bytes more ++ (number_bytes gap ++ (number_bytes cells ++ (len ∷ (name ++ rest)))) ≡ number_bytes (before.number + more - before.number) ++ (number_bytes (before.end + gap - before.end) ++ (number_bytes cells ++ (length name ∷ (name ++ rest)))) =
    rw (less before.number more, less before.end gap, has5.len_is) refl in
    subst (λ (x : DocRow). MayFollow before x × (bytes ≡ row_bytes before x ++ rest)) same (keeps, text ∙ numbers ∙ sym (row_parts before made rest))

pub row_spells : (before : Before) (bytes : List ℕ) (r : DocRow) (rest : List ℕ) → MayFollow before r → bytes ≡ row_bytes before r ++ rest → Spells (row_format before) bytes r rest
unfolding Spells row_format
row_spells before bytes r rest k parts =
    let upto : before.number + (r.number - before.number) ≡ r.number = omega (arith, k.rises) in
    let from : before.end + (r.first - before.end) ≡ r.first = omega (arith, k.starts_behind) in
    let b5 : List ℕ = rest in
    let b4 : List ℕ = r.name ++ rest in
    let b3 : List ℕ = length r.name ∷ b4 in
    let b2 : List ℕ = number_bytes r.cells ++ b3 in
    let b1 : List ℕ = number_bytes (r.first - before.end) ++ b2 in
    let whole : bytes ≡ number_bytes (r.number - before.number) ++ b1 = parts ∙ row_parts before r rest in
    let same : made (before.number + (r.number - before.number)) (before.end + (r.first - before.end)) ≡ r = ap (λ (n : ℕ). made n (before.end + (r.first - before.end))) upto ∙ ap (λ (f : ℕ). made r.number f) from in (
      r.number - before.number,
      b1,
      record { below = omega (arith, k.number_below); parts = whole },
      is_rises before.number (r.number - before.number) (omega (arith, k.rises)) (omega (arith, upto, k.number_below)),
      (
        r.first - before.end,
        b2,
        record { below = omega (arith, k.first_below); parts = refl },
        is_rises before.end (r.first - before.end) (omega (arith, k.starts_behind)) (omega (arith, from, k.first_below)),
        (
          r.cells,
          b3,
          record { below = omega (arith, k.few_cells); parts = refl },
          are_cells_of (before.end + (r.first - before.end)) r.cells k.some_cells k.few_cells (omega (arith, from, k.end_below)),
          (
            length r.name,
            b4,
            record { below = omega (arith, k.named.1); parts = refl },
            is_len (length r.name) k.named.0 k.named.1,
            (r.name, b5, record { len_is = refl; parts = refl }, is_graphic_of r.name k.named.2, (same, refl)),
          ),
        ),
      ),
    )
  where
    made : ℕ → ℕ → DocRow
    made n f = record { number = n; first = f; cells = r.cells; name = r.name }

-- ---- there are no more rows than bytes

pub row-some : (before : Before) (r : DocRow) → length r.name < length (row_bytes before r)
row-some before r =
    let front : List ℕ = number_bytes (r.number - before.number) ++ number_bytes (r.first - before.end) in
    let upto : List ℕ = front ++ number_bytes r.cells in
    omega (arith, length-append upto (length r.name ∷ r.name))

pub rows-le : (before : Before) (rows : List DocRow) → length rows ≤ length (entries_bytes documents_table row_bytes before rows)
unfolding entries_bytes
rows-le before [] = omega arith
rows-le before (r ∷ rows) =
    omega (arith, rows-le (behind_row before r) rows, row-some before r, length-append (row_bytes before r) (entries_bytes documents_table row_bytes (behind_row before r) rows))

-- ---- rows as entries of their table

pub entries_are : (before : Before) (rows : List DocRow) → AreDocumentsBehind before rows → AreEntries documents_table MayFollow before rows
unfolding AreEntries AreDocumentsBehind
entries_are before [] h = tt
entries_are before (r ∷ rs) h = (h.0, entries_are (behind_row before r) rs h.1)

pub entries_stand : (before : Before) (rows : List DocRow) → AreEntries documents_table MayFollow before rows → AreDocumentsBehind before rows
unfolding AreEntries AreDocumentsBehind
entries_stand before [] h = tt
entries_stand before (r ∷ rs) h = (h.0, entries_stand (behind_row before r) rs h.1)
