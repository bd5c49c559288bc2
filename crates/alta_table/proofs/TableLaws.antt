-- Tables that keep the rules have one spelling, and what is spelled so is read, whatever follows.
use Rattle.std.proofs.Common.{◌≡◌, ℕ, ◌+◌, ◌<◌, ◌≤◌, ◌^◌, min, List, [], ◌++◌, length, take, drop, Ok, refl, sym, ap, subst, ◌∙◌, arith, append_assoc}
use Rattle.std.specs.Int.{w64, to_be_bytes}
use Rattle.std.proofs.lemmas.Bool.{ltb-true, lt-ltb, leb-true, le-leb}
use Rattle.std.proofs.lemmas.List.{take_at, drop_at, take-append-drop, length-append, length-take, length-drop, nil_from_length, append-nil}
use Rattle.alta_format.specs.Format.{AreBytes, Spells, entries_bytes, state_behind}
use Rattle.alta_format.proofs.FormatLaws.{done}
use Rattle.alta_format.proofs.EntryLaws.{repeated_spelled, repeated_spells}
use Rattle.alta_content.specs.declared.document.DocRow.{DocRow}
use Rattle.alta_table.specs.declared.sizes.Head.{Head}
use Rattle.alta_table.specs.declared.term.TermRow.{TermRow}
use Rattle.alta_table.specs.Documents.{row_bytes, documents_table, documents_format, documents_bytes}
use Rattle.alta_content.specs.Rows.{AreDocuments, MayFollow, start}
use Rattle.alta_table.specs.Terms.{first_behind, terms_table, terms_format, terms_bytes, AreTerms, data_bytes}
use Rattle.alta_table.specs.Tables.{Tables, head_bytes, head_of, tables_bytes, KeepRules, AreTables, head_format, head_part, document_part, term_part, room, read_head, tables_of, HasParts}
use Rattle.alta_table.proofs.RowLaws.{entries_are, entries_stand, row_spelled, row_spells, rows-le}
use Rattle.alta_table.proofs.TermLaws.{entry_of, MayStand, term_spelled, term_spells, terms_behind-are, stand_split, stand_join, room_behind, terms-le}
use Rattle.alta_table.proofs.TableParts.{HasTables, made, tables_found, tables_again}

-- ---- the parts

pub documents_spelled : (count : ℕ) (bytes : List ℕ) (rs : List DocRow) (rest : List ℕ) → Spells (documents_format count) bytes rs rest → AreDocuments rs × (length rs ≡ count) × (bytes ≡ documents_bytes rs)
documents_spelled count bytes rs rest s =
    let (xs, is, len, keeps, text, none) = repeated_spelled documents_table row_bytes MayFollow row_spelled count start [] bytes rs rest s in
    subst (λ (v : List DocRow). AreDocuments v × (length v ≡ count) × (bytes ≡ documents_bytes v)) (sym is) (entries_stand start xs keeps, len, text)

pub documents_spell : (rs : List DocRow) → AreDocuments rs → Spells (documents_format (length rs)) (documents_bytes rs) rs []
documents_spell rs keeps = repeated_spells documents_table row_bytes MayFollow row_spells start [] rs (entries_are start rs keeps)

abbrev AreSpelled : ℕ → ℕ → List ℕ → List TermRow × ℕ → Type 0
AreSpelled count free bytes v = AreTerms v.0 × (length v.0 ≡ count) × (bytes ≡ terms_bytes v.0) × (data_bytes v.0 + v.1 ≡ free)

pub terms_spelled : (count free : ℕ) (bytes : List ℕ) (v : List TermRow × ℕ) (rest : List ℕ) → Spells (terms_format count free) bytes v rest → AreSpelled count free bytes v
terms_spelled count free bytes v rest s =
    let (xs, is, len, keeps, text, none) = repeated_spelled terms_table entry_of MayStand term_spelled count (first_behind free) [] bytes v rest s in
    let (stand, sum) = stand_split (first_behind free) xs keeps in
    subst (AreSpelled count free bytes) (sym is) (stand, len, text ∙ sym (terms_behind-are (first_behind free) xs), sum)

pub terms_spell : (free : ℕ) (ts : List TermRow) → AreTerms ts → data_bytes ts ≡ free → free < 2 ^ 64 → Spells (terms_format (length ts) free) (terms_bytes ts) (ts, 0) []
terms_spell free ts stand sum below =
    let keeps = stand_join (first_behind free) ts stand (omega (arith, sum)) below in
    let left = room_behind (first_behind free) ts keeps in
    let none : (state_behind terms_table (first_behind free) ts).room ≡ 0 = omega (arith, left, sum) in
    subst (λ (b : List ℕ). Spells (terms_format (length ts) free) b (ts, 0) []) (sym (terms_behind-are (first_behind free) ts))
    (subst (λ (k : ℕ). Spells (terms_format (length ts) free) (entries_bytes terms_table entry_of (first_behind free) ts) (ts, k) []) none
    (repeated_spells terms_table entry_of MayStand term_spells (first_behind free) [] ts keeps))

-- ---- the head

pub length-head_bytes : (h : Head) → length (head_bytes h) ≡ 32
length-head_bytes h = refl

pub record HeadIs (total : ℕ) (bytes : List ℕ) (h : Head) (rest : List ℕ) : Type 0 where
  pub some : 0 < h.documents
  pub within : 32 + h.document_bytes + h.term_bytes ≤ total
  pub parts : bytes ≡ head_bytes h ++ rest

pub head_spelled : (total : ℕ) (bytes : List ℕ) (h : Head) (rest : List ℕ) → Spells (head_format total) bytes h rest → HeadIs total bytes h rest
unfolding Spells head_format
head_spelled total bytes h rest (n, b1, has1, kept1, (m, b2, has2, kept2, (d, b3, has3, kept3, (t, b4, has4, kept4, (same, behind))))) =
    let text : bytes ≡ to_be_bytes w64 n ++ (to_be_bytes w64 m ++ (to_be_bytes w64 d ++ (to_be_bytes w64 t ++ rest))) =
    has1.parts ∙ ap (λ (x : List ℕ). to_be_bytes w64 n ++ x) (has2.parts ∙ ap (λ (x : List ℕ). to_be_bytes w64 m ++ x) (has3.parts ∙ ap (λ (x : List ℕ). to_be_bytes w64 d ++ x)
    (has4.parts ∙ ap (λ (x : List ℕ). to_be_bytes w64 t ++ x) behind))) in
    subst (λ (x : Head). HeadIs total bytes x rest) same (record { some = ltb-true 0 n kept1; within = leb-true (32 + d + t) total kept4; parts = text })

pub head_spells : (total : ℕ) (h : Head) → 0 < h.documents → h.documents < 2 ^ 64 → h.terms < 2 ^ 64 → 32 + h.document_bytes + h.term_bytes ≤ total → total < 2 ^ 64 → Spells (head_format total) (head_bytes h) h []
unfolding Spells head_format
head_spells total h some few_documents few_terms within below = (
  h.documents,
  to_be_bytes w64 h.terms ++ to_be_bytes w64 h.document_bytes ++ to_be_bytes w64 h.term_bytes,
  record { below = few_documents; parts = refl },
  lt-ltb 0 h.documents some,
  (
    h.terms,
    to_be_bytes w64 h.document_bytes ++ to_be_bytes w64 h.term_bytes,
    record { below = few_terms; parts = refl },
    refl,
    (
      h.document_bytes,
      to_be_bytes w64 h.term_bytes,
      record { below = omega (arith, within, below); parts = refl },
      le-leb (32 + h.document_bytes) total (omega (arith, within)),
      (
        h.term_bytes,
        [],
        record { below = omega (arith, within, below); parts = refl },
        le-leb (32 + h.document_bytes + h.term_bytes) total within,
        (refl, refl),
      ),
    ),
  ),
)

-- ---- from the fields to the rules

abbrev sizes : ℕ → ℕ → ℕ → ℕ → Head
sizes n m d t = record { documents = n; terms = m; document_bytes = d; term_bytes = t }

same_head : (h : Head) (n m d t : ℕ) → h.documents ≡ n → h.terms ≡ m → h.document_bytes ≡ d → h.term_bytes ≡ t → h ≡ sizes n m d t
same_head h n m d t a b c e =
    ap (λ (x : ℕ). sizes x h.terms h.document_bytes h.term_bytes) a ∙ ap (λ (x : ℕ). sizes n x h.document_bytes h.term_bytes) b
    ∙ ap (λ (x : ℕ). sizes n m x h.term_bytes) c ∙ ap (λ (x : ℕ). sizes n m d x) e

regroup : (a b c d : List ℕ) → a ++ (b ++ (c ++ d)) ≡ ((a ++ b) ++ c) ++ d
regroup a b c d = sym (append_assoc a b (c ++ d)) ∙ sym (append_assoc (a ++ b) c d)

pub length-tables_bytes : (rs : List DocRow) (ts : List TermRow) → length (tables_bytes rs ts) ≡ 32 + length (documents_bytes rs) + length (terms_bytes ts)
length-tables_bytes rs ts =
    omega (arith, length-append (head_bytes (head_of rs ts) ++ documents_bytes rs) (terms_bytes ts), length-append (head_bytes (head_of rs ts)) (documents_bytes rs), length-head_bytes (head_of rs ts))

pub tables_keep : (bytes : List ℕ) (total : ℕ) (rs : List DocRow) (ts : List TermRow) (a : HasTables bytes total rs ts) → 32 + a.head.document_bytes + a.head.term_bytes ≤ length bytes
    → KeepRules total rs ts × (bytes ≡ tables_bytes rs ts ++ drop a.head.term_bytes (drop a.head.document_bytes (drop 32 bytes))) × (32 + length (documents_bytes rs) + length (terms_bytes ts) ≡ 32 + a.head.document_bytes + a.head.term_bytes)
tables_keep bytes total rs ts a long =
    let h : Head = a.head in
    let (rest0, spells0) = a.has_head in
    let (rest1, spells1) = a.has_documents in
    let (rest2, spells2) = a.has_terms in
    let top = head_spelled total (head_part bytes total) h rest0 spells0 in
    let (stand1, count1, text1) = documents_spelled h.documents (document_part bytes h) rs rest1 spells1 in
    let (stand2, count2, text2, sum) = terms_spelled h.terms (room total h) (term_part bytes h) (ts, 0) rest2 spells2 in
    let least : min 32 total ≡ 32 = omega (arith, top.within) in
    let front : length (head_part bytes total) ≡ 32 = omega (arith, length-take (min 32 total) bytes, least, long) in
    let none : rest0 ≡ [] = nil_from_length rest0 (omega (arith, ap length top.parts, length-append (head_bytes h) rest0, length-head_bytes h, front)) in
    let head_is : take 32 bytes ≡ head_bytes h = ap (λ (k : ℕ). take k bytes) (sym least) ∙ top.parts ∙ ap (λ (r : List ℕ). head_bytes h ++ r) none ∙ append-nil (head_bytes h) in
    let behind : List ℕ = drop h.document_bytes (drop 32 bytes) in
    let after : List ℕ = drop h.term_bytes behind in
    let len1 : h.document_bytes ≡ length (documents_bytes rs) = omega (arith, ap length text1, length-take h.document_bytes (drop 32 bytes), length-drop 32 bytes, long) in
    let len2 : h.term_bytes ≡ length (terms_bytes ts) = omega (arith, ap length text2, length-take h.term_bytes behind, length-drop h.document_bytes (drop 32 bytes), length-drop 32 bytes, long) in
    let head_same : h ≡ head_of rs ts = same_head h (length rs) (length ts) (length (documents_bytes rs)) (length (terms_bytes ts)) (sym count1) (sym count2) len1 len2 in
    let split : bytes ≡ take 32 bytes ++ (document_part bytes h ++ (term_part bytes h ++ after)) =
    sym (take-append-drop 32 bytes) ∙ ap (λ (r : List ℕ). take 32 bytes ++ r) (sym (take-append-drop h.document_bytes (drop 32 bytes)) ∙ ap (λ (r : List ℕ). document_part bytes h ++ r) (sym (take-append-drop h.term_bytes behind))) in
    let spelled : bytes ≡ head_bytes (head_of rs ts) ++ (documents_bytes rs ++ (terms_bytes ts ++ after)) =
    split ∙ ap (λ (f : List ℕ). f ++ (document_part bytes h ++ (term_part bytes h ++ after))) (head_is ∙ ap (λ (x : Head). head_bytes x) head_same)
    ∙ ap (λ (f : List ℕ). head_bytes (head_of rs ts) ++ (f ++ (term_part bytes h ++ after))) text1 ∙ ap (λ (f : List ℕ). head_bytes (head_of rs ts) ++ (documents_bytes rs ++ (f ++ after))) text2 in (
      record {
        some = omega (arith, top.some, count1);
        documents_stand = stand1;
        terms_stand = stand2;
        has_end = a.has_end;
        filled = omega (arith, length-tables_bytes rs ts, sum, len1, len2, top.within);
      },
      spelled ∙ regroup (head_bytes (head_of rs ts)) (documents_bytes rs) (terms_bytes ts) after,
      omega (arith, len1, len2),
    )

-- ---- from the rules to the fields

pub tables_hold : (bytes : List ℕ) (total : ℕ) (rs : List DocRow) (ts : List TermRow) (behind : List ℕ) → KeepRules total rs ts → total < 2 ^ 64 → bytes ≡ tables_bytes rs ts ++ behind → HasTables bytes total rs ts
tables_hold bytes total rs ts behind k below spelled =
    let h : Head = head_of rs ts in
    let hb : List ℕ = head_bytes h in
    let db : List ℕ = documents_bytes rs in
    let tb : List ℕ = terms_bytes ts in
    let whole : bytes ≡ hb ++ (db ++ (tb ++ behind)) = spelled ∙ sym (regroup hb db tb behind) in
    let len = length-tables_bytes rs ts in
    let least : 32 ≡ min 32 total = omega (arith, k.filled, len) in
    let head_is : head_part bytes total ≡ hb = ap (λ (j : ℕ). take j bytes) (sym least) ∙ ap (take 32) whole ∙ take_at hb (db ++ (tb ++ behind)) 32 refl in
    let drop1 : drop 32 bytes ≡ db ++ (tb ++ behind) = ap (drop 32) whole ∙ drop_at hb (db ++ (tb ++ behind)) 32 refl in
    let documents_is : document_part bytes h ≡ db = ap (take (length db)) drop1 ∙ take_at db (tb ++ behind) (length db) refl in
    let drop2 : drop (length db) (drop 32 bytes) ≡ tb ++ behind = ap (drop (length db)) drop1 ∙ drop_at db (tb ++ behind) (length db) refl in
    let terms_is : term_part bytes h ≡ tb = ap (take (length tb)) drop2 ∙ take_at tb behind (length tb) refl in
    let free : data_bytes ts ≡ room total h = omega (arith, k.filled, len) in
    let few1 : length rs < 2 ^ 64 = omega (arith, rows-le start rs, k.filled, len, below) in
    let few2 : length ts < 2 ^ 64 = omega (arith, terms-le [] ts k.terms_stand, k.filled, len, below) in
    record {
      head = h;
      has_head = ([], subst (λ (b : List ℕ). Spells (head_format total) b h []) (sym head_is) (head_spells total h k.some few1 few2 (omega (arith, k.filled, len)) below));
      has_documents = ([], subst (λ (b : List ℕ). Spells (documents_format (length rs)) b rs []) (sym documents_is) (documents_spell rs k.documents_stand));
      has_terms = ([], subst (λ (b : List ℕ). Spells (terms_format (length ts) (room total h)) b (ts, 0) []) (sym terms_is) (terms_spell (room total h) ts k.terms_stand free (omega (arith, k.filled, below, free))));
      has_end = k.has_end;
    }

pub tables_head : (bytes : List ℕ) (total : ℕ) (rs : List DocRow) (ts : List TermRow) (behind : List ℕ) (k : KeepRules total rs ts) (below : total < 2 ^ 64) (spelled : bytes ≡ tables_bytes rs ts ++ behind)
    → (tables_hold bytes total rs ts behind k below spelled).head ≡ head_of rs ts
unfolding tables_hold
tables_head bytes total rs ts behind k below spelled = refl

-- ---- the laws

pub tables_are : (bytes : List ℕ) (place total : ℕ) (t : Tables) → AreBytes bytes → HasParts bytes place total → tables_of bytes place total ≡ done t → AreTables bytes place total t
tables_are bytes place total t fits parts e =
    let found = tables_found bytes place total t fits e in
    let (keeps, spelled, size) = tables_keep bytes total t.documents t.terms found.has (parts found.has.head found.read) in
    record { at = found.at; keeps = keeps; behind = _; spelled = spelled }

pub are_tables : (bytes : List ℕ) (place total : ℕ) (t : Tables) → AreBytes bytes → total < 2 ^ 64 → AreTables bytes place total t → tables_of bytes place total ≡ done t
are_tables bytes place total t fits below a =
    tables_again bytes place total t.documents t.terms fits (tables_hold bytes total t.documents t.terms a.behind a.keeps below a.spelled)
    ∙ ap (λ (p : ℕ). done (made p t.documents t.terms)) (sym a.at)

-- the bytes have no more than the parts of which the head speaks
pub tables_spelled : (bytes : List ℕ) (place total : ℕ) (t : Tables) → AreBytes bytes → ((h : Head) → read_head bytes place total ≡ Ok h → length bytes ≡ 32 + h.document_bytes + h.term_bytes)
    → tables_of bytes place total ≡ done t → bytes ≡ tables_bytes t.documents t.terms
tables_spelled bytes place total t fits exact e =
    let found = tables_found bytes place total t fits e in
    let len : length bytes ≡ 32 + found.has.head.document_bytes + found.has.head.term_bytes = exact found.has.head found.read in
    let (keeps, spelled, size) = tables_keep bytes total t.documents t.terms found.has (omega (arith, len)) in
    let none = nil_from_length (drop found.has.head.term_bytes (drop found.has.head.document_bytes (drop 32 bytes)))
    (omega (arith, len, length-drop found.has.head.term_bytes (drop found.has.head.document_bytes (drop 32 bytes)), length-drop found.has.head.document_bytes (drop 32 bytes), length-drop 32 bytes)) in
    spelled ∙ ap (λ (r : List ℕ). tables_bytes t.documents t.terms ++ r) none ∙ append-nil (tables_bytes t.documents t.terms)
