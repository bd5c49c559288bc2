-- What is read goes by head, documents and terms alone, which stand in front.
use Rattle.std.proofs.Common.{◌≡◌, ℕ, ◌+◌, ◌-◌, ◌<◌, ◌≤◌, ◌^◌, min, List, ◌++◌, length, take, drop, Ok, sym, ap, ◌∙◌, arith}
use Rattle.std.proofs.lemmas.List.{take-take, take_all, drop-drop, drop-take, length-drop}
use Rattle.alta_format.specs.Format.{AreBytes, part}
use Rattle.alta_format.proofs.FormatLaws.{done, AreBytes-take, part_found, part_spelled}
use Rattle.alta_content.specs.declared.document.DocRow.{DocRow}
use Rattle.alta_table.specs.declared.sizes.Head.{Head}
use Rattle.alta_table.specs.declared.term.TermRow.{TermRow}
use Rattle.alta_table.specs.Tables.{KeepRules, HasParts, head_format, head_of, head_part, document_part, term_part, read_head, tables_bytes, tables_of}
use Rattle.alta_table.proofs.TableParts.{to_parts, by_parts}
use Rattle.alta_table.proofs.TableLaws.{head_spelled, tables_hold, tables_head}

pub whole_has_parts : (bytes : List ℕ) (place total : ℕ) → AreBytes bytes → total ≤ length bytes → HasParts bytes place total
whole_has_parts bytes place total fits long h read =
    let (rest, spells) = part_found (head_format total) (head_part bytes total) place h (AreBytes-take (min 32 total) bytes fits) read in
    omega (arith, (head_spelled total (head_part bytes total) h rest spells).within, long)

pub head_read : (bytes behind : List ℕ) (place total : ℕ) (documents : List DocRow) (terms : List TermRow) → AreBytes bytes → total < 2 ^ 64 → KeepRules total documents terms
    → bytes ≡ tables_bytes documents terms ++ behind → read_head bytes place total ≡ Ok (head_of documents terms)
head_read bytes behind place total documents terms fits below keeps spelled =
    let has = tables_hold bytes total documents terms behind keeps below spelled in
    part_spelled (head_format total) (head_part bytes total) place has.head has.has_head.0 (AreBytes-take (min 32 total) bytes fits) has.has_head.1
    ∙ ap (λ (h : Head). done h) (tables_head bytes total documents terms behind keeps below spelled)

pub head_same : (bytes : List ℕ) (place total n : ℕ) → 32 ≤ n → read_head (take n bytes) place total ≡ read_head bytes place total
head_same bytes place total n le = ap (λ (b : List ℕ). part (head_format total) b place) (take-take (min 32 total) n bytes (omega (arith, le)))

-- a piece behind so many bytes, of a front that goes past its end
piece : (a d n : ℕ) (xs : List ℕ) → a + d ≤ n → take d (drop a (take n xs)) ≡ take d (drop a xs)
piece a d n xs le =
    let e : n ≡ a + (n - a) = omega (arith, le) in
    ap (λ (k : ℕ). take d (drop a (take k xs))) e ∙ ap (take d) (drop-take a (n - a) xs) ∙ take-take d (n - a) (drop a xs) (omega (arith, le))

pub tables_same : (bytes : List ℕ) (place total n : ℕ) (h : Head) → read_head bytes place total ≡ Ok h → 32 + h.document_bytes + h.term_bytes ≤ n → tables_of (take n bytes) place total ≡ tables_of bytes place total
tables_same bytes place total n h read le =
    let d : ℕ = h.document_bytes in
    let t : ℕ = h.term_bytes in
    let first : document_part (take n bytes) h ≡ document_part bytes h = piece 32 d n bytes (omega (arith, le)) in
    let split : n ≡ 32 + (n - 32) = omega (arith, le) in
    let second : term_part (take n bytes) h ≡ term_part bytes h =
    ap (λ (k : ℕ). take t (drop d (drop 32 (take k bytes)))) split ∙ ap (λ (l : List ℕ). take t (drop d l)) (drop-take 32 (n - 32) bytes) ∙ piece d t (n - 32) (drop 32 bytes) (omega (arith, le)) in
    to_parts (take n bytes) place total h (head_same bytes place total n (omega (arith, le)) ∙ read)
    ∙ ap (λ (l : List ℕ). by_parts place total h l (term_part (take n bytes) h)) first ∙ ap (by_parts place total h (document_part bytes h)) second
    ∙ sym (to_parts bytes place total h read)

-- where the tables are all of the bytes, the terms are all that stands behind the documents
pub part_is : (bytes : List ℕ) (h : Head) → length bytes ≡ 32 + h.document_bytes + h.term_bytes → term_part bytes h ≡ drop (32 + h.document_bytes) bytes
part_is bytes h whole =
    take_all h.term_bytes (drop h.document_bytes (drop 32 bytes)) (omega (arith, whole, length-drop 32 bytes, length-drop h.document_bytes (drop 32 bytes))) ∙ drop-drop h.document_bytes 32 bytes
