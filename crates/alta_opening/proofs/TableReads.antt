-- Head and tables of a level, from the bytes of a disk.
use Rattle.std.proofs.Common.{◌≡◌, ℕ, ◌+◌, ◌≤◌, List, ◌++◌, length, take, drop, refl, sym, ap, ◌∙◌, Result, Ok, Err, arith}
use Rattle.std.proofs.lemmas.List.{drop-drop, take-take}
use Rattle.alta_codec.specs.declared.extent.Extent.{Extent}
use Rattle.alta_disk.specs.Parts.{part}
use Rattle.alta_meaning.specs.Opened.{bytes_at, tables_at}
use Rattle.alta_meaning.proofs.Steps.{one_value}
use Rattle.alta_journal.proofs.Steps.{take_sum}
use Rattle.alta_table.specs.Answers.{AlwaysAnswers, Answers as TableAnswers}
use Rattle.alta_table.specs.Tables.{Tables, read_head, tables_of}
use Rattle.alta_table.specs.declared.fault.LevelFault.{LevelFault}
use Rattle.alta_table.specs.declared.fault.LevelFault.TheVariants as levels
use Rattle.alta_table.specs.declared.sizes.Head.{Head}
use Rattle.alta_table.proofs.FrontLaws.{head_same, tables_same}
use Rattle.alta_opening.specs.Steps.{Answers, outer}

-- a part in front of a part
pub part_front : (place few many : ℕ) (image : List ℕ) → few ≤ many → part place few image ≡ take few (part place many image)
part_front place few many image le = sym (take-take few many (drop place image) le)

-- a part, and the part behind it
pub parts_join : (place few more : ℕ) (image : List ℕ) → part place few image ++ part (place + few) more image ≡ part place (few + more) image
parts_join place few more image = sym (take_sum few more (drop place image) ∙ ap (λ (l : List ℕ). take few (drop place image) ++ take more l) (drop-drop few place image))

-- the head in front of a level
pub head_of_level : (extent : Extent) (image front : List ℕ) → 32 ≤ extent.bytes → front ≡ part extent.place 32 image
    → read_head front extent.place extent.bytes ≡ read_head (bytes_at extent image) extent.place extent.bytes
head_of_level extent image front long is =
    ap (λ (bytes : List ℕ). read_head bytes extent.place extent.bytes) (is ∙ part_front extent.place 32 extent.bytes image long)
    ∙ head_same (bytes_at extent image) extent.place extent.bytes 32 (omega arith)

-- the head in front of bytes that begin with it
pub head_in_front : (extent : Extent) (front bytes : List ℕ) → take 32 bytes ≡ front → read_head bytes extent.place extent.bytes ≡ read_head front extent.place extent.bytes
head_in_front extent front bytes is =
    sym (ap (λ (b : List ℕ). read_head b extent.place extent.bytes) (sym is) ∙ head_same bytes extent.place extent.bytes 32 (omega arith))

-- so many bytes are those of which the head in front of them speaks
pub whole_parts : (extent : Extent) (front bytes : List ℕ) (sizes h : Head) → take 32 bytes ≡ front → read_head front extent.place extent.bytes ≡ Ok sizes
    → length bytes ≡ 32 + (sizes.document_bytes + sizes.term_bytes) → read_head bytes extent.place extent.bytes ≡ Ok h → length bytes ≡ 32 + h.document_bytes + h.term_bytes
whole_parts extent front bytes sizes h is read long again =
    let same : sizes ≡ h = one_value (read_head front extent.place extent.bytes) sizes h read (sym (head_in_front extent front bytes is) ∙ again) in
    omega (arith, long, ap (λ (s : Head). s.document_bytes) same, ap (λ (s : Head). s.term_bytes) same)

-- the tables in bytes that begin with head and parts
pub tables_of_level : (extent : Extent) (image front rest bytes : List ℕ) (h : Head) → 32 ≤ extent.bytes → 32 + h.document_bytes + h.term_bytes ≤ extent.bytes
    → front ≡ part extent.place 32 image → rest ≡ part (extent.place + 32) (h.document_bytes + h.term_bytes) image → bytes ≡ front ++ rest
    → read_head front extent.place extent.bytes ≡ Ok h → tables_of bytes extent.place extent.bytes ≡ tables_at extent image
unfolding tables_at
tables_of_level extent image front rest bytes h long fits front_is rest_is is read =
    let d : ℕ = h.document_bytes in
    let t : ℕ = h.term_bytes in
    let whole : bytes ≡ take (32 + (d + t)) (bytes_at extent image) =
    is ∙ ap (λ (l : List ℕ). l ++ rest) front_is ∙ ap (λ (l : List ℕ). part extent.place 32 image ++ l) rest_is ∙ parts_join extent.place 32 (d + t) image
    ∙ part_front extent.place (32 + (d + t)) extent.bytes image (omega (arith, fits)) in
    ap (λ (b : List ℕ). tables_of b extent.place extent.bytes) whole
    ∙ tables_same (bytes_at extent image) extent.place extent.bytes (32 + (d + t)) h (sym (head_of_level extent image front long front_is) ∙ read) (omega arith)

-- the same of what was read in two calls, between which the content stayed
pub tables_read : (extent : Extent) (image later front items bytes : List ℕ) (h : Head) → 32 ≤ extent.bytes → 32 + h.document_bytes + h.term_bytes ≤ extent.bytes
    → front ≡ part extent.place 32 image → later ≡ image → items ≡ front ++ part (extent.place + 32) (h.document_bytes + h.term_bytes) later → bytes ≡ items
    → read_head front extent.place extent.bytes ≡ Ok h → tables_of bytes extent.place extent.bytes ≡ tables_at extent image
tables_read extent image later front items bytes h long fits front_is same items_are is read =
    tables_of_level extent image front (part (extent.place + 32) (h.document_bytes + h.term_bytes) image) bytes h long fits front_is refl
    (is ∙ items_are ∙ ap (λ (i : List ℕ). front ++ part (extent.place + 32) (h.document_bytes + h.term_bytes) i) same) read

-- a head that breaks a rule
pub head_fails : (extent : Extent) (image front : List ℕ) (fault : LevelFault) → 32 ≤ extent.bytes → front ≡ part extent.place 32 image
    → AlwaysAnswers (λ (h : Head). h) (Err fault) (read_head front extent.place extent.bytes) → Answers (λ (t : Tables). t) (Err (outer fault)) (tables_at extent image)
unfolding tables_at tables_of
head_fails extent image front levels.Memory long is read = absurd read
head_fails extent image front (levels.Damaged place) long is read = rw (sym (head_of_level extent image front long is) ∙ read) refl

-- tables that break a rule
pub tables_fail : (fault : LevelFault) (found : Result Tables ℕ) → TableAnswers (λ (t : Tables). t) (Err fault) found → Answers (λ (t : Tables). t) (Err (outer fault)) found
tables_fail levels.Memory found answers = tt
tables_fail (levels.Damaged place) found answers = answers
