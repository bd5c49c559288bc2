-- Head and tables of a segment: their spelling, their rules, and the order in which these are tested.
use Rattle.std.specs.Prelude.{◌≡◌, ◌<◌, ◌≤◌, false, ℕ, ◌+◌, ◌-◌, min, List, ◌++◌, length, take, drop, true, Result, Ok, Err, nat_lt, nat_le, if◌then◌else◌}
use Rattle.std.specs.Int.{w64, to_be_bytes}
use Rattle.std.specs.List.{list_any}
use Rattle.alta_format.specs.Format.{Format, wide, ends, number_field, ◌>>=◌, part, Spells, FirstBroken}
use Rattle.alta_content.specs.declared.document.DocRow.{DocRow}
use Rattle.alta_table.specs.declared.sizes.Head.{Head}
use Rattle.alta_table.specs.declared.term.TermRow.{TermRow}
use Rattle.alta_table.specs.Documents.{documents_format, documents_bytes}
use Rattle.alta_content.specs.Rows.{AreDocuments}
use Rattle.alta_table.specs.Terms.{terms_format, terms_bytes, AreTerms, HasEnd, is_end, data_bytes}

-- the tables of a segment that begins at a place of the disk
pub record Tables : Type 0 where
  pub place : ℕ
  pub documents : List DocRow
  pub terms : List TermRow

-- ---- the spelling

abbrev pub head_bytes : Head → List ℕ
head_bytes h = to_be_bytes w64 h.documents ++ to_be_bytes w64 h.terms ++ to_be_bytes w64 h.document_bytes
    ++ to_be_bytes w64 h.term_bytes

abbrev pub head_of : List DocRow → List TermRow → Head
head_of documents terms = record {
  documents = length documents;
  terms = length terms;
  document_bytes = length (documents_bytes documents);
  term_bytes = length (terms_bytes terms);
}

-- head, documents and terms, one behind the other
abbrev pub tables_bytes : List DocRow → List TermRow → List ℕ
tables_bytes documents terms = head_bytes (head_of documents terms) ++ documents_bytes documents ++ terms_bytes terms

-- how many bytes the segment of such tables has: the streams and summaries of all terms stand behind them
abbrev pub total_of : List DocRow → List TermRow → ℕ
total_of documents terms = length (tables_bytes documents terms) + data_bytes terms

-- ---- the rules

-- these are the tables of a segment of so many bytes: streams and summaries stand behind them, and fill it
pub record KeepRules (total : ℕ) (documents : List DocRow) (terms : List TermRow) : Type 0 where
  pub some : 0 < length documents
  pub documents_stand : AreDocuments documents
  pub terms_stand : AreTerms terms
  pub has_end : HasEnd terms
  pub filled : total_of documents terms ≡ total

-- The bytes begin with head and tables of a segment of so many bytes at a place.
pub record AreTables (bytes : List ℕ) (place total : ℕ) (tables : Tables) : Type 0 where
  pub at : tables.place ≡ place
  pub keeps : KeepRules total tables.documents tables.terms
  pub behind : List ℕ
  pub spelled : bytes ≡ tables_bytes tables.documents tables.terms ++ behind

-- ---- the fields, in the order in which they are tested

-- The head of a segment of so many bytes: the number of documents, of terms, the bytes of the document part and of the
-- term part. The head and the parts up to one are no longer than the segment.
unfoldable pub head_format : ℕ → Format Head
head_format total =
    number_field wide (λ documents. nat_lt 0 documents) (λ documents.
    number_field wide (λ terms. true) (λ terms.
    number_field wide (λ bytes. nat_le (32 + bytes) total) (λ document_bytes.
    number_field wide (λ bytes. nat_le (32 + document_bytes + bytes) total) (λ term_bytes.
    ends (record { documents = documents; terms = terms; document_bytes = document_bytes; term_bytes = term_bytes })))))

-- the bytes of the head, fewer where the segment has no more
abbrev pub head_part : List ℕ → ℕ → List ℕ
head_part bytes total = take (min 32 total) bytes

abbrev pub document_part : List ℕ → Head → List ℕ
document_part bytes h = take h.document_bytes (drop 32 bytes)

abbrev pub term_part : List ℕ → Head → List ℕ
term_part bytes h = take h.term_bytes (drop h.document_bytes (drop 32 bytes))

-- how many bytes of the segment stand behind its tables
abbrev pub room : ℕ → Head → ℕ
room total h = total - 32 - h.document_bytes - h.term_bytes

-- the head of a segment that begins at a place, or the place of its first broken field
abbrev pub read_head : List ℕ → ℕ → ℕ → Result Head ℕ
read_head bytes place total = part (head_format total) (head_part bytes total) place

-- The tables of a segment of so many bytes that begins at a place, or the place of the first damage: the head, the
-- documents, the terms, then the end of the streams, and last that there is a term of ends.
unfoldable pub tables_of : List ℕ → ℕ → ℕ → Result Tables ℕ
tables_of bytes place total =
    read_head bytes place total >>= λ h.
    part (documents_format h.documents) (document_part bytes h) (place + 32) >>= λ documents.
    part (terms_format h.terms (room total h)) (term_part bytes h) (place + 32 + h.document_bytes) >>= λ found.
    if nat_lt 0 found.1 then Err (place + (total - found.1))
    else (if list_any is_end found.0 then Ok (record { place = place; documents = documents; terms = found.0 })
    else Err (place + 8))

-- ---- the damage as a relation

abbrev pub HasHead : List ℕ → ℕ → Head → Type 0
HasHead bytes total h = (rest : List ℕ) × Spells (head_format total) (head_part bytes total) h rest

abbrev pub HasDocuments : List ℕ → Head → List DocRow → Type 0
HasDocuments bytes h documents = (rest : List ℕ)
    × Spells (documents_format h.documents) (document_part bytes h) documents rest

-- the terms, and how many bytes no stream or summary takes
abbrev pub HasTerms : List ℕ → ℕ → Head → List TermRow × ℕ → Type 0
HasTerms bytes total h found = (rest : List ℕ)
    × Spells (terms_format h.terms (room total h)) (term_part bytes h) found rest

-- the first damage, in a segment of so many bytes that begins at a place
pub data IsDamage (bytes : List ℕ) (place total : ℕ) : ℕ → Type 0 where
  in_head : (p : ℕ) → FirstBroken (head_format total) (head_part bytes total) place p → IsDamage bytes place total p
  in_documents : (h : Head) (p : ℕ) → HasHead bytes total h
      → FirstBroken (documents_format h.documents) (document_part bytes h) (place + 32) p → IsDamage bytes place total p
  in_terms : (h : Head) (documents : List DocRow) (p : ℕ) → HasHead bytes total h → HasDocuments bytes h documents
      → FirstBroken (terms_format h.terms (room total h)) (term_part bytes h) (place + 32 + h.document_bytes) p
      → IsDamage bytes place total p
  behind_streams : (h : Head) (documents : List DocRow) (terms : List TermRow) (left : ℕ) → HasHead bytes total h
      → HasDocuments bytes h documents → HasTerms bytes total h (terms, left)
      → 0 < left → IsDamage bytes place total (place + (total - left))
  no_end : (h : Head) (documents : List DocRow) (terms : List TermRow) → HasHead bytes total h
      → HasDocuments bytes h documents → HasTerms bytes total h (terms, 0)
      → list_any is_end terms ≡ false → IsDamage bytes place total (place + 8)

-- the bytes have the whole parts of which the head speaks
abbrev pub HasParts : List ℕ → ℕ → ℕ → Type 0
HasParts bytes place total = (h : Head) → read_head bytes place total ≡ Ok h
    → 32 + h.document_bytes + h.term_bytes ≤ length bytes
