-- A fault of the head is damage of the tables.
use Rattle.std.proofs.Common.{◌≡◌, ℕ, List, ap, Result, Ok, Err}
use Rattle.std.specs.Prelude.{nat_lt, if◌then◌else◌, ◌+◌, ◌-◌}
use Rattle.std.specs.List.{list_any}
use Rattle.alta_format.specs.Format.{◌>>=◌, part}
use Rattle.alta_format.proofs.FormatLaws.{failed}
use Rattle.alta_table.specs.declared.fault.LevelFault.{LevelFault}
use Rattle.alta_table.specs.declared.fault.LevelFault.TheVariants as faults
use Rattle.alta_table.specs.declared.sizes.Head.{Head}
use Rattle.alta_table.specs.Answers.{AlwaysAnswers, Fails, IfDamaged}
use Rattle.alta_table.specs.Documents.{documents_format}
use Rattle.alta_table.specs.Terms.{terms_format, is_end}
use Rattle.alta_table.specs.Tables.{Tables, read_head, tables_of, document_part, term_part, room}

abbrev behind : ℕ → ℕ → List ℕ → Head → Result Tables ℕ
behind place total bytes h =
    part (documents_format h.documents) (document_part bytes h) (place + 32) >>= λ documents.
    part (terms_format h.terms (room total h)) (term_part bytes h) (place + 32 + h.document_bytes) >>= λ found.
    if nat_lt 0 found.1 then Err (place + (total - found.1))
    else (if list_any is_end found.0 then Ok (record { place = place; documents = documents; terms = found.0 }) else Err (place + 8))

stops : (bytes : List ℕ) (place total p : ℕ) → read_head bytes place total ≡ failed p → tables_of bytes place total ≡ failed p
unfolding tables_of
stops bytes place total p e = ap (λ r. r >>= λ h. behind place total bytes h) e

pub head_fails : (X : Type 0) (bytes : List ℕ) (place total : ℕ) (e : LevelFault) (Q : ℕ → Type 0) → ((p : ℕ) → tables_of bytes place total ≡ failed p → Q p)
    → AlwaysAnswers {X = Head} (λ h. h) (Err e) (read_head bytes place total) → IfDamaged {X = X} (Err e) Q
head_fails X bytes place total faults.Memory Q goes a = tt
head_fails X bytes place total (faults.Damaged p) Q goes a = goes p (stops bytes place total p a)

pub tables_fail : (X : Type 0) (e : LevelFault) (found : Result Tables ℕ) (Q : ℕ → Type 0) → ((p : ℕ) → found ≡ failed p → Q p) → Fails e found → IfDamaged {X = X} (Err e) Q
tables_fail X faults.Memory found Q goes a = tt
tables_fail X (faults.Damaged p) found Q goes a = goes p a
