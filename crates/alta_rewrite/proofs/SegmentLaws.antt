-- The tables of a segment are opened.
use Rattle.std.proofs.Common.{◌≡◌, ℕ, ◌+◌, ◌<◌, ◌^◌, List, length, take, sym, subst, ◌∙◌, arith, Result, Ok, Err}
use Rattle.alta_codec.specs.Bytes.{AreBytes}
use Rattle.alta_content.specs.declared.content.Content.{Content}
use Rattle.alta_level.proofs.Spelled.{segment_tables}
use Rattle.alta_level.specs.Segments.{IsSegment, rows_of}
use Rattle.alta_table.proofs.FrontLaws.{head_read, tables_same}
use Rattle.alta_table.proofs.TableLaws.{are_tables}
use Rattle.alta_table.specs.Answers.{AlwaysAnswers}
use Rattle.alta_table.specs.Tables.{AreTables, Tables, head_of, read_head, tables_of}
use Rattle.alta_table.specs.declared.fault.LevelFault.{LevelFault}
use Rattle.alta_table.specs.declared.fault.LevelFault.TheVariants.{Damaged, Memory}
use Rattle.alta_table.specs.declared.sizes.Head.{Head}

abbrev pub tables_by : ℕ → Content → Tables
tables_by place content = record { place = place; documents = content.documents; terms = rows_of content.lists }

module _ (content : Content) (bytes : List ℕ) (place total : ℕ) (is : IsSegment bytes content) (fits : AreBytes bytes) (long : total ≡ length bytes) (below : place + total < 2 ^ 64) where
  tables : AreTables bytes place total (tables_by place content)
  tables = subst (λ n. AreTables bytes place n (tables_by place content)) (sym long) (segment_tables bytes place content (omega arith) is)

  head_is : read_head bytes place total ≡ Ok (head_of content.documents (rows_of content.lists))
  head_is = head_read bytes tables.behind place total content.documents (rows_of content.lists) fits (omega arith) tables.keeps tables.spelled

  pub no_fault : (fault : LevelFault) → AlwaysAnswers (λ (h : Head). h) (Err fault) (read_head bytes place total) → ⊥
  no_fault Memory e = e
  no_fault (Damaged p) e = differ (read_head bytes place total) head_is e
    where
      differ : (r : Result Head ℕ) → r ≡ Ok (head_of content.documents (rows_of content.lists)) → r ≡ Err p → ⊥
      differ (Ok h) is e = absurd cc
      differ (Err q) is e = absurd cc

  pub tables_are : (h : Head) (front : List ℕ) → read_head bytes place total ≡ Ok h → front ≡ take (32 + h.document_bytes + h.term_bytes) bytes → tables_of front place total ≡ Ok (tables_by place content)
  tables_are h front e front_is =
      subst (λ (b : List ℕ). tables_of b place total ≡ Ok (tables_by place content)) (sym front_is)
      (tables_same bytes place total (32 + h.document_bytes + h.term_bytes) h e (omega arith) ∙ are_tables bytes place total (tables_by place content) fits (omega arith) tables)

  pub no_damage : (h : Head) (front : List ℕ) (p : ℕ) → read_head bytes place total ≡ Ok h → front ≡ take (32 + h.document_bytes + h.term_bytes) bytes → tables_of front place total ≡ Err p → ⊥
  no_damage h front p e front_is damaged = differ (tables_of front place total) (tables_are h front e front_is) damaged
    where
      differ : (r : Result Tables ℕ) → r ≡ Ok (tables_by place content) → r ≡ Err p → ⊥
      differ (Ok t) is e = absurd cc
      differ (Err q) is e = absurd cc

  pub table_is : (h : Head) (front : List ℕ) (t : Tables) → read_head bytes place total ≡ Ok h → front ≡ take (32 + h.document_bytes + h.term_bytes) bytes → tables_of front place total ≡ Ok t → t ≡ tables_by place content
  table_is h front t e front_is found = same (tables_of front place total) (tables_are h front e front_is) found
    where
      same : (r : Result Tables ℕ) → r ≡ Ok (tables_by place content) → r ≡ Ok t → t ≡ tables_by place content
      same (Ok s) is e = cc
      same (Err q) is e = absurd cc
