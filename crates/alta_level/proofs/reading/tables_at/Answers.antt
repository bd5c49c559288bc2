use Rattle.std.proofs.Common.{◌+◌, ℕ, List, length, sym, ap, ◌∙◌, arith}
use Rattle.alta_table.specs.Tables.{Tables, IsDamage, tables_of}
use Rattle.alta_table.specs.declared.sizes.Head.{Head}
use Rattle.alta_level.proofs.Windows.{head_fails, tables_fail}
use Rattle.alta_level.proofs.reading.tables_at.Goals as goal

pub returns-in-Err-clause-first : goal.returns-in-Err-clause-first
returns-in-Err-clause-first c =
    let bytes = c.args.bytes.now in
    head_fails (Tables × ℕ) bytes c.args.place (length bytes) c.in-Err.fault (IsDamage bytes c.args.place (length bytes))
    (λ p e. c.tables_read_back.ensures.first bytes c.args.place (length bytes) p (λ i. omega (arith, c.type_inv.bytes i)) e) c.in-Err.ensures.exact

pub returns-in-Ok-open-clause-found : goal.returns-in-Ok-open-clause-found
returns-in-Ok-open-clause-found c =
    let bytes = c.args.bytes.now in
    let h : Head = c.in-Ok.head in
    let n = 32 + h.document_bytes + h.term_bytes in
    let same = ap (λ (x : List ℕ). tables_of x c.args.place (length bytes)) c.split_at.ensures.front
    ∙ c.tables_in_front.ensures.same bytes c.args.place (length bytes) n h c.in-Ok.ensures.exact (omega arith) in
    c.tables_read_back.ensures.spelled bytes c.args.place (length bytes) c.in-Ok-open.table (λ i. omega (arith, c.type_inv.bytes i))
    (c.tables_in_front.ensures.parts bytes c.args.place (length bytes) (λ i. omega (arith, c.type_inv.bytes i)) (omega arith)) (sym same ∙ c.in-Ok-open.ensures.exact)

pub returns-in-Err-open-clause-first : goal.returns-in-Err-open-clause-first
returns-in-Err-open-clause-first c =
    let bytes = c.args.bytes.now in
    let h : Head = c.in-Ok.head in
    let n = 32 + h.document_bytes + h.term_bytes in
    let same = ap (λ (x : List ℕ). tables_of x c.args.place (length bytes)) c.split_at.ensures.front
    ∙ c.tables_in_front.ensures.same bytes c.args.place (length bytes) n h c.in-Ok.ensures.exact (omega arith) in
    tables_fail (Tables × ℕ) c.in-Err-open.fault (tables_of c.split_at.result.0.now c.args.place (length bytes)) (IsDamage bytes c.args.place (length bytes))
    (λ p e. c.tables_read_back.ensures.first bytes c.args.place (length bytes) p (λ i. omega (arith, c.type_inv.bytes i)) (sym same ∙ e)) c.in-Err-open.ensures.exact
