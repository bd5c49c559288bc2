use Rattle.std.proofs.Common.{ℕ, List, drop, refl, ap, ◌∙◌, arith}
use Rattle.alta_table.specs.Tables.{Tables}
use Rattle.alta_content.specs.declared.content.Content.{Content}
use Rattle.alta_content.specs.TermList.{TermList}
use Rattle.alta_level.specs.Damage.{AreListsOf, IsFaultInLists, IsSegmentFault, data_in, data_place}
use Rattle.alta_level.specs.Damage.IsSegmentFault.{in_lists}
use Rattle.alta_level.proofs.Joins.{fault_goes}
use Rattle.alta_level.proofs.Once.{moved}
use Rattle.alta_level.proofs.Spelled.{segment_found}
use Rattle.alta_level.proofs.reading.content_of.Goals as goal

pub returns-in-Ok-unshare-clause-found : goal.returns-in-Ok-unshare-clause-found
returns-in-Ok-unshare-clause-found c =
    let t : Tables = c.args.table in
    let bytes = c.args.bytes.now in
    let documents = c.in-Ok.ensures.cases ∙ c.rows.ensures.rows in
    segment_found bytes c.args.place t (record { documents = c.from_vec.result; lists = c.in-Ok-lists_at.lists }) c.requires.tables (c.from_vec.ensures ∙ c.in-Ok-unshare.ensures ∙ documents)
    (moved (λ d r s p. AreListsOf d r s p c.in-Ok-lists_at.lists) c.deref.result.now t.documents _ t.terms c.split_at.result.1.now (data_in bytes t) _ (data_place t)
    (c.deref.ensures ∙ documents) refl (c.split_at.ensures.back ∙ ap (λ (i : ℕ). drop i bytes) c.requires.len) (omega (arith, c.requires.len, c.requires.tables.at)) c.in-Ok-lists_at.ensures.found)

pub returns-in-Err-clause-first : goal.returns-in-Err-clause-first
returns-in-Err-clause-first c =
    let t : Tables = c.args.table in
    let bytes = c.args.bytes.now in
    fault_goes (List TermList) Content c.in-Err.fault _ (IsSegmentFault bytes c.args.place)
    (λ p f. in_lists t p c.requires.tables
    (moved (λ d r s q. IsFaultInLists d r s q p) c.deref.result.now t.documents _ t.terms c.split_at.result.1.now (data_in bytes t) _ (data_place t)
    (c.deref.ensures ∙ c.in-Ok.ensures.cases ∙ c.rows.ensures.rows) refl (c.split_at.ensures.back ∙ ap (λ (i : ℕ). drop i bytes) c.requires.len) (omega (arith, c.requires.len, c.requires.tables.at)) f))
    c.in-Err.ensures.first
