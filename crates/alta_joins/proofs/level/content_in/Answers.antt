use Rattle.std.proofs.Common.{◌≡◌, ℕ, List, subst, ap, ◌∙◌, arith}
use Rattle.alta_content.specs.TermList.{TermList}
use Rattle.alta_content.specs.declared.content.Content.{Content}
use Rattle.alta_joins.proofs.FaultLaws.{fault_goes}
use Rattle.alta_joins.proofs.ReadRows.{all_rows}
use Rattle.alta_joins.proofs.RowSteps.{some_row}
use Rattle.alta_joins.specs.Reading.{rows_between}
use Rattle.alta_level.specs.Damage.{AreListsOf, IsFaultInLists, data_place}
use Rattle.alta_table.specs.Tables.{Tables}
use Rattle.alta_table.specs.Terms.{data_bytes}
use Rattle.alta_table.specs.declared.term.TermRow.{TermRow}
use Rattle.alta_joins.proofs.DataLaws.{content_kept, content_segment}
use Rattle.alta_joins.proofs.level.content_in.Goals as goal

pub lists_in-requires-clause-some : goal.lists_in-requires-clause-some
lists_in-requires-clause-some c = omega (arith, some_row c.args.level.now.terms c.documents-documents.ensures.kept.has_end, c.terms.ensures)

pub lists_in-requires-clause-whole : goal.lists_in-requires-clause-whole
lists_in-requires-clause-whole c =
    let level : Tables = c.args.level.now in
    omega (arith, c.requires.long, ap data_bytes (ap (rows_between level 0) c.terms.ensures ∙ all_rows level))

pub returns-in-Err-clause-first : goal.returns-in-Err-clause-first
returns-in-Err-clause-first c =
    let level : Tables = c.args.level.now in
    let all : rows_between level 0 c.terms.result ≡ level.terms = ap (rows_between level 0) c.terms.ensures ∙ all_rows level in
    fault_goes (List TermList) Content c.in-Err.fault (IsFaultInLists level.documents (rows_between level 0 c.terms.result) c.args.bytes.items c.args.place)
    (IsFaultInLists level.documents level.terms c.args.bytes.items (data_place level))
    (λ p fault. subst (λ (place : ℕ). IsFaultInLists level.documents level.terms c.args.bytes.items place p) c.requires.place
    (subst (λ (terms : List TermRow). IsFaultInLists level.documents terms c.args.bytes.items c.args.place p) all fault))
    c.in-Err.ensures.first

pub returns-clause-kept : goal.returns-clause-kept
returns-clause-kept c =
    let level : Tables = c.args.level.now in
    let content : Content = record { documents = c.from_vec.result; lists = c.in-Ok.lists } in
    let rows : content.documents ≡ level.documents = c.from_vec.ensures ∙ c.in_ok-documents.ensures ∙ c.deref.ensures ∙ c.rows.ensures.rows in
    let all : rows_between level 0 c.terms.result ≡ level.terms = ap (rows_between level 0) c.terms.ensures ∙ all_rows level in
    let found = subst (λ (terms : List TermRow). AreListsOf level.documents terms c.args.bytes.items c.args.place c.in-Ok.lists) all c.in-Ok.ensures.found in
    let lists = subst (λ (place : ℕ). AreListsOf level.documents level.terms c.args.bytes.items place c.in-Ok.lists) c.requires.place found in
    content_kept level c.args.bytes.items content c.rows.ensures.kept c.requires.long rows lists

pub returns-clause-segment : goal.returns-clause-segment
returns-clause-segment c =
    let level : Tables = c.args.level.now in
    let content : Content = record { documents = c.from_vec.result; lists = c.in-Ok.lists } in
    let rows : content.documents ≡ level.documents = c.from_vec.ensures ∙ c.in_ok-documents.ensures ∙ c.deref.ensures ∙ c.rows.ensures.rows in
    let all : rows_between level 0 c.terms.result ≡ level.terms = ap (rows_between level 0) c.terms.ensures ∙ all_rows level in
    let found = subst (λ (terms : List TermRow). AreListsOf level.documents terms c.args.bytes.items c.args.place c.in-Ok.lists) all c.in-Ok.ensures.found in
    let lists = subst (λ (place : ℕ). AreListsOf level.documents level.terms c.args.bytes.items place c.in-Ok.lists) c.requires.place found in
    content_segment level c.args.bytes.items content c.rows.ensures.kept c.requires.long rows lists
