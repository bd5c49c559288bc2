use Rattle.std.proofs.Common.{◌≡◌, ◌++◌, List, not, sym, subst, ap, ap₂, ◌∙◌}
use Rattle.std.specs.List.{filter}
use Rattle.alta_content.proofs.Contents.{rows_rise}
use Rattle.alta_content.proofs.Outside.{rows_outside, spans_rise}
use Rattle.alta_content.specs.Rows.{RowsRise, live_rows}
use Rattle.alta_content.specs.Spans.{SpansRise, deleted_spans, is_within}
use Rattle.alta_content.specs.declared.document.DocRow.{DocRow}
use Rattle.alta_content.specs.declared.spans.Span.{Span}
use Rattle.alta_meaning.specs.Opened.{table_rows}
use Rattle.alta_joins.proofs.oldest.begin.Goals as goal

pub spans_of-requires : goal.spans_of-requires
spans_of-requires c = subst RowsRise (sym (c.deref.ensures.value ∙ c.in_ok-opened.ensures.documents)) (rows_rise (table_rows c.args.levels.now) c.requires)

pub keep_rows-requires : goal.keep_rows-requires
keep_rows-requires c =
    let rows = table_rows c.args.levels.now in
    let dead = c.args.gone.now in
    let spans : c.in_ok-spans.spans.items ≡ deleted_spans dead rows = c.in_ok-spans.ensures ∙ ap (deleted_spans dead) (c.deref.ensures.value ∙ c.in_ok-opened.ensures.documents) in
    subst SpansRise (sym (c.deref-2.ensures.value ∙ spans)) (spans_rise dead rows (rows_rise rows c.requires))

pub returns-clause-documents : goal.returns-clause-documents
returns-clause-documents c =
    let rows = table_rows c.args.levels.now in
    let dead = c.args.gone.now in
    let spans : c.in_ok-spans.spans.items ≡ deleted_spans dead rows = c.in_ok-spans.ensures ∙ ap (deleted_spans dead) (c.deref.ensures.value ∙ c.in_ok-opened.ensures.documents) in
    let kept : c.keep_rows.new.rows.items ≡ live_rows dead rows =
    c.keep_rows.ensures
    ∙ ap (λ (s : List Span). filter (λ (r : DocRow). not (is_within s r.first)) c.in_ok-opened.opened.documents.items) (c.deref-2.ensures.value ∙ spans)
    ∙ ap (filter (λ (r : DocRow). not (is_within (deleted_spans dead rows) r.first))) c.in_ok-opened.ensures.documents
    ∙ rows_outside dead rows (rows_rise rows c.requires) in
    c.in_ok-append.ensures.items ∙ ap₂ (λ (a b : List DocRow). a ++ b) kept c.into_vec-more.ensures

pub returns-clause-rising : goal.returns-clause-rising
returns-clause-rising c =
    let rows = table_rows c.args.levels.now in
    let dead = c.args.gone.now in
    let spans : c.in_ok-spans.spans.items ≡ deleted_spans dead rows = c.in_ok-spans.ensures ∙ ap (deleted_spans dead) (c.deref.ensures.value ∙ c.in_ok-opened.ensures.documents) in
    subst SpansRise (sym spans) (spans_rise dead rows (rows_rise rows c.requires))
