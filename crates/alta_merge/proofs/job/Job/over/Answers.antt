use Rattle.std.proofs.Common.{◌≡◌, ◌++◌, sym, ap, subst, ◌∙◌, not, List}
use Rattle.std.specs.List.{All, filter}
use Rattle.alta_content.specs.declared.content.Content.{Content}
use Rattle.alta_content.specs.TermList.{TermList}
use Rattle.alta_content.specs.declared.document.DocRow.{DocRow}
use Rattle.alta_content.specs.Joining.{gathered, rows_in}
use Rattle.alta_content.specs.Lists.{TermsRise}
use Rattle.alta_content.specs.Rows.{RowsRise, live_rows}
use Rattle.alta_content.specs.Spans.{SpansRise, deleted_spans, is_within, lists_outside}
use Rattle.alta_content.proofs.Outside.{rows_outside, spans_rise}
use Rattle.alta_content.proofs.Contents.{parts_rise, rows_rise}
use Rattle.alta_merge.proofs.job.Job.over.Goals as goal

pub spans_of-requires : goal.spans_of-requires
spans_of-requires c =
    subst RowsRise (sym (c.deref.ensures.value ∙ c.in_ok-parts.ensures.rows)) (rows_rise (rows_in c.args.contents.items) c.requires.documents)

pub keep_rows-requires : goal.keep_rows-requires
keep_rows-requires c =
    let rows = rows_in c.args.contents.items in
    let is : c.deref.result.now ≡ rows = c.deref.ensures.value ∙ c.in_ok-parts.ensures.rows in
    subst SpansRise (sym (c.deref-2.ensures.value ∙ c.in_ok-spans.ensures ∙ ap (deleted_spans c.args.deleted.now) is))
    (spans_rise c.args.deleted.now rows (rows_rise rows c.requires.documents))

pub invariant_of-result : goal.invariant_of-result
invariant_of-result c =
    let rows = rows_in c.args.contents.items in
    let is : c.deref.result.now ≡ rows = c.deref.ensures.value ∙ c.in_ok-parts.ensures.rows in
    record {
      spans_rise = subst SpansRise (sym (c.in_ok-spans.ensures ∙ ap (deleted_spans c.args.deleted.now) is)) (spans_rise c.args.deleted.now rows (rows_rise rows c.requires.documents));
      terms_rise = subst (All TermsRise) (sym c.in_ok-parts.ensures.rests) (parts_rise c.args.contents.items c.requires.parts);
    }

pub returns-clause-whole : goal.returns-clause-whole
returns-clause-whole c =
    let rows = rows_in c.args.contents.items in
    let dead = c.args.deleted.now in
    let is : c.deref.result.now ≡ rows = c.deref.ensures.value ∙ c.in_ok-parts.ensures.rows in
    let spans : c.in_ok-spans.spans.items ≡ deleted_spans dead rows = c.in_ok-spans.ensures ∙ ap (deleted_spans dead) is in
    let documents : c.from_vec.result ≡ live_rows dead rows =
    c.from_vec.ensures ∙ c.keep_rows.ensures
    ∙ ap (λ s. filter (λ (r : DocRow). not (is_within s r.first)) c.in_ok-parts.parts.rows.items) (c.deref-2.ensures.value ∙ spans)
    ∙ ap (filter (λ (r : DocRow). not (is_within (deleted_spans dead rows) r.first))) c.in_ok-parts.ensures.rows
    ∙ rows_outside dead rows (rows_rise rows c.requires.documents) in
    let f : List DocRow → Content = λ x. record { documents = x; lists = c.in_ok-with_room.field-0 ++ lists_outside (c.in_ok-spans.spans.items) (gathered c.in_ok-parts.parts.rests.items) } in
    let g : List TermList → Content = λ x. record { documents = live_rows dead rows; lists = x } in
    ap f documents
    ∙ ap g (ap (λ l. l ++ lists_outside (c.in_ok-spans.spans.items) (gathered c.in_ok-parts.parts.rests.items)) c.in_ok-with_room.ensures
    ∙ ap (λ s. lists_outside s (gathered c.in_ok-parts.parts.rests.items)) spans
    ∙ ap (λ p. lists_outside (deleted_spans dead rows) (gathered p)) c.in_ok-parts.ensures.rests)
