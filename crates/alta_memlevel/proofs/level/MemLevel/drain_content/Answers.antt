use Rattle.std.proofs.Common.{◌≡◌, not, sym, ap, subst, ◌∙◌, IsTrue}
use Rattle.std.specs.List.{filter}
use Rattle.alta_content.specs.declared.content.Content.{Content}
use Rattle.alta_memlevel.specs.Added.{HasContent, live_of}
use Rattle.alta_memlevel.specs.Lists.{term_lists}
use Rattle.alta_content.specs.Rows.{RowsRise}
use Rattle.alta_content.specs.Spans.{SpansRise, deleted_spans, is_within, lists_outside}
use Rattle.alta_content.proofs.Outside.{spans_rise}
use Rattle.alta_memlevel.proofs.Drained.{content_live, lists_rise}
use Rattle.alta_memlevel.proofs.level.MemLevel.drain_content.Goals as goal

pub spans_of-requires : goal.spans_of-requires
spans_of-requires c =
    let whole : IsTrue c.self.inside.whole = subst (λ v. IsTrue v.sound) (sym c.self.view_is) c.requires in
    subst RowsRise (sym (c.deref.ensures.value ∙ c.in_ok-rows.ensures)) (c.self.invariant whole).1

pub copy_lists-requires : goal.copy_lists-requires
copy_lists-requires c =
    let whole : IsTrue c.self.inside.whole = subst (λ v. IsTrue v.sound) (sym c.self.view_is) c.requires in
    let rise : RowsRise c.deref.result.now = subst RowsRise (sym (c.deref.ensures.value ∙ c.in_ok-rows.ensures)) (c.self.invariant whole).1 in
    subst SpansRise (sym (c.deref-2.ensures.value ∙ c.in_ok-spans.ensures)) (spans_rise c.args.deleted.now c.deref.result.now rise)

pub keep_rows-requires : goal.keep_rows-requires
keep_rows-requires c =
    let whole : IsTrue c.self.inside.whole = subst (λ v. IsTrue v.sound) (sym c.self.view_is) c.requires in
    let rise : RowsRise c.deref.result.now = subst RowsRise (sym (c.deref.ensures.value ∙ c.in_ok-rows.ensures)) (c.self.invariant whole).1 in
    subst SpansRise (sym (c.deref-3.ensures.value ∙ c.in_ok-spans.ensures)) (spans_rise c.args.deleted.now c.deref.result.now rise)

pub returns-clause-content : goal.returns-clause-content
returns-clause-content c =
    let whole : IsTrue c.self.inside.whole = subst (λ v. IsTrue v.sound) (sym c.self.view_is) c.requires in
    let rise : RowsRise c.self.inside.rows = (c.self.invariant whole).1 in
    let old : Content = record { documents = c.self.inside.rows; lists = term_lists c.self.inside.lists.entries } in
    let new : Content = record { documents = c.from_vec.result; lists = c.in_ok-lists.lists } in
    let spans : c.in_ok-spans.spans.items ≡ deleted_spans c.args.deleted.now old.documents =
    c.in_ok-spans.ensures ∙ ap (deleted_spans c.args.deleted.now) (c.deref.ensures.value ∙ c.in_ok-rows.ensures) in
    let documents : new.documents ≡ filter (λ r. not (is_within (deleted_spans c.args.deleted.now old.documents) r.first)) old.documents =
    c.from_vec.ensures ∙ c.keep_rows.ensures
    ∙ ap (λ s. filter (λ r. not (is_within s r.first)) c.in_ok-rows.rows.items) (c.deref-3.ensures.value ∙ spans)
    ∙ ap (filter (λ r. not (is_within (deleted_spans c.args.deleted.now old.documents) r.first))) c.in_ok-rows.ensures in
    let lists : new.lists ≡ lists_outside (deleted_spans c.args.deleted.now old.documents) old.lists =
    c.in_ok-lists.ensures ∙ ap (λ s. lists_outside s old.lists) (c.deref-2.ensures.value ∙ spans) in
    λ added h. content_live c.args.deleted.now added old new (subst (λ v. HasContent added v.content) (sym c.self.view_is) h) rise documents lists

pub returns-clause-rising : goal.returns-clause-rising
returns-clause-rising c =
    λ added h. lists_rise (live_of c.args.deleted.now added) (record { documents = c.from_vec.result; lists = c.in_ok-lists.lists }) (returns-clause-content c added h)
