use Rattle.std.proofs.Common.{◌<◌, List, ℕ, length, sym, ◌∙◌, subst}
use Rattle.alta_content.specs.declared.document.DocRow.{DocRow}
use Rattle.alta_level.specs.Stored.{IsListOf, Stored, stored_of}
use Rattle.alta_loading.proofs.RowOf.{row_counted, stored_same}
use Rattle.alta_postings.specs.Deltas.{decoded_list}
use Rattle.alta_words.specs.Word.{HasBounds, IsPosting}
use Rattle.alta_loading.proofs.list.checked.Goals as goal

pub of-requires-clause-agrees : goal.of-requires-clause-agrees
of-requires-clause-agrees c =
    let level = c.args.table.now in let row = c.args.row.now.row in let stream = c.args.stream.items in let summary = c.args.summary.items in
    let same = stored_same level row (stored_of c.stored-list.result) c.deref.result.now c.deref-2.result.now stream summary c.stored-list.ensures c.deref.ensures.value c.deref-2.ensures.value in
    subst (λ (s : Stored). IsPosting s.stream s.summary c.in-Ok.bounds.rows) same c.in-Ok.ensures.posting

pub of-requires-clause-bounds : goal.of-requires-clause-bounds
of-requires-clause-bounds c =
    let level = c.args.table.now in let row = c.args.row.now.row in let stream = c.args.stream.items in let summary = c.args.summary.items in
    let same = stored_same level row (stored_of c.stored-list.result) c.deref.result.now c.deref-2.result.now stream summary c.stored-list.ensures c.deref.ensures.value c.deref-2.ensures.value in
    subst (λ (s : Stored). HasBounds (decoded_list s.stream) c.in-Ok.bounds.count c.in-Ok.bounds.first c.in-Ok.bounds.last) same c.in-Ok.ensures.bounds

pub returns-in-Ok-clause-some : goal.returns-in-Ok-clause-some
returns-in-Ok-clause-some c =
    let level = c.args.table.now in let row = c.args.row.now.row in let stream = c.args.stream.items in let summary = c.args.summary.items in
    let same = stored_same level row (stored_of c.stored-list.result) c.deref.result.now c.deref-2.result.now stream summary c.stored-list.ensures c.deref.ensures.value c.deref-2.ensures.value in
    let here : Stored = stored_of c.stored-list.result in
    let whole =
    subst (λ (s : Stored). IsListOf level.documents s (decoded_list s.stream)) same
    (subst (λ (rows : List DocRow). IsListOf rows here (decoded_list here.stream)) (c.deref-3.ensures ∙ c.rows.ensures.rows) c.in-Ok.ensures.whole) in
    subst (λ (xs : List ℕ). 0 < length xs) (sym c.of.ensures)
    (subst (λ (n : ℕ). 0 < n) (sym whole.fits.counted) (row_counted level.terms row c.rows.ensures.kept.terms_stand c.requires.row))
