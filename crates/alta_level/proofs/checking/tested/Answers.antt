use Rattle.std.proofs.Common.{Err, ◌∙◌, sym, subst, refl}
use Rattle.alta_postings.specs.Deltas.{decoded_list}
use Rattle.alta_words.specs.declared.checking.Bounds.{Bounds}
use Rattle.alta_table.specs.declared.fault.LevelFault.{LevelFault}
use Rattle.alta_table.specs.Answers.{IfDamaged}
use Rattle.alta_level.specs.Stored.{IsListFault, stored_of}
use Rattle.alta_level.proofs.Faults.{list_found, list_misfits}
use Rattle.alta_level.proofs.Walks.{fits_row, row_fits}
use Rattle.alta_level.proofs.checking.tested.Goals as goal

pub returns-then-walked-list-clause-reads : goal.returns-then-walked-list-clause-reads
returns-then-walked-list-clause-reads c =
    let s = stored_of c.args.list.now in
    record {
      found = tt;
      first = subst (λ (e : LevelFault). IfDamaged {X = Bounds} (Err e) (IsListFault c.args.documents.now s)) (sym c.misfit.ensures)
          (list_misfits c.args.documents.now s (decoded_list s.stream) (c.in-Ok.walked.bounds.rows, c.in-Ok.ensures.walks.posting) refl (λ f. c.if-walked-list.true (c.in-Ok.ensures.walks.bounds.counted ∙ f.counted)));
    }

pub returns-then-walked-clause-reads : goal.returns-then-walked-clause-reads
returns-then-walked-clause-reads c =
    let s = stored_of c.args.list.now in
    record {
      found = list_found c.args.documents.now s (decoded_list s.stream) c.in-Ok.ensures.coded refl
          (row_fits c.args.documents.now c.is_end_term-ends.result s.term (decoded_list s.stream) s.count c.is_end_term-ends.ensures (c.in-Ok.ensures.walks.fits.0 c.if-walked.true) (sym c.in-Ok.ensures.walks.bounds.counted ∙ c.if-walked-list.false));
      first = tt;
    }

pub returns-else-walked-clause-reads : goal.returns-else-walked-clause-reads
returns-else-walked-clause-reads c =
    let s = stored_of c.args.list.now in
    record {
      found = tt;
      first = subst (λ (e : LevelFault). IfDamaged {X = Bounds} (Err e) (IsListFault c.args.documents.now s)) (sym c.misfit-else-walked.ensures)
          (list_misfits c.args.documents.now s (decoded_list s.stream) (c.in-Ok.walked.bounds.rows, c.in-Ok.ensures.walks.posting) refl
          (λ f. let t = c.in-Ok.ensures.walks.fits.1 (fits_row c.args.documents.now c.is_end_term-ends.result s.term (decoded_list s.stream) s.count c.is_end_term-ends.ensures f) in cc (t, c.if-walked.false)));
    }
