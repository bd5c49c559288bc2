use Rattle.std.proofs.Common.{◌≡◌, true, [], length, refl, ap, ◌∙◌, arith, rules}
use Rattle.std.proofs.lemmas.Option.{get_or_from_slice_get}
use Rattle.std.specs.Prelude.{Some, slice_index}
use Rattle.alta_content.proofs.Apart.{ends_rise}
use Rattle.alta_content.specs.Lists.{end_term}
use Rattle.alta_content.specs.Rows.{ends_of}
use Rattle.alta_level.proofs.Walks.{ends_many}
use Rattle.alta_loading.proofs.TestedEnds.{ends_in_ranges, row_tested}
use Rattle.alta_loading.specs.Loads.{IsWhole}
use Rattle.alta_table.specs.Terms.{counts_of, terms_of}
use Rattle.alta_loading.proofs.term.counts_all_ends.Goals as goal

pub returns-clause-ends : goal.returns-clause-ends
returns-clause-ends c = λ counted image whole_ends.
    let level = c.args.level.now in let row = c.args.row.now.row in
    let yes : c.is_end_term.result ≡ true = search rules in
    let term : c.args.term.now ≡ end_term = c.is_end_term.ensures.0 yes in
    let is = c.requires.term in
    let whole : IsWhole image (record { number = 0; level = level; row = row }) = row_tested image level row c.documents.ensures.kept.terms_stand (is ∙ ap Some term) whole_ends in
    record { whole = whole; are = whole.fits.ends (get_or_from_slice_get (terms_of level.terms) row c.args.term.now [] is ∙ term) }

pub returns-clause-kept : goal.returns-clause-kept
returns-clause-kept c = λ counted.
    let level = c.args.level.now in let row = c.args.row.now.row in let stand = c.documents.ensures.kept.documents_stand in
    let many : length (ends_of level.documents) ≡ length level.documents = ends_many level.documents in
    let same : slice_index (counts_of level.terms) row ≡ length level.documents = grind (arith, counted, c.counts.ensures) in
    record {
      some = omega (arith, many, c.documents.ensures.kept.some);
      rising = ends_rise level.documents stand;
      fits = record { counted = omega (arith, many, same); within = ends_in_ranges level.documents stand; ends = λ _. refl };
    }
