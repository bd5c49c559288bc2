use Rattle.std.proofs.Common.{◌<◌, ◌≤◌, ℕ, List, length, map, get_or, refl, ap, sym, ◌∙◌, arith}
use Rattle.std.specs.Prelude.{string_bytes}
use Rattle.std.proofs.lemmas.List.{length-map, take_all}
use Rattle.alta_memlevel.specs.Added.{Added}
use Rattle.alta_memlevel.specs.Documents.{document_in}
use Rattle.alta_search.specs.Told.{no_row, rows_at}
use Rattle.alta_machine.specs.Dumps.{count_lines, lines_for}
use Rattle.alta_dump.specs.Seen.{terms_of}
use Rattle.alta_dump.specs.Shown.{row_in}
use Rattle.alta_dump.proofs.Lining.{cut_within, lines_next, same_cut}
use Rattle.alta_dump.proofs.dumping.put_documents.Goals as goal

pub live-init : goal.live-init
live-init c = record {
  from = omega arith;
  count = omega arith;
  lines = λ documents f g rows words titles seen. (c.requires.empty, refl, refl);
  other = λ e. omega (arith, e, ap (λ (bytes : List ℕ). get_or bytes 0 0) c.requires.empty);
}

pub put_document-requires : goal.put_document-requires
put_document-requires c =
    let cells = c.row_at-row.result.now.cells in
    ap length c.some_from-ends.ensures ∙ same_cut cells c.live.from c.args.titles.now c.args.words.now c.requires.titles ∙ sym (ap length c.some_from-own.ensures)

pub live-preserved : goal.live-preserved
live-preserved c =
    let inv = c.live.invariant in let row = c.row_at-row.result.now in let own = c.some_from-own.result.now in
    let long = cut_within row.cells c.live.from c.args.words.now inv.from in
    let within : c.live.i < length (rows_at c.args.rows.now c.args.live.now) = omega (arith, c.live-test.true, length-map c.args.live.now (λ (j : ℕ). get_or c.args.rows.now j no_row)) in
    record {
      from = omega (arith, long, ap length c.some_from-own.ensures);
      count = omega (arith, c.in_ok-lines.ensures.most, inv.count);
      lines = λ documents f g rows words titles seen.
          let next = lines_next (terms_of c.args.terms.now) (rows_at c.args.rows.now c.args.live.now) c.args.words.now c.args.titles.now documents f g rows words titles seen
          c.live.i c.live.from c.live.count c.in_ok-lines.lines (string_bytes c.live.text) (string_bytes c.put_document.new.text) row own c.some_from-ends.result.now
          within c.row_at-row.ensures.row c.some_from-own.ensures c.some_from-ends.ensures c.in_ok-lines.ensures.line (inv.lines documents f g rows words titles seen) in
          (next.0, next.1, omega (arith, next.2));
      other = c.in_ok-lines.ensures.other inv.other;
    }

pub returns-clause-lines : goal.returns-clause-lines
returns-clause-lines c = λ documents f g rows words titles seen.
    let all = c.live.invariant.lines documents f g rows words titles seen in
    let past : length documents ≤ c.live.i =
    omega (arith, c.live-test.false, ap length rows, length-map c.args.live.now (λ (j : ℕ). get_or c.args.rows.now j no_row), length-map documents row_in) in
    let whole = take_all c.live.i documents past in
    (all.0 ∙ ap (λ (ds : List Added). lines_for (map document_in ds)) whole, all.1 ∙ ap (λ (ds : List Added). count_lines (map document_in ds)) whole)
