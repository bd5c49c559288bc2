use Rattle.std.proofs.Common.{◌≡◌, ◌+◌, ◌<◌, List, length, drop, subst, ap, ◌∙◌, arith, length-drop}
use Rattle.std.proofs.lemmas.List.{drop_all}
use Rattle.alta_table.specs.declared.term.TermRow.{TermRow}
use Rattle.alta_table.specs.Tables.{Tables}
use Rattle.alta_table.specs.Terms.{data_of}
use Rattle.alta_content.specs.TermList.{TermList}
use Rattle.alta_level.specs.Stored.{IsListFault, IsListOf, Stored, stored_of}
use Rattle.alta_level.specs.Damage.{IsFaultInLists, row_at, stored_at}
use Rattle.alta_level.proofs.Joins.{fault_goes}
use Rattle.alta_level.proofs.Progress.{Progress, cursor_row, ends_read, faulty, fits, goes_on, next_row}
use Rattle.alta_level.proofs.reading.lists_at.Goals as goal

pub returns-in-Err-clause-first : goal.returns-in-Err-clause-first
returns-in-Err-clause-first c =
    let documents = c.args.documents.now in
    let terms = c.args.table.now.terms in
    let i = c.loop-row.row in
    let rest = c.loop-row.rest.now in
    let at = c.loop-row.at in
    let lists = c.loop-row.lists in
    let reads = subst (λ (x : List TermRow). Progress documents terms c.args.streams.now c.args.place lists x rest at) (next_row terms i (omega arith)) c.loop-row.invariant.read in
    let row = cursor_row c.loop-row.cursor c.args.table.now i c.loop-row.invariant.tables (c.loop-row.invariant.here (omega arith)) in
    let list = c.list_at.ensures.list ∙ ap (λ (r : TermRow). stored_at r rest at) row in
    fault_goes Unit (List TermList) c.in-Err.fault (IsListFault documents (stored_of c.list_at.result.0)) (IsFaultInLists documents terms c.args.streams.now c.args.place)
    (λ p f. faulty documents terms c.args.streams.now c.args.place lists (row_at terms i) (drop (i + 1) terms) rest at reads p (subst (λ (s : Stored). IsListFault documents s p) list f))
    c.in-Err.ensures.reads.first

pub loop-row-preserved : goal.loop-row-preserved
loop-row-preserved c =
    let documents = c.args.documents.now in
    let terms = c.args.table.now.terms in
    let i = c.loop-row.row in
    let rest = c.loop-row.rest.now in
    let at = c.loop-row.at in
    let lists = c.loop-row.lists in
    let locations = c.put_list.new.locations.items in
    let behind = c.list_at.result.1.now in
    let some : i < length terms = omega arith in
    let reads = subst (λ (x : List TermRow). Progress documents terms c.args.streams.now c.args.place lists x rest at) (next_row terms i some) c.loop-row.invariant.read in
    let here = c.loop-row.invariant.here some in
    let tables = c.loop-row.invariant.tables in
    let row = cursor_row c.loop-row.cursor c.args.table.now i tables here in
    let list = c.list_at.ensures.list ∙ ap (λ (r : TermRow). stored_at r rest at) row in
    let over : behind ≡ drop (data_of (row_at terms i)) rest = c.list_at.ensures.behind ∙ ap (λ (r : TermRow). drop (data_of r) rest) row in
    let room = fits documents terms c.args.streams.now c.args.place lists (row_at terms i) (drop (i + 1) terms) rest at reads in
    record {
      read =
          goes_on documents terms c.args.streams.now c.args.place lists (row_at terms i) (drop (i + 1) terms) rest at reads
          (record { term = c.list_at.result.0.term.now; locations = locations }) c.put_list.new.lists behind _ (ap (λ (s : Stored). s.term) list)
          (subst (λ (s : Stored). IsListOf documents s locations) list c.in-Ok.ensures.reads.found) c.in-Ok.ensures.put over
          (omega (arith, room, ap length over, length-drop (data_of (row_at terms i)) rest));
      tables = c.next.ensures.tables ∙ tables;
      here = λ more.
          let size : length c.loop-row.cursor.tables.terms ≡ length terms = ap (λ (t : Tables). length t.terms) tables in
          omega (arith, here, c.next.ensures.row (omega (arith, more, here, size)));
    }

pub returns-clause-found : goal.returns-clause-found
returns-clause-found c =
    let documents = c.args.documents.now in
    let terms = c.args.table.now.terms in
    let e = drop_all c.loop-row.row terms (omega (arith, c.terms-row-end.ensures)) in
    ends_read documents terms c.args.streams.now c.args.place c.loop-row.lists c.loop-row.rest.now c.loop-row.at
    (subst (λ (x : List TermRow). Progress documents terms c.args.streams.now c.args.place c.loop-row.lists x c.loop-row.rest.now c.loop-row.at) e c.loop-row.invariant.read)
