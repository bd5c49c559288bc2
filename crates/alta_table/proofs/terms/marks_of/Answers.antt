use Rattle.std.proofs.Common.{rules, ◌≡◌, ◌<◌, ◌++◌, ◌∷◌, ℕ, List, [], length, take, sym, ap, subst, arith}
use Rattle.alta_format.specs.Format.{read}
use Rattle.alta_format.proofs.EntryLaws.{stops, closed, left_over}
use Rattle.alta_table.specs.declared.term.TermRow.{TermRow}
use Rattle.alta_table.specs.Marks.{AreMarks, IsBehind, Total, rows_found}
use Rattle.alta_table.specs.Terms.{Behind, terms_format, terms_table}
use Rattle.alta_table.specs.Walks.{behind_of, row_of}
use Rattle.alta_table.proofs.WalkLaws.{IsRest, all_found, at_start, found, marks_end, marks_on, more_read, none_marked, rest_all, rest_on}
use Rattle.alta_table.proofs.terms.marks_of.Goals as goal

pub loop-row-init : goal.loop-row-init
loop-row-init c =
    let total : Total = read (terms_format c.args.count c.args.room) c.args.bytes.now in
    let w = c.new-walk.result in
    record {
      rows = [];
      stands =
          subst (λ (r : List ℕ). IsBehind total c.args.count c.args.room [] 0 (behind_of w) r) (sym c.new-walk.ensures.rest)
          (subst (λ (b : Behind). IsBehind total c.args.count c.args.room [] 0 b c.args.bytes.now) (sym c.new-walk.ensures.behind) (at_start c.args.count c.args.room c.args.bytes.now []));
      are = none_marked total c.args.count c.args.room c.args.bytes.now [] c.in_ok-marks.marks.heads.items c.in_ok-marks.marks.marks.items c.in_ok-marks.ensures.none;
      many = ap length c.in_ok-marks.ensures.none;
      upto = omega arith;
      short = c.new-walk.ensures.short;
      rest = subst (IsRest c.args.bytes.now) (sym c.new-walk.ensures.rest) (rest_all c.args.bytes.now (λ i. omega (arith, c.type_inv.bytes i)));
    }

pub returns-in-Err-clause-gives : goal.returns-in-Err-clause-gives
returns-in-Err-clause-gives c =
    let l = c.loop-row in
    stops terms_table c.in-Err.fault c.args.count l.row (behind_of l.walk) (take l.row l.invariant.rows) l.walk.rest.now (read (terms_format c.args.count c.args.room) c.args.bytes.now)
    c.loop-row-test.true c.in-Err.ensures.gives.gives l.invariant.stands.reads

pub loop-row-preserved : goal.loop-row-preserved
loop-row-preserved c =
    let l = c.loop-row in
    let total : Total = read (terms_format c.args.count c.args.room) c.args.bytes.now in
    let rows : List TermRow = l.invariant.rows in
    let v = c.step.new.self in
    let marked = c.in_ok-note.ensures.marks total c.args.count c.args.room rows l.invariant.stands l.invariant.are in
    record {
      rows = take l.row rows ++ row_of v ∷ [];
      stands = more_read total c.args.count c.args.room rows l.row l.walk v c.loop-row-test.true c.in-Ok.ensures.gives.gives c.in-Ok.ensures.left l.invariant.stands;
      are = marks_on total c.args.count c.args.room c.args.bytes.now rows l.row (row_of v) c.note.new.self.heads.items c.note.new.self.marks.items c.in_ok-note.ensures.many l.invariant.stands.within marked;
      many = omega (arith, c.in_ok-note.ensures.many);
      upto = omega (arith, c.loop-row-test.true);
      short = c.step.ensures.short;
      rest = rest_on c.args.bytes.now l.walk.rest.now (behind_of l.walk) (row_of v) v.rest.now c.in-Ok.ensures.gives.gives l.invariant.rest;
    }

pub returns-then-not-is_empty-clause-gives : goal.returns-then-not-is_empty-clause-gives
returns-then-not-is_empty-clause-gives c =
    let l = c.loop-row in
    let some : 0 < length l.walk.rest.now = search rules in
    left_over terms_table c.args.count l.row (behind_of l.walk) (take l.row l.invariant.rows) l.walk.rest.now (read (terms_format c.args.count c.args.room) c.args.bytes.now) c.loop-row-test.false some l.invariant.stands.reads

pub returns-clause-gives : goal.returns-clause-gives
returns-clause-gives c =
    let l = c.loop-row in
    let total : Total = read (terms_format c.args.count c.args.room) c.args.bytes.now in
    let none : length l.walk.rest.now ≡ 0 = search rules in
    all_found total (take l.row l.invariant.rows) l.walk.left
    (closed terms_table c.args.count l.row (behind_of l.walk) (take l.row l.invariant.rows) l.walk.rest.now total c.loop-row-test.false none l.invariant.stands.reads)

pub returns-clause-marked : goal.returns-clause-marked
returns-clause-marked c =
    let l = c.loop-row in
    let total : Total = read (terms_format c.args.count c.args.room) c.args.bytes.now in
    let none : length l.walk.rest.now ≡ 0 = search rules in
    let is : total ≡ found (take l.row l.invariant.rows) l.walk.left =
    closed terms_table c.args.count l.row (behind_of l.walk) (take l.row l.invariant.rows) l.walk.rest.now total c.loop-row-test.false none l.invariant.stands.reads in
    record {
      are = subst (λ (heads : List ℕ). AreMarks total c.args.count c.args.room c.args.bytes.now (rows_found total) heads l.marks.marks.items) (sym c.shrink_to_fit.ensures.items)
          (marks_end total c.args.count c.args.room c.args.bytes.now l.invariant.rows l.row l.walk.left l.marks.heads.items l.marks.marks.items l.invariant.many l.invariant.stands.within is l.invariant.are);
      many = omega (arith, l.invariant.many, l.invariant.upto, c.loop-row-test.false);
    }
