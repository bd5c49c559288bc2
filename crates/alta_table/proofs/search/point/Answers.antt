use Rattle.std.proofs.Common.{rules, ◌≡◌, ◌<◌, ◌∙◌, ⊎_elim, true, false, sym, ap, arith}
use Rattle.alta_table.specs.Marks.{rows_in}
use Rattle.alta_table.specs.Search.{stands_by}
use Rattle.alta_table.specs.Walks.{row_of}
use Rattle.alta_table.proofs.SearchLaws.{first_rows, mark_within, point_at, stands_at, stands_more}
use Rattle.alta_table.proofs.WalkLaws.{next_held, passed}
use Rattle.alta_table.proofs.search.point.Goals as goal

pub overflow_mul-row : goal.overflow_mul-row
overflow_mul-row c =
    ⊎_elim (λ none. omega (arith, none)) (λ lt. omega (arith, lt, c.requires.marked.many, c.requires.small))
    (mark_within c.args.terms.now.marks.heads.items c.args.terms.now.marks.marks.items c.args.prefix.now c.args.begun c.last_mark-mark.result c.last_mark-mark.ensures)

pub rows-init : goal.rows-init
rows-init c = record {
  stands = c.walk_from-walk.ensures.stands;
  short = c.walk_from-walk.ensures.short;
  before = λ i d lt. first_rows c.args.terms.now 0 c.args.prefix.now c.args.begun c.last_mark-mark.result c.requires c.last_mark-mark.ensures i d lt;
}

pub pass-requires-clause-next : goal.pass-requires-clause-next
pass-requires-clause-next c = next_held c.args.terms.now 0 c.rows.row c.rows.walk c.requires (omega (arith, c.rows-test.true)) c.rows.invariant.stands

pub returns-then-not-stands-clause-point : goal.returns-then-not-stands-clause-point
returns-then-not-stands-clause-point c =
    let lt : c.rows.row < c.args.terms.now.count = omega (arith, c.rows-test.true) in
    let (stands, is) = passed c.args.terms.now 0 c.rows.row c.rows.walk c.pass.new.self c.requires lt c.pass.ensures.reads c.pass.ensures.left c.rows.invariant.stands in
    let no : c.stands.result ≡ false = search rules in
    let fails : stands_at c.args.prefix.now c.args.begun (row_of c.pass.new.self) ≡ false = ap (stands_by c.args.prefix.now c.args.begun) (sym c.term.ensures) ∙ sym c.stands.ensures ∙ no in
    point_at (rows_in c.args.terms.now) c.args.prefix.now c.args.begun c.rows.row (row_of c.pass.new.self) c.requires.stand (omega (arith, lt, c.requires.many)) is fails c.rows.invariant.before

pub returns-then-not-stands-clause-passed : goal.returns-then-not-stands-clause-passed
returns-then-not-stands-clause-passed c = λ within.
    let lt : c.rows.row < c.args.terms.now.count = omega (arith, c.rows-test.true) in
    let (stands, is) = passed c.args.terms.now 0 c.rows.row c.rows.walk c.pass.new.self c.requires lt c.pass.ensures.reads c.pass.ensures.left c.rows.invariant.stands in
    record { within = within; stands = stands; row_is = is; short = c.pass.ensures.short }

pub overflow_add-row : goal.overflow_add-row
overflow_add-row c = omega (arith, c.rows-test.true, c.requires.small)

pub rows-preserved : goal.rows-preserved
rows-preserved c =
    let lt : c.rows.row < c.args.terms.now.count = omega (arith, c.rows-test.true) in
    let (stands, is) = passed c.args.terms.now 0 c.rows.row c.rows.walk c.pass.new.self c.requires lt c.pass.ensures.reads c.pass.ensures.left c.rows.invariant.stands in
    let yes : c.stands.result ≡ true = search rules in
    let holds : stands_at c.args.prefix.now c.args.begun (row_of c.pass.new.self) ≡ true = ap (stands_by c.args.prefix.now c.args.begun) (sym c.term.ensures) ∙ sym c.stands.ensures ∙ yes in
    record {
      stands = stands;
      short = c.pass.ensures.short;
      before = stands_more (rows_in c.args.terms.now) c.args.prefix.now c.args.begun c.rows.row (row_of c.pass.new.self) c.requires.stand (omega (arith, lt, c.requires.many)) is holds;
    }
