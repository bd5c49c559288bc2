use Rattle.std.proofs.Common.{◌≡◌, ◌<◌, ℕ, true, List, [], ◌∷◌, ◌++◌, length, nat_eq, sym, ap, subst, ◌∙◌, arith, append-nil, append_assoc}
use Rattle.std.specs.List.{starts_with}
use Rattle.std.proofs.lemmas.List.{length-map}
use Rattle.alta_meaning.proofs.Tests.{by_test}
use Rattle.alta_loading.specs.Met.{level_terms}
use Rattle.alta_loading.proofs.PrefixRows.{none_before, none_behind, row_more}
use Rattle.alta_loading.proofs.RowOf.{term_at}
use Rattle.alta_machine.specs.declared.test.Test.TheVariants.{Begins}
use Rattle.alta_search.specs.Newest.{term_meets}
use Rattle.alta_table.specs.Tables.{Tables}
use Rattle.alta_table.specs.declared.term.TermRow.{TermRow}
use Rattle.alta_loading.proofs.meeting.put_prefixed.Goals as goal

abbrev begins : List ℕ → List ℕ → Type 0
begins term start = starts_with nat_eq term start ≡ true

pub returns-then-first-behind : goal.returns-then-first-behind
returns-then-first-behind c =
    let start = c.args.start.now in let p = term_meets (Begins start) in let ts = level_terms c.args.level.now in let all = c.args.all.now.items in
    let range = c.prefixed-first.ensures in
    let same = c.if-first-behind.true in
    let first = none_before p ts c.prefixed-first.result.0
    (λ i t e l. by_test (p t) (λ y. absurd (omega (arith, l, (range.only i t e (subst (begins t) (sym c.as_slice.ensures) y)).0))) (λ n. n)) in
    let rest = none_behind p ts c.prefixed-first.result.0
    (λ i t e l. by_test (p t) (λ y. absurd (omega (arith, l, same, (range.only i t e (subst (begins t) (sym c.as_slice.ensures) y)).1))) (λ n. n)) in
    sym (append-nil all) ∙ ap (λ (xs : List (List ℕ)). all ++ xs) (sym first ∙ rest)

pub at-cursor-requires : goal.at-cursor-requires
at-cursor-requires c =
    let range = c.prefixed-first.ensures in
    omega (arith, range.ordered, range.within, c.if-first-behind.false, length-map c.args.level.now.terms (λ (row : TermRow). row.term))

pub loop-row-init : goal.loop-row-init
loop-row-init c =
    let start = c.args.start.now in let p = term_meets (Begins start) in let ts = level_terms c.args.level.now in let all = c.args.all.now.items in
    let range = c.prefixed-first.ensures in
    record {
      put = sym (ap (λ (xs : List (List ℕ)). all ++ xs)
          (none_before p ts c.prefixed-first.result.0
          (λ i t e l. by_test (p t) (λ y. absurd (omega (arith, l, (range.only i t e (subst (begins t) (sym c.as_slice.ensures) y)).0))) (λ n. n)))
          ∙ append-nil all);
      tables = c.at-cursor.ensures.tables;
      here = λ _. c.at-cursor.ensures.row;
    }

pub loop-row-preserved : goal.loop-row-preserved
loop-row-preserved c =
    let start = c.args.start.now in let p = term_meets (Begins start) in let level = c.args.level.now in let ts = level_terms level in let all = c.args.all.now.items in
    let row = c.loop-row.row in let t = c.in_ok-copy_term.field-0 in
    let tables = c.loop-row.invariant.tables in
    let many : length ts ≡ length level.terms = length-map level.terms (λ (row : TermRow). row.term) in
    let some : row < length level.terms = omega (arith, c.loop-row-test.true, c.prefixed-first.ensures.within, many) in
    let here = c.loop-row.invariant.here some in
    let at = term_at c.loop-row.cursor level row t tables here c.in_ok-copy_term.ensures in
    let yes : p t ≡ true = subst (begins t) c.as_slice.ensures (c.prefixed-first.ensures.inside row t at c.loop-row.auto.row c.loop-row-test.true) in
    record {
      put = c.in_ok-push.ensures.items ∙ ap (λ (xs : List (List ℕ)). xs ++ t ∷ []) c.loop-row.invariant.put
          ∙ append_assoc all _ (t ∷ []) ∙ ap (λ (xs : List (List ℕ)). all ++ xs) (sym (row_more p ts row t at yes));
      tables = c.next.ensures.tables ∙ tables;
      here = λ more.
          let size : length c.loop-row.cursor.tables.terms ≡ length level.terms = ap (λ (t : Tables). length t.terms) tables in
          omega (arith, here, c.next.ensures.row (omega (arith, more, here, size)));
    }

pub returns : goal.returns
returns c =
    let start = c.args.start.now in let p = term_meets (Begins start) in let ts = level_terms c.args.level.now in let all = c.args.all.now.items in
    let range = c.prefixed-first.ensures in
    let end = c.loop-row-test.false in
    c.loop-row.invariant.put
    ∙ ap (λ (xs : List (List ℕ)). all ++ xs)
    (none_behind p ts c.loop-row.row
    (λ i t e l. by_test (p t) (λ y. absurd (omega (arith, l, end, (range.only i t e (subst (begins t) (sym c.as_slice.ensures) y)).1))) (λ n. n)))
