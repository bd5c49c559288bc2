use Rattle.std.proofs.Common.{◌≡◌, ◌<◌, ℕ, List, [], take_all, length, get_or, sym, subst, ap, arith, rules}
use Rattle.std.specs.Prelude.{sum_by}
use Rattle.std.specs.List.{concat}
use Rattle.std.proofs.lemmas.Grind.{get_or_default_zero}
use Rattle.std.proofs.lemmas.List.{length-map}
use Rattle.alta_codec.specs.Rising.{IsRising}
use Rattle.alta_counts.specs.ByLevel.{between, levels_of}
use Rattle.alta_search.specs.Lists.{level_list}
use Rattle.alta_search.specs.Readers.{Each, IsAtStart}
use Rattle.alta_search.specs.Words.{IsSoundSingle, single_list, single_place, single_left}
use Rattle.alta_search.specs.declared.single_reader.SingleReader.{SingleReader}
use Rattle.alta_search.specs.declared.lists.TestLists.{TestLists}
use Rattle.alta_counts.proofs.Cutting.{between_rises}
use Rattle.alta_search.proofs.Parts.{each_more, each_all, each_first, each_second}
use Rattle.alta_search.proofs.Unions.{more_of, most_of}
use Rattle.alta_counts.proofs.by_level.level_readers.Goals as goal

abbrev there : List TestLists → ℕ → ℕ → ℕ → List (List ℕ)
there ts low high u = between low high (levels_of ts u)

abbrev size : List TestLists → ℕ → ℕ → ℕ → ℕ
size ts low high u = length (there ts low high u)

abbrev Starts : List TestLists → ℕ → ℕ → ℕ → SingleReader → Type 0
Starts ts low high u r = IsAtStart single_list single_list single_place single_left (concat (there ts low high u)) r

abbrev Stands : List TestLists → ℕ → ℕ → ℕ → SingleReader → Type 0
Stands ts low high u r = IsSoundSingle r × Starts ts low high u r

item : (xs : List ℕ) (i : ℕ) → i < length xs → get_or xs i 0 ≡ get_or xs i (get_or xs i 0)
item xs i l = sym (get_or_default_zero xs i (get_or xs i 0) l)

pub loop-index-init : goal.loop-index-init
loop-index-init g c = (subst (λ rs. Each (Stands c.args.tests.now c.args.low c.args.high) [] rs) (sym c.in_ok-readers.ensures.items) tt, omega arith)

pub level_reader-requires : goal.level_reader-requires
level_reader-requires g c =
    let i = c.loop-index.index-index in
    subst (λ ls. IsRising (concat ls)) (sym c.lists_between-levels.ensures)
    (between_rises c.args.low c.args.high (levels_of c.args.tests.now (get_or c.args.uses.now i 0)) c.requires.ordered (c.requires.rising i 0 c.loop-index-test.true))

pub returns-in_err-reader : goal.returns-in_err-reader
returns-in_err-reader g c =
    let f = size c.args.tests.now c.args.low c.args.high in let us = c.args.uses.now in let i = c.loop-index.index-index in
    record {
      sound = search rules;
      start = search rules;
      exact = search rules;
      most = omega (
        arith,
        c.level_reader.ensures.most,
        c.loop-index.invariant.1,
        ap length c.lists_between-levels.ensures,
        length-map c.lists_between-levels.result.now level_list,
        most_of f us i (get_or us i 0) c.loop-index-test.true (item us i c.loop-index-test.true),
      );
    }

pub returns-in_err-push : goal.returns-in_err-push
returns-in_err-push g c =
    let f = size c.args.tests.now c.args.low c.args.high in let us = c.args.uses.now in let i = c.loop-index.index-index in
    record {
      sound = search rules;
      start = search rules;
      exact = search rules;
      most = omega (
        arith,
        c.level_reader.ensures.most,
        c.loop-index.invariant.1,
        ap length c.lists_between-levels.ensures,
        length-map c.lists_between-levels.result.now level_list,
        most_of f us i (get_or us i 0) c.loop-index-test.true (item us i c.loop-index-test.true),
      );
    }

pub loop-index-preserved : goal.loop-index-preserved
loop-index-preserved g c =
    let ts = c.args.tests.now in let f = size ts c.args.low c.args.high in let us = c.args.uses.now in let i = c.loop-index.index-index in
    let e = c.in_ok-reader.ensures in
    let start = subst (λ ls. IsAtStart single_list single_list single_place single_left (concat ls) c.in_ok-reader.reader) c.lists_between-levels.ensures e.start in (
      each_more (Stands ts c.args.low c.args.high) us i c.loop-index.readers.items c.push.new.self.items (get_or us i 0) c.in_ok-reader.reader
          c.loop-index-test.true (item us i c.loop-index-test.true) c.in_ok-push.ensures.items c.loop-index.invariant.0 (e.sound, start),
      omega (
        arith,
        e.exact,
        c.loop-index.invariant.1,
        ap length c.lists_between-levels.ensures,
        length-map c.lists_between-levels.result.now level_list,
        more_of f us i (get_or us i 0) c.loop-index-test.true (item us i c.loop-index-test.true),
      ),
    )

pub returns : goal.returns
returns g c =
    let ts = c.args.tests.now in let low = c.args.low in let high = c.args.high in let us = c.args.uses.now in let rs = c.loop-index.readers.items in
    let each = each_all (Stands ts low high) us c.loop-index.index-index rs c.loop-index-test.false c.loop-index.invariant.0 in
    record {
      sound = each_first IsSoundSingle (Starts ts low high) us rs each;
      start = each_second IsSoundSingle (Starts ts low high) us rs each;
      exact = omega (arith, c.loop-index.invariant.1, ap (sum_by (size ts low high)) (take_all c.loop-index.index-index us c.loop-index-test.false));
      most = omega (arith, c.loop-index.invariant.1, ap (sum_by (size ts low high)) (take_all c.loop-index.index-index us c.loop-index-test.false));
    }
