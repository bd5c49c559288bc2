use Rattle.std.proofs.Common.{◌≡◌, ℕ, ◌<◌, List, [], map, take_all, length, get_or, sym, subst, ap, arith, rules}
use Rattle.std.specs.Prelude.{sum_by}
use Rattle.std.proofs.lemmas.Grind.{get_or_default_zero}
use Rattle.alta_search.specs.Lists.{lists_at, count_lists, IsCut}
use Rattle.alta_search.specs.Met.{IsSingle}
use Rattle.alta_search.specs.Plans.{lists}
use Rattle.alta_search.specs.Readers.{Each, IsFresh}
use Rattle.alta_search.specs.Words.{IsSoundSingle, single_list, single_place, single_left}
use Rattle.alta_search.specs.declared.lists.TestLists.{TestLists}
use Rattle.alta_search.specs.declared.single_reader.SingleReader.{SingleReader}
use Rattle.alta_search.proofs.Parts.{each_more, each_all, each_map, each_first, each_second, at_item}
use Rattle.alta_search.proofs.Unions.{more_of, most_of, sum_by-map}
use Rattle.alta_search.proofs.leading.word_readers.Goals as goal

abbrev size : List TestLists → ℕ → ℕ
size ts i = count_lists (lists_at ts i)

abbrev Fits : List TestLists → ℕ → SingleReader → Type 0
Fits ts i r = IsFresh single_list single_list single_place single_left (lists_at ts i) r

abbrev Stands : List TestLists → ℕ → SingleReader → Type 0
Stands ts i r = IsSoundSingle r × Fits ts i r

sizes : (ts : List TestLists) (is : List ℕ) → lists (map (lists_at ts) is) ≡ sum_by (size ts) is
sizes ts is = sum_by-map count_lists (lists_at ts) is

-- the number at an index
item : (xs : List ℕ) (i : ℕ) → i < length xs → get_or xs i 0 ≡ get_or xs i (get_or xs i 0)
item xs i l = sym (get_or_default_zero xs i (get_or xs i 0) l)

pub loop-index-init : goal.loop-index-init
loop-index-init g c = (subst (λ rs. Each (Stands c.args.tests.now) [] rs) (sym c.in_ok-readers.ensures.items) tt, omega arith)

pub word_reader-requires-clause-cut : goal.word_reader-requires-clause-cut
word_reader-requires-clause-cut g c =
    subst IsCut (sym c.terms_at.ensures)
    (at_item IsCut (lists_at c.args.tests.now) c.args.uses.now c.loop-index.index-index (get_or c.args.uses.now c.loop-index.index-index 0) c.loop-index-test.true (item c.args.uses.now c.loop-index.index-index c.loop-index-test.true) c.requires.cut)

pub word_reader-requires-clause-single : goal.word_reader-requires-clause-single
word_reader-requires-clause-single g c =
    subst IsSingle (sym c.terms_at.ensures)
    (at_item IsSingle (lists_at c.args.tests.now) c.args.uses.now c.loop-index.index-index (get_or c.args.uses.now c.loop-index.index-index 0) c.loop-index-test.true (item c.args.uses.now c.loop-index.index-index c.loop-index-test.true) c.requires.single)

pub returns-in_err-reader : goal.returns-in_err-reader
returns-in_err-reader g c =
    record {
      sound = search rules;
      start = search rules;
      exact = search rules;
      most = omega (
        arith,
        c.word_reader.ensures.most,
        c.loop-index.invariant.1,
        sizes c.args.tests.now c.args.uses.now,
        ap count_lists c.terms_at.ensures,
        most_of (size c.args.tests.now) c.args.uses.now c.loop-index.index-index (get_or c.args.uses.now c.loop-index.index-index 0) c.loop-index-test.true (item c.args.uses.now c.loop-index.index-index c.loop-index-test.true),
      );
    }

pub returns-in_err-push : goal.returns-in_err-push
returns-in_err-push g c =
    record {
      sound = search rules;
      start = search rules;
      exact = search rules;
      most = omega (
        arith,
        c.word_reader.ensures.most,
        c.loop-index.invariant.1,
        sizes c.args.tests.now c.args.uses.now,
        ap count_lists c.terms_at.ensures,
        most_of (size c.args.tests.now) c.args.uses.now c.loop-index.index-index (get_or c.args.uses.now c.loop-index.index-index 0) c.loop-index-test.true (item c.args.uses.now c.loop-index.index-index c.loop-index-test.true),
      );
    }

pub loop-index-preserved : goal.loop-index-preserved
loop-index-preserved g c =
    let e = c.in_ok-reader.ensures in
    let fresh = subst (λ ls. IsFresh single_list single_list single_place single_left ls c.in_ok-reader.reader) c.terms_at.ensures e.start in (
      each_more (Stands c.args.tests.now) c.args.uses.now c.loop-index.index-index c.loop-index.readers.items c.push.new.self.items (get_or c.args.uses.now c.loop-index.index-index 0) c.in_ok-reader.reader
          c.loop-index-test.true (item c.args.uses.now c.loop-index.index-index c.loop-index-test.true) c.in_ok-push.ensures.items c.loop-index.invariant.0 (e.sound, fresh),
      omega (
        arith,
        e.exact,
        c.loop-index.invariant.1,
        ap count_lists c.terms_at.ensures,
        more_of (size c.args.tests.now) c.args.uses.now c.loop-index.index-index (get_or c.args.uses.now c.loop-index.index-index 0) c.loop-index-test.true (item c.args.uses.now c.loop-index.index-index c.loop-index-test.true),
      ),
    )

pub returns : goal.returns
returns g c =
    record {
      sound = each_first IsSoundSingle (Fits c.args.tests.now) c.args.uses.now c.loop-index.readers.items
          (each_all (Stands c.args.tests.now) c.args.uses.now c.loop-index.index-index c.loop-index.readers.items c.loop-index-test.false c.loop-index.invariant.0);
      start = each_map (IsFresh single_list single_list single_place single_left) (lists_at c.args.tests.now) c.args.uses.now c.loop-index.readers.items
          (each_second IsSoundSingle (Fits c.args.tests.now) c.args.uses.now c.loop-index.readers.items
          (each_all (Stands c.args.tests.now) c.args.uses.now c.loop-index.index-index c.loop-index.readers.items c.loop-index-test.false c.loop-index.invariant.0));
      exact = omega (arith, c.loop-index.invariant.1, ap (sum_by (size c.args.tests.now)) (take_all c.loop-index.index-index c.args.uses.now c.loop-index-test.false), sizes c.args.tests.now c.args.uses.now);
      most = omega (arith, c.loop-index.invariant.1, ap (sum_by (size c.args.tests.now)) (take_all c.loop-index.index-index c.args.uses.now c.loop-index-test.false), sizes c.args.tests.now c.args.uses.now);
    }
