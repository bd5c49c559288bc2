use Rattle.std.proofs.Common.{◌≡◌, ◌+◌, ◌<◌, ℕ, List, [], map, take_all, length, sym, subst, ap, ◌∙◌, arith, rules}
use Rattle.std.specs.Prelude.{All, sum_by}
use Rattle.std.specs.List.{concat}
use Rattle.std.proofs.lemmas.List.{length-map}
use Rattle.alta_codec.specs.Rising.{IsRising, first_from, count_from}
use Rattle.alta_compound.specs.Union.{union_of}
use Rattle.alta_search.specs.Lists.{level_list, term_lists, count_lists, count_below}
use Rattle.alta_search.specs.Readers.{Each, IsAtStart}
use Rattle.alta_search.specs.Words.{IsSoundTerm, term_list, term_place, term_left}
use Rattle.alta_search.specs.declared.lists.TermLists.{TermLists}
use Rattle.alta_search.proofs.Parts.{each_more, each_all, at_item}
use Rattle.alta_search.proofs.Unions.{IsTermReader, more_of, most_of, sum_by-map, terms_sound, terms_unmoved, terms_lists, terms_left, terms_counts}
use Rattle.alta_search.proofs.readers.union.Goals as goal

-- how many lists a term has
abbrev size : TermLists → ℕ
size t = length (term_lists t)

sizes : (xs : List TermLists) → count_lists (map term_lists xs) ≡ sum_by size xs
sizes xs = sum_by-map (λ (levels : List (List ℕ)). length levels) term_lists xs

pub loop-term-init : goal.loop-term-init
loop-term-init g c = (subst (λ rs. Each (IsTermReader term_lists IsSoundTerm term_list term_list term_place term_left) [] rs) (sym c.in_ok-readers.ensures.items) tt, omega arith)

pub chain-requires : goal.chain-requires
chain-requires g c =
    subst (λ ls. IsRising (concat (map level_list ls))) (sym c.deref.ensures.value)
    (at_item (λ levels. All (λ (l : List ℕ). 0 < length l) levels × IsRising (concat levels)) term_lists c.args.terms.now c.loop-term.term-index c.term-item.result c.loop-term-test.true c.term-item.is c.requires).1

pub returns-in_err-reader : goal.returns-in_err-reader
returns-in_err-reader g c =
    record {
      sound = search rules;
      start = search rules;
      exact = search rules;
      most = omega (
        arith,
        c.chain.ensures.most,
        c.loop-term.invariant.1,
        sizes c.args.terms.now,
        ap length c.deref.ensures.value ∙ sym (length-map c.term-item.result.levels.items level_list),
        most_of size c.args.terms.now c.loop-term.term-index c.term-item.result c.loop-term-test.true c.term-item.is,
      );
    }

pub returns-in_err-push : goal.returns-in_err-push
returns-in_err-push g c =
    record {
      sound = search rules;
      start = search rules;
      exact = search rules;
      most = omega (
        arith,
        c.chain.ensures.most,
        c.loop-term.invariant.1,
        sizes c.args.terms.now,
        ap length c.deref.ensures.value ∙ sym (length-map c.term-item.result.levels.items level_list),
        most_of size c.args.terms.now c.loop-term.term-index c.term-item.result c.loop-term-test.true c.term-item.is,
      );
    }

pub loop-term-preserved : goal.loop-term-preserved
loop-term-preserved g c =
    let e = c.in_ok-reader.ensures in
    let start = subst (λ ls. IsAtStart term_list term_list term_place term_left (concat (map level_list ls)) c.in_ok-reader.reader) c.deref.ensures.value e.start in (
      each_more (IsTermReader term_lists IsSoundTerm term_list term_list term_place term_left) c.args.terms.now c.loop-term.term-index
          c.loop-term.readers.items c.push.new.self.items c.term-item.result c.in_ok-reader.reader
          c.loop-term-test.true c.term-item.is c.in_ok-push.ensures.items c.loop-term.invariant.0 (e.sound, start),
      omega (
        arith,
        e.exact,
        c.loop-term.invariant.1,
        ap length c.deref.ensures.value ∙ sym (length-map c.term-item.result.levels.items level_list),
        more_of size c.args.terms.now c.loop-term.term-index c.term-item.result c.loop-term-test.true c.term-item.is,
      ),
    )

pub new-requires-clause-sound : goal.new-requires-clause-sound
new-requires-clause-sound g c =
    terms_sound term_lists IsSoundTerm term_list term_list term_place term_left c.args.terms.now c.loop-term.readers.items
    (each_all (IsTermReader term_lists IsSoundTerm term_list term_list term_place term_left) c.args.terms.now c.loop-term.term-index c.loop-term.readers.items c.loop-term-test.false c.loop-term.invariant.0)

pub new-requires-clause-unmoved : goal.new-requires-clause-unmoved
new-requires-clause-unmoved g c =
    terms_unmoved term_lists IsSoundTerm term_list term_list term_place term_left c.args.terms.now c.loop-term.readers.items
    (each_all (IsTermReader term_lists IsSoundTerm term_list term_list term_place term_left) c.args.terms.now c.loop-term.term-index c.loop-term.readers.items c.loop-term-test.false c.loop-term.invariant.0)

pub returns : goal.returns
returns g c =
    record {
      sound = c.new.ensures.sound;
      start = let xs = c.args.terms.now in let rs = c.loop-term.readers.items in let e = c.new.ensures in
          let each = each_all (IsTermReader term_lists IsSoundTerm term_list term_list term_place term_left) xs c.loop-term.term-index rs c.loop-term-test.false c.loop-term.invariant.0 in
          let same = terms_lists term_lists IsSoundTerm term_list term_list term_place term_left xs rs each in
          record {
            reads = e.list ∙ ap union_of same;
            counts = λ place. ap (λ l. count_from l place + count_below place (map term_lists xs)) e.all ∙ terms_counts term_lists IsSoundTerm term_list term_list term_place term_left xs rs place each;
            unmoved = e.unmoved ∙ ap (λ ls. first_from (union_of ls) 0) same;
            rest = e.left ∙ terms_left term_lists IsSoundTerm term_list term_list term_place term_left xs rs each;
          };
      exact = omega (arith, c.loop-term.invariant.1, ap (sum_by size) (take_all c.loop-term.term-index c.args.terms.now c.loop-term-test.false), sizes c.args.terms.now);
      most = omega (arith, c.loop-term.invariant.1, ap (sum_by size) (take_all c.loop-term.term-index c.args.terms.now c.loop-term-test.false), sizes c.args.terms.now);
    }
