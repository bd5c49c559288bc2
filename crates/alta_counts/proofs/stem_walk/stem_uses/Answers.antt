use Rattle.std.proofs.Common.{◌≡◌, [], map, drop, get_or, sym, subst, ap, ◌∙◌, arith}
use Rattle.std.specs.Prelude.{All}
use Rattle.std.proofs.lemmas.List.Elements.{All-head, All-tail}
use Rattle.std.proofs.lemmas.List.Sums.{sum_by-cons}
use Rattle.alta_codec.specs.Rising.{first_from}
use Rattle.alta_lead.specs.Having.{ends_with_any}
use Rattle.alta_counts.specs.Live.{count_live}
use Rattle.alta_search.specs.Lists.{test_list, lists_at, IsCut, count_lists, count_locations}
use Rattle.alta_search.specs.Plans.{lists, locations}
use Rattle.alta_search.specs.Readers.{IsFresh}
use Rattle.alta_search.specs.Words.{reader_list, reader_all, reader_place, reader_left}
use Rattle.alta_search.proofs.Planting.{fresh_unmoved, fresh_lists, fresh_left}
use Rattle.alta_counts.proofs.Titled.{first_use}
use Rattle.alta_counts.proofs.stem_walk.stem_uses.Goals as goal

pub reader-requires : goal.reader-requires
reader-requires g c =
    let s = c.split_at in let f = lists_at c.args.tests.now in let u = get_or s.result.0.now 0 0 in
    subst IsCut (sym c.terms_at.ensures) (All-head IsCut (f u) (map f s.result.1.now) (subst (λ us. All IsCut (map f us)) (first_use c.args.uses.now s.result.0.now s.result.1.now c.requires.some s.ensures.front s.ensures.back) c.requires.cut))

pub readers-requires : goal.readers-requires
readers-requires g c =
    let s = c.split_at in let f = lists_at c.args.tests.now in let u = get_or s.result.0.now 0 0 in
    All-tail IsCut (f u) (map f s.result.1.now) (subst (λ us. All IsCut (map f us)) (first_use c.args.uses.now s.result.0.now s.result.1.now c.requires.some s.ensures.front s.ensures.back) c.requires.cut)

pub stem_by_kind-requires-clause-ends_unmoved : goal.stem_by_kind-requires-clause-ends_unmoved
stem_by_kind-requires-clause-ends_unmoved g c = let f = c.in_ok-ends.ensures.start in f.unmoved ∙ ap (λ l. first_from l 0) (sym f.reads)

pub stem_by_kind-requires-clause-words_unmoved : goal.stem_by_kind-requires-clause-words_unmoved
stem_by_kind-requires-clause-words_unmoved g c =
    fresh_unmoved reader_list reader_all reader_place reader_left (map (lists_at c.args.tests.now) c.split_at.result.1.now) c.in_ok-words.words.items c.in_ok-words.ensures.start

pub returns-clause-count : goal.returns-clause-count
returns-clause-count g c =
    let s = c.split_at in let f = lists_at c.args.tests.now in let u = get_or s.result.0.now 0 0 in let e = c.in_ok-ends.ends in let ws = c.in_ok-words.words.items in
    let fresh : IsFresh reader_list reader_all reader_place reader_left (f u) e =
    subst (λ ls. IsFresh reader_list reader_all reader_place reader_left ls e) c.terms_at.ensures c.in_ok-ends.ensures.start in
    subst (λ us. c.stem_by_kind.result ≡ count_live (ends_with_any (get_or (map test_list (map f us)) 0 []) (drop 1 (map test_list (map f us)))) c.args.gone.now 0)
    (sym (first_use c.args.uses.now s.result.0.now s.result.1.now c.requires.some s.ensures.front s.ensures.back))
    (c.stem_by_kind.ensures.count
    ∙ ap (λ es. count_live (ends_with_any es (map reader_list ws)) c.args.gone.now 0) fresh.reads
    ∙ ap (λ ls. count_live (ends_with_any (test_list (f u)) ls) c.args.gone.now 0)
    (fresh_lists reader_list reader_all reader_place reader_left (map f s.result.1.now) ws c.in_ok-words.ensures.start))

pub returns-clause-most : goal.returns-clause-most
returns-clause-most g c =
    let s = c.split_at in let f = lists_at c.args.tests.now in let u = get_or s.result.0.now 0 0 in let split = first_use c.args.uses.now s.result.0.now s.result.1.now c.requires.some s.ensures.front s.ensures.back in
    let fresh = c.in_ok-ends.ensures.start in
    omega (
      arith,
      c.in_ok-ends.ensures.exact,
      ap count_lists c.terms_at.ensures,
      c.in_ok-words.ensures.exact,
      c.stem_by_kind.ensures.steps,
      fresh.rest,
      ap count_locations c.terms_at.ensures,
      fresh_left reader_list reader_all reader_place reader_left (map f s.result.1.now) c.in_ok-words.words.items c.in_ok-words.ensures.start,
      ap (λ us. lists (map f us)) split,
      ap (λ us. locations (map f us)) split,
      sum_by-cons count_lists (f u) (map f s.result.1.now),
      sum_by-cons count_locations (f u) (map f s.result.1.now),
    )

pub returns-in_err-words-clause-most : goal.returns-in_err-words-clause-most
returns-in_err-words-clause-most g c =
    let s = c.split_at in let f = lists_at c.args.tests.now in let u = get_or s.result.0.now 0 0 in let split = first_use c.args.uses.now s.result.0.now s.result.1.now c.requires.some s.ensures.front s.ensures.back in
    omega (
      arith,
      c.in_ok-ends.ensures.exact,
      ap count_lists c.terms_at.ensures,
      c.readers.ensures.most,
      ap (λ us. lists (map f us)) split,
      sum_by-cons count_lists (f u) (map f s.result.1.now),
    )

pub returns-in_err-ends-clause-most : goal.returns-in_err-ends-clause-most
returns-in_err-ends-clause-most g c =
    let s = c.split_at in let f = lists_at c.args.tests.now in let u = get_or s.result.0.now 0 0 in let split = first_use c.args.uses.now s.result.0.now s.result.1.now c.requires.some s.ensures.front s.ensures.back in
    omega (arith, c.reader.ensures.most, ap count_lists c.terms_at.ensures, ap (λ us. lists (map f us)) split, sum_by-cons count_lists (f u) (map f s.result.1.now))
