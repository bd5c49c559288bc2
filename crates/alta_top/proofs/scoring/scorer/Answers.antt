use Rattle.std.proofs.Common.{◌≡◌, ◌-◌, ◌<◌, ℕ, List, map, length, get_or, sym, subst, ap, ◌∙◌, arith}
use Rattle.std.specs.Prelude.{All}
use Rattle.std.proofs.lemmas.Bool.{false≢true}
use Rattle.std.proofs.lemmas.Grind.{get_or_default_zero}
use Rattle.std.proofs.lemmas.List.{length-map}
use Rattle.alta_rank.specs.Scoring.{Scoring}
use Rattle.alta_machine.specs.declared.usage.Use.{Use}
use Rattle.alta_search.specs.Lists.{IsCut, count_lists, lists_at, test_at}
use Rattle.alta_search.specs.Plans.{lists}
use Rattle.alta_search.specs.Readers.{Each, IsFresh}
use Rattle.alta_top.specs.Scoring.{IsScorerOf}
use Rattle.alta_top.specs.Best.{scoring_lists}
use Rattle.alta_search.specs.View.{View}
use Rattle.alta_search.specs.Words.{reader_list, reader_all, reader_place, reader_left}
use Rattle.alta_search.specs.declared.lists.TestLists.{TestLists}
use Rattle.alta_search.specs.declared.test_reader.TestReader.{TestReader}
use Rattle.alta_search.proofs.Parts.{at_item}
use Rattle.alta_search.proofs.Planting.{fresh_sized, fresh_unmoved}
use Rattle.alta_top.proofs.SameTests.{lists_among}
use Rattle.alta_top.proofs.Scorers.{last_is, scorer_is, scoring_cut, scoring_size, uses_cuts}
use Rattle.alta_top.proofs.scoring.scorer.Goals as goal

-- what is read at the indexes of the uses' tests are the lists of the uses
index_cuts : (tests : List TestLists) (used : List ℕ) (v : View) (uses shown : List Use) (indexes items : List ℕ) → map (test_at tests) used ≡ v.tests → map (lists_at tests) used ≡ v.cuts
    → shown ≡ uses → indexes ≡ items → map (lists_at tests) items ≡ map (λ (u : Use). lists_among tests u.test used) shown → map (lists_at tests) indexes ≡ scoring_lists uses v
index_cuts tests used v uses shown indexes items tests_are cuts_are same taken found =
    ap (map (lists_at tests)) taken ∙ found ∙ ap (map (λ (u : Use). lists_among tests u.test used)) same ∙ uses_cuts tests used v uses tests_are cuts_are

some_used : (tests : List TestLists) (used : List ℕ) (v : View) → map (test_at tests) used ≡ v.tests → 0 < length v.tests → 0 < length used
some_used tests used v same some = omega (arith, some, ap length same, length-map used (test_at tests))

last_item : (xs : List ℕ) → 0 < length xs → get_or xs (length xs - 1) 0 ≡ get_or xs (length xs - 1) (get_or xs (length xs - 1) 0)
last_item xs l = sym (get_or_default_zero xs (length xs - 1) (get_or xs (length xs - 1) 0) (omega (arith, l)))

pub readers-requires : goal.readers-requires
readers-requires g c =
    let v = c.args.snapshot.now in
    let cuts : map (lists_at c.uses.result.0.now) c.deref.result.now ≡ scoring_lists c.args.uses v =
    index_cuts c.uses.result.0.now c.uses.result.1.now v c.args.uses c.as_slice.result.now c.deref.result.now c.in_ok-indexes.indexes.items
    c.uses.ensures.used c.uses.ensures.cuts c.as_slice.ensures c.deref.ensures.value c.in_ok-indexes.ensures in
    subst (All IsCut) (sym cuts) (scoring_cut c.args.uses v (subst (All IsCut) c.uses.ensures.cuts c.uses.ensures.cut))

pub reader-requires : goal.reader-requires
reader-requires g c =
    let used = c.uses.result.1.now in
    let some : 0 < length used = some_used c.uses.result.0.now used c.args.snapshot.now c.uses.ensures.used c.requires in
    subst IsCut (sym c.terms_at.ensures)
    (at_item IsCut (lists_at c.uses.result.0.now) used (length used - 1) (get_or used (length used - 1) 0) (omega (arith, some)) (last_item used some) c.uses.ensures.cut)

pub new-requires-clause-unmoved : goal.new-requires-clause-unmoved
new-requires-clause-unmoved g c =
    fresh_unmoved reader_list reader_all reader_place reader_left (map (lists_at c.uses.result.0.now) c.deref.result.now) c.in_ok-readers.readers.items c.in_ok-readers.ensures.start

pub unreachable-requires : goal.unreachable-requires
unreachable-requires g c =
    let v = c.args.snapshot.now in
    let cuts : map (lists_at c.uses.result.0.now) c.deref.result.now ≡ scoring_lists c.args.uses v =
    index_cuts c.uses.result.0.now c.uses.result.1.now v c.args.uses c.as_slice.result.now c.deref.result.now c.in_ok-indexes.indexes.items
    c.uses.ensures.used c.uses.ensures.cuts c.as_slice.ensures c.deref.ensures.value c.in_ok-indexes.ensures in
    false≢true (c.in-Err.ensures.which.1 (omega (
      arith,
      fresh_sized reader_list reader_all reader_place reader_left (map (lists_at c.uses.result.0.now) c.deref.result.now) c.in_ok-readers.readers.items c.in_ok-readers.ensures.start,
      ap length cuts,
      scoring_size c.args.uses v,
    )))

pub returns-in_err-readers-clause-most : goal.returns-in_err-readers-clause-most
returns-in_err-readers-clause-most g c =
    let v = c.args.snapshot.now in
    omega (
      arith,
      c.readers.ensures.most,
      ap lists (index_cuts c.uses.result.0.now c.uses.result.1.now v c.args.uses c.as_slice.result.now c.deref.result.now c.in_ok-indexes.indexes.items
          c.uses.ensures.used c.uses.ensures.cuts c.as_slice.ensures c.deref.ensures.value c.in_ok-indexes.ensures),
    )

pub returns-in_err-titles-clause-most : goal.returns-in_err-titles-clause-most
returns-in_err-titles-clause-most g c =
    let v = c.args.snapshot.now in
    omega (
      arith,
      c.in_ok-readers.ensures.exact,
      c.reader.ensures.most,
      ap lists (index_cuts c.uses.result.0.now c.uses.result.1.now v c.args.uses c.as_slice.result.now c.deref.result.now c.in_ok-indexes.indexes.items
          c.uses.ensures.used c.uses.ensures.cuts c.as_slice.ensures c.deref.ensures.value c.in_ok-indexes.ensures),
      ap count_lists (c.terms_at.ensures ∙ last_is c.uses.result.0.now c.uses.result.1.now v c.uses.ensures.cuts (some_used c.uses.result.0.now c.uses.result.1.now v c.uses.ensures.used c.requires)),
    )

pub returns-clause-most : goal.returns-clause-most
returns-clause-most g c =
    let v = c.args.snapshot.now in
    omega (
      arith,
      c.in_ok-readers.ensures.exact,
      c.in_ok-titles.ensures.exact,
      ap lists (index_cuts c.uses.result.0.now c.uses.result.1.now v c.args.uses c.as_slice.result.now c.deref.result.now c.in_ok-indexes.indexes.items
          c.uses.ensures.used c.uses.ensures.cuts c.as_slice.ensures c.deref.ensures.value c.in_ok-indexes.ensures),
      ap count_lists (c.terms_at.ensures ∙ last_is c.uses.result.0.now c.uses.result.1.now v c.uses.ensures.cuts (some_used c.uses.result.0.now c.uses.result.1.now v c.uses.ensures.used c.requires)),
    )

pub returns-clause-scorer : goal.returns-clause-scorer
returns-clause-scorer g c =
    let v = c.args.snapshot.now in let used = c.uses.result.1.now in let tests = c.uses.result.0.now in
    let cuts : map (lists_at tests) c.deref.result.now ≡ scoring_lists c.args.uses v =
    index_cuts tests used v c.args.uses c.as_slice.result.now c.deref.result.now c.in_ok-indexes.indexes.items
    c.uses.ensures.used c.uses.ensures.cuts c.as_slice.ensures c.deref.ensures.value c.in_ok-indexes.ensures in
    let last = c.terms_at.ensures ∙ last_is tests used v c.uses.ensures.cuts (some_used tests used v c.uses.ensures.used c.requires) in
    subst (λ (s : Scoring TestReader). IsScorerOf c.args.uses v s c.args.steps.now c.reader.new.steps) (sym c.in-Ok.ensures.ok)
    (scorer_is c.args.uses v c.in_ok-readers.readers.items c.in_ok-titles.titles c.args.steps.now c.readers.new.steps c.reader.new.steps
    (subst (λ cs. Each (IsFresh reader_list reader_all reader_place reader_left) cs c.in_ok-readers.readers.items) cuts c.in_ok-readers.ensures.start)
    (subst (λ ls. IsFresh reader_list reader_all reader_place reader_left ls c.in_ok-titles.titles) last c.in_ok-titles.ensures.start)
    (omega (arith, c.in_ok-readers.ensures.exact, ap lists cuts))
    (omega (arith, c.in_ok-titles.ensures.exact, ap count_lists last)))
