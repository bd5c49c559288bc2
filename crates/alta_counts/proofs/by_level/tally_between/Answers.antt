use Rattle.std.proofs.Common.{ℕ, List, ◌∷◌, ◌++◌, length, sym, subst, ap, arith}
use Rattle.std.specs.List.{concat}
use Rattle.std.proofs.lemmas.List.{length-map}
use Rattle.std.proofs.lemmas.List.Elements.{All-head, All-tail}
use Rattle.alta_codec.specs.Rising.{IsRising}
use Rattle.alta_counts.specs.ByLevel.{between, levels_of, whole_at}
use Rattle.alta_search.specs.Lists.{level_list}
use Rattle.alta_search.specs.Readers.{IsAtStart}
use Rattle.alta_search.specs.Words.{single_list, single_place, single_left}
use Rattle.alta_search.specs.declared.lists.TestLists.{TestLists}
use Rattle.alta_counts.proofs.Cutting.{between_rises}
use Rattle.alta_counts.proofs.LevelWalks.{starts_sized, starts_unmoved, sum_two, sum_three, walk_count, walk_steps, walk_moves}
use Rattle.alta_search.proofs.Parts.{all_front, all_back}
use Rattle.alta_counts.proofs.by_level.tally_between.Goals as goal

abbrev there : List TestLists → ℕ → ℕ → ℕ → List (List ℕ)
there ts low high u = between low high (levels_of ts u)

pub lists_between-requires-clause-rising : goal.lists_between-requires-clause-rising
lists_between-requires-clause-rising g c =
    All-head (λ u. IsRising (whole_at c.args.tests.now u)) c.args.ends (c.args.words.now ++ c.args.negated.now) c.requires.rising

pub level_reader-requires : goal.level_reader-requires
level_reader-requires g c =
    subst (λ ls. IsRising (concat ls)) (sym c.lists_between.ensures)
    (between_rises c.args.low c.args.high (levels_of c.args.tests.now c.args.ends) c.requires.ordered
    (All-head (λ u. IsRising (whole_at c.args.tests.now u)) c.args.ends (c.args.words.now ++ c.args.negated.now) c.requires.rising))

pub level_readers-requires-clause-rising : goal.level_readers-requires-clause-rising
level_readers-requires-clause-rising g c =
    all_front (λ u. IsRising (whole_at c.args.tests.now u)) c.args.words.now c.args.negated.now
    (All-tail (λ u. IsRising (whole_at c.args.tests.now u)) c.args.ends (c.args.words.now ++ c.args.negated.now) c.requires.rising)

pub level_readers-requires-2-clause-rising : goal.level_readers-requires-2-clause-rising
level_readers-requires-2-clause-rising g c =
    all_back (λ u. IsRising (whole_at c.args.tests.now u)) c.args.words.now c.args.negated.now
    (All-tail (λ u. IsRising (whole_at c.args.tests.now u)) c.args.ends (c.args.words.now ++ c.args.negated.now) c.requires.rising)

pub returns-in_err-words-clause-steps : goal.returns-in_err-words-clause-steps
returns-in_err-words-clause-steps g c =
    let lists = there c.args.tests.now c.args.low c.args.high in let ends = c.args.ends in let words = c.args.words.now in let negated = c.args.negated.now in
    omega (
      arith,
      c.in_ok-ends.ensures.exact,
      ap length c.lists_between.ensures,
      length-map c.lists_between.result.now level_list,
      c.level_readers.ensures.most,
      sum_two lists (ends ∷ words ++ negated),
      sum_three lists (λ u. length (lists u)) ends words negated,
    )

pub returns-in_err-words-clause-moves : goal.returns-in_err-words-clause-moves
returns-in_err-words-clause-moves g c =
    let lists = there c.args.tests.now c.args.low c.args.high in let ends = c.args.ends in let words = c.args.words.now in let negated = c.args.negated.now in
    omega (
      arith,
      c.in_ok-ends.ensures.exact,
      ap length c.lists_between.ensures,
      length-map c.lists_between.result.now level_list,
      c.level_readers.ensures.most,
      sum_three lists (λ u. length (lists u)) ends words negated,
    )

pub returns-in_err-negated-clause-steps : goal.returns-in_err-negated-clause-steps
returns-in_err-negated-clause-steps g c =
    let lists = there c.args.tests.now c.args.low c.args.high in let ends = c.args.ends in let words = c.args.words.now in let negated = c.args.negated.now in
    omega (
      arith,
      c.in_ok-ends.ensures.exact,
      ap length c.lists_between.ensures,
      length-map c.lists_between.result.now level_list,
      c.in_ok-words.ensures.exact,
      c.level_readers-2.ensures.most,
      sum_two lists (ends ∷ words ++ negated),
      sum_three lists (λ u. length (lists u)) ends words negated,
    )

pub returns-in_err-negated-clause-moves : goal.returns-in_err-negated-clause-moves
returns-in_err-negated-clause-moves g c =
    let lists = there c.args.tests.now c.args.low c.args.high in let ends = c.args.ends in let words = c.args.words.now in let negated = c.args.negated.now in
    omega (
      arith,
      c.in_ok-ends.ensures.exact,
      ap length c.lists_between.ensures,
      length-map c.lists_between.result.now level_list,
      c.in_ok-words.ensures.exact,
      c.level_readers-2.ensures.most,
      sum_three lists (λ u. length (lists u)) ends words negated,
    )

pub by_lead-reader-requires-clause-lead : goal.by_lead-reader-requires-clause-lead
by_lead-reader-requires-clause-lead g c =
    omega (arith, c.requires.lead, starts_sized (there c.args.tests.now c.args.low c.args.high) c.args.words.now c.in_ok-words.words.items c.in_ok-words.ensures.start)

pub by_lead-reader-requires-clause-words_unmoved : goal.by_lead-reader-requires-clause-words_unmoved
by_lead-reader-requires-clause-words_unmoved g c =
    starts_unmoved (there c.args.tests.now c.args.low c.args.high) c.args.words.now c.in_ok-words.words.items c.in_ok-words.ensures.start

pub by_lead-reader-requires-clause-negated_unmoved : goal.by_lead-reader-requires-clause-negated_unmoved
by_lead-reader-requires-clause-negated_unmoved g c =
    starts_unmoved (there c.args.tests.now c.args.low c.args.high) c.args.negated.now c.in_ok-negated.negated.items c.in_ok-negated.ensures.start

pub returns-in_err-live-clause-steps : goal.returns-in_err-live-clause-steps
returns-in_err-live-clause-steps g c =
    let lists = there c.args.tests.now c.args.low c.args.high in
    let start = subst (λ ls. IsAtStart single_list single_list single_place single_left (concat ls) c.in_ok-ends.ends) c.lists_between.ensures c.in_ok-ends.ensures.start in
    walk_steps lists c.args.ends c.args.words.now c.args.negated.now c.in_ok-ends.ends c.in_ok-words.words.items c.in_ok-negated.negated.items c.args.lead c.by_lead-reader.result c.args.steps.now c.level_readers-2.new.steps c.by_lead-reader.new.steps c.tally.new.steps
    start c.in_ok-words.ensures.start c.in_ok-negated.ensures.start c.by_lead-reader.ensures
    (omega (
      arith,
      c.in_ok-ends.ensures.exact,
      ap length c.lists_between.ensures,
      length-map c.lists_between.result.now level_list,
      c.in_ok-words.ensures.exact,
      c.in_ok-negated.ensures.exact,
    )) c.tally.ensures.steps

pub returns-in_err-live-clause-moves : goal.returns-in_err-live-clause-moves
returns-in_err-live-clause-moves g c =
    let lists = there c.args.tests.now c.args.low c.args.high in
    let start = subst (λ ls. IsAtStart single_list single_list single_place single_left (concat ls) c.in_ok-ends.ends) c.lists_between.ensures c.in_ok-ends.ensures.start in
    walk_moves lists c.args.ends c.args.words.now c.args.negated.now c.in_ok-ends.ends c.in_ok-words.words.items c.in_ok-negated.negated.items c.args.lead c.by_lead-reader.result c.args.steps.now c.level_readers-2.new.steps c.by_lead-reader.new.steps c.tally.new.steps
    start c.in_ok-words.ensures.start c.in_ok-negated.ensures.start c.by_lead-reader.ensures
    (omega (
      arith,
      c.in_ok-ends.ensures.exact,
      ap length c.lists_between.ensures,
      length-map c.lists_between.result.now level_list,
      c.in_ok-words.ensures.exact,
      c.in_ok-negated.ensures.exact,
    )) c.requires.lead c.tally.ensures.moves

pub returns-clause-count : goal.returns-clause-count
returns-clause-count g c =
    let lists = there c.args.tests.now c.args.low c.args.high in
    let start = subst (λ ls. IsAtStart single_list single_list single_place single_left (concat ls) c.in_ok-ends.ends) c.lists_between.ensures c.in_ok-ends.ensures.start in
    walk_count lists c.args.ends c.args.words.now c.args.negated.now c.in_ok-ends.ends c.in_ok-words.words.items c.in_ok-negated.negated.items c.args.lead c.by_lead-reader.result c.args.steps.now c.level_readers-2.new.steps c.by_lead-reader.new.steps c.tally.new.steps
    start c.in_ok-words.ensures.start c.in_ok-negated.ensures.start c.by_lead-reader.ensures
    (omega (
      arith,
      c.in_ok-ends.ensures.exact,
      ap length c.lists_between.ensures,
      length-map c.lists_between.result.now level_list,
      c.in_ok-words.ensures.exact,
      c.in_ok-negated.ensures.exact,
    )) c.args.gone.now c.in_ok-live.live c.in_ok-live.ensures.count

pub returns-clause-steps : goal.returns-clause-steps
returns-clause-steps g c =
    let lists = there c.args.tests.now c.args.low c.args.high in
    let start = subst (λ ls. IsAtStart single_list single_list single_place single_left (concat ls) c.in_ok-ends.ends) c.lists_between.ensures c.in_ok-ends.ensures.start in
    walk_steps lists c.args.ends c.args.words.now c.args.negated.now c.in_ok-ends.ends c.in_ok-words.words.items c.in_ok-negated.negated.items c.args.lead c.by_lead-reader.result c.args.steps.now c.level_readers-2.new.steps c.by_lead-reader.new.steps c.tally.new.steps
    start c.in_ok-words.ensures.start c.in_ok-negated.ensures.start c.by_lead-reader.ensures
    (omega (
      arith,
      c.in_ok-ends.ensures.exact,
      ap length c.lists_between.ensures,
      length-map c.lists_between.result.now level_list,
      c.in_ok-words.ensures.exact,
      c.in_ok-negated.ensures.exact,
    )) c.tally.ensures.steps

pub returns-clause-moves : goal.returns-clause-moves
returns-clause-moves g c =
    let lists = there c.args.tests.now c.args.low c.args.high in
    let start = subst (λ ls. IsAtStart single_list single_list single_place single_left (concat ls) c.in_ok-ends.ends) c.lists_between.ensures c.in_ok-ends.ensures.start in
    walk_moves lists c.args.ends c.args.words.now c.args.negated.now c.in_ok-ends.ends c.in_ok-words.words.items c.in_ok-negated.negated.items c.args.lead c.by_lead-reader.result c.args.steps.now c.level_readers-2.new.steps c.by_lead-reader.new.steps c.tally.new.steps
    start c.in_ok-words.ensures.start c.in_ok-negated.ensures.start c.by_lead-reader.ensures
    (omega (
      arith,
      c.in_ok-ends.ensures.exact,
      ap length c.lists_between.ensures,
      length-map c.lists_between.result.now level_list,
      c.in_ok-words.ensures.exact,
      c.in_ok-negated.ensures.exact,
    )) c.requires.lead c.tally.ensures.moves
