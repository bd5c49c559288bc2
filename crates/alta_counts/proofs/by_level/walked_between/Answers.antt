use Rattle.std.proofs.Common.{ℕ, List, ◌∷◌, map, length, refl, sym, subst, ap, ◌∙◌, arith}
use Rattle.std.specs.Prelude.{All, sum_by}
use Rattle.std.specs.List.{concat}
use Rattle.std.proofs.lemmas.List.{length-map}
use Rattle.std.proofs.lemmas.List.Elements.{All-nil, All-head, All-tail}
use Rattle.std.proofs.lemmas.List.Sums.{sum_by-cons}
use Rattle.alta_codec.specs.Rising.{IsRising, first_from}
use Rattle.alta_counts.specs.Live.{count_live}
use Rattle.alta_counts.specs.Asked.{ends_asked}
use Rattle.alta_counts.specs.ByLevel.{between, levels_of, whole_at, part_at}
use Rattle.alta_search.specs.Lists.{level_list}
use Rattle.alta_search.specs.Readers.{IsAtStart}
use Rattle.alta_search.specs.Words.{IsSoundSingle, single_list, single_place, single_left}
use Rattle.alta_search.specs.declared.lists.TestLists.{TestLists}
use Rattle.alta_counts.proofs.CodedReaders.{places_are}
use Rattle.alta_counts.proofs.Cutting.{between_rises}
use Rattle.alta_counts.proofs.Levels.{walked_steps}
use Rattle.alta_counts.proofs.LevelWalks.{starts_lists, starts_sized, starts_unmoved, starts_left, sum_two}
use Rattle.alta_counts.proofs.by_level.walked_between.Goals as goal

abbrev there : List TestLists → ℕ → ℕ → ℕ → List (List ℕ)
there ts low high u = between low high (levels_of ts u)

pub lists_between-requires-clause-rising : goal.lists_between-requires-clause-rising
lists_between-requires-clause-rising g c = All-head (λ u. IsRising (whole_at c.args.tests.now u)) c.args.ends c.args.words.now c.requires.rising

pub level_reader-requires : goal.level_reader-requires
level_reader-requires g c =
    subst (λ ls. IsRising (concat ls)) (sym c.lists_between.ensures)
    (between_rises c.args.low c.args.high (levels_of c.args.tests.now c.args.ends) c.requires.ordered
    (All-head (λ u. IsRising (whole_at c.args.tests.now u)) c.args.ends c.args.words.now c.requires.rising))

pub level_readers-requires-clause-rising : goal.level_readers-requires-clause-rising
level_readers-requires-clause-rising g c = All-tail (λ u. IsRising (whole_at c.args.tests.now u)) c.args.ends c.args.words.now c.requires.rising

pub by_kind-requires-clause-negated : goal.by_kind-requires-clause-negated
by_kind-requires-clause-negated g c = subst (All IsSoundSingle) (sym c.new-negated.ensures.items) (All-nil IsSoundSingle)

pub by_kind-requires-clause-stand : goal.by_kind-requires-clause-stand
by_kind-requires-clause-stand g c =
    let f = c.in_ok-ends.ensures.start in let ws = c.in_ok-words.words.items in
    record {
      start = refl;
      none = ap (map single_list) c.new-negated.ensures.items;
      pair = λ yes. omega (
        arith,
        c.requires.pair yes,
        length-map ws single_list,
        starts_sized (there c.args.tests.now c.args.low c.args.high) c.args.words.now ws c.in_ok-words.ensures.start,
      );
      end_is = f.unmoved ∙ ap (λ l. first_from l 0) (sym f.reads);
      places_are = places_are single_list single_place ws (starts_unmoved (there c.args.tests.now c.args.low c.args.high) c.args.words.now ws c.in_ok-words.ensures.start);
    }

pub returns-clause-count : goal.returns-clause-count
returns-clause-count g c =
    let start = subst (λ ls. IsAtStart single_list single_list single_place single_left (concat ls) c.in_ok-ends.ends) c.lists_between.ensures c.in_ok-ends.ensures.start in
    c.in_ok-live.ensures.count
    ∙ ap (λ es. count_live (ends_asked c.args.followed es (map single_list c.in_ok-words.words.items)) c.args.gone.now 0) start.reads
    ∙ ap (λ ls. count_live (ends_asked c.args.followed (part_at c.args.tests.now c.args.low c.args.high c.args.ends) ls) c.args.gone.now 0)
    (starts_lists (there c.args.tests.now c.args.low c.args.high) c.args.words.now c.in_ok-words.words.items c.in_ok-words.ensures.start)

pub returns-clause-steps : goal.returns-clause-steps
returns-clause-steps g c =
    let lists = there c.args.tests.now c.args.low c.args.high in let ends = c.args.ends in let words = c.args.words.now in
    let start = subst (λ ls. IsAtStart single_list single_list single_place single_left (concat ls) c.in_ok-ends.ends) c.lists_between.ensures c.in_ok-ends.ensures.start in
    walked_steps (levels_of c.args.tests.now) c.args.low c.args.high c.requires.ordered (ends ∷ words) c.args.steps.now c.by_kind.new.steps
    (omega (
      arith,
      c.in_ok-ends.ensures.exact,
      ap length c.lists_between.ensures,
      length-map c.lists_between.result.now level_list,
      c.in_ok-words.ensures.exact,
      c.by_kind.ensures.steps,
      ap (sum_by single_left) c.new-negated.ensures.items,
      start.rest,
      starts_left lists words c.in_ok-words.words.items c.in_ok-words.ensures.start,
      sum_two lists (ends ∷ words),
      sum_by-cons (λ u. length (lists u)) ends words,
      sum_by-cons (λ u. length (concat (lists u))) ends words,
    ))

pub returns-in_err-live-clause-steps : goal.returns-in_err-live-clause-steps
returns-in_err-live-clause-steps g c =
    let lists = there c.args.tests.now c.args.low c.args.high in let ends = c.args.ends in let words = c.args.words.now in
    let start = subst (λ ls. IsAtStart single_list single_list single_place single_left (concat ls) c.in_ok-ends.ends) c.lists_between.ensures c.in_ok-ends.ensures.start in
    walked_steps (levels_of c.args.tests.now) c.args.low c.args.high c.requires.ordered (ends ∷ words) c.args.steps.now c.by_kind.new.steps
    (omega (
      arith,
      c.in_ok-ends.ensures.exact,
      ap length c.lists_between.ensures,
      length-map c.lists_between.result.now level_list,
      c.in_ok-words.ensures.exact,
      c.by_kind.ensures.steps,
      ap (sum_by single_left) c.new-negated.ensures.items,
      start.rest,
      starts_left lists words c.in_ok-words.words.items c.in_ok-words.ensures.start,
      sum_two lists (ends ∷ words),
      sum_by-cons (λ u. length (lists u)) ends words,
      sum_by-cons (λ u. length (concat (lists u))) ends words,
    ))

pub returns-in_err-words-clause-steps : goal.returns-in_err-words-clause-steps
returns-in_err-words-clause-steps g c =
    let lists = there c.args.tests.now c.args.low c.args.high in let ends = c.args.ends in let words = c.args.words.now in
    walked_steps (levels_of c.args.tests.now) c.args.low c.args.high c.requires.ordered (ends ∷ words) c.args.steps.now c.level_readers.new.steps
    (omega (
      arith,
      c.in_ok-ends.ensures.exact,
      ap length c.lists_between.ensures,
      length-map c.lists_between.result.now level_list,
      c.level_readers.ensures.most,
      sum_two lists (ends ∷ words),
      sum_by-cons (λ u. length (lists u)) ends words,
    ))

pub returns-in_err-ends-clause-steps : goal.returns-in_err-ends-clause-steps
returns-in_err-ends-clause-steps g c =
    let lists = there c.args.tests.now c.args.low c.args.high in let ends = c.args.ends in let words = c.args.words.now in
    walked_steps (levels_of c.args.tests.now) c.args.low c.args.high c.requires.ordered (ends ∷ words) c.args.steps.now c.level_reader.new.steps
    (omega (
      arith,
      c.level_reader.ensures.most,
      ap length c.lists_between.ensures,
      length-map c.lists_between.result.now level_list,
      sum_two lists (ends ∷ words),
      sum_by-cons (λ u. length (lists u)) ends words,
    ))
